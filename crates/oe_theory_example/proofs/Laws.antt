-- The bank meets the laws of machines.
use Rattle.std.proofs.Common.{◌≡◌, cond, Option, None, Some, [], refl, ap, arith}
use Rattle.oe_theory.specs.Machine.{Tx}
use Rattle.oe_theory.specs.World.{overlay}
use Rattle.oe_theory.specs.Laws.{IsSameEver, Laws}
use Rattle.oe_theory_example.specs.Rows.{Tables, IsThere}
use Rattle.oe_theory_example.specs.Programs.{Request, Pay, Serve, Rename, Visit, Refusal, NoAccount, program_of}
use Rattle.oe_theory_example.specs.Programs.{rejection, locks_before}
use Rattle.oe_theory_example.specs.Bank.{bank}
use Rattle.oe_theory_example.proofs.Rows.{key_true, key_refl, name_true, name_refl, at_put, record_key_of, restores}
use Rattle.oe_theory_example.proofs.Rows.{at_put_back}
use Rattle.oe_theory_example.proofs.Rows.{redoes, same_tables}
use Rattle.oe_theory_example.proofs.Programs.{ask_same, act_same, accepts_same, is_lawful, knows_alone}
use Rattle.oe_theory_example.proofs.Alone.{program_ends}
use Rattle.oe_theory_example.proofs.Effects.{stays_good}

start_takes : (q : Request) (x : Tx Request) → locks_before x (program_of q) ≡ []
start_takes (Pay q) x = refl
start_takes (Serve d) x = refl
start_takes (Rename k n) x = refl
start_takes (Visit n) x = refl

-- what turns a request away
rejection_same : (q : Request) (r s : Tables) → IsSameEver bank r s → rejection q r ≡ rejection q s
rejection_same (Rename k n) r s h = ap (λ z. cond {A = Option Refusal} z None (Some NoAccount)) (h (IsThere k) refl)
rejection_same (Pay q) r s h = refl
rejection_same (Serve d) r s h = refl
rejection_same (Visit n) r s h = refl

pub bank_laws : Laws bank
bank_laws =
    record {
      key_true = key_true;
      key_refl = key_refl;
      at_put = at_put;
      same_map = same_tables;
      record_key_of = λ l c before. record_key_of c before;
      restores = λ l c r. restores c r;
      at_put_back = at_put_back;
      redoes = λ l c before r here. redoes c before r here;
      name_true = name_true;
      name_refl = name_refl;
      start_takes = λ x. start_takes x.request x;
      ask_same = ask_same;
      act_same = act_same;
      next_takes = λ x p r c q i e. (is_lawful x p r c q i e).takes;
      may_write = λ x p r c q i e. ((is_lawful x p r (Some c) q i e).writes c refl).row;
      keeps_part = λ x r s c q w i
          e. ((is_lawful x s.position (overlay bank s.changes r) (Some c) q i e).writes c refl).parts
          (knows_alone x r s w);
      accepts_same = accepts_same;
      rejection_same = rejection_same;
      query_rejection_same = λ q r s h. ap (λ z. cond {A = Option Refusal} z None (Some NoAccount))
          (h (IsThere q) refl);
      ends = λ f x r g. program_ends x x.request r g.known (g.good (x.terminal, x.number) (omega (arith, g.number)));
      stays_good = stays_good;
    }
