-- The local laws say nothing of the lengths of records.
use Rattle.std.proofs.Common.{ℕ, Option}
use Rattle.oe_theory.specs.Machine.{Machine, Mode, Tx, with_lengths}
use Rattle.oe_theory.specs.World.{State}
use Rattle.oe_theory.specs.Laws.{Alike, Reached, at_start, one_more, IsGood, Ends, stops_here, fails_here, ends_here}
use Rattle.oe_theory.specs.Laws.{goes_here, Laws}
use Rattle.oe_theory.specs.RecordTheorems.{Lengths_are_free}

module _ (M : Machine) (f : M.Record → ℕ) where
  abbrev N : Machine
  N = with_lengths M f

  abbrev same_state : State N → State M
  same_state s = record { position = s.position; changes = s.changes }

  same_alike : (P : M.Name → Mode → Type 0) (x : Tx M.Request) (r s : M.Map) → Alike N P x r s → Alike M P x r s
  same_alike P x r s a = record { rows = a.rows; parts = a.parts }

  same_good : (g : ℕ → ℕ) (x : Tx M.Request) (r : M.Map) → IsGood N g x r → IsGood M g x r
  same_good g x r h = record {
    good = h.good;
    valid = h.valid;
    known = h.known;
    terminal = h.terminal;
    number = h.number;
  }

  same_way : (held : M.Name → Option Mode) (x : Tx M.Request) (r : M.Map) (s : State N) → Reached N held x r s
      → Reached M held x r (same_state s)
  same_way held x r _ at_start = at_start
  same_way held x r _ (one_more s c p w i e) = one_more (same_state s) c p (same_way held x r s w) i e

  same_end : (x : Tx M.Request) (Only : M.Refusal → Type 0) (Fits : M.Change → M.Map → Type 0) (p : M.Position)
      (r : M.Map) (end : Option (M.Map × M.Reply))
      → Ends M x Only Fits p r end → Ends N x Only Fits p r end
  same_end x Only Fits _ _ _ (stops_here p r e why s) = stops_here p r e why s
  same_end x Only Fits _ _ _ (fails_here p r e why g b) = fails_here p r e why g b
  same_end x Only Fits _ _ _ (ends_here p r reply g b) = ends_here p r reply g b
  same_end x Only Fits _ _ _ (goes_here p r c q end g b fit rest) =
      goes_here p r c q end g b fit (same_end x Only Fits q _ end rest)

pub lengths_are_free : (M : Machine) → Laws M → Lengths_are_free M
lengths_are_free M L f =
    record {
      key_true = L.key_true;
      key_refl = L.key_refl;
      at_put = L.at_put;
      same_map = L.same_map;
      record_key_of = L.record_key_of;
      restores = L.restores;
      at_put_back = L.at_put_back;
      redoes = L.redoes;
      name_true = L.name_true;
      name_refl = L.name_refl;
      start_takes = L.start_takes;
      ask_same = λ x p r s h. L.ask_same x p r s (same_alike M f _ x r s h);
      act_same = λ x p r s i h. L.act_same x p r s i (same_alike M f _ x r s h);
      next_takes = L.next_takes;
      may_write = L.may_write;
      keeps_part = λ x r s c q w i e g own. L.keeps_part x r (same_state M f s) c q (same_way M f _ x r s w) i e g own;
      accepts_same = λ x p r s c q i h e a. L.accepts_same x p r s c q i (same_alike M f _ x r s h) e a;
      rejection_same = L.rejection_same;
      query_rejection_same = L.query_rejection_same;
      ends = λ g x r h. same_end M f x _ _ _ r _ (L.ends g x r (same_good M f g x r h));
      stays_good = λ g x r after reply h e. L.stays_good g x r after reply (same_good M f g x r h) e;
    }
