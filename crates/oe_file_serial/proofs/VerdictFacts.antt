-- Lines that agree one after another, and the first that does not.
use Rattle.std.proofs.Common.{◌≡◌, ℕ, List, [], ◌∷◌, ◌++◌, Option, Some, None, sym, subst, ◌∙◌}
use Rattle.std.proofs.Common.{refl}
use Rattle.std.specs.Prelude.{All, MatchOption}
use Rattle.oe_model.specs.Rows.{Rows}
use Rattle.oe_model.specs.System.{system}
use Rattle.oe_store.specs.Places.{no_rows}
use Rattle.oe_file_serial.specs.InOrder.{Between, at_first}
use Rattle.oe_file_serial.specs.Files.{IsTold, lines_of, last_of}
use Rattle.oe_file_serial.specs.Verdicts.{Agrees, AreSerial, IsVerdict, Begins, EndsSo, IsDecided, verdict_of, Leaves}
use Rattle.oe_file_serial.specs.Verdicts.{IsDecision}
use Rattle.oe_file_serial.specs.declared.origins.Origin.{Origin}
use Rattle.oe_file_serial.specs.declared.verdicts.Decision.{Decision}
use Rattle.oe_file_serial.specs.declared.verdicts.Verdict.{Verdict}
use Rattle.oe_file_serial.specs.declared.verdicts.Verdict.TheVariants as verdict

-- one more line that agrees
pub serial_more : (b mid b' : Between system) (lines : List (List ℕ)) (line : List ℕ) → AreSerial b lines mid
    → Agrees mid line b' → AreSerial b (lines ++ line ∷ []) b'
serial_more b mid b' [] line s a = (b', subst (λ (z : Between system). Agrees z line b') s a, refl)
serial_more b mid b' (l ∷ lines) line (first, agrees, s) a = (first, agrees, serial_more first mid b' lines line s a)

-- the one way to take a first line off
pub heads : (ls : List (List ℕ)) (l m : List ℕ) (ks ns : List (List ℕ)) → ls ≡ l ∷ ks → ls ≡ m ∷ ns
    → (l ≡ m) × (ks ≡ ns)
heads ls l m ks ns e f = (head_of (sym e ∙ f), tail_of (sym e ∙ f))
  where
    head_of : l ∷ ks ≡ m ∷ ns → l ≡ m
    head_of g = cc

    tail_of : l ∷ ks ≡ m ∷ ns → ks ≡ ns
    tail_of g = cc

pub no_head : (ls : List (List ℕ)) (m : List ℕ) (ns : List (List ℕ)) → ls ≡ [] → ls ≡ m ∷ ns → ⊥
no_head ls m ns e f =
    let g : [] ≡ m ∷ ns = sym e ∙ f in
    cc

-- a verdict on the lines of a file
pub decided : (o : Origin) (input opening ours : List ℕ) (lines : List (List ℕ)) (base : Rows) (b end : Between system)
    → lines_of input ≡ opening ∷ lines → last_of input ≡ [] → All IsTold lines → Begins o opening base
    → b ≡ at_first system base → (v : Verdict) → IsVerdict b lines v ours end → EndsSo o input v ours end
decided o input opening ours lines base b end are ended told begins first (verdict.Serial n) v = record {
  opening = opening;
  lines = lines;
  base = base;
  lines_are = are;
  ended = ended;
  begins = begins;
  told = told;
  is_verdict = subst (λ (z : Between system). IsVerdict z lines (verdict.Serial n) ours end) first v;
}
decided o input opening ours lines base b end are ended told begins first (verdict.Differs number theirs last) v =
    record {
      opening = opening;
      lines = lines;
      base = base;
      lines_are = are;
      ended = ended;
      begins = begins;
      told = told;
      is_verdict =
          subst (λ (z : Between system). IsVerdict z lines (verdict.Differs number theirs last) ours end) first v;
    }
decided o input opening ours lines base b end are ended told begins first (verdict.Unreadable bad) v = absurd v

-- where nothing was run
pub no_tables : Between system
no_tables = record { rows = no_rows; counts = λ t. 0 }

-- the same of a decision, whose verdict it is
pub decision_so : (o : Origin) (input ours : List ℕ) (d : Decision) (v : Verdict) (end : Between system)
    → verdict_of d ≡ v → EndsSo o input v ours end → Leaves d end → IsDecision o input d ours
decision_so o input ours d v end same ends leaves =
    (end, subst (λ (z : Verdict). EndsSo o input z ours end) (sym same) ends, leaves)

pub verdict_so : (o : Origin) (input ours : List ℕ) (d : Decision) (v : Verdict) → v ≡ verdict_of d
    → IsDecision o input d ours → IsDecided o input v ours
verdict_so o input ours d v same made =
    (made.0, subst (λ (z : Verdict). EndsSo o input z ours made.0) (sym same) made.1)

-- what is told of an option
pub at_some : {A : Type 0} (P : Type 0) (Q : A → Type 0) (o : Option A) (x : A) → o ≡ Some x → MatchOption o P Q → Q x
at_some P Q o x is m = subst (λ z. MatchOption z P Q) is m

pub at_none : {A : Type 0} (P : Type 0) (Q : A → Type 0) (o : Option A) → o ≡ None → MatchOption o P Q → P
at_none P Q o is m = subst (λ z. MatchOption z P Q) is m
