-- What a walk over both sides' rows tells as it passes the next of them, where so many rows before them differed.
use Rattle.std.specs.Prelude.{◌≡◌, ℕ, ◌+◌, ◌==◌, List, [], ◌∷◌, Option, None, Some, Result, Ok, Err, if◌then◌else◌}
use Rattle.std.specs.Borrow.{Bor}
use Rattle.std.specs.Option.{option_map}
use Rattle.std.specs.declared.cmp.Ordering.{Ordering}
use Rattle.std.specs.declared.cmp.Ordering.TheVariants.{Less, Equal, Greater}
use Rattle.oe_comparison.specs.Columns.{Other, first_other}
use Rattle.oe_comparison.specs.Differences.{Difference, Extra, Missing, Column}
use Rattle.oe_comparison.specs.Texts.{Told, with_line}
use Rattle.oe_comparison.specs.declared.sides.Turn.{Turn}
use Rattle.oe_comparison.specs.declared.sides.Turn.TheVariants as turn

-- the row that a walk looks at, if there is one, and those behind it
abbrev pub rows_from : {A : Type 0} → Option A → List A → List A
rows_from None xs = []
rows_from (Some x) xs = x ∷ xs

-- the key and the row behind two references
abbrev pub pair_of : {K X : Type 0} → Option (Bor K × Bor X) → Option (K × X)
pair_of None = None
pair_of (Some p) = Some (p.0.now, p.1.now)

-- the key, and the texts of the columns
abbrev pub key_and_texts : {K X : Type 0} → (K → X → List (List ℕ)) → Option (Bor K × Bor X)
    → Option (K × List (List ℕ))
key_and_texts columns None = None
key_and_texts columns (Some p) = Some (p.0.now, columns p.0.now p.1.now)

-- the difference that the next rows of both sides make, if they make one; and whose is passed: the file's (Less), this
-- order's (Greater), or both
pub record Front (K : Type 0) : Type 0 where
  pub difference : Option (Difference K)
  pub passed : Ordering

-- where the keys t and o compare so, and that is the first column which differs
abbrev pub at_rows : {K : Type 0} → Ordering → K → K → Option Other → Front K
at_rows Less t o c = record { difference = Some (Extra t); passed = Less }
at_rows Greater t o c = record { difference = Some (Missing o); passed = Greater }
at_rows Equal t o c = record { difference = option_map (λ x. Column o x) c; passed = Equal }

-- nothing at the end of both sides
abbrev pub front : {K : Type 0} → (K → K → Ordering) → Option (K × List (List ℕ)) → Option (K × List (List ℕ))
    → Option (Front K)
front cmp None None = None
front cmp (Some t) None = Some (record { difference = Some (Extra t.0); passed = Less })
front cmp None (Some o) = Some (record { difference = Some (Missing o.0); passed = Greater })
front cmp (Some t) (Some o) = Some (at_rows (cmp t.0 o.0) t.0 o.0 (first_other 0 t.1 o.1))

-- a difference is counted, and its line told where it is the first
abbrev pub Counts : {K : Type 0} → (Difference K → List ℕ) → Option (Difference K) → ℕ → ℕ → Told → Told → Type 0
Counts line None n m old new = (m ≡ n) × (new ≡ old)
Counts line (Some d) n m old new = (m ≡ n + 1) × (new ≡ (if n == 0 then with_line (line d) old else old))

abbrev pub TellsFront : {K E : Type 0} → (Difference K → List ℕ) → Option (Front K) → ℕ → Told → Told → Result Turn E
    → Type 0
TellsFront line None n old new (Ok turn.End) = new ≡ old
TellsFront line (Some f) n old new (Ok (turn.Passed p m)) = (p ≡ f.passed) × Counts line f.difference n m old new
TellsFront line None n old new (Ok (turn.Passed p m)) = ⊥
TellsFront line (Some f) n old new (Ok turn.End) = ⊥
TellsFront line f n old new (Err e) = Unit {0}
