-- What is proved of the keys of undo records, of putting each record back in its turn, and of records of any lengths.
use Rattle.std.specs.Prelude.{◌≡◌, ℕ, ◌-◌, List, ◌++◌, take}
use Rattle.oe_theory.specs.Machine.{Machine, with_lengths}
use Rattle.oe_theory.specs.World.{World, newest, at, tables}
use Rattle.oe_theory.specs.Laws.{Laws}
use Rattle.oe_theory.specs.Undo.{Undo, HasRecord, HasRecordIn, GoesBack, open_records, commit_records, AreAll, Keeps}
use Rattle.oe_theory.specs.Theorems.{IsReached}

module _ (M : Machine) where
  -- a key without a record, of open transactions and of commits after a moment, has in its version the row that it has
  -- now
  abbrev pub Row_without_record : Type 0
  Row_without_record =
      (w : World M) (u : Undo M) (m : ℕ) (k : M.Key) → IsReached M w → Keeps M w u
      → ((t : ℕ) → HasRecord M k (u.active t) → ⊥)
      → (HasRecordIn M k (take (newest M w - m) u.history) → ⊥)
      → M.row_at (at M w m) k ≡ M.row_at (tables M w) k

  -- the records of one key lie in at most one open transaction
  abbrev pub Records_are_apart : Type 0
  Records_are_apart =
      (w : World M) (u : Undo M) (t v : ℕ) (k : M.Key) → IsReached M w → Keeps M w u
      → HasRecord M k (u.active t) → HasRecord M k (u.active v) → t ≡ v

  -- put back in turn, open transactions' in any order and then commits' from the newest, each record finds the row that
  -- its change left, and P holds all the way
  abbrev pub Each_goes_back : (M.Map → Type 0) → Type 0
  Each_goes_back P =
      (w : World M) (u : Undo M) (ts : List ℕ) → IsReached M w → Keeps M w u → AreAll M w ts
      → GoesBack M w.layout P (open_records M u.active ts ++ commit_records M u.history) (tables M w)

  -- the local laws say nothing of lengths: whoever meets them, meets them with records of any lengths
  abbrev pub Lengths_are_free : Type 0
  Lengths_are_free = (f : M.Record → ℕ) → Laws (with_lengths M f)
