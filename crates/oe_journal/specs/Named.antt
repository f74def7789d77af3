-- The keys that records name, and the places that are kept for rows and records alone.
use Rattle.std.specs.Prelude.{◌↔◌, ◌⊎◌, ℕ, IsSome}
use Rattle.oe_rows.specs.declared.keys.Key.{Key}
use Rattle.oe_theory.specs.Undo.{Undo, HasRecord, HasRecordIn}
use Rattle.oe_model.specs.Rows.{row_at}
use Rattle.oe_model.specs.Changes.{Record}
use Rattle.oe_model.specs.System.{system}
use Rattle.oe_store.specs.Places.{Places, rows, HasPlace, SamePlaces}
use Rattle.oe_change.specs.PutBack.{LeavesPlaces}
use Rattle.oe_log.specs.Log.{SegmentLog}
use Rattle.oe_journal.specs.GivesUp.{HasNoRecord}

-- no record of open work, and none of a commit, names the key
abbrev pub IsUnnamed : Undo system → Key → Type 0
IsUnnamed d k = ((t : ℕ) → HasRecord system k (d.active t) → ⊥) × (HasRecordIn system k d.history → ⊥)

-- a key that no record names has a place only where it has a row
abbrev pub AreNeeded : Places → Undo system → Type 0
AreNeeded ts d = (k : Key) → HasPlace ts k → IsUnnamed d k → IsSome (row_at (rows ts) k)

-- the keys with places are exactly those that have a row, and those that a record names
abbrev pub AreExact : Places → Undo system → Type 0
AreExact ts d = (k : Key) → HasPlace ts k ↔ (IsSome (row_at (rows ts) k) ⊎ (IsUnnamed d k → ⊥))

-- Records went, and places with them: no key is given a place, each key that a record names still keeps its own, and
-- where places were kept for rows and records alone, so they are
pub record GivesUpUnnamed (ts ts' : Places) (d d' : Undo system) : Type 0 where
  pub records : (k : Key) → IsUnnamed d k → IsUnnamed d' k
  pub fewer : (k : Key) → HasPlace ts' k → HasPlace ts k
  pub named : (k : Key) → HasPlace ts k → (IsUnnamed d' k → ⊥) → HasPlace ts' k
  pub needed : AreNeeded ts d → AreNeeded ts' d'

-- the undo of a record that was taken off: an inserted row's key keeps its place exactly where the log has a record of
-- it still
pub record PutsBack (b : Record) (k : Key) (ts ts' : Places) (u : SegmentLog) : Type 0 where
  pub gone : HasNoRecord u k → LeavesPlaces b ts ts'
  pub kept : (HasNoRecord u k → ⊥) → SamePlaces ts ts'
