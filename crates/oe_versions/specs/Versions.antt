-- Tables and an undo log as a store of the theory of transactions, and the version of a moment.
use Rattle.std.specs.Prelude.{◌≡◌, ◌↔◌, ℕ, Bool, IsTrue, Option, None}
use Rattle.oe_theory.specs.Store.{Slot, Store, version_of}
use Rattle.oe_theory.specs.StoreTheorems.{IsStanding}
use Rattle.oe_model.specs.Rows.{Rows}
use Rattle.oe_model.specs.Choice.{HaveSameNames}
use Rattle.oe_model.specs.System.{system}
use Rattle.oe_store.specs.Places.{rows}
use Rattle.oe_store.specs.Places as tables
use Rattle.oe_log.specs.Log.{SegmentLog, open_total}
use Rattle.oe_log.specs.Moments.{newest, store_with, IsKeptMoment}

-- rows as they stand and a log, without the slots of open transactions, at which no version looks
abbrev pub without_slots : Rows → SegmentLog → Store system
without_slots r v = store_with r v (λ t. None)

-- the tables of a moment: what all commits up to it have left, without anybody's open work
abbrev pub version : tables.Places → SegmentLog → ℕ → Rows
version ts v m = version_of system (without_slots (rows ts) v) m

-- beside some open transactions, rows and a log stand for a world that steps led to
abbrev pub Stand : tables.Places → SegmentLog → Type 0
Stand ts v = (slots : ℕ → Option (Slot system)) × IsStanding system (store_with (rows ts) v slots)

-- what a version is made of: the tables as they stand, the log, and a moment that it keeps
pub record VersionState : Type 0 where
  pub tables : tables.Places
  pub log : SegmentLog
  pub moment : ℕ

-- the tables of its moment
abbrev pub rows_of : VersionState → Rows
rows_of s = version s.tables s.log s.moment

-- there is nothing to put back: no commit is later than the moment, and no transaction is open
abbrev pub IsSettled : SegmentLog → ℕ → Type 0
IsSettled u m = (newest u ≡ m) × (open_total u ≡ 0)

-- what a version knows of its moment: that it is kept, and whether there is something to put back; where it says so,
-- that customers had the names that they have
pub record IsVersion (ts : tables.Places) (u : SegmentLog) (m : ℕ) (is_settled named : Bool) : Type 0 where
  pub kept : IsKeptMoment u m
  pub settled : IsTrue is_settled ↔ IsSettled u m
  pub names : IsTrue named → HaveSameNames (version ts u m) (rows ts)
