-- How records lie in the ring as bytes: what an undo log keeps of itself.
use Rattle.std.specs.Prelude.{◌≡◌, ◌≤◌, ℕ, suc, List, [], ◌∷◌, length, map, Option, None, Some}
use Rattle.std.specs.List.{AllByRecursion}
use Rattle.oe_values.specs.declared.numbers.TheConstants.{TERMINALS}
use Rattle.oe_extent.specs.declared.extents.Address.{Address}
use Rattle.oe_extent.specs.Ring.{Addressed, RingStrings}
use Rattle.oe_layout.specs.declared.links.Previous.{Previous}
use Rattle.oe_layout.specs.declared.records.OwnRecord.{OwnRecord}
use Rattle.oe_layout.specs.Records.{record_of_own}
use Rattle.oe_layout.specs.RecordFronts.{record_at}
use Rattle.oe_layout.specs.Stored.{IsStoredRecord}
use Rattle.oe_log.specs.Records.{Logged}

-- a record that was read at that address, before others
abbrev pub before_others : Address → Option (Previous × OwnRecord) → List Logged → List Logged
before_others a None rs = rs
before_others a (Some x) rs =
    record { address = a; previous = x.0; before = record_of_own x.1 } ∷ rs

-- the records that strings of the ring are
abbrev pub records_in : List Addressed → List Logged
records_in [] = []
records_in (s ∷ ss) = before_others s.address (record_at s.bytes) (records_in ss)

-- each string is a record's
abbrev pub AreRecords : List Addressed → Type 0
AreRecords ss = AllByRecursion (λ s. IsStoredRecord s.bytes) ss

-- the ring holds as many records of each terminal and of each commit as these lengths say, and has room for `opens`
-- commits more
pub record HoldsRecords (r : RingStrings) (lens committed_lens : List ℕ) (opens : ℕ) : Type 0 where
  pub slots : length r.active ≡ suc TERMINALS
  pub extents : r.extents ≤ 4096
  pub lens_are : lens ≡ map (λ ss. length ss) r.active
  pub committed_lens_are : committed_lens ≡ map (λ ss. length ss) r.committed
  pub active_are : AllByRecursion AreRecords r.active
  pub committed_are : AllByRecursion AreRecords r.committed
  pub room : opens ≤ r.room
