-- Undo records with their addresses, and how they are found by them.
use Rattle.std.specs.Prelude.{◌≡◌, ◌≢◌, ◌⊎◌, ℕ, List, [], ◌∷◌, map, Option, None, Some}
use Rattle.std.specs.List.{AllByRecursion}
use Rattle.oe_model.specs.Changes.{Record}
use Rattle.oe_model.specs.Lengths.{record_length}
use Rattle.oe_extent.specs.declared.extents.Address.{Address}
use Rattle.oe_layout.specs.declared.links.Previous.{Previous}

-- an undo record with its address, and what leads to the previous record of its row
pub record Logged : Type 0 where
  pub address : Address
  pub previous : Previous
  pub before : Record

abbrev pub log_entry : Address → Previous → Record → Logged
log_entry a p b = record { address = a; previous = p; before = b }

-- the records themselves
abbrev pub befores : List Logged → List Record
befores rs = map (λ r. r.before) rs

-- the newest of these records, if there is one
abbrev pub newest_of : List Logged → Option (Previous × Record)
newest_of [] = None
newest_of (r ∷ rs) = Some (r.previous, r.before)

abbrev pub lengths : List Logged → List ℕ
lengths rs = map (λ r. record_length r.before) rs

-- ---- addresses

-- none of these records is at that address
abbrev pub StandElsewhere : Address → List Logged → Type 0
StandElsewhere a rs = AllByRecursion (λ r. r.address ≢ a) rs

-- ---- records by their addresses

-- this record is in the list
abbrev pub IsAmong : Logged → List Logged → Type 0
IsAmong r [] = ⊥
IsAmong r (x ∷ xs) = (x ≡ r) ⊎ IsAmong r xs

-- one of these records is at that address
pub record HasAddress (rs : List Logged) (a : Address) : Type 0 where
  pub previous : Previous
  pub before : Record
  pub there : IsAmong (log_entry a previous before) rs

-- the answer is the record at that address
abbrev pub IsRecordAt : List Logged → Address → Previous × Record → Type 0
IsRecordAt rs a told =
    (p : Previous) (b : Record) → IsAmong (log_entry a p b) rs → told ≡ (p, b)
