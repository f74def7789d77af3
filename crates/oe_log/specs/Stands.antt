-- What segments stand for, in the words of the theory of transactions.
use Rattle.std.specs.Prelude.{◌≡◌, ℕ, List, [], ◌∷◌, map, filter_map, Option, None}
use Rattle.std.specs.List.{AllByRecursion}
use Rattle.oe_rows.specs.declared.keys.CustomerKey.{CustomerKey}
use Rattle.oe_rows.specs.declared.keys.NewOrderKey.{NewOrderKey}
use Rattle.oe_model.specs.Changes.{Record}
use Rattle.oe_model.specs.System.{system}
use Rattle.oe_theory.specs.Undo.{Undo}
use Rattle.oe_theory.specs.Store.{Seal}
use Rattle.oe_layout.specs.Stored.{deleted_new_order, last_before}
use Rattle.oe_log.specs.Records.{Logged}
use Rattle.oe_log.specs.Log.{Committed, SegmentLog, records_at, count_at}

-- the records without their addresses, newest first
abbrev pub model_records : List Logged → List Record
model_records rs = map (λ r. r.before) rs

-- none of these records is of a NEW-ORDER row that was deleted
abbrev pub DeletesNothing : List Record → Type 0
DeletesNothing bs = AllByRecursion (λ b. deleted_new_order b ≡ None) bs

-- the keys of the NEW-ORDER rows that these records say were deleted
abbrev pub deleted_keys : List Record → List NewOrderKey
deleted_keys bs = filter_map deleted_new_order bs

-- the customer whom a commit with these records has renamed, with its C_LAST before: a rename has one record
abbrev pub rename_in : List Record → Option (CustomerKey × List ℕ)
rename_in [] = None
rename_in (b ∷ []) = last_before b
rename_in (b ∷ c ∷ bs) = None

-- the records of each open transaction and of each commit
abbrev pub undo_of : SegmentLog → Undo system
undo_of v = record {
  active = λ t. model_records (records_at v t);
  history = map (λ c. model_records c.records) v.committed;
}

abbrev pub seal_of : Committed → Seal system
seal_of c = record { tx = record { terminal = c.terminal; number = c.number; request = c.request }; reply = c.reply }

-- the commits beside their records, newest first
abbrev pub seals_of : SegmentLog → List (Seal system)
seals_of v = map seal_of v.committed

-- the commits of each terminal so far
abbrev pub counts_of : SegmentLog → ℕ → ℕ
counts_of v = λ t. count_at v t
