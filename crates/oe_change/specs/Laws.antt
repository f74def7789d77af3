-- The laws of changes, of undo records, and of their undo.
use Rattle.std.specs.Prelude.{◌≡◌, ⊤, false, Option, cond}
use Rattle.oe_rows.specs.declared.keys.Key.{Key}
use Rattle.oe_rows.specs.declared.rows.Row.{Row}
use Rattle.oe_rows.specs.declared.layouts.Layout.{Layout}
use Rattle.oe_rows.specs.declared.layouts.Layout.TheVariants.{WholeRows, ChangedColumns}
use Rattle.oe_model.specs.Rows.{Rows, is_key, row_at}
use Rattle.oe_model.specs.Changes.{Change, key_of, row_of, rows_after, Record, record_in, put_back}
use Rattle.oe_model.specs.Meets.{Meets}
use Rattle.oe_store.specs.Places.{Places, rows, HasPlace}
use Rattle.oe_layout.specs.declared.records.OwnRecord.{OwnRecord}
use Rattle.oe_layout.specs.Records.{record_of_own}
use Rattle.oe_change.specs.declared.changes.Change as own
use Rattle.oe_change.specs.Changes.{change_of}
use Rattle.oe_change.specs.Applies.{Applies}
use Rattle.oe_change.specs.PutBack.{CanPutBack}

-- what the undo asks of the row that stands at the change's key: nothing where its record has the whole row before, and
-- of changed columns that it is as the change left it
abbrev pub IsAsLeft : Layout → Change → Rows → Type 0
IsAsLeft WholeRows c s = ⊤
IsAsLeft ChangedColumns c s = row_at s (key_of c) ≡ row_of c

-- a change and its undo leave all nine tables as they were, whatever they were
pub record Apply_then_undo_is_identity : Type 0 where
  pub at_once : (l : Layout) (c : Change) (r : Rows)
      → put_back (record_in l c (row_at r (key_of c))) (rows_after c r) ≡ r
  -- where other rows changed in between, they stay so, and the row is the one before
  pub in_between : (l : Layout) (c : Change) (r s : Rows) (k : Key) → IsAsLeft l c s
      → row_at (put_back (record_in l c (row_at r (key_of c))) s) k
      ≡ cond (is_key k (key_of c)) (row_at r (key_of c)) (row_at s k)
  -- so tables that differ from the ones before in that row alone are brought back to them
  pub of_others : (l : Layout) (c : Change) (r s : Rows) → IsAsLeft l c s
      → ((k : Key) → is_key k (key_of c) ≡ false → row_at s k ≡ row_at r k)
      → put_back (record_in l c (row_at r (key_of c))) s ≡ r

-- a change that was made can be undone, at once and while its key is as the change left it
pub record What_was_applied_can_be_undone : Type 0 where
  pub at_once : (l : Layout) (c : Change) (old new : Places) (b : Record)
      → Meets (rows old) → Applies l c old new b → CanPutBack new b
  pub later : (l : Layout) (c : Change) (before : Option Row) (s : Places)
      → row_at (rows s) (key_of c) ≡ row_of c → HasPlace s (key_of c)
      → Meets (put_back (record_in l c before) (rows s)) → CanPutBack s (record_in l c before)

-- two changes that stand for one change of the model are equal
abbrev pub Changes_are_told_apart : Type 0
Changes_are_told_apart = (c d : own.Change) → change_of c ≡ change_of d → c ≡ d

-- two undo records that stand for one of the model are equal
abbrev pub Records_are_told_apart : Type 0
Records_are_told_apart = (b d : OwnRecord) → record_of_own b ≡ record_of_own d → b ≡ d
