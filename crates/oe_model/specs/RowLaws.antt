-- The laws of rows, changes and undo records.
use Rattle.std.specs.Prelude.{◌≡◌, true, cond, Option, ◌⊎◌}
use Rattle.oe_rows.specs.declared.keys.Key.{Key}
use Rattle.oe_rows.specs.declared.rows.Row.{Row}
use Rattle.oe_requests.specs.declared.refusals.Refusal.{Refusal}
use Rattle.oe_model.specs.Rows.{Rows, is_key, row_at}
use Rattle.oe_model.specs.Changes.{Change, key_of, row_of, rows_after, Record, IsRecord, record_in, record_key}
use Rattle.oe_rows.specs.declared.layouts.Layout.{Layout}
use Rattle.oe_model.specs.Changes.{restore, put_back, redo}
use Rattle.oe_model.specs.Meets.{Meets, Accepts, Cause}
use Rattle.std.specs.Prelude.{Some}

-- the nine tables are one map from key to row; a change gives one key another row
pub record Tables_are_a_map : Type 0 where
  pub key_true : (a b : Key) → is_key a b ≡ true → a ≡ b
  pub key_refl : (a : Key) → is_key a a ≡ true
  pub at_changed : (c : Change) (r : Rows) (k : Key)
      → row_at (rows_after c r) k ≡ cond (is_key k (key_of c)) (row_of c) (row_at r k)
  -- tables that have the same row at each key are the same
  pub same_rows : (r s : Rows) → ((k : Key) → row_at r k ≡ row_at s k) → r ≡ s

-- an undo record of each layout brings the row before back, and the change is found again while its row stands
pub record Records_undo : Type 0 where
  pub key : (l : Layout) (c : Change) (v : Option Row) → record_key (record_in l c v) ≡ key_of c
  pub before : (l : Layout) (c : Change) (r : Rows)
      → restore (record_in l c (row_at r (key_of c))) (row_of c) ≡ row_at r (key_of c)
  pub at_put_back : (b : Record) (r : Rows) (k : Key)
      → row_at (put_back b r) k ≡ cond (is_key k (record_key b)) (restore b (row_at r k)) (row_at r k)
  -- an accepted insert's record has no row before, an accepted update's or delete's has one
  pub made : (l : Layout) (c : Change) (r : Rows) → Accepts c r → IsRecord (record_in l c (row_at r (key_of c)))
  pub redoes : (l : Layout) (c : Change) (v : Option Row) (r : Rows) → row_at r (key_of c) ≡ row_of c
      → redo (record_in l c v) r ≡ Some c
  -- a change and its undo are the identity
  pub undone : (l : Layout) (c : Change) (r : Rows) → put_back (record_in l c (row_at r (key_of c))) (rows_after c r)
      ≡ r

-- a change is accepted, or there is a cause to refuse it, and never both; one that is accepted keeps the schema
pub record Changes_are_judged : Type 0 where
  pub judged : (c : Change) (r : Rows) → Accepts c r ⊎ ((e : Refusal) × Cause c r e)
  pub not_both : (c : Change) (r : Rows) (e : Refusal) → Accepts c r → Cause c r e → ⊥
  pub accepted_meets : (c : Change) (r : Rows) → Accepts c r → Meets r → Meets (rows_after c r)
