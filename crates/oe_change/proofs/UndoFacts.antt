-- What was applied can be undone, and that is the identity.
use Rattle.std.proofs.Common.{◌≡◌, refl, sym, ◌∙◌, ap, subst, Bool, true, false, cond, Option, inr}
use Rattle.std.specs.Prelude.{is_some}
use Rattle.oe_rows.specs.declared.keys.Key.{Key}
use Rattle.oe_rows.specs.declared.rows.Row.{Row}
use Rattle.oe_rows.specs.declared.rows.Row.TheVariants as row
use Rattle.oe_rows.specs.declared.layouts.Layout.{Layout}
use Rattle.oe_rows.specs.declared.layouts.Layout.TheVariants.{WholeRows, ChangedColumns}
use Rattle.oe_model.specs.Rows.{Rows, is_key, row_at}
use Rattle.oe_model.specs.Changes.{Change, InsertHistory, InsertNewOrder, InsertOrder, InsertOrderLine, UpdateWarehouse}
use Rattle.oe_model.specs.Changes.{UpdateDistrict, UpdateCustomer, UpdateOrder, UpdateOrderLine, UpdateStock}
use Rattle.oe_model.specs.Changes.{DeleteNewOrder, key_of, row_of, rows_after, Record, record_of, changed_of, record_in}
use Rattle.oe_model.specs.Changes.{restore, put_back}
use Rattle.oe_model.specs.Meets.{Meets}
use Rattle.oe_model.proofs.RowFacts.{key_true, key_refl, at_changed, at_put_back, in_layout_key, in_layout_before}
use Rattle.oe_model.proofs.RowFacts.{same_rows, undone}
use Rattle.oe_model.proofs.PresenceFacts.{mapped_absent}
use Rattle.oe_store.specs.Places.{Places, rows, HasPlace}
use Rattle.oe_change.specs.Applies.{Applies}
use Rattle.oe_change.specs.Laws.{IsAsLeft}
use Rattle.oe_change.specs.PutBack.{Stands, CanPutBack}

-- a record that has the whole row before gives it whatever stands
whatever_stands : (c : Change) (v now then : Option Row) → restore (record_of c v) now ≡ restore (record_of c v) then
whatever_stands (InsertHistory k x) v now then = refl
whatever_stands (InsertNewOrder k x) v now then = refl
whatever_stands (InsertOrder k x) v now then = refl
whatever_stands (InsertOrderLine k x) v now then = refl
whatever_stands (UpdateWarehouse k x) v now then = refl
whatever_stands (UpdateDistrict k x) v now then = refl
whatever_stands (UpdateCustomer k x) v now then = refl
whatever_stands (UpdateOrder k x) v now then = refl
whatever_stands (UpdateOrderLine k x) v now then = refl
whatever_stands (UpdateStock k x) v now then = refl
whatever_stands (DeleteNewOrder k) v now then = refl

row_before : (l : Layout) (c : Change) (r s : Rows) → IsAsLeft l c s
    → restore (record_in l c (row_at r (key_of c))) (row_at s (key_of c)) ≡ row_at r (key_of c)
row_before WholeRows c r s left =
    whatever_stands c (row_at r (key_of c)) (row_at s (key_of c)) (row_of c)
    ∙ in_layout_before WholeRows c r
row_before ChangedColumns c r s left =
    ap (restore (record_in ChangedColumns c (row_at r (key_of c)))) left
    ∙ in_layout_before ChangedColumns c r

-- the row before stands at the change's key, and each other row as it is
pub restored : (l : Layout) (c : Change) (r s : Rows) (k : Key) → IsAsLeft l c s
    → row_at (put_back (record_in l c (row_at r (key_of c))) s) k ≡ cond (is_key k (key_of c)) (row_at r (key_of c))
    (row_at s k)
restored l c r s k left =
    at_put_back b s k
    ∙ ap (λ (j : Key). cond (is_key k j) (restore b (row_at s k)) (row_at s k))
    (in_layout_key l c (row_at r (key_of c)))
    ∙ by_key (is_key k (key_of c)) refl
  where
    b : Record
    b = record_in l c (row_at r (key_of c))

    by_key : (own : Bool) → is_key k (key_of c) ≡ own
        → cond own (restore b (row_at s k)) (row_at s k) ≡ cond own (row_at r (key_of c)) (row_at s k)
    by_key true e = ap (λ (j : Key). restore b (row_at s j)) (key_true k (key_of c) e) ∙ row_before l c r s left
    by_key false e = refl

pub brought_back : (l : Layout) (c : Change) (r s : Rows) → IsAsLeft l c s
    → ((k : Key) → is_key k (key_of c) ≡ false → row_at s k ≡ row_at r k)
    → put_back (record_in l c (row_at r (key_of c))) s ≡ r
brought_back l c r s left others = same_rows _ _ (λ k. restored l c r s k left ∙ by_key k (is_key k (key_of c)) refl)
  where
    by_key : (k : Key) (b : Bool) → is_key k (key_of c) ≡ b → cond b (row_at r (key_of c)) (row_at s k) ≡ row_at r k
    by_key k true e = ap (row_at r) (sym (key_true k (key_of c) e))
    by_key k false e = others k e

-- what the change left is what its undo asks for
whole_stands : (c : Change) (v : Option Row) (r : Rows) → row_at r (key_of c) ≡ row_of c → Stands (record_of c v) r
whole_stands (InsertHistory k x) v r e = ap is_some e
whole_stands (InsertNewOrder k x) v r e = ap is_some e
whole_stands (InsertOrder k x) v r e = ap is_some e
whole_stands (InsertOrderLine k x) v r e = ap is_some e
whole_stands (UpdateWarehouse k x) v r e = ap is_some e
whole_stands (UpdateDistrict k x) v r e = ap is_some e
whole_stands (UpdateCustomer k x) v r e = ap is_some e
whole_stands (UpdateOrder k x) v r e = ap is_some e
whole_stands (UpdateOrderLine k x) v r e = ap is_some e
whole_stands (UpdateStock k x) v r e = ap is_some e
whole_stands (DeleteNewOrder k) v r e = mapped_absent row.NewOrder _ e

pub stands : (l : Layout) (c : Change) (v : Option Row) (r : Rows) → row_at r (key_of c) ≡ row_of c
    → Stands (record_in l c v) r
stands WholeRows c v r e = whole_stands c v r e
stands ChangedColumns (InsertHistory k x) v r e = ap is_some e
stands ChangedColumns (InsertNewOrder k x) v r e = ap is_some e
stands ChangedColumns (InsertOrder k x) v r e = ap is_some e
stands ChangedColumns (InsertOrderLine k x) v r e = ap is_some e
stands ChangedColumns (UpdateWarehouse k x) v r e = ap is_some e
stands ChangedColumns (UpdateDistrict k x) v r e = ap is_some e
stands ChangedColumns (UpdateCustomer k x) v r e = ap is_some e
stands ChangedColumns (UpdateOrder k x) v r e = ap is_some e
stands ChangedColumns (UpdateOrderLine k x) v r e = ap is_some e
stands ChangedColumns (UpdateStock k x) v r e = ap is_some e
stands ChangedColumns (DeleteNewOrder k) v r e = mapped_absent row.NewOrder _ e

-- while the change's key is as it left it, the change can be undone
pub can_later : (l : Layout) (c : Change) (v : Option Row) (s : Places) → row_at (rows s) (key_of c) ≡ row_of c
    → HasPlace s (key_of c) → Meets (put_back (record_in l c v) (rows s)) → CanPutBack s (record_in l c v)
can_later l c v s left place schema = record {
  stands = stands l c v (rows s) left;
  place = subst (λ (k : Key). HasPlace s k) (sym (in_layout_key l c v)) place;
  schema = schema;
}

left_at : (c : Change) (r : Rows) → row_at (rows_after c r) (key_of c) ≡ row_of c
left_at c r = at_changed c r (key_of c) ∙ ap (λ b. cond b (row_of c) (row_at r (key_of c))) (key_refl (key_of c))

-- so it can at once
pub can_at_once : (l : Layout) (c : Change) (old new : Places) (b : Record) → Meets (rows old)
    → Applies l c old new b → CanPutBack new b
can_at_once l c old new b schema a =
    subst (λ (d : Record). CanPutBack new d) (sym a.before)
    (can_later l c (row_at (rows old) (key_of c)) new
    (ap (λ (r : Rows). row_at r (key_of c)) a.changes ∙ left_at c (rows old))
    ((a.places (key_of c)).1 (inr refl))
    (subst Meets (sym (ap (put_back (record_in l c (row_at (rows old) (key_of c)))) a.changes ∙ undone l c (rows old)))
    schema))

-- the undo of a change brings the rows before it back
pub gone_back : (l : Layout) (c : Change) (old new : Places) (b : Record) → Applies l c old new b
    → put_back b (rows new) ≡ rows old
gone_back l c old new b a = subst (λ (d : Record). put_back d (rows new) ≡ rows old) (sym a.before)
    (ap (put_back (record_in l c (row_at (rows old) (key_of c)))) a.changes ∙ undone l c (rows old))

-- a change whose record is the same in each layout is applied in each
pub in_each : (c : Change) (old new : Places) (b : Record) → ((v : Option Row) → changed_of c v ≡ record_of c v)
    → Applies WholeRows c old new b → (l : Layout) → Applies l c old new b
in_each c old new b same a WholeRows = a
in_each c old new b same a ChangedColumns = record {
  accepted = a.accepted;
  changes = a.changes;
  before = a.before ∙ sym (same (row_at (rows old) (key_of c)));
  places = a.places;
  names = a.names;
}
