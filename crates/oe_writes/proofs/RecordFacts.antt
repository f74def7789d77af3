-- The record that goes before a write is that of its change.
use Rattle.std.proofs.Common.{◌≡◌, refl, sym, ap, ◌∙◌, subst, Option, None, Some}
use Rattle.std.specs.Prelude.{IsSome, option_map, option_and_then}
use Rattle.std.specs.FinMap.{get}
use Rattle.oe_theory.specs.Next.{record_on}
use Rattle.oe_theory.proofs.Sets.{some_inj}
use Rattle.oe_rows.specs.declared.layouts.Layout.{Layout}
use Rattle.oe_rows.specs.declared.layouts.Layout.TheVariants.{WholeRows, ChangedColumns}
use Rattle.oe_rows.specs.declared.keys.HistoryKey.{HistoryKey}
use Rattle.oe_rows.specs.declared.keys.NewOrderKey.{NewOrderKey}
use Rattle.oe_rows.specs.declared.keys.OrderKey.{OrderKey}
use Rattle.oe_rows.specs.declared.keys.OrderLineKey.{OrderLineKey}
use Rattle.oe_rows.specs.declared.histories.History.{History}
use Rattle.oe_rows.specs.declared.orders.NewOrder.{NewOrder}
use Rattle.oe_rows.specs.declared.orders.Order.{Order}
use Rattle.oe_rows.specs.declared.orders.OrderLine.{OrderLine}
use Rattle.oe_rows.specs.declared.rows.Row.{Row}
use Rattle.oe_rows.specs.declared.rows.Row.TheVariants as row
use Rattle.oe_model.specs.Rows.{Rows, as_history, as_new_order, as_order, as_order_line}
use Rattle.oe_model.specs.Changes.{Change, Record, InsertedHistory, InsertedNewOrder, InsertedOrder}
use Rattle.oe_model.specs.Changes.{InsertedOrderLine, DeletedNewOrder, record_in}
use Rattle.oe_model.specs.Changes as model
use Rattle.oe_model.specs.Meets.{Accepts}
use Rattle.oe_model.specs.System.{system}
use Rattle.oe_change.specs.declared.writes.Write.{Write}
use Rattle.oe_change.specs.declared.writes.Write.TheVariants.{WarehouseYtd, DistrictYtd, NextOrder, CustomerAccount}
use Rattle.oe_change.specs.declared.writes.Write.TheVariants.{BadCredit, CustomerNames, StockCounters, Carrier}
use Rattle.oe_change.specs.declared.writes.Write.TheVariants.{DeliveryDate}
use Rattle.oe_change.specs.declared.writes.Write.TheVariants.{InsertHistory, InsertNewOrder, InsertOrder}
use Rattle.oe_change.specs.declared.writes.Write.TheVariants.{InsertOrderLine, DeleteNewOrder}
use Rattle.oe_change.specs.Writes.{change_of}
use Rattle.oe_writes.specs.Records.{record_of_write}

-- inserts and deletes have the same record in each layout
module _ (l : Layout) (v : Option Row) where
  pub history_in : (k : HistoryKey) (x : History)
      → InsertedHistory k (option_and_then as_history v) ≡ record_in l (model.InsertHistory k x) v
  history_in k x = go l
    where
      go : (l : Layout) → InsertedHistory k (option_and_then as_history v) ≡ record_in l (model.InsertHistory k x) v
      go WholeRows = refl
      go ChangedColumns = refl

  pub new_order_in : (k : NewOrderKey) (x : NewOrder)
      → InsertedNewOrder k (option_and_then as_new_order v) ≡ record_in l (model.InsertNewOrder k x) v
  new_order_in k x = go l
    where
      go : (l : Layout) → InsertedNewOrder k (option_and_then as_new_order v) ≡ record_in l (model.InsertNewOrder k x) v
      go WholeRows = refl
      go ChangedColumns = refl

  pub order_in : (k : OrderKey) (x : Order)
      → InsertedOrder k (option_and_then as_order v) ≡ record_in l (model.InsertOrder k x) v
  order_in k x = go l
    where
      go : (l : Layout) → InsertedOrder k (option_and_then as_order v) ≡ record_in l (model.InsertOrder k x) v
      go WholeRows = refl
      go ChangedColumns = refl

  pub order_line_in : (k : OrderLineKey) (x : OrderLine)
      → InsertedOrderLine k (option_and_then as_order_line v) ≡ record_in l (model.InsertOrderLine k x) v
  order_line_in k x = go l
    where
      go : (l : Layout) → InsertedOrderLine k (option_and_then as_order_line v)
          ≡ record_in l (model.InsertOrderLine k x) v
      go WholeRows = refl
      go ChangedColumns = refl

  pub deleted_in : (k : NewOrderKey)
      → DeletedNewOrder k (option_and_then as_new_order v) ≡ record_in l (model.DeleteNewOrder k) v
  deleted_in k = go l
    where
      go : (l : Layout) → DeletedNewOrder k (option_and_then as_new_order v) ≡ record_in l (model.DeleteNewOrder k) v
      go WholeRows = refl
      go ChangedColumns = refl

-- of an update
pub update : (l : Layout) (r : Rows) (o : Option Change) (c : Change) → o ≡ Some c
    → option_map (λ d. record_on system l d r) o ≡ Some (record_on system l c r)
update l r o c e = ap (option_map (λ d. record_on system l d r)) e

-- of an insert: no row is there
insert : (l : Layout) (c d : Change) (r : Rows) (b : Record) → b ≡ record_on system l c r
    → ◌≡◌ {A = Option Change} (Some c) (Some d)
    → ◌≡◌ {A = Option Record} (Some b) (Some (record_on system l d r))
insert l c d r b same e = ap Some (same ∙ ap (λ z. record_on system l z r) (some_inj _ _ e))

the_row : (o : Option NewOrder) → IsSome o → Some (record {}) ≡ option_and_then as_new_order (option_map row.NewOrder o)
the_row None h = cc
the_row (Some x) h = refl

-- where the tables accept the change that a write is, the record that goes before it is that of the change
pub write_records : (l : Layout) (w : Write) (c : Change) (r : Rows) → change_of w r ≡ Some c → Accepts c r
    → record_of_write l w r ≡ Some (record_on system l c r)
write_records l (WarehouseYtd k y) c r e a = update l r _ c e
write_records l (DistrictYtd k y) c r e a = update l r _ c e
write_records l (NextOrder k n) c r e a = update l r _ c e
write_records l (CustomerAccount k n) c r e a = update l r _ c e
write_records l (BadCredit k n m) c r e a = update l r _ c e
write_records l (CustomerNames k n m) c r e a = update l r _ c e
write_records l (StockCounters k n) c r e a = update l r _ c e
write_records l (Carrier k c') c r e a = update l r _ c e
write_records l (DeliveryDate k t) c r e a = update l r _ c e
write_records l (InsertHistory k x) c r e a =
    let own : Accepts (model.InsertHistory k x) r = subst (λ z. Accepts z r) (sym (some_inj _ _ e)) a in
    insert l (model.InsertHistory k x) c r _
    (ap (λ o. InsertedHistory k (option_and_then as_history (option_map row.History o))) (sym own.0)
    ∙ history_in l (option_map row.History (get r.histories k)) k x) e
write_records l (InsertNewOrder k) c r e a =
    let own : Accepts (model.InsertNewOrder k (record {})) r = subst (λ z. Accepts z r) (sym (some_inj _ _ e)) a in
    insert l (model.InsertNewOrder k (record {})) c r _
    (ap (λ o. InsertedNewOrder k (option_and_then as_new_order (option_map row.NewOrder o))) (sym own.0)
    ∙ new_order_in l (option_map row.NewOrder (get r.new_orders k)) k (record {})) e
write_records l (InsertOrder k x) c r e a =
    let own : Accepts (model.InsertOrder k x) r = subst (λ z. Accepts z r) (sym (some_inj _ _ e)) a in
    insert l (model.InsertOrder k x) c r _
    (ap (λ o. InsertedOrder k (option_and_then as_order (option_map row.Order o))) (sym own.0)
    ∙ order_in l (option_map row.Order (get r.orders k)) k x) e
write_records l (InsertOrderLine k x) c r e a =
    let own : Accepts (model.InsertOrderLine k x) r = subst (λ z. Accepts z r) (sym (some_inj _ _ e)) a in
    insert l (model.InsertOrderLine k x) c r _
    (ap (λ o. InsertedOrderLine k (option_and_then as_order_line (option_map row.OrderLine o))) (sym own.0)
    ∙ order_line_in l (option_map row.OrderLine (get r.order_lines k)) k x) e
write_records l (DeleteNewOrder k) c r e a =
    let own : Accepts (model.DeleteNewOrder k) r = subst (λ z. Accepts z r) (sym (some_inj _ _ e)) a in
    insert l (model.DeleteNewOrder k) c r _ (ap (DeletedNewOrder k) (the_row (get r.new_orders k) own)
    ∙ deleted_in l (option_map row.NewOrder (get r.new_orders k)) k) e

-- a write without a record is no change
no_row : {A B : Type 0} (g : A → B) (o : Option A) → option_map g o ≡ None → o ≡ None
no_row g None e = refl
no_row g (Some x) e = cc

-- and one with a record is a change
a_row : {A B : Type 0} (g : A → B) (o : Option A) → IsSome (option_map g o) → IsSome o
a_row g None h = h
a_row g (Some x) h = refl

pub recorded : (l : Layout) (w : Write) (r : Rows) → IsSome (record_of_write l w r) → IsSome (change_of w r)
recorded l (WarehouseYtd k y) r h = a_row _ _ h
recorded l (DistrictYtd k y) r h = a_row _ _ h
recorded l (NextOrder k n) r h = a_row _ _ h
recorded l (CustomerAccount k a) r h = a_row _ _ h
recorded l (BadCredit k a m) r h = a_row _ _ h
recorded l (CustomerNames k n m) r h = a_row _ _ h
recorded l (StockCounters k n) r h = a_row _ _ h
recorded l (Carrier k c) r h = a_row _ _ h
recorded l (DeliveryDate k t) r h = a_row _ _ h
recorded l (InsertHistory k x) r h = refl
recorded l (InsertNewOrder k) r h = refl
recorded l (InsertOrder k x) r h = refl
recorded l (InsertOrderLine k x) r h = refl
recorded l (DeleteNewOrder k) r h = refl
