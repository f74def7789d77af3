-- What the tables' type keeps of their rows stays through changes and their undo.
use Rattle.std.proofs.Common.{◌≡◌, refl, sym, ◌∙◌, ap, subst, Bool, true, false, cond, Option, Some, None, Result, Ok}
use Rattle.std.proofs.Common.{Err, OnOk, OnErr}
use Rattle.std.specs.Prelude.{IsSome, is_some, option_map}
use Rattle.std.specs.Int.{IsInRange}
use Rattle.std.specs.declared.cmp.Ordering.{Ordering}
use Rattle.std.specs.FinMap.{get, empty, get-empty}
use Rattle.oe_rows.specs.Key.{warehouse_cmp, district_cmp, customer_cmp, history_cmp, new_order_cmp, order_cmp}
use Rattle.oe_rows.specs.Key.{order_line_cmp, item_cmp, stock_cmp}
use Rattle.oe_rows.specs.declared.keys.DistrictKey.{DistrictKey}
use Rattle.oe_rows.specs.declared.keys.CustomerKey.{CustomerKey}
use Rattle.oe_rows.specs.declared.keys.NewOrderKey.{NewOrderKey}
use Rattle.oe_rows.specs.declared.keys.OrderKey.{OrderKey}
use Rattle.oe_rows.specs.declared.keys.OrderLineKey.{OrderLineKey}
use Rattle.oe_rows.specs.declared.keys.Key.{Key}
use Rattle.oe_rows.specs.declared.keys.Key.TheVariants as key
use Rattle.oe_rows.specs.declared.rows.Row.{Row}
use Rattle.oe_rows.specs.declared.rows.Row.TheVariants as row
use Rattle.oe_rows.specs.declared.warehouses.Warehouse.{Warehouse}
use Rattle.oe_rows.specs.declared.districts.District.{District}
use Rattle.oe_rows.specs.declared.customers.Customer.{Customer}
use Rattle.oe_rows.specs.declared.histories.History.{History}
use Rattle.oe_rows.specs.declared.orders.NewOrder.{NewOrder}
use Rattle.oe_rows.specs.declared.orders.Order.{Order}
use Rattle.oe_rows.specs.declared.orders.OrderLine.{OrderLine}
use Rattle.oe_rows.specs.declared.items.Stock.{Stock}
use Rattle.oe_model.specs.Keys.{order_of_new_order}
use Rattle.oe_model.specs.Rows.{Rows, is_key, row_at}
use Rattle.oe_model.specs.Changes.{Change, key_of, row_of, rows_after, Record, record_key, restore, put_back}
use Rattle.oe_model.specs.Changes.{DeletedNewOrder}
use Rattle.oe_model.specs.Meets.{Meets, Accepts}
use Rattle.oe_rows.proofs.KeyFacts.{new_order_total, exact_new_order}
use Rattle.oe_model.proofs.MapFacts.{get_own}
use Rattle.oe_model.proofs.RowFacts.{key_true, at_changed, at_put_back}
use Rattle.oe_model.proofs.PresenceFacts.{some-map}
use Rattle.oe_model.proofs.ChangeFacts.{accepted_meets}
use Rattle.oe_store.specs.Places.{IsNumbered, IsSound, no_rows}

abbrev AllNumbered : Rows → Type 0
AllNumbered r = (k : Key) → IsSome (row_at r k) → IsNumbered k

own_or_other : (r : Rows) (own k : Key) (new : Option Row) (b : Bool) → is_key k own ≡ b → IsNumbered own
    → AllNumbered r → IsSome (cond b new (row_at r k)) → IsNumbered k
own_or_other r own k new true e mine all h = subst IsNumbered (sym (key_true k own e)) mine
own_or_other r own k new false e mine all h = all k h

-- after a change that the tables accept
pub sound_changed : (c : Change) (r : Rows) → Accepts c r → IsNumbered (key_of c) → IsSound r → IsSound (rows_after c r)
sound_changed c r accepts mine s = record {
  schema = accepted_meets c r accepts s.schema;
  numbered = λ k h. own_or_other r (key_of c) k (row_of c) (is_key k (key_of c)) refl mine s.numbered
      (subst IsSome (at_changed c r k) h);
}

-- after its undo
pub sound_put_back : (b : Record) (r : Rows) → Meets (put_back b r) → IsNumbered (record_key b) → IsSound r
    → IsSound (put_back b r)
sound_put_back b r schema mine s = record {
  schema = schema;
  numbered = λ k h. own_or_other r (record_key b) k (restore b (row_at r k)) (is_key k (record_key b)) refl mine
      s.numbered
      (subst IsSome (at_put_back b r k) h);
}

-- a key that has a row has its numbers in their ranges
pub district_numbered : (r : Rows) (k : DistrictKey) → IsSound r → IsSome (get r.districts k)
    → IsInRange 1 10 k.district
district_numbered r k s h = s.numbered (key.District k) (some-map row.District (get r.districts k) ∙ h)

pub customer_numbered : (r : Rows) (k : CustomerKey) → IsSound r → IsSome (get r.customers k)
    → IsInRange 1 3_000 k.customer
customer_numbered r k s h = s.numbered (key.Customer k) (some-map row.Customer (get r.customers k) ∙ h)

pub new_order_numbered : (r : Rows) (k : NewOrderKey) → IsSound r → IsSome (get r.new_orders k)
    → IsInRange 1 10_000_000 k.order
new_order_numbered r k s h = s.numbered (key.NewOrder k) (some-map row.NewOrder (get r.new_orders k) ∙ h)

pub order_numbered : (r : Rows) (k : OrderKey) → IsSound r → IsSome (get r.orders k) → IsInRange 1 10_000_000 k.order
order_numbered r k s h = s.numbered (key.Order k) (some-map row.Order (get r.orders k) ∙ h)

pub order_line_numbered : (r : Rows) (k : OrderLineKey) → IsSound r → IsSome (get r.order_lines k)
    → IsInRange 1 10_000_000 k.order × IsInRange 1 15 k.number
order_line_numbered r k s h = s.numbered (key.OrderLine k) (some-map row.OrderLine (get r.order_lines k) ∙ h)

-- a NEW-ORDER row that may be put back is one of an order
pub refilled_numbered : (r : Rows) (k : NewOrderKey) (x : NewOrder) → Meets (put_back (DeletedNewOrder k (Some x)) r)
    → IsSound r → IsInRange 1 10_000_000 k.order
refilled_numbered r k x schema s =
    order_numbered r (order_of_new_order k) s
    (schema.new_orders k x (get_own new_order_total exact_new_order r.new_orders k x))

-- what follows from either outcome of an insert
pub by_result : {T E P Q G : Type 0} (r : Result T E) → (P → G) → (Q → G) → OnOk r P → OnErr r Q → G
by_result (Ok x) f g p q = f p
by_result (Err e) f g p q = g q

module _ {K : Type 0} (cmp : K → K → Ordering) (R : Type 0) {P : Type 0} where
  not_there : (k : K) → IsSome (get (empty {X = R} {R = cmp}) k) → P
  not_there k h = let no : is_some {T = R} None ≡ true = ap is_some (sym (get-empty cmp k)) ∙ h in
      absurd (let z : ⊥ = cc in z)

  not_some : (k : K) (x : R) → get (empty {X = R} {R = cmp}) k ≡ Some x → P
  not_some k x e = not_there k (ap is_some e)

no_row : (k : Key) → row_at no_rows k ≡ None
no_row (key.Warehouse k) = ap (option_map row.Warehouse) (get-empty warehouse_cmp k)
no_row (key.District k) = ap (option_map row.District) (get-empty district_cmp k)
no_row (key.Customer k) = ap (option_map row.Customer) (get-empty customer_cmp k)
no_row (key.History k) = ap (option_map row.History) (get-empty history_cmp k)
no_row (key.NewOrder k) = ap (option_map row.NewOrder) (get-empty new_order_cmp k)
no_row (key.Order k) = ap (option_map row.Order) (get-empty order_cmp k)
no_row (key.OrderLine k) = ap (option_map row.OrderLine) (get-empty order_line_cmp k)
no_row (key.Item k) = ap (option_map row.Item) (get-empty item_cmp k)
no_row (key.Stock k) = ap (option_map row.Stock) (get-empty stock_cmp k)

-- tables without a row
pub sound_empty : IsSound no_rows
sound_empty = record {
  schema = record {
    districts = λ k x e. not_some district_cmp District k x e;
    customers = λ k x e. not_some customer_cmp Customer k x e;
    histories = λ k x e. not_some history_cmp History k x e;
    new_orders = λ k x e. not_some new_order_cmp NewOrder k x e;
    orders = λ k x e. not_some order_cmp Order k x e;
    order_lines = λ k x e. not_some order_line_cmp OrderLine k x e;
    stocks = λ k x e. not_some stock_cmp Stock k x e;
    ten_districts = λ k h low high. not_there warehouse_cmp Warehouse _ h;
  };
  numbered = λ k h. let no : is_some {T = Row} None ≡ true = ap is_some (sym (no_row k)) ∙ h in
      absurd (let z : ⊥ = cc in z);
}
