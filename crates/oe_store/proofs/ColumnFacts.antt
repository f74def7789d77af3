-- Tables of which one row was changed in its place.
use Rattle.std.proofs.Common.{◌≡◌, refl, sym, ap, ◌∙◌, subst, List, Option, Some, None}
use Rattle.std.specs.Prelude.{is_some, IsSome}
use Rattle.std.specs.Option.{OnSome, option_copied_mut}
use Rattle.std.specs.Borrow.{MutBor}
use Rattle.std.specs.FinMap.{get}
use Rattle.oe_rows.specs.Key.{warehouse_cmp, district_cmp, customer_cmp, order_cmp, order_line_cmp, stock_cmp}
use Rattle.oe_rows.specs.declared.keys.WarehouseKey.{WarehouseKey}
use Rattle.oe_rows.specs.declared.keys.DistrictKey.{DistrictKey}
use Rattle.oe_rows.specs.declared.keys.CustomerKey.{CustomerKey}
use Rattle.oe_rows.specs.declared.keys.OrderKey.{OrderKey}
use Rattle.oe_rows.specs.declared.keys.OrderLineKey.{OrderLineKey}
use Rattle.oe_rows.specs.declared.keys.StockKey.{StockKey}
use Rattle.oe_rows.specs.declared.warehouses.Warehouse.{Warehouse}
use Rattle.oe_rows.specs.declared.districts.District.{District}
use Rattle.oe_rows.specs.declared.customers.Customer.{Customer}
use Rattle.oe_rows.specs.declared.orders.Order.{Order}
use Rattle.oe_rows.specs.declared.orders.OrderLine.{OrderLine}
use Rattle.oe_rows.specs.declared.items.Stock.{Stock}
use Rattle.oe_rows.proofs.KeyFacts.{warehouse_total, exact_warehouse, district_total, exact_district, customer_total}
use Rattle.oe_rows.proofs.KeyFacts.{exact_customer, order_total, exact_order, order_line_total, exact_order_line}
use Rattle.oe_rows.proofs.KeyFacts.{stock_total, exact_stock}
use Rattle.oe_table.specs.Table.{RewritesRow}
use Rattle.oe_theory.proofs.Sets.{some_inj}
use Rattle.oe_model.specs.Keys.{supply_of_line}
use Rattle.oe_model.specs.Changes.{Change, rows_after, UpdateWarehouse, UpdateDistrict, UpdateCustomer, UpdateOrder}
use Rattle.oe_model.specs.Changes.{UpdateOrderLine, UpdateStock}
use Rattle.oe_store.specs.Places.{Places, rows, SamePlaces, IsSound}
use Rattle.oe_store.proofs.PlaceFacts.{place_of_row, same_warehouses, same_districts, same_customers, same_orders}
use Rattle.oe_store.proofs.PlaceFacts.{same_order_lines, same_stocks}
use Rattle.oe_store.proofs.SoundFacts.{sound_changed, district_numbered, customer_numbered, order_numbered}
use Rattle.oe_store.proofs.SoundFacts.{order_line_numbered}

module _ {R : Type 0} (lent : Option (MutBor R)) (row : MutBor R) (is : lent ≡ Some row) where
  -- what holds where a row was lent holds of the row
  pub on_row : {P : Type 0} → OnSome lent P → P
  on_row {P} h = subst (λ (o : Option (MutBor R)). OnSome o P) is h

  -- the row that stood at the key is the one that was lent
  pub row_was : (o : Option R) → option_copied_mut lent ≡ o → o ≡ Some row.now
  row_was o same = sym same ∙ ap option_copied_mut is

  pub same_row : (o : Option R) (x : R) → option_copied_mut lent ≡ o → o ≡ Some x → row.now ≡ x
  same_row o x same found = some_inj row.now x (sym (row_was o same) ∙ found)

-- the row of a key that has one
pub some_row : {R : Type 0} (o : Option R) → IsSome o → (x : R) × (o ≡ Some x)
some_row None h = cc
some_row (Some x) h = (x, refl)

-- what is left of the tables after a change of one row in its place
pub record IsLeft (c : Change) (old new : Places) : Type 0 where
  pub sound : IsSound (rows new)
  pub rows : rows new ≡ rows_after c (rows old)
  pub places : SamePlaces old new

pub warehouse_left : (s : Places) (new : List (WarehouseKey × Option Warehouse)) (k : WarehouseKey) (x y : Warehouse)
    → RewritesRow warehouse_cmp s.warehouses new k x → get (rows s).warehouses k ≡ Some y
    → IsSound (rows s) → IsLeft (UpdateWarehouse k x) s (record s { warehouses = new })
warehouse_left s new k x y h was sound =
    let e : rows (record s { warehouses = new }) ≡ rows_after (UpdateWarehouse k x) (rows s) =
    ap (λ t. record (rows s) { warehouses = t }) h.rows in
    record {
      sound = subst IsSound (sym e) (sound_changed (UpdateWarehouse k x) (rows s) (ap is_some was) (tt) sound);
      rows = e;
      places = same_warehouses s new k (Some x) h.places
          (place_of_row warehouse_total exact_warehouse s.warehouses k (ap is_some was));
    }

pub district_left : (s : Places) (new : List (DistrictKey × Option District)) (k : DistrictKey) (x y : District)
    → RewritesRow district_cmp s.districts new k x → get (rows s).districts k ≡ Some y
    → IsSound (rows s) → IsLeft (UpdateDistrict k x) s (record s { districts = new })
district_left s new k x y h was sound =
    let e : rows (record s { districts = new }) ≡ rows_after (UpdateDistrict k x) (rows s) =
    ap (λ t. record (rows s) { districts = t }) h.rows in
    record {
      sound = subst IsSound (sym e)
          (sound_changed (UpdateDistrict k x) (rows s) (ap is_some was)
          (district_numbered (rows s) k sound (ap is_some was)) sound);
      rows = e;
      places = same_districts s new k (Some x) h.places
          (place_of_row district_total exact_district s.districts k (ap is_some was));
    }

pub customer_left : (s : Places) (new : List (CustomerKey × Option Customer)) (k : CustomerKey) (x y : Customer)
    → RewritesRow customer_cmp s.customers new k x → get (rows s).customers k ≡ Some y
    → IsSound (rows s) → IsLeft (UpdateCustomer k x) s (record s { customers = new })
customer_left s new k x y h was sound =
    let e : rows (record s { customers = new }) ≡ rows_after (UpdateCustomer k x) (rows s) =
    ap (λ t. record (rows s) { customers = t }) h.rows in
    record {
      sound = subst IsSound (sym e)
          (sound_changed (UpdateCustomer k x) (rows s) (ap is_some was)
          (customer_numbered (rows s) k sound (ap is_some was)) sound);
      rows = e;
      places = same_customers s new k (Some x) h.places
          (place_of_row customer_total exact_customer s.customers k (ap is_some was));
    }

pub order_left : (s : Places) (new : List (OrderKey × Option Order)) (k : OrderKey) (x y : Order)
    → RewritesRow order_cmp s.orders new k x → get (rows s).orders k ≡ Some y → x.customer ≡ y.customer
    → IsSound (rows s) → IsLeft (UpdateOrder k x) s (record s { orders = new })
order_left s new k x y h was same sound =
    let e : rows (record s { orders = new }) ≡ rows_after (UpdateOrder k x) (rows s) =
    ap (λ t. record (rows s) { orders = t }) h.rows in
    record {
      sound = subst IsSound (sym e)
          (sound_changed (UpdateOrder k x) (rows s) ((y, was, same)) (order_numbered (rows s) k sound (ap is_some was))
          sound);
      rows = e;
      places = same_orders s new k (Some x) h.places (place_of_row order_total exact_order s.orders k (ap is_some was));
    }

pub order_line_left : (s : Places) (new : List (OrderLineKey × Option OrderLine)) (k : OrderLineKey) (x y : OrderLine)
    → RewritesRow order_line_cmp s.order_lines new k x → get (rows s).order_lines k ≡ Some y
    → supply_of_line x ≡ supply_of_line y
    → IsSound (rows s) → IsLeft (UpdateOrderLine k x) s (record s { order_lines = new })
order_line_left s new k x y h was same sound =
    let e : rows (record s { order_lines = new }) ≡ rows_after (UpdateOrderLine k x) (rows s) =
    ap (λ t. record (rows s) { order_lines = t }) h.rows in
    record {
      sound = subst IsSound (sym e)
          (sound_changed (UpdateOrderLine k x) (rows s)
          ((
            ap is_some was,
            subst (λ (j : StockKey). IsSome (get (rows s).stocks j)) (sym same)
                (sound.schema.order_lines k y was).1,
          )) (order_line_numbered (rows s) k sound (ap is_some was)) sound);
      rows = e;
      places = same_order_lines s new k (Some x) h.places
          (place_of_row order_line_total exact_order_line s.order_lines k (ap is_some was));
    }

pub stock_left : (s : Places) (new : List (StockKey × Option Stock)) (k : StockKey) (x y : Stock)
    → RewritesRow stock_cmp s.stocks new k x → get (rows s).stocks k ≡ Some y
    → IsSound (rows s) → IsLeft (UpdateStock k x) s (record s { stocks = new })
stock_left s new k x y h was sound =
    let e : rows (record s { stocks = new }) ≡ rows_after (UpdateStock k x) (rows s) =
    ap (λ t. record (rows s) { stocks = t }) h.rows in
    record {
      sound = subst IsSound (sym e) (sound_changed (UpdateStock k x) (rows s) (ap is_some was) (tt) sound);
      rows = e;
      places = same_stocks s new k (Some x) h.places (place_of_row stock_total exact_stock s.stocks k (ap is_some was));
    }
