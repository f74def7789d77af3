-- Tables on one row of which columns before an update were put back.
use Rattle.std.proofs.Common.{◌≡◌, sym, ap, ◌∙◌, subst, List, Option, Some}
use Rattle.std.specs.Prelude.{is_some}
use Rattle.std.specs.FinMap.{get, insert}
use Rattle.std.specs.declared.cmp.Ordering.{Ordering}
use Rattle.oe_rows.specs.Key.{warehouse_cmp, district_cmp, customer_cmp, order_cmp, order_line_cmp, stock_cmp}
use Rattle.oe_rows.specs.declared.keys.WarehouseKey.{WarehouseKey}
use Rattle.oe_rows.specs.declared.keys.DistrictKey.{DistrictKey}
use Rattle.oe_rows.specs.declared.keys.CustomerKey.{CustomerKey}
use Rattle.oe_rows.specs.declared.keys.OrderKey.{OrderKey}
use Rattle.oe_rows.specs.declared.keys.OrderLineKey.{OrderLineKey}
use Rattle.oe_rows.specs.declared.keys.StockKey.{StockKey}
use Rattle.oe_rows.specs.declared.warehouses.Warehouse.{Warehouse}
use Rattle.oe_rows.specs.declared.districts.District.{District}
use Rattle.oe_rows.specs.declared.customers.Customer.{Customer}
use Rattle.oe_rows.specs.declared.orders.Order.{Order}
use Rattle.oe_rows.specs.declared.orders.OrderLine.{OrderLine}
use Rattle.oe_rows.specs.declared.items.Stock.{Stock}
use Rattle.oe_rows.specs.declared.before.WarehouseBefore.{WarehouseBefore}
use Rattle.oe_rows.specs.declared.before.DistrictBefore.{DistrictBefore}
use Rattle.oe_rows.specs.declared.before.CustomerBefore.{CustomerBefore}
use Rattle.oe_rows.specs.declared.before.OrderBefore.{OrderBefore}
use Rattle.oe_rows.specs.declared.before.OrderLineBefore.{OrderLineBefore}
use Rattle.oe_rows.specs.declared.before.StockBefore.{StockBefore}
use Rattle.oe_rows.specs.Before.{with_warehouse, with_district, with_customer, with_order, with_order_line, with_stock}
use Rattle.oe_rows.proofs.KeyFacts.{warehouse_total, exact_warehouse, district_total, exact_district, customer_total}
use Rattle.oe_rows.proofs.KeyFacts.{exact_customer, order_total, exact_order, order_line_total, exact_order_line}
use Rattle.oe_rows.proofs.KeyFacts.{stock_total, exact_stock}
use Rattle.oe_table.specs.Table.{rows_of, RewritesRow}
use Rattle.oe_model.specs.Rows.{with_row}
use Rattle.oe_model.specs.Changes.{Record, put_back, with_columns, ChangedWarehouse, ChangedDistrict, ChangedCustomer}
use Rattle.oe_model.specs.Changes.{ChangedOrder, ChangedOrderLine, ChangedStock}
use Rattle.oe_model.specs.Meets.{Meets}
use Rattle.oe_store.specs.Places.{Places, rows, SamePlaces, IsSound}
use Rattle.oe_store.proofs.PlaceFacts.{place_of_row, same_warehouses, same_districts, same_customers, same_orders}
use Rattle.oe_store.proofs.PlaceFacts.{same_order_lines, same_stocks}
use Rattle.oe_store.proofs.SoundFacts.{sound_put_back, district_numbered, customer_numbered, order_numbered}
use Rattle.oe_store.proofs.SoundFacts.{order_line_numbered}

-- the rows of one table
put_rows : {K X C : Type 0} {cmp : K → K → Ordering} (old new : List (K × Option X)) (k : K) (put : C → X → X)
    (columns : C) (x y : X) → RewritesRow cmp old new k y → y ≡ put columns x → get (rows_of cmp old) k ≡ Some x
    → rows_of cmp new ≡ with_row k (with_columns put (Some columns) (get (rows_of cmp old) k)) (rows_of cmp old)
put_rows {cmp = cmp} old new k put columns x y h is was =
    h.rows ∙ ap (λ z. insert (rows_of cmp old) k z) is
    ∙ ap (λ o. with_row k (with_columns put (Some columns) o) (rows_of cmp old)) (sym was)

-- what is left of the tables after columns were put back
pub record IsBack (b : Record) (old new : Places) : Type 0 where
  pub sound : IsSound (rows new)
  pub rows : rows new ≡ put_back b (rows old)
  pub places : SamePlaces old new

pub warehouse_back : (s : Places) (new : List (WarehouseKey × Option Warehouse)) (k : WarehouseKey)
    (columns : WarehouseBefore) (x y : Warehouse) → RewritesRow warehouse_cmp s.warehouses new k y
    → y ≡ with_warehouse columns x → get (rows s).warehouses k ≡ Some x
    → Meets (put_back (ChangedWarehouse k (Some columns)) (rows s)) → IsSound (rows s)
    → IsBack (ChangedWarehouse k (Some columns)) s (record s { warehouses = new })
warehouse_back s new k columns x y h is was schema sound =
    let e : rows (record s { warehouses = new }) ≡ put_back (ChangedWarehouse k (Some columns)) (rows s) =
    ap (λ t. record (rows s) { warehouses = t }) (put_rows s.warehouses new k with_warehouse columns x y h is was) in
    record {
      sound = subst IsSound (sym e)
          (sound_put_back (ChangedWarehouse k (Some columns)) (rows s) schema tt sound);
      rows = e;
      places = same_warehouses s new k (Some y) h.places
          (place_of_row warehouse_total exact_warehouse s.warehouses k (ap is_some was));
    }

pub district_back : (s : Places) (new : List (DistrictKey × Option District)) (k : DistrictKey)
    (columns : DistrictBefore) (x y : District) → RewritesRow district_cmp s.districts new k y
    → y ≡ with_district columns x → get (rows s).districts k ≡ Some x
    → Meets (put_back (ChangedDistrict k (Some columns)) (rows s)) → IsSound (rows s)
    → IsBack (ChangedDistrict k (Some columns)) s (record s { districts = new })
district_back s new k columns x y h is was schema sound =
    let e : rows (record s { districts = new }) ≡ put_back (ChangedDistrict k (Some columns)) (rows s) =
    ap (λ t. record (rows s) { districts = t }) (put_rows s.districts new k with_district columns x y h is was) in
    record {
      sound = subst IsSound (sym e)
          (sound_put_back (ChangedDistrict k (Some columns)) (rows s) schema
          (district_numbered (rows s) k sound (ap is_some was)) sound);
      rows = e;
      places = same_districts s new k (Some y) h.places
          (place_of_row district_total exact_district s.districts k (ap is_some was));
    }

pub customer_back : (s : Places) (new : List (CustomerKey × Option Customer)) (k : CustomerKey)
    (columns : CustomerBefore) (x y : Customer) → RewritesRow customer_cmp s.customers new k y
    → y ≡ with_customer columns x → get (rows s).customers k ≡ Some x
    → Meets (put_back (ChangedCustomer k (Some columns)) (rows s)) → IsSound (rows s)
    → IsBack (ChangedCustomer k (Some columns)) s (record s { customers = new })
customer_back s new k columns x y h is was schema sound =
    let e : rows (record s { customers = new }) ≡ put_back (ChangedCustomer k (Some columns)) (rows s) =
    ap (λ t. record (rows s) { customers = t }) (put_rows s.customers new k with_customer columns x y h is was) in
    record {
      sound = subst IsSound (sym e)
          (sound_put_back (ChangedCustomer k (Some columns)) (rows s) schema
          (customer_numbered (rows s) k sound (ap is_some was)) sound);
      rows = e;
      places = same_customers s new k (Some y) h.places
          (place_of_row customer_total exact_customer s.customers k (ap is_some was));
    }

pub order_back : (s : Places) (new : List (OrderKey × Option Order)) (k : OrderKey)
    (columns : OrderBefore) (x y : Order) → RewritesRow order_cmp s.orders new k y
    → y ≡ with_order columns x → get (rows s).orders k ≡ Some x
    → Meets (put_back (ChangedOrder k (Some columns)) (rows s)) → IsSound (rows s)
    → IsBack (ChangedOrder k (Some columns)) s (record s { orders = new })
order_back s new k columns x y h is was schema sound =
    let e : rows (record s { orders = new }) ≡ put_back (ChangedOrder k (Some columns)) (rows s) =
    ap (λ t. record (rows s) { orders = t }) (put_rows s.orders new k with_order columns x y h is was) in
    record {
      sound = subst IsSound (sym e)
          (sound_put_back (ChangedOrder k (Some columns)) (rows s) schema
          (order_numbered (rows s) k sound (ap is_some was)) sound);
      rows = e;
      places = same_orders s new k (Some y) h.places
          (place_of_row order_total exact_order s.orders k (ap is_some was));
    }

pub order_line_back : (s : Places) (new : List (OrderLineKey × Option OrderLine)) (k : OrderLineKey)
    (columns : OrderLineBefore) (x y : OrderLine) → RewritesRow order_line_cmp s.order_lines new k y
    → y ≡ with_order_line columns x → get (rows s).order_lines k ≡ Some x
    → Meets (put_back (ChangedOrderLine k (Some columns)) (rows s)) → IsSound (rows s)
    → IsBack (ChangedOrderLine k (Some columns)) s (record s { order_lines = new })
order_line_back s new k columns x y h is was schema sound =
    let e : rows (record s { order_lines = new }) ≡ put_back (ChangedOrderLine k (Some columns)) (rows s) =
    ap (λ t. record (rows s) { order_lines = t })
    (put_rows s.order_lines new k with_order_line columns x y h is was) in
    record {
      sound = subst IsSound (sym e)
          (sound_put_back (ChangedOrderLine k (Some columns)) (rows s) schema
          (order_line_numbered (rows s) k sound (ap is_some was)) sound);
      rows = e;
      places = same_order_lines s new k (Some y) h.places
          (place_of_row order_line_total exact_order_line s.order_lines k (ap is_some was));
    }

pub stock_back : (s : Places) (new : List (StockKey × Option Stock)) (k : StockKey)
    (columns : StockBefore) (x y : Stock) → RewritesRow stock_cmp s.stocks new k y
    → y ≡ with_stock columns x → get (rows s).stocks k ≡ Some x
    → Meets (put_back (ChangedStock k (Some columns)) (rows s)) → IsSound (rows s)
    → IsBack (ChangedStock k (Some columns)) s (record s { stocks = new })
stock_back s new k columns x y h is was schema sound =
    let e : rows (record s { stocks = new }) ≡ put_back (ChangedStock k (Some columns)) (rows s) =
    ap (λ t. record (rows s) { stocks = t }) (put_rows s.stocks new k with_stock columns x y h is was) in
    record {
      sound = subst IsSound (sym e)
          (sound_put_back (ChangedStock k (Some columns)) (rows s) schema tt sound);
      rows = e;
      places = same_stocks s new k (Some y) h.places
          (place_of_row stock_total exact_stock s.stocks k (ap is_some was));
    }
