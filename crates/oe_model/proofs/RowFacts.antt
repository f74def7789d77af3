-- The tables read as one map from key to row, and undo records.
use Rattle.std.proofs.Common.{◌≡◌, refl, sym, ◌∙◌, ap, true, false, Bool, cond, Option, Some, None}
use Rattle.std.specs.Prelude.{IsSome, option_map, option_and_then, is_some}
use Rattle.std.specs.FinMap.{FinMap, IsAntisymmetric, get}
use Rattle.std.specs.Cmp.{IsTotalOrder}
use Rattle.std.specs.Ordering.{eq_by_cmp}
use Rattle.std.specs.declared.cmp.Ordering.{Ordering}
use Rattle.oe_rows.specs.declared.warehouses.Warehouse.{Warehouse}
use Rattle.oe_rows.specs.declared.districts.District.{District}
use Rattle.oe_rows.specs.declared.customers.Customer.{Customer}
use Rattle.oe_rows.specs.declared.histories.History.{History}
use Rattle.oe_rows.specs.declared.orders.NewOrder.{NewOrder}
use Rattle.oe_rows.specs.declared.orders.Order.{Order}
use Rattle.oe_rows.specs.declared.orders.OrderLine.{OrderLine}
use Rattle.oe_rows.specs.declared.items.Item.{Item}
use Rattle.oe_rows.specs.declared.items.Stock.{Stock}
use Rattle.oe_rows.specs.declared.keys.Key.{Key}
use Rattle.oe_rows.specs.declared.keys.Key.TheVariants as key
use Rattle.oe_rows.specs.declared.rows.Row.{Row}
use Rattle.oe_rows.specs.declared.rows.Row.TheVariants as row
use Rattle.oe_rows.specs.Before.{warehouse_before, district_before, customer_before, order_before, order_line_before}
use Rattle.oe_rows.specs.Before.{stock_before}
use Rattle.oe_rows.specs.Before.{with_warehouse, with_district, with_customer, with_order, with_order_line, with_stock}
use Rattle.oe_rows.proofs.BeforeFacts.{warehouse_back, district_back, customer_back, order_back, order_line_back}
use Rattle.oe_rows.proofs.BeforeFacts.{stock_back}
use Rattle.oe_rows.proofs.KeyFacts.{warehouse_total, exact_warehouse, district_total, exact_district, customer_total}
use Rattle.oe_rows.proofs.KeyFacts.{exact_customer, history_total, exact_history, new_order_total, exact_new_order}
use Rattle.oe_rows.proofs.KeyFacts.{order_total, exact_order, order_line_total, exact_order_line, item_total}
use Rattle.oe_rows.proofs.KeyFacts.{exact_item, stock_total, exact_stock}
use Rattle.oe_model.specs.Rows.{Rows, with_row, is_key, row_at, as_warehouse, as_district, as_customer, as_history}
use Rattle.oe_model.specs.Rows.{as_new_order}
use Rattle.oe_model.specs.Rows.{as_order, as_order_line, as_stock}
use Rattle.oe_model.specs.Changes.{Change, InsertHistory, InsertNewOrder, InsertOrder, InsertOrderLine, UpdateWarehouse}
use Rattle.oe_model.specs.Changes.{UpdateDistrict, UpdateCustomer, UpdateOrder, UpdateOrderLine, UpdateStock}
use Rattle.oe_model.specs.Changes.{DeleteNewOrder, key_of, row_of, rows_after, Record, InsertedHistory}
use Rattle.oe_model.specs.Changes.{InsertedNewOrder}
use Rattle.oe_model.specs.Changes.{InsertedOrder, InsertedOrderLine, UpdatedWarehouse, UpdatedDistrict, UpdatedCustomer}
use Rattle.oe_model.specs.Changes.{UpdatedOrder, UpdatedOrderLine, UpdatedStock, DeletedNewOrder, IsRecord, record_of}
use Rattle.oe_model.specs.Changes.{record_key, ChangedWarehouse, ChangedDistrict, ChangedCustomer}
use Rattle.oe_model.specs.Changes.{ChangedOrder, ChangedOrderLine, ChangedStock}
use Rattle.oe_rows.specs.declared.layouts.Layout.{Layout}
use Rattle.oe_rows.specs.declared.layouts.Layout.TheVariants.{WholeRows, ChangedColumns}
use Rattle.oe_model.specs.Changes.{columns_before, record_in, with_columns, restore, put_back, redo}
use Rattle.oe_model.specs.Meets.{Accepts}
use Rattle.oe_model.proofs.MapFacts.{is_self, is_same, same, map_get-insert, map_get-remove, map_get-with_row}

pub key_refl : (a : Key) → is_key a a ≡ true
key_refl (key.Warehouse a) = is_self warehouse_total exact_warehouse a
key_refl (key.District a) = is_self district_total exact_district a
key_refl (key.Customer a) = is_self customer_total exact_customer a
key_refl (key.History a) = is_self history_total exact_history a
key_refl (key.NewOrder a) = is_self new_order_total exact_new_order a
key_refl (key.Order a) = is_self order_total exact_order a
key_refl (key.OrderLine a) = is_self order_line_total exact_order_line a
key_refl (key.Item a) = is_self item_total exact_item a
key_refl (key.Stock a) = is_self stock_total exact_stock a

pub key_true : (a b : Key) → is_key a b ≡ true → a ≡ b
key_true (key.Warehouse a) (key.Warehouse b) e = ap key.Warehouse (is_same warehouse_total exact_warehouse a b e)
key_true (key.District a) (key.District b) e = ap key.District (is_same district_total exact_district a b e)
key_true (key.Customer a) (key.Customer b) e = ap key.Customer (is_same customer_total exact_customer a b e)
key_true (key.History a) (key.History b) e = ap key.History (is_same history_total exact_history a b e)
key_true (key.NewOrder a) (key.NewOrder b) e = ap key.NewOrder (is_same new_order_total exact_new_order a b e)
key_true (key.Order a) (key.Order b) e = ap key.Order (is_same order_total exact_order a b e)
key_true (key.OrderLine a) (key.OrderLine b) e = ap key.OrderLine (is_same order_line_total exact_order_line a b e)
key_true (key.Item a) (key.Item b) e = ap key.Item (is_same item_total exact_item a b e)
key_true (key.Stock a) (key.Stock b) e = ap key.Stock (is_same stock_total exact_stock a b e)
key_true _ _ e = cc

pub at_changed : (c : Change) (r : Rows) (k : Key)
    → row_at (rows_after c r) k ≡ cond (is_key k (key_of c)) (row_of c) (row_at r k)
at_changed (InsertHistory a x) r (key.History k) = map_get-insert history_total exact_history row.History r.histories a
    x k
at_changed (InsertNewOrder a x) r (key.NewOrder k) = map_get-insert new_order_total exact_new_order row.NewOrder
    r.new_orders a x k
at_changed (InsertOrder a x) r (key.Order k) = map_get-insert order_total exact_order row.Order r.orders a x k
at_changed (InsertOrderLine a x) r (key.OrderLine k) = map_get-insert order_line_total exact_order_line row.OrderLine
    r.order_lines a x k
at_changed (UpdateWarehouse a x) r (key.Warehouse k) = map_get-insert warehouse_total exact_warehouse row.Warehouse
    r.warehouses a x k
at_changed (UpdateDistrict a x) r (key.District k) = map_get-insert district_total exact_district row.District
    r.districts a x k
at_changed (UpdateCustomer a x) r (key.Customer k) = map_get-insert customer_total exact_customer row.Customer
    r.customers a x k
at_changed (UpdateOrder a x) r (key.Order k) = map_get-insert order_total exact_order row.Order r.orders a x k
at_changed (UpdateOrderLine a x) r (key.OrderLine k) = map_get-insert order_line_total exact_order_line row.OrderLine
    r.order_lines a x k
at_changed (UpdateStock a x) r (key.Stock k) = map_get-insert stock_total exact_stock row.Stock r.stocks a x k
at_changed (DeleteNewOrder a) r (key.NewOrder k) = map_get-remove new_order_total exact_new_order row.NewOrder
    r.new_orders a k
at_changed _ r _ = refl

-- a constructor of rows tells its argument
module _ {A : Type 0} (c : A → Row) (out : Row → Option A) (h : (x : A) → out (c x) ≡ Some x) where
  pub out-map : (o : Option A) → option_and_then out (option_map c o) ≡ o
  out-map None = refl
  out-map (Some x) = h x

  pub unmapped : (a b : Option A) → option_map c a ≡ option_map c b → a ≡ b
  unmapped a b e = sym (out-map a) ∙ ap (option_and_then out) e ∙ out-map b

-- columns put back into one table
columns_back : {K X C : Type 0} {R : K → K → Ordering} (o : IsTotalOrder R) (x : IsAntisymmetric R) (c : X → Row)
    (out : Row → Option X) (h : (y : X) → out (c y) ≡ Some y) (m : FinMap R X) (put : C → X → X) (a : K) (v : Option C)
    (k : K)
    → option_map c (get (with_row a (with_columns put v (get m a)) m) k) ≡ cond (eq_by_cmp R k a)
    (option_map c (with_columns put v (option_and_then out (option_map c (get m k))))) (option_map c (get m k))
columns_back {R = R} o x c out h m put a v k =
    map_get-with_row o x c m a (with_columns put v (get m a)) k
    ∙ go (eq_by_cmp R k a) refl
  where
    go : (b : Bool) → eq_by_cmp R k a ≡ b
        → cond b (option_map c (with_columns put v (get m a))) (option_map c (get m k)) ≡ cond b
        (option_map c (with_columns put v (option_and_then out (option_map c (get m k))))) (option_map c (get m k))
    go true e =
        ap (λ q. option_map c (with_columns put v (get m q))) (sym (is_same o x k a e))
        ∙ ap (λ q. option_map c (with_columns put v q)) (sym (out-map c out h (get m k)))
    go false e = refl

pub at_put_back : (b : Record) (r : Rows) (k : Key)
    → row_at (put_back b r) k ≡ cond (is_key k (record_key b)) (restore b (row_at r k)) (row_at r k)
at_put_back (InsertedHistory a v) r (key.History k) = map_get-with_row history_total exact_history row.History
    r.histories a v k
at_put_back (InsertedNewOrder a v) r (key.NewOrder k) = map_get-with_row new_order_total exact_new_order row.NewOrder
    r.new_orders a v k
at_put_back (InsertedOrder a v) r (key.Order k) = map_get-with_row order_total exact_order row.Order r.orders a v k
at_put_back (InsertedOrderLine a v) r (key.OrderLine k) = map_get-with_row order_line_total exact_order_line
    row.OrderLine r.order_lines a v k
at_put_back (UpdatedWarehouse a v) r (key.Warehouse k) = map_get-with_row warehouse_total exact_warehouse row.Warehouse
    r.warehouses a v k
at_put_back (UpdatedDistrict a v) r (key.District k) = map_get-with_row district_total exact_district row.District
    r.districts a v k
at_put_back (UpdatedCustomer a v) r (key.Customer k) = map_get-with_row customer_total exact_customer row.Customer
    r.customers a v k
at_put_back (UpdatedOrder a v) r (key.Order k) = map_get-with_row order_total exact_order row.Order r.orders a v k
at_put_back (UpdatedOrderLine a v) r (key.OrderLine k) = map_get-with_row order_line_total exact_order_line
    row.OrderLine r.order_lines a v k
at_put_back (UpdatedStock a v) r (key.Stock k) = map_get-with_row stock_total exact_stock row.Stock r.stocks a v k
at_put_back (DeletedNewOrder a v) r (key.NewOrder k) = map_get-with_row new_order_total exact_new_order row.NewOrder
    r.new_orders a v k
at_put_back (ChangedWarehouse a v) r (key.Warehouse k) = columns_back warehouse_total exact_warehouse row.Warehouse
    as_warehouse (λ _. refl) r.warehouses with_warehouse a v k
at_put_back (ChangedDistrict a v) r (key.District k) = columns_back district_total exact_district row.District
    as_district (λ _. refl) r.districts with_district a v k
at_put_back (ChangedCustomer a v) r (key.Customer k) = columns_back customer_total exact_customer row.Customer
    as_customer (λ _. refl) r.customers with_customer a v k
at_put_back (ChangedOrder a v) r (key.Order k) = columns_back order_total exact_order row.Order
    as_order (λ _. refl) r.orders with_order a v k
at_put_back (ChangedOrderLine a v) r (key.OrderLine k) = columns_back order_line_total exact_order_line row.OrderLine
    as_order_line (λ _. refl) r.order_lines with_order_line a v k
at_put_back (ChangedStock a v) r (key.Stock k) = columns_back stock_total exact_stock row.Stock
    as_stock (λ _. refl) r.stocks with_stock a v k
at_put_back _ r _ = refl

as_item : Row → Option Item
as_item (row.Item x) = Some x
as_item _ = None

pub un_warehouse : (a b : Option Warehouse) → option_map row.Warehouse a ≡ option_map row.Warehouse b → a ≡ b
un_warehouse = unmapped row.Warehouse as_warehouse (λ _. refl)

pub un_district : (a b : Option District) → option_map row.District a ≡ option_map row.District b → a ≡ b
un_district = unmapped row.District as_district (λ _. refl)

pub un_customer : (a b : Option Customer) → option_map row.Customer a ≡ option_map row.Customer b → a ≡ b
un_customer = unmapped row.Customer as_customer (λ _. refl)

pub un_history : (a b : Option History) → option_map row.History a ≡ option_map row.History b → a ≡ b
un_history = unmapped row.History as_history (λ _. refl)

pub un_new_order : (a b : Option NewOrder) → option_map row.NewOrder a ≡ option_map row.NewOrder b → a ≡ b
un_new_order = unmapped row.NewOrder as_new_order (λ _. refl)

pub un_order : (a b : Option Order) → option_map row.Order a ≡ option_map row.Order b → a ≡ b
un_order = unmapped row.Order as_order (λ _. refl)

pub un_order_line : (a b : Option OrderLine) → option_map row.OrderLine a ≡ option_map row.OrderLine b → a ≡ b
un_order_line = unmapped row.OrderLine as_order_line (λ _. refl)

pub un_item : (a b : Option Item) → option_map row.Item a ≡ option_map row.Item b → a ≡ b
unfolding as_item
un_item = unmapped row.Item as_item (λ _. refl)

pub un_stock : (a b : Option Stock) → option_map row.Stock a ≡ option_map row.Stock b → a ≡ b
un_stock = unmapped row.Stock as_stock (λ _. refl)

-- undo records
record_key_of : (c : Change) (v : Option Row) → record_key (record_of c v) ≡ key_of c
record_key_of (InsertHistory k x) v = refl
record_key_of (InsertNewOrder k x) v = refl
record_key_of (InsertOrder k x) v = refl
record_key_of (InsertOrderLine k x) v = refl
record_key_of (UpdateWarehouse k x) v = refl
record_key_of (UpdateDistrict k x) v = refl
record_key_of (UpdateCustomer k x) v = refl
record_key_of (UpdateOrder k x) v = refl
record_key_of (UpdateOrderLine k x) v = refl
record_key_of (UpdateStock k x) v = refl
record_key_of (DeleteNewOrder k) v = refl

before : (c : Change) (r : Rows) → restore (record_of c (row_at r (key_of c))) (row_of c) ≡ row_at r (key_of c)
before (InsertHistory k x) r = ap (option_map row.History)
    (out-map row.History as_history (λ _. refl) (get r.histories k))
before (InsertNewOrder k x) r = ap (option_map row.NewOrder)
    (out-map row.NewOrder as_new_order (λ _. refl) (get r.new_orders k))
before (InsertOrder k x) r = ap (option_map row.Order) (out-map row.Order as_order (λ _. refl) (get r.orders k))
before (InsertOrderLine k x) r = ap (option_map row.OrderLine)
    (out-map row.OrderLine as_order_line (λ _. refl) (get r.order_lines k))
before (UpdateWarehouse k x) r = ap (option_map row.Warehouse)
    (out-map row.Warehouse as_warehouse (λ _. refl) (get r.warehouses k))
before (UpdateDistrict k x) r = ap (option_map row.District)
    (out-map row.District as_district (λ _. refl) (get r.districts k))
before (UpdateCustomer k x) r = ap (option_map row.Customer)
    (out-map row.Customer as_customer (λ _. refl) (get r.customers k))
before (UpdateOrder k x) r = ap (option_map row.Order) (out-map row.Order as_order (λ _. refl) (get r.orders k))
before (UpdateOrderLine k x) r = ap (option_map row.OrderLine)
    (out-map row.OrderLine as_order_line (λ _. refl) (get r.order_lines k))
before (UpdateStock k x) r = ap (option_map row.Stock) (out-map row.Stock as_stock (λ _. refl) (get r.stocks k))
before (DeleteNewOrder k) r = ap (option_map row.NewOrder)
    (out-map row.NewOrder as_new_order (λ _. refl) (get r.new_orders k))

-- the record of an accepted insert has no row before, and that of an accepted update or delete has one
made : (c : Change) (r : Rows) → Accepts c r → IsRecord (record_of c (row_at r (key_of c)))
made (InsertHistory k x) r a = out-map row.History as_history (λ _. refl) (get r.histories k) ∙ a.0
made (InsertNewOrder k x) r a = out-map row.NewOrder as_new_order (λ _. refl) (get r.new_orders k) ∙ a.0
made (InsertOrder k x) r a = out-map row.Order as_order (λ _. refl) (get r.orders k) ∙ a.0
made (InsertOrderLine k x) r a = out-map row.OrderLine as_order_line (λ _. refl) (get r.order_lines k) ∙ a.0
made (UpdateWarehouse k x) r a = ap is_some (out-map row.Warehouse as_warehouse (λ _. refl) (get r.warehouses k)) ∙ a
made (UpdateDistrict k x) r a = ap is_some (out-map row.District as_district (λ _. refl) (get r.districts k)) ∙ a
made (UpdateCustomer k x) r a = ap is_some (out-map row.Customer as_customer (λ _. refl) (get r.customers k)) ∙ a
made (UpdateOrder k x) r a = ap is_some (out-map row.Order as_order (λ _. refl) (get r.orders k) ∙ a.1)
made (UpdateOrderLine k x) r a = ap is_some (out-map row.OrderLine as_order_line (λ _. refl) (get r.order_lines k))
    ∙ a.0
made (UpdateStock k x) r a = ap is_some (out-map row.Stock as_stock (λ _. refl) (get r.stocks k)) ∙ a
made (DeleteNewOrder k) r a = ap is_some (out-map row.NewOrder as_new_order (λ _. refl) (get r.new_orders k)) ∙ a

redoes : (c : Change) (v : Option Row) (r : Rows) → row_at r (key_of c) ≡ row_of c → redo (record_of c v) r ≡ Some c
redoes (InsertHistory k x) v r e = ap (option_map (InsertHistory k)) (un_history (get r.histories k) (Some x) e)
redoes (InsertNewOrder k x) v r e = ap (option_map (InsertNewOrder k)) (un_new_order (get r.new_orders k) (Some x) e)
redoes (InsertOrder k x) v r e = ap (option_map (InsertOrder k)) (un_order (get r.orders k) (Some x) e)
redoes (InsertOrderLine k x) v r e = ap (option_map (InsertOrderLine k))
    (un_order_line (get r.order_lines k) (Some x) e)
redoes (UpdateWarehouse k x) v r e = ap (option_map (UpdateWarehouse k)) (un_warehouse (get r.warehouses k) (Some x) e)
redoes (UpdateDistrict k x) v r e = ap (option_map (UpdateDistrict k)) (un_district (get r.districts k) (Some x) e)
redoes (UpdateCustomer k x) v r e = ap (option_map (UpdateCustomer k)) (un_customer (get r.customers k) (Some x) e)
redoes (UpdateOrder k x) v r e = ap (option_map (UpdateOrder k)) (un_order (get r.orders k) (Some x) e)
redoes (UpdateOrderLine k x) v r e = ap (option_map (UpdateOrderLine k))
    (un_order_line (get r.order_lines k) (Some x) e)
redoes (UpdateStock k x) v r e = ap (option_map (UpdateStock k)) (un_stock (get r.stocks k) (Some x) e)
redoes (DeleteNewOrder k) v r e = refl

-- by layout
pub in_layout_key : (l : Layout) (c : Change) (v : Option Row) → record_key (record_in l c v) ≡ key_of c
in_layout_key WholeRows c v = record_key_of c v
in_layout_key ChangedColumns (UpdateWarehouse k x) v = refl
in_layout_key ChangedColumns (UpdateDistrict k x) v = refl
in_layout_key ChangedColumns (UpdateCustomer k x) v = refl
in_layout_key ChangedColumns (UpdateOrder k x) v = refl
in_layout_key ChangedColumns (UpdateOrderLine k x) v = refl
in_layout_key ChangedColumns (UpdateStock k x) v = refl
in_layout_key ChangedColumns (InsertHistory k x) v = refl
in_layout_key ChangedColumns (InsertNewOrder k x) v = refl
in_layout_key ChangedColumns (InsertOrder k x) v = refl
in_layout_key ChangedColumns (InsertOrderLine k x) v = refl
in_layout_key ChangedColumns (DeleteNewOrder k) v = refl

-- the columns that an update changed, put back on its row
module _ {X C : Type 0} (c : X → Row) (out : Row → Option X) (h : (y : X) → out (c y) ≡ Some y) (old : X → X → C)
    (put : C → X → X) (back : (y x : X) → put (old y x) x ≡ y) where
  columns_restored : (o : Option X) (x : X)
      → option_map c (with_columns put (columns_before old out (option_map c o) x) (out (c x))) ≡ option_map c o
  columns_restored None x = refl
  columns_restored (Some y) x =
      ap (λ z. option_map c (with_columns put (option_map (λ w. old w x) z) (out (c x)))) (h y)
      ∙ ap (λ z. option_map c (with_columns put (Some (old y x)) z)) (h x)
      ∙ ap (λ z. Some (c z)) (back y x)

pub in_layout_before : (l : Layout) (c : Change) (r : Rows)
    → restore (record_in l c (row_at r (key_of c))) (row_of c) ≡ row_at r (key_of c)
in_layout_before WholeRows c r = before c r
in_layout_before ChangedColumns (UpdateWarehouse k x) r =
    columns_restored row.Warehouse as_warehouse (λ _. refl) warehouse_before
    with_warehouse warehouse_back (get r.warehouses k) x
in_layout_before ChangedColumns (UpdateDistrict k x) r =
    columns_restored row.District as_district (λ _. refl) district_before
    with_district district_back (get r.districts k) x
in_layout_before ChangedColumns (UpdateCustomer k x) r =
    columns_restored row.Customer as_customer (λ _. refl) customer_before
    with_customer customer_back (get r.customers k) x
in_layout_before ChangedColumns (UpdateOrder k x) r = columns_restored row.Order as_order (λ _. refl) order_before
    with_order order_back (get r.orders k) x
in_layout_before ChangedColumns (UpdateOrderLine k x) r =
    columns_restored row.OrderLine as_order_line (λ _. refl) order_line_before
    with_order_line order_line_back (get r.order_lines k) x
in_layout_before ChangedColumns (UpdateStock k x) r = columns_restored row.Stock as_stock (λ _. refl) stock_before
    with_stock stock_back (get r.stocks k) x
in_layout_before ChangedColumns (InsertHistory k x) r = before (InsertHistory k x) r
in_layout_before ChangedColumns (InsertNewOrder k x) r = before (InsertNewOrder k x) r
in_layout_before ChangedColumns (InsertOrder k x) r = before (InsertOrder k x) r
in_layout_before ChangedColumns (InsertOrderLine k x) r = before (InsertOrderLine k x) r
in_layout_before ChangedColumns (DeleteNewOrder k) r = before (DeleteNewOrder k) r

columns_there : {X C : Type 0} (old : X → X → C) (o : Option X) (x : X) → IsSome o
    → IsSome (option_map (λ y. old y x) o)
columns_there old (Some y) x h = refl
columns_there old None x h = h

pub in_layout_made : (l : Layout) (c : Change) (r : Rows) → Accepts c r → IsRecord (record_in l c (row_at r (key_of c)))
in_layout_made WholeRows c r a = made c r a
in_layout_made ChangedColumns (UpdateWarehouse k x) r a =
    columns_there warehouse_before (option_and_then as_warehouse (option_map row.Warehouse (get r.warehouses k))) x
    (made (UpdateWarehouse k x) r a)
in_layout_made ChangedColumns (UpdateDistrict k x) r a =
    columns_there district_before (option_and_then as_district (option_map row.District (get r.districts k))) x
    (made (UpdateDistrict k x) r a)
in_layout_made ChangedColumns (UpdateCustomer k x) r a =
    columns_there customer_before (option_and_then as_customer (option_map row.Customer (get r.customers k))) x
    (made (UpdateCustomer k x) r a)
in_layout_made ChangedColumns (UpdateOrder k x) r a =
    columns_there order_before (option_and_then as_order (option_map row.Order (get r.orders k))) x
    (made (UpdateOrder k x) r a)
in_layout_made ChangedColumns (UpdateOrderLine k x) r a =
    columns_there order_line_before (option_and_then as_order_line (option_map row.OrderLine (get r.order_lines k))) x
    (made (UpdateOrderLine k x) r a)
in_layout_made ChangedColumns (UpdateStock k x) r a =
    columns_there stock_before (option_and_then as_stock (option_map row.Stock (get r.stocks k))) x
    (made (UpdateStock k x) r a)
in_layout_made ChangedColumns (InsertHistory k x) r a = made (InsertHistory k x) r a
in_layout_made ChangedColumns (InsertNewOrder k x) r a = made (InsertNewOrder k x) r a
in_layout_made ChangedColumns (InsertOrder k x) r a = made (InsertOrder k x) r a
in_layout_made ChangedColumns (InsertOrderLine k x) r a = made (InsertOrderLine k x) r a
in_layout_made ChangedColumns (DeleteNewOrder k) r a = made (DeleteNewOrder k) r a

pub in_layout_redoes : (l : Layout) (c : Change) (v : Option Row) (r : Rows) → row_at r (key_of c) ≡ row_of c
    → redo (record_in l c v) r ≡ Some c
in_layout_redoes WholeRows c v r e = redoes c v r e
in_layout_redoes ChangedColumns (UpdateWarehouse k x) v r e = redoes (UpdateWarehouse k x) v r e
in_layout_redoes ChangedColumns (UpdateDistrict k x) v r e = redoes (UpdateDistrict k x) v r e
in_layout_redoes ChangedColumns (UpdateCustomer k x) v r e = redoes (UpdateCustomer k x) v r e
in_layout_redoes ChangedColumns (UpdateOrder k x) v r e = redoes (UpdateOrder k x) v r e
in_layout_redoes ChangedColumns (UpdateOrderLine k x) v r e = redoes (UpdateOrderLine k x) v r e
in_layout_redoes ChangedColumns (UpdateStock k x) v r e = redoes (UpdateStock k x) v r e
in_layout_redoes ChangedColumns (InsertHistory k x) v r e = redoes (InsertHistory k x) v r e
in_layout_redoes ChangedColumns (InsertNewOrder k x) v r e = redoes (InsertNewOrder k x) v r e
in_layout_redoes ChangedColumns (InsertOrder k x) v r e = redoes (InsertOrder k x) v r e
in_layout_redoes ChangedColumns (InsertOrderLine k x) v r e = redoes (InsertOrderLine k x) v r e
in_layout_redoes ChangedColumns (DeleteNewOrder k) v r e = redoes (DeleteNewOrder k) v r e

-- two tables that answer alike at each key are equal
pub same_rows : (r s : Rows) → ((k : Key) → row_at r k ≡ row_at s k) → r ≡ s
same_rows r s h =
    let a : r.warehouses ≡ s.warehouses = same warehouse_total exact_warehouse _ _
    (λ k. un_warehouse _ _ (h (key.Warehouse k))) in
    let b : r.districts ≡ s.districts = same district_total exact_district _ _
    (λ k. un_district _ _ (h (key.District k))) in
    let c : r.customers ≡ s.customers = same customer_total exact_customer _ _
    (λ k. un_customer _ _ (h (key.Customer k))) in
    let d : r.histories ≡ s.histories = same history_total exact_history _ _
    (λ k. un_history _ _ (h (key.History k))) in
    let e : r.new_orders ≡ s.new_orders = same new_order_total exact_new_order _ _
    (λ k. un_new_order _ _ (h (key.NewOrder k))) in
    let f : r.orders ≡ s.orders = same order_total exact_order _ _ (λ k. un_order _ _ (h (key.Order k))) in
    let g : r.order_lines ≡ s.order_lines = same order_line_total exact_order_line _ _
    (λ k. un_order_line _ _ (h (key.OrderLine k))) in
    let j : r.items ≡ s.items = same item_total exact_item _ _ (λ k. un_item _ _ (h (key.Item k))) in
    let l : r.stocks ≡ s.stocks = same stock_total exact_stock _ _ (λ k. un_stock _ _ (h (key.Stock k))) in
    λ i. record {
      warehouses = a i;
      districts = b i;
      customers = c i;
      histories = d i;
      new_orders = e i;
      orders = f i;
      order_lines = g i;
      items = j i;
      stocks = l i;
    }

-- a change and its undo are the identity
pub undone : (l : Layout) (c : Change) (r : Rows) → put_back (record_in l c (row_at r (key_of c))) (rows_after c r) ≡ r
undone l c r = same_rows _ _ (λ k.
    at_put_back b (rows_after c r) k
    ∙ ap (λ (j : Key). cond (is_key k j) (restore b (row_at (rows_after c r) k)) (row_at (rows_after c r) k))
    (in_layout_key l c (row_at r (key_of c)))
    ∙ ap (λ (v : Option Row). cond (is_key k (key_of c)) (restore b v) v) (at_changed c r k)
    ∙ by_key k (is_key k (key_of c)) refl)
  where
    b : Record
    b = record_in l c (row_at r (key_of c))

    by_key : (k : Key) (t : Bool) → is_key k (key_of c) ≡ t
        → cond t (restore b (cond t (row_of c) (row_at r k))) (cond t (row_of c) (row_at r k)) ≡ row_at r k
    by_key k true e = in_layout_before l c r ∙ ap (row_at r) (sym (key_true k (key_of c) e))
    by_key k false e = refl
