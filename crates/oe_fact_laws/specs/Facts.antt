-- The facts of a table's rows: of each row the columns that an audit of files keeps.
use Rattle.std.specs.Prelude.{pos, is_some, List, map}
use Rattle.std.specs.List.Sorted.{IsPermutation}
use Rattle.std.specs.declared.cmp.Ordering.{Ordering}
use Rattle.std.specs.FinMap.{FinMap, entries}
use Rattle.oe_rows.specs.declared.keys.WarehouseKey.{WarehouseKey}
use Rattle.oe_rows.specs.declared.keys.DistrictKey.{DistrictKey}
use Rattle.oe_rows.specs.declared.keys.CustomerKey.{CustomerKey}
use Rattle.oe_rows.specs.declared.keys.HistoryKey.{HistoryKey}
use Rattle.oe_rows.specs.declared.keys.NewOrderKey.{NewOrderKey}
use Rattle.oe_rows.specs.declared.keys.OrderKey.{OrderKey}
use Rattle.oe_rows.specs.declared.keys.OrderLineKey.{OrderLineKey}
use Rattle.oe_rows.specs.declared.keys.ItemKey.{ItemKey}
use Rattle.oe_rows.specs.declared.keys.StockKey.{StockKey}
use Rattle.oe_rows.specs.declared.warehouses.Warehouse.{Warehouse}
use Rattle.oe_rows.specs.declared.districts.District.{District}
use Rattle.oe_rows.specs.declared.customers.Customer.{Customer}
use Rattle.oe_rows.specs.declared.histories.History.{History}
use Rattle.oe_rows.specs.declared.orders.NewOrder.{NewOrder}
use Rattle.oe_rows.specs.declared.orders.Order.{Order}
use Rattle.oe_rows.specs.declared.orders.OrderLine.{OrderLine}
use Rattle.oe_rows.specs.declared.items.Item.{Item}
use Rattle.oe_rows.specs.declared.items.Stock.{Stock}
use Rattle.oe_model.specs.Keys.{order_of_line, order_of_new_order}
use Rattle.oe_model.specs.Rows.{Rows}
use Rattle.oe_facts.specs.declared.keys.DistrictId.{DistrictId}
use Rattle.oe_facts.specs.declared.keys.CustomerId.{CustomerId}
use Rattle.oe_facts.specs.declared.keys.OrderId.{OrderId}
use Rattle.oe_facts.specs.declared.keys.StockId.{StockId}
use Rattle.oe_facts.specs.declared.facts.WarehouseFact.{WarehouseFact}
use Rattle.oe_facts.specs.declared.facts.DistrictFact.{DistrictFact}
use Rattle.oe_facts.specs.declared.facts.CustomerFact.{CustomerFact}
use Rattle.oe_facts.specs.declared.facts.HistoryFact.{HistoryFact}
use Rattle.oe_facts.specs.declared.facts.NewOrderFact.{NewOrderFact}
use Rattle.oe_facts.specs.declared.facts.OrderFact.{OrderFact}
use Rattle.oe_facts.specs.declared.facts.OrderLineFact.{OrderLineFact}
use Rattle.oe_facts.specs.declared.facts.ItemFact.{ItemFact}
use Rattle.oe_facts.specs.declared.facts.StockFact.{StockFact}

-- keys
abbrev pub district_id : DistrictKey → DistrictId
district_id k = record { warehouse = k.warehouse; district = k.district }

abbrev pub customer_id : CustomerKey → CustomerId
customer_id k = record { warehouse = k.warehouse; district = k.district; customer = k.customer }

abbrev pub order_id : OrderKey → OrderId
order_id k = record { warehouse = k.warehouse; district = k.district; order = k.order }

abbrev pub stock_id : StockKey → StockId
stock_id k = record { warehouse = k.warehouse; item = k.item }

-- rows; a null is an O_CARRIER_ID or an OL_DELIVERY_D that is none
abbrev pub warehouse_fact : WarehouseKey → Warehouse → WarehouseFact
warehouse_fact k x = record { warehouse = k.warehouse; ytd = pos x.ytd }

abbrev pub district_fact : DistrictKey → District → DistrictFact
district_fact k x = record { key = district_id k; ytd = pos x.ytd; next_order = x.next_order }

abbrev pub customer_fact : CustomerKey → Customer → CustomerFact
customer_fact k x = record {
  key = customer_id k;
  balance = x.account.balance;
  ytd_payment = pos x.account.ytd_payment;
  payments = x.account.payment_count;
  deliveries = x.account.delivery_count;
}

abbrev pub history_fact : HistoryKey → History → HistoryFact
history_fact k x = record {
  customer = customer_id x.customer;
  district = district_id x.district;
  amount = pos x.amount;
}

abbrev pub new_order_fact : NewOrderKey → NewOrder → NewOrderFact
new_order_fact k x = record { key = order_id (order_of_new_order k) }

abbrev pub order_fact : OrderKey → Order → OrderFact
order_fact k x = record {
  key = order_id k;
  customer = x.customer;
  is_delivered = is_some x.carrier;
  line_count = x.line_count;
  is_all_local = x.all_local;
}

abbrev pub line_fact : OrderLineKey → OrderLine → OrderLineFact
line_fact l y = record {
  order = order_id (order_of_line l);
  number = l.number;
  item = y.item;
  supply = y.supply;
  is_delivered = is_some y.delivery;
  quantity = y.quantity;
  amount = pos y.amount;
}

abbrev pub item_fact : ItemKey → Item → ItemFact
item_fact k x = record { item = k.item }

abbrev pub stock_fact : StockKey → Stock → StockFact
stock_fact k x = record {
  key = stock_id k;
  quantity = pos x.quantity;
  ytd = x.ytd;
  orders = x.order_count;
  remotes = x.remote_count;
}

-- these are the facts of a table's rows, in any order
abbrev pub AreOf : {K X F : Type 0} {R : K → K → Ordering} → (K → X → F) → FinMap R X → List F → Type 0
AreOf fact m facts = IsPermutation (map (λ e. fact e.0 e.1) (entries m)) facts

-- the facts of the nine tables
pub record Facts : Type 0 where
  pub warehouses : List WarehouseFact
  pub districts : List DistrictFact
  pub customers : List CustomerFact
  pub histories : List HistoryFact
  pub new_orders : List NewOrderFact
  pub orders : List OrderFact
  pub order_lines : List OrderLineFact
  pub items : List ItemFact
  pub stocks : List StockFact

-- these are the facts of these rows
pub record AreFactsOf (f : Facts) (r : Rows) : Type 0 where
  pub warehouses : AreOf warehouse_fact r.warehouses f.warehouses
  pub districts : AreOf district_fact r.districts f.districts
  pub customers : AreOf customer_fact r.customers f.customers
  pub histories : AreOf history_fact r.histories f.histories
  pub new_orders : AreOf new_order_fact r.new_orders f.new_orders
  pub orders : AreOf order_fact r.orders f.orders
  pub order_lines : AreOf line_fact r.order_lines f.order_lines
  pub items : AreOf item_fact r.items f.items
  pub stocks : AreOf stock_fact r.stocks f.stocks
