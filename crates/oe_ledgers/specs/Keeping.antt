-- What the tallies of a table have of its facts: at each key the sum of the facts that have it.
use Rattle.std.specs.Prelude.{ℕ, ◌-◌, ◌*◌, ◌/◌, Bool, ◌&&◌, cond, nat_eq, nat_lt, ℤ, pos, List, [], ◌∷◌, ◌++◌, map}
use Rattle.oe_tally.specs.Tallies.{SameTotals}
use Rattle.oe_tally.specs.Counting.{counts_joined}
use Rattle.oe_tally.specs.declared.count.Count.{Count}
use Rattle.oe_facts.specs.declared.keys.DistrictId.{DistrictId}
use Rattle.oe_facts.specs.declared.keys.CustomerId.{CustomerId}
use Rattle.oe_facts.specs.declared.keys.OrderId.{OrderId}
use Rattle.oe_facts.specs.declared.keys.StockId.{StockId}
use Rattle.oe_facts.specs.declared.facts.WarehouseFact.{WarehouseFact}
use Rattle.oe_facts.specs.declared.facts.DistrictFact.{DistrictFact}
use Rattle.oe_facts.specs.declared.facts.CustomerFact.{CustomerFact}
use Rattle.oe_facts.specs.declared.facts.HistoryFact.{HistoryFact}
use Rattle.oe_facts.specs.declared.facts.NewOrderFact.{NewOrderFact}
use Rattle.oe_facts.specs.declared.facts.OrderFact.{OrderFact}
use Rattle.oe_facts.specs.declared.facts.OrderLineFact.{OrderLineFact}
use Rattle.oe_facts.specs.declared.facts.ItemFact.{ItemFact}
use Rattle.oe_facts.specs.declared.facts.StockFact.{StockFact}
use Rattle.oe_ledgers.specs.declared.takings.Takings.{Takings}
use Rattle.oe_ledgers.specs.declared.warehouses.WarehouseSums.{WarehouseSums}
use Rattle.oe_ledgers.specs.declared.districts.DistrictSums.{DistrictSums}
use Rattle.oe_ledgers.specs.declared.customers.CustomerSums.{CustomerSums}
use Rattle.oe_ledgers.specs.declared.new_orders.NewOrderSums.{NewOrderSums}
use Rattle.oe_ledgers.specs.declared.orders.OrderSums.{OrderSums}
use Rattle.oe_ledgers.specs.declared.orders.DistrictOrders.{DistrictOrders}
use Rattle.oe_ledgers.specs.declared.orders.CustomerOrders.{CustomerOrders}
use Rattle.oe_ledgers.specs.declared.order_lines.LineSums.{LineSums}
use Rattle.oe_ledgers.specs.declared.order_lines.SupplySums.{SupplySums}
use Rattle.oe_ledgers.specs.declared.stocks.StockSums.{StockSums}
use Rattle.oe_ledgers.specs.declared.warehouses.Warehouses.{Warehouses}
use Rattle.oe_ledgers.specs.declared.districts.Districts.{Districts}
use Rattle.oe_ledgers.specs.declared.customers.Customers.{Customers}
use Rattle.oe_ledgers.specs.declared.histories.Histories.{Histories}
use Rattle.oe_ledgers.specs.declared.new_orders.NewOrders.{NewOrders}
use Rattle.oe_ledgers.specs.declared.orders.Orders.{Orders}
use Rattle.oe_ledgers.specs.declared.order_lines.OrderLines.{OrderLines}
use Rattle.oe_ledgers.specs.declared.items.Items.{Items}
use Rattle.oe_ledgers.specs.declared.stocks.Stocks.{Stocks}
use Rattle.oe_ledgers.specs.Keys.{same_district, same_customer, same_order, same_stock}
use Rattle.oe_ledgers.specs.Keys.{district_of_customer, district_of_order, customer_of_order, stock_of_line}
use Rattle.oe_ledgers.specs.Sums.{takings_joined, warehouses_joined, districts_joined, customers_joined}
use Rattle.oe_ledgers.specs.Sums.{new_orders_joined, orders_joined, district_orders_joined, customer_orders_joined}
use Rattle.oe_ledgers.specs.Sums.{lines_joined, supplies_joined, stocks_joined}

-- a tally has the sums of the entries that facts make
abbrev pub Keeps : {F K V : Type 0} → (K → K → Bool) → (V → V → V) → (F → K × V) → List F → List (K × V) → Type 0
Keeps same join entry facts tally = SameTotals same join (map entry facts) tally

-- what is kept is now of one fact more, or of the same facts
abbrev pub Takes : {F L : Type 0} → (List F → L → Type 0) → L → L → F → Type 0
Takes {F} IsKept old new fact = (facts : List F) → IsKept facts old → IsKept (facts ++ fact ∷ []) new

abbrev pub Stays : {F L : Type 0} → (List F → L → Type 0) → L → L → Type 0
Stays {F} IsKept old new = (facts : List F) → IsKept facts old → IsKept facts new

-- what an amount brings
abbrev pub takings_of : ℤ → Takings
takings_of amount = record { amount = amount; rows = 1 }

abbrev pub warehouse_sums : WarehouseFact → WarehouseSums
warehouse_sums f = record { ytd = f.ytd; rows = 1 }

abbrev pub district_sums : DistrictFact → DistrictSums
district_sums f = record { ytd = f.ytd; next_order = f.next_order; rows = 1 }

abbrev pub customer_sums : CustomerFact → CustomerSums
customer_sums f = record
    { balance = f.balance; ytd_payment = f.ytd_payment; payments = f.payments; deliveries = f.deliveries; rows = 1 }

abbrev pub new_order_sums : NewOrderFact → NewOrderSums
new_order_sums f = record { least = f.key.order; greatest = f.key.order; rows = 1 }

abbrev pub order_sums : OrderFact → OrderSums
order_sums f = record {
  customer = f.customer;
  line_count = f.line_count;
  rows = 1;
  is_delivered = f.is_delivered;
  is_all_local =
      f.is_all_local;
}

abbrev pub order_sums_of_district : OrderFact → DistrictOrders
order_sums_of_district f = record { lines = f.line_count; greatest = f.key.order; rows = 1 }

abbrev pub stock_sums : StockFact → StockSums
stock_sums f = record { quantity = f.quantity; ytd = f.ytd; orders = f.orders; remotes = f.remotes; rows = 1 }

-- what an ORDER-LINE row counts for its order: OL_AMOUNT where it has an OL_DELIVERY_D
abbrev pub line_sums : OrderLineFact → LineSums
line_sums f = record {
  amount = cond f.is_delivered f.amount (pos 0);
  rows = 1;
  delivered = cond f.is_delivered 1 0;
  remotes = cond (nat_eq f.supply f.order.warehouse) 0 1;
}

-- of the orders that the population had in a district, those that it had delivered: not the last three tenths
abbrev pub delivered_of : ℕ → ℕ
delivered_of initial = initial - initial * 3 / 10

-- what an ORDER row counts for its customer
abbrev pub order_sums_of_customer : ℕ → OrderFact → CustomerOrders
order_sums_of_customer initial f = record {
  rows = 1;
  deliveries = cond (f.is_delivered && nat_lt (delivered_of initial) f.key.order) 1 0;
}

-- what it counts for its STOCK row: one row, and no more where the population had its order
abbrev pub supply_sums : ℕ → OrderLineFact → SupplySums
supply_sums initial f = record {
  quantity = cond (nat_lt initial f.order.order) f.quantity 0;
  rows = 1;
  orders = cond (nat_lt initial f.order.order) 1 0;
  remotes = cond (nat_lt initial f.order.order) (cond (nat_eq f.supply f.order.warehouse) 0 1) 0;
}

-- what a WAREHOUSE row brings to its W_ID
abbrev pub warehouse_entry : WarehouseFact → ℕ × WarehouseSums
warehouse_entry f = (f.warehouse, warehouse_sums f)

pub record KeepsWarehouses (facts : List WarehouseFact) (kept : Warehouses) : Type 0 where
  pub by_warehouse : Keeps nat_eq warehouses_joined warehouse_entry facts kept.by_warehouse

-- what a DISTRICT row brings to its key
abbrev pub district_entry : DistrictFact → DistrictId × DistrictSums
district_entry f = (f.key, district_sums f)

-- what a DISTRICT row brings to its D_W_ID
abbrev pub district_ytd_entry : DistrictFact → ℕ × Takings
district_ytd_entry f = (f.key.warehouse, takings_of f.ytd)

pub record KeepsDistricts (facts : List DistrictFact) (kept : Districts) : Type 0 where
  pub by_district : Keeps same_district districts_joined district_entry facts kept.by_district
  pub by_warehouse : Keeps nat_eq takings_joined district_ytd_entry facts kept.by_warehouse

-- what a CUSTOMER row brings to its key
abbrev pub customer_entry : CustomerFact → CustomerId × CustomerSums
customer_entry f = (f.key, customer_sums f)

-- what a CUSTOMER row brings to its district
abbrev pub customer_district_entry : CustomerFact → DistrictId × Count
customer_district_entry f = (district_of_customer f.key, record { rows = 1 })

pub record KeepsCustomers (facts : List CustomerFact) (kept : Customers) : Type 0 where
  pub by_customer : Keeps same_customer customers_joined customer_entry facts kept.by_customer
  pub by_district : Keeps same_district counts_joined customer_district_entry facts kept.by_district

-- what a HISTORY row brings to its customer
abbrev pub customer_payment_entry : HistoryFact → CustomerId × Takings
customer_payment_entry f = (f.customer, takings_of f.amount)

-- what a HISTORY row brings to its district
abbrev pub district_payment_entry : HistoryFact → DistrictId × Takings
district_payment_entry f = (f.district, takings_of f.amount)

-- what a HISTORY row brings to its H_W_ID
abbrev pub warehouse_payment_entry : HistoryFact → ℕ × Takings
warehouse_payment_entry f = (f.district.warehouse, takings_of f.amount)

pub record KeepsHistories (facts : List HistoryFact) (kept : Histories) : Type 0 where
  pub by_customer : Keeps same_customer takings_joined customer_payment_entry facts kept.by_customer
  pub by_district : Keeps same_district takings_joined district_payment_entry facts kept.by_district
  pub by_warehouse : Keeps nat_eq takings_joined warehouse_payment_entry facts kept.by_warehouse

-- what a NEW-ORDER row brings to its key
abbrev pub new_order_entry : NewOrderFact → OrderId × Count
new_order_entry f = (f.key, record { rows = 1 })

-- what a NEW-ORDER row brings to its district
abbrev pub new_order_district_entry : NewOrderFact → DistrictId × NewOrderSums
new_order_district_entry f = (district_of_order f.key, new_order_sums f)

pub record KeepsNewOrders (facts : List NewOrderFact) (kept : NewOrders) : Type 0 where
  pub by_order : Keeps same_order counts_joined new_order_entry facts kept.by_order
  pub by_district : Keeps same_district new_orders_joined new_order_district_entry facts kept.by_district

-- what an ORDER row brings to its key
abbrev pub order_entry : OrderFact → OrderId × OrderSums
order_entry f = (f.key, order_sums f)

-- what an ORDER row brings to its district
abbrev pub order_district_entry : OrderFact → DistrictId × DistrictOrders
order_district_entry f = (district_of_order f.key, order_sums_of_district f)

-- what an ORDER row brings to its customer
abbrev pub order_customer_entry : ℕ → OrderFact → CustomerId × CustomerOrders
order_customer_entry initial f = (customer_of_order f, order_sums_of_customer initial f)

pub record KeepsOrders (facts : List OrderFact) (kept : Orders) : Type 0 where
  pub by_order : Keeps same_order orders_joined order_entry facts kept.by_order
  pub by_district : Keeps same_district district_orders_joined order_district_entry facts kept.by_district
  pub by_customer : Keeps same_customer customer_orders_joined (order_customer_entry kept.initial) facts
      kept.by_customer

-- what an ORDER-LINE row brings to its order
abbrev pub line_entry : OrderLineFact → OrderId × LineSums
line_entry f = (f.order, line_sums f)

-- what an ORDER-LINE row brings to its district
abbrev pub line_district_entry : OrderLineFact → DistrictId × Count
line_district_entry f = (district_of_order f.order, record { rows = 1 })

-- what an ORDER-LINE row brings to the STOCK row that supplies it
abbrev pub supply_entry : ℕ → OrderLineFact → StockId × SupplySums
supply_entry initial f = (stock_of_line f, supply_sums initial f)

pub record KeepsOrderLines (facts : List OrderLineFact) (kept : OrderLines) : Type 0 where
  pub by_order : Keeps same_order lines_joined line_entry facts kept.by_order
  pub by_district : Keeps same_district counts_joined line_district_entry facts kept.by_district
  pub by_stock : Keeps same_stock supplies_joined (supply_entry kept.initial) facts kept.by_stock

-- what an ITEM row brings to its I_ID
abbrev pub item_entry : ItemFact → ℕ × Count
item_entry f = (f.item, record { rows = 1 })

pub record KeepsItems (facts : List ItemFact) (kept : Items) : Type 0 where
  pub by_item : Keeps nat_eq counts_joined item_entry facts kept.by_item

-- what a STOCK row brings to its key
abbrev pub stock_entry : StockFact → StockId × StockSums
stock_entry f = (f.key, stock_sums f)

-- what a STOCK row brings to its S_W_ID
abbrev pub stock_warehouse_entry : StockFact → ℕ × Count
stock_warehouse_entry f = (f.key.warehouse, record { rows = 1 })

-- what a STOCK row brings to its S_I_ID
abbrev pub stock_item_entry : StockFact → ℕ × Count
stock_item_entry f = (f.key.item, record { rows = 1 })

pub record KeepsStocks (facts : List StockFact) (kept : Stocks) : Type 0 where
  pub by_stock : Keeps same_stock stocks_joined stock_entry facts kept.by_stock
  pub by_warehouse : Keeps nat_eq counts_joined stock_warehouse_entry facts kept.by_warehouse
  pub by_item : Keeps nat_eq counts_joined stock_item_entry facts kept.by_item
