-- Sums may be put together in any order.
use Rattle.std.specs.Prelude.{◌≡◌}
use Rattle.oe_ledgers.specs.declared.takings.Takings.{Takings}
use Rattle.oe_ledgers.specs.declared.warehouses.WarehouseSums.{WarehouseSums}
use Rattle.oe_ledgers.specs.declared.districts.DistrictSums.{DistrictSums}
use Rattle.oe_ledgers.specs.declared.customers.CustomerSums.{CustomerSums}
use Rattle.oe_ledgers.specs.declared.new_orders.NewOrderSums.{NewOrderSums}
use Rattle.oe_ledgers.specs.declared.orders.OrderSums.{OrderSums}
use Rattle.oe_ledgers.specs.declared.orders.DistrictOrders.{DistrictOrders}
use Rattle.oe_ledgers.specs.declared.orders.CustomerOrders.{CustomerOrders}
use Rattle.oe_ledgers.specs.declared.order_lines.LineSums.{LineSums}
use Rattle.oe_ledgers.specs.declared.order_lines.SupplySums.{SupplySums}
use Rattle.oe_ledgers.specs.declared.stocks.StockSums.{StockSums}
use Rattle.oe_ledgers.specs.ColumnLaws.{capped_associative, capped_commutative, max_associative, max_commutative}
use Rattle.oe_ledgers.specs.ColumnLaws.{min_associative, min_commutative}
use Rattle.oe_ledgers.specs.ColumnLaws.{int_max_associative, int_max_commutative, wrapped_associative}
use Rattle.oe_ledgers.specs.ColumnLaws.{wrapped_commutative, either_associative, either_commutative}
use Rattle.oe_ledgers.specs.Sums.{most, greatest_sum}
use Rattle.oe_ledgers.specs.Sums.{takings_joined, warehouses_joined, districts_joined, customers_joined}
use Rattle.oe_ledgers.specs.Sums.{new_orders_joined, orders_joined, district_orders_joined, customer_orders_joined}
use Rattle.oe_ledgers.specs.Sums.{lines_joined, supplies_joined, stocks_joined}

pub takings_associative : (a b c : Takings)
    → takings_joined (takings_joined a b) c ≡ takings_joined a (takings_joined b c)
takings_associative a b c = λ i. record {
  amount = wrapped_associative a.amount b.amount c.amount i;
  rows = capped_associative most a.rows b.rows c.rows i;
}

pub takings_commutative : (a b : Takings) → takings_joined a b ≡ takings_joined b a
takings_commutative a b = λ i. record {
  amount = wrapped_commutative a.amount b.amount i;
  rows = capped_commutative most a.rows b.rows i;
}

pub warehouses_associative : (a b c : WarehouseSums)
    → warehouses_joined (warehouses_joined a b) c ≡ warehouses_joined a (warehouses_joined b c)
warehouses_associative a b c = λ i. record {
  ytd = int_max_associative a.ytd b.ytd c.ytd i;
  rows = capped_associative most a.rows b.rows c.rows i;
}

pub warehouses_commutative : (a b : WarehouseSums) → warehouses_joined a b ≡ warehouses_joined b a
warehouses_commutative a b = λ i. record {
  ytd = int_max_commutative a.ytd b.ytd i;
  rows = capped_commutative most a.rows b.rows i;
}

pub districts_associative : (a b c : DistrictSums)
    → districts_joined (districts_joined a b) c ≡ districts_joined a (districts_joined b c)
districts_associative a b c = λ i. record {
  ytd = int_max_associative a.ytd b.ytd c.ytd i;
  next_order = max_associative a.next_order b.next_order c.next_order i;
  rows = capped_associative most a.rows b.rows c.rows i;
}

pub districts_commutative : (a b : DistrictSums) → districts_joined a b ≡ districts_joined b a
districts_commutative a b = λ i. record {
  ytd = int_max_commutative a.ytd b.ytd i;
  next_order = max_commutative a.next_order b.next_order i;
  rows = capped_commutative most a.rows b.rows i;
}

pub customers_associative : (a b c : CustomerSums)
    → customers_joined (customers_joined a b) c ≡ customers_joined a (customers_joined b c)
customers_associative a b c = λ i. record {
  balance = int_max_associative a.balance b.balance c.balance i;
  ytd_payment = int_max_associative a.ytd_payment b.ytd_payment c.ytd_payment i;
  payments = max_associative a.payments b.payments c.payments i;
  deliveries = max_associative a.deliveries b.deliveries c.deliveries i;
  rows = capped_associative most a.rows b.rows c.rows i;
}

pub customers_commutative : (a b : CustomerSums) → customers_joined a b ≡ customers_joined b a
customers_commutative a b = λ i. record {
  balance = int_max_commutative a.balance b.balance i;
  ytd_payment = int_max_commutative a.ytd_payment b.ytd_payment i;
  payments = max_commutative a.payments b.payments i;
  deliveries = max_commutative a.deliveries b.deliveries i;
  rows = capped_commutative most a.rows b.rows i;
}

pub new_orders_associative : (a b c : NewOrderSums)
    → new_orders_joined (new_orders_joined a b) c ≡ new_orders_joined a (new_orders_joined b c)
new_orders_associative a b c = λ i. record {
  least = min_associative a.least b.least c.least i;
  greatest = max_associative a.greatest b.greatest c.greatest i;
  rows = capped_associative most a.rows b.rows c.rows i;
}

pub new_orders_commutative : (a b : NewOrderSums) → new_orders_joined a b ≡ new_orders_joined b a
new_orders_commutative a b = λ i. record {
  least = min_commutative a.least b.least i;
  greatest = max_commutative a.greatest b.greatest i;
  rows = capped_commutative most a.rows b.rows i;
}

pub orders_associative : (a b c : OrderSums)
    → orders_joined (orders_joined a b) c ≡ orders_joined a (orders_joined b c)
orders_associative a b c = λ i. record {
  customer = max_associative a.customer b.customer c.customer i;
  line_count = max_associative a.line_count b.line_count c.line_count i;
  rows = capped_associative most a.rows b.rows c.rows i;
  is_delivered = either_associative a.is_delivered b.is_delivered c.is_delivered i;
  is_all_local = either_associative a.is_all_local b.is_all_local c.is_all_local i;
}

pub orders_commutative : (a b : OrderSums) → orders_joined a b ≡ orders_joined b a
orders_commutative a b = λ i. record {
  customer = max_commutative a.customer b.customer i;
  line_count = max_commutative a.line_count b.line_count i;
  rows = capped_commutative most a.rows b.rows i;
  is_delivered = either_commutative a.is_delivered b.is_delivered i;
  is_all_local = either_commutative a.is_all_local b.is_all_local i;
}

pub district_orders_associative : (a b c : DistrictOrders)
    → district_orders_joined (district_orders_joined a b) c ≡ district_orders_joined a (district_orders_joined b c)
district_orders_associative a b c = λ i. record {
  lines = capped_associative greatest_sum a.lines b.lines c.lines i;
  greatest = max_associative a.greatest b.greatest c.greatest i;
  rows = capped_associative most a.rows b.rows c.rows i;
}

pub district_orders_commutative : (a b : DistrictOrders) → district_orders_joined a b ≡ district_orders_joined b a
district_orders_commutative a b = λ i. record {
  lines = capped_commutative greatest_sum a.lines b.lines i;
  greatest = max_commutative a.greatest b.greatest i;
  rows = capped_commutative most a.rows b.rows i;
}

pub customer_orders_associative : (a b c : CustomerOrders)
    → customer_orders_joined (customer_orders_joined a b) c ≡ customer_orders_joined a (customer_orders_joined b c)
customer_orders_associative a b c = λ i. record {
  rows = capped_associative most a.rows b.rows c.rows i;
  deliveries = capped_associative most a.deliveries b.deliveries c.deliveries i;
}

pub customer_orders_commutative : (a b : CustomerOrders) → customer_orders_joined a b ≡ customer_orders_joined b a
customer_orders_commutative a b = λ i. record {
  rows = capped_commutative most a.rows b.rows i;
  deliveries = capped_commutative most a.deliveries b.deliveries i;
}

pub lines_associative : (a b c : LineSums)
    → lines_joined (lines_joined a b) c ≡ lines_joined a (lines_joined b c)
lines_associative a b c = λ i. record {
  amount = wrapped_associative a.amount b.amount c.amount i;
  rows = capped_associative most a.rows b.rows c.rows i;
  delivered = capped_associative most a.delivered b.delivered c.delivered i;
  remotes = capped_associative most a.remotes b.remotes c.remotes i;
}

pub lines_commutative : (a b : LineSums) → lines_joined a b ≡ lines_joined b a
lines_commutative a b = λ i. record {
  amount = wrapped_commutative a.amount b.amount i;
  rows = capped_commutative most a.rows b.rows i;
  delivered = capped_commutative most a.delivered b.delivered i;
  remotes = capped_commutative most a.remotes b.remotes i;
}

pub supplies_associative : (a b c : SupplySums)
    → supplies_joined (supplies_joined a b) c ≡ supplies_joined a (supplies_joined b c)
supplies_associative a b c = λ i. record {
  quantity = capped_associative greatest_sum a.quantity b.quantity c.quantity i;
  rows = capped_associative most a.rows b.rows c.rows i;
  orders = capped_associative most a.orders b.orders c.orders i;
  remotes = capped_associative most a.remotes b.remotes c.remotes i;
}

pub supplies_commutative : (a b : SupplySums) → supplies_joined a b ≡ supplies_joined b a
supplies_commutative a b = λ i. record {
  quantity = capped_commutative greatest_sum a.quantity b.quantity i;
  rows = capped_commutative most a.rows b.rows i;
  orders = capped_commutative most a.orders b.orders i;
  remotes = capped_commutative most a.remotes b.remotes i;
}

pub stocks_associative : (a b c : StockSums)
    → stocks_joined (stocks_joined a b) c ≡ stocks_joined a (stocks_joined b c)
stocks_associative a b c = λ i. record {
  quantity = int_max_associative a.quantity b.quantity c.quantity i;
  ytd = max_associative a.ytd b.ytd c.ytd i;
  orders = max_associative a.orders b.orders c.orders i;
  remotes = max_associative a.remotes b.remotes c.remotes i;
  rows = capped_associative most a.rows b.rows c.rows i;
}

pub stocks_commutative : (a b : StockSums) → stocks_joined a b ≡ stocks_joined b a
stocks_commutative a b = λ i. record {
  quantity = int_max_commutative a.quantity b.quantity i;
  ytd = max_commutative a.ytd b.ytd i;
  orders = max_commutative a.orders b.orders i;
  remotes = max_commutative a.remotes b.remotes i;
  rows = capped_commutative most a.rows b.rows i;
}
