-- Sums of two lots of rows together.
use Rattle.std.specs.Prelude.{ℕ, ◌-◌, ◌^◌, max, min}
use Rattle.std.specs.Int.{int_max}
use Rattle.oe_ledgers.specs.declared.takings.Takings.{Takings}
use Rattle.oe_ledgers.specs.declared.warehouses.WarehouseSums.{WarehouseSums}
use Rattle.oe_ledgers.specs.declared.districts.DistrictSums.{DistrictSums}
use Rattle.oe_ledgers.specs.declared.customers.CustomerSums.{CustomerSums}
use Rattle.oe_ledgers.specs.declared.new_orders.NewOrderSums.{NewOrderSums}
use Rattle.oe_ledgers.specs.declared.orders.OrderSums.{OrderSums}
use Rattle.oe_ledgers.specs.declared.orders.DistrictOrders.{DistrictOrders}
use Rattle.oe_ledgers.specs.declared.orders.CustomerOrders.{CustomerOrders}
use Rattle.oe_ledgers.specs.declared.order_lines.LineSums.{LineSums}
use Rattle.oe_ledgers.specs.declared.order_lines.SupplySums.{SupplySums}
use Rattle.oe_ledgers.specs.declared.stocks.StockSums.{StockSums}
use Rattle.oe_ledgers.specs.Columns.{sum_up_to, sum_in_128_bits, either}

-- the greatest number of rows, and the greatest sum of numbers
abbrev pub most : ℕ
most = 2 ^ 32 - 1

abbrev pub greatest_sum : ℕ
greatest_sum = 2 ^ 64 - 1

abbrev pub takings_joined : Takings → Takings → Takings
takings_joined a b = record { amount = sum_in_128_bits a.amount b.amount; rows = sum_up_to most a.rows b.rows }

abbrev pub warehouses_joined : WarehouseSums → WarehouseSums → WarehouseSums
warehouses_joined a b = record { ytd = int_max a.ytd b.ytd; rows = sum_up_to most a.rows b.rows }

abbrev pub districts_joined : DistrictSums → DistrictSums → DistrictSums
districts_joined a b = record {
  ytd = int_max a.ytd b.ytd;
  next_order = max a.next_order b.next_order;
  rows = sum_up_to most a.rows b.rows;
}

abbrev pub customers_joined : CustomerSums → CustomerSums → CustomerSums
customers_joined a b = record {
  balance = int_max a.balance b.balance;
  ytd_payment = int_max a.ytd_payment b.ytd_payment;
  payments = max a.payments b.payments;
  deliveries = max a.deliveries b.deliveries;
  rows = sum_up_to most a.rows b.rows;
}

abbrev pub new_orders_joined : NewOrderSums → NewOrderSums → NewOrderSums
new_orders_joined a b = record {
  least = min a.least b.least;
  greatest = max a.greatest b.greatest;
  rows = sum_up_to most a.rows b.rows;
}

abbrev pub orders_joined : OrderSums → OrderSums → OrderSums
orders_joined a b = record {
  customer = max a.customer b.customer;
  line_count = max a.line_count b.line_count;
  rows = sum_up_to most a.rows b.rows;
  is_delivered = either a.is_delivered b.is_delivered;
  is_all_local = either a.is_all_local b.is_all_local;
}

abbrev pub district_orders_joined : DistrictOrders → DistrictOrders → DistrictOrders
district_orders_joined a b = record {
  lines = sum_up_to greatest_sum a.lines b.lines;
  greatest = max a.greatest b.greatest;
  rows = sum_up_to most a.rows b.rows;
}

abbrev pub customer_orders_joined : CustomerOrders → CustomerOrders → CustomerOrders
customer_orders_joined a b = record {
  rows = sum_up_to most a.rows b.rows;
  deliveries = sum_up_to most a.deliveries b.deliveries;
}

abbrev pub lines_joined : LineSums → LineSums → LineSums
lines_joined a b = record {
  amount = sum_in_128_bits a.amount b.amount;
  rows = sum_up_to most a.rows b.rows;
  delivered = sum_up_to most a.delivered b.delivered;
  remotes = sum_up_to most a.remotes b.remotes;
}

abbrev pub supplies_joined : SupplySums → SupplySums → SupplySums
supplies_joined a b = record {
  quantity = sum_up_to greatest_sum a.quantity b.quantity;
  rows = sum_up_to most a.rows b.rows;
  orders = sum_up_to most a.orders b.orders;
  remotes = sum_up_to most a.remotes b.remotes;
}

abbrev pub stocks_joined : StockSums → StockSums → StockSums
stocks_joined a b = record {
  quantity = int_max a.quantity b.quantity;
  ytd = max a.ytd b.ytd;
  orders = max a.orders b.orders;
  remotes = max a.remotes b.remotes;
  rows = sum_up_to most a.rows b.rows;
}
