-- Figures of rows, by key: a column of the rows that have the key. Where keys stand once, the greatest is the row's.
use Rattle.std.specs.Prelude.{ℕ, ◌^◌, ◌<◌, ◌≤◌, Bool, cond, ◌&&◌, nat_eq, nat_lt, ℤ, pos, ◌+ℤ◌, List, length, Option}
use Rattle.std.specs.Prelude.{All}
use Rattle.std.specs.Int.{int_max, int_min}
use Rattle.std.specs.Int.RustNames.{unsigned_abs}
use Rattle.oe_facts.specs.declared.keys.DistrictId.{DistrictId}
use Rattle.oe_facts.specs.declared.keys.CustomerId.{CustomerId}
use Rattle.oe_facts.specs.declared.keys.OrderId.{OrderId}
use Rattle.oe_facts.specs.declared.keys.StockId.{StockId}
use Rattle.oe_facts.specs.declared.facts.WarehouseFact.{WarehouseFact}
use Rattle.oe_facts.specs.declared.facts.DistrictFact.{DistrictFact}
use Rattle.oe_facts.specs.declared.facts.CustomerFact.{CustomerFact}
use Rattle.oe_facts.specs.declared.facts.HistoryFact.{HistoryFact}
use Rattle.oe_facts.specs.declared.facts.NewOrderFact.{NewOrderFact}
use Rattle.oe_facts.specs.declared.facts.OrderFact.{OrderFact}
use Rattle.oe_facts.specs.declared.facts.OrderLineFact.{OrderLineFact}
use Rattle.oe_facts.specs.declared.facts.ItemFact.{ItemFact}
use Rattle.oe_facts.specs.declared.facts.StockFact.{StockFact}
use Rattle.oe_ledgers.specs.Columns.{of_key}
use Rattle.oe_ledgers.specs.Keys.{same_district, same_customer, same_order, same_stock}
use Rattle.oe_ledgers.specs.Keys.{district_of_customer, district_of_order, customer_of_order, stock_of_line}
use Rattle.oe_ledgers.specs.Keeping.{delivered_of}

module _ {F K : Type 0} (same : K → K → Bool) (key : F → K) (column : F → ℤ) (facts : List F) (k : K) where
  -- of the rows that have the key, the sum of a column, its greatest and its least value; none where there is no row
  abbrev pub sum_of : Option ℤ
  sum_of = of_key same key (λ a b. a +ℤ b) column facts k

  abbrev pub greatest_of : Option ℤ
  greatest_of = of_key same key int_max column facts k

  abbrev pub least_of : Option ℤ
  least_of = of_key same key int_min column facts k

-- rows are fewer than 2^32
abbrev pub AreFew : {F : Type 0} → List F → Type 0
AreFew facts = length facts < 2 ^ 32

-- amounts are within 2^63 cents either side, as 64 bits hold them
abbrev pub AreAmounts : {F : Type 0} → (F → ℤ) → List F → Type 0
AreAmounts amount facts = All (λ f. unsigned_abs (amount f) ≤ 2 ^ 63) facts

-- numbers are below 2^32
abbrev pub AreNumbers : {F : Type 0} → (F → ℕ) → List F → Type 0
AreNumbers number facts = All (λ f. number f < 2 ^ 32) facts

-- W_YTD
abbrev pub w_ytd : List WarehouseFact → ℕ → Option ℤ
w_ytd facts k = greatest_of nat_eq (λ f. f.warehouse) (λ f. f.ytd) facts k

-- the number of WAREHOUSE rows
abbrev pub warehouse_rows : List WarehouseFact → ℕ → Option ℤ
warehouse_rows facts k = sum_of nat_eq (λ f. f.warehouse) (λ f. pos 1) facts k

-- D_YTD
abbrev pub d_ytd : List DistrictFact → DistrictId → Option ℤ
d_ytd facts k = greatest_of same_district (λ f. f.key) (λ f. f.ytd) facts k

-- D_NEXT_O_ID
abbrev pub d_next_order : List DistrictFact → DistrictId → Option ℤ
d_next_order facts k = greatest_of same_district (λ f. f.key) (λ f. pos f.next_order) facts k

-- the number of DISTRICT rows
abbrev pub district_rows : List DistrictFact → DistrictId → Option ℤ
district_rows facts k = sum_of same_district (λ f. f.key) (λ f. pos 1) facts k

-- the sum of D_YTD by D_W_ID
abbrev pub d_ytd_of_warehouse : List DistrictFact → ℕ → Option ℤ
d_ytd_of_warehouse facts k = sum_of nat_eq (λ f. f.key.warehouse) (λ f. f.ytd) facts k

-- the number of DISTRICT rows by D_W_ID
abbrev pub districts_of_warehouse : List DistrictFact → ℕ → Option ℤ
districts_of_warehouse facts k = sum_of nat_eq (λ f. f.key.warehouse) (λ f. pos 1) facts k

-- C_BALANCE
abbrev pub c_balance : List CustomerFact → CustomerId → Option ℤ
c_balance facts k = greatest_of same_customer (λ f. f.key) (λ f. f.balance) facts k

-- C_YTD_PAYMENT
abbrev pub c_ytd_payment : List CustomerFact → CustomerId → Option ℤ
c_ytd_payment facts k = greatest_of same_customer (λ f. f.key) (λ f. f.ytd_payment) facts k

-- C_PAYMENT_CNT
abbrev pub c_payments : List CustomerFact → CustomerId → Option ℤ
c_payments facts k = greatest_of same_customer (λ f. f.key) (λ f. pos f.payments) facts k

-- C_DELIVERY_CNT
abbrev pub c_deliveries : List CustomerFact → CustomerId → Option ℤ
c_deliveries facts k = greatest_of same_customer (λ f. f.key) (λ f. pos f.deliveries) facts k

-- the number of CUSTOMER rows
abbrev pub customer_rows : List CustomerFact → CustomerId → Option ℤ
customer_rows facts k = sum_of same_customer (λ f. f.key) (λ f. pos 1) facts k

-- the number of CUSTOMER rows by district
abbrev pub customers_of_district : List CustomerFact → DistrictId → Option ℤ
customers_of_district facts k = sum_of same_district (λ f. district_of_customer f.key) (λ f. pos 1) facts k

-- the sum of H_AMOUNT by customer
abbrev pub paid_by_customer : List HistoryFact → CustomerId → Option ℤ
paid_by_customer facts k = sum_of same_customer (λ f. f.customer) (λ f. f.amount) facts k

-- the number of HISTORY rows by customer
abbrev pub payments_of_customer : List HistoryFact → CustomerId → Option ℤ
payments_of_customer facts k = sum_of same_customer (λ f. f.customer) (λ f. pos 1) facts k

-- the sum of H_AMOUNT by district
abbrev pub paid_in_district : List HistoryFact → DistrictId → Option ℤ
paid_in_district facts k = sum_of same_district (λ f. f.district) (λ f. f.amount) facts k

-- the number of HISTORY rows by district
abbrev pub payments_in_district : List HistoryFact → DistrictId → Option ℤ
payments_in_district facts k = sum_of same_district (λ f. f.district) (λ f. pos 1) facts k

-- the sum of H_AMOUNT by H_W_ID
abbrev pub paid_in_warehouse : List HistoryFact → ℕ → Option ℤ
paid_in_warehouse facts k = sum_of nat_eq (λ f. f.district.warehouse) (λ f. f.amount) facts k

-- the number of NEW-ORDER rows
abbrev pub new_order_rows : List NewOrderFact → OrderId → Option ℤ
new_order_rows facts k = sum_of same_order (λ f. f.key) (λ f. pos 1) facts k

-- the least NO_O_ID by district
abbrev pub least_new_order : List NewOrderFact → DistrictId → Option ℤ
least_new_order facts k = least_of same_district (λ f. district_of_order f.key) (λ f. pos f.key.order) facts k

-- the greatest NO_O_ID by district
abbrev pub greatest_new_order : List NewOrderFact → DistrictId → Option ℤ
greatest_new_order facts k = greatest_of same_district (λ f. district_of_order f.key) (λ f. pos f.key.order) facts k

-- the number of NEW-ORDER rows by district
abbrev pub new_orders_of_district : List NewOrderFact → DistrictId → Option ℤ
new_orders_of_district facts k = sum_of same_district (λ f. district_of_order f.key) (λ f. pos 1) facts k

-- O_OL_CNT
abbrev pub o_line_count : List OrderFact → OrderId → Option ℤ
o_line_count facts k = greatest_of same_order (λ f. f.key) (λ f. pos f.line_count) facts k

-- the number of ORDER rows
abbrev pub order_rows : List OrderFact → OrderId → Option ℤ
order_rows facts k = sum_of same_order (λ f. f.key) (λ f. pos 1) facts k

-- the sum of O_OL_CNT by district
abbrev pub lines_asked : List OrderFact → DistrictId → Option ℤ
lines_asked facts k = sum_of same_district (λ f. district_of_order f.key) (λ f. pos f.line_count) facts k

-- the greatest O_ID by district
abbrev pub greatest_order : List OrderFact → DistrictId → Option ℤ
greatest_order facts k = greatest_of same_district (λ f. district_of_order f.key) (λ f. pos f.key.order) facts k

-- the number of ORDER rows by district
abbrev pub orders_of_district : List OrderFact → DistrictId → Option ℤ
orders_of_district facts k = sum_of same_district (λ f. district_of_order f.key) (λ f. pos 1) facts k

-- the sum of OL_AMOUNT by order, of rows that have an OL_DELIVERY_D
abbrev pub delivered_amount : List OrderLineFact → OrderId → Option ℤ
delivered_amount facts k = sum_of same_order (λ f. f.order) (λ f. cond f.is_delivered f.amount (pos 0)) facts k

-- the number of ORDER-LINE rows by order
abbrev pub lines_of_order : List OrderLineFact → OrderId → Option ℤ
lines_of_order facts k = sum_of same_order (λ f. f.order) (λ f. pos 1) facts k

-- the number of ORDER-LINE rows by order that have an OL_DELIVERY_D
abbrev pub delivered_lines : List OrderLineFact → OrderId → Option ℤ
delivered_lines facts k = sum_of same_order (λ f. f.order) (λ f. pos (cond f.is_delivered 1 0)) facts k

-- the number of ORDER-LINE rows by order that another warehouse supplies
abbrev pub remote_lines : List OrderLineFact → OrderId → Option ℤ
remote_lines facts k = sum_of same_order (λ f. f.order) (λ f. pos (cond (nat_eq f.supply f.order.warehouse) 0 1))
    facts k

-- the number of ORDER-LINE rows by district
abbrev pub lines_there : List OrderLineFact → DistrictId → Option ℤ
lines_there facts k = sum_of same_district (λ f. district_of_order f.order) (λ f. pos 1) facts k

-- the sum of OL_QUANTITY by OL_SUPPLY_W_ID and OL_I_ID, of orders that the population did not have
abbrev pub ordered_quantity : ℕ → List OrderLineFact → StockId → Option ℤ
ordered_quantity initial facts k = sum_of same_stock (λ f. stock_of_line f)
    (λ f. pos (cond (nat_lt initial f.order.order) f.quantity 0)) facts k

-- the number of these rows
abbrev pub ordered_lines : ℕ → List OrderLineFact → StockId → Option ℤ
ordered_lines initial facts k = sum_of same_stock (λ f. stock_of_line f)
    (λ f. pos (cond (nat_lt initial f.order.order) 1 0)) facts k

-- the number of those of another warehouse's order
abbrev pub ordered_remotes : ℕ → List OrderLineFact → StockId → Option ℤ
ordered_remotes initial facts k = sum_of same_stock (λ f. stock_of_line f)
    (λ f. pos (cond (nat_lt initial f.order.order) (cond (nat_eq f.supply f.order.warehouse) 0 1) 0)) facts k

-- the number of ORDER-LINE rows by OL_SUPPLY_W_ID and OL_I_ID
abbrev pub lines_of_stock : List OrderLineFact → StockId → Option ℤ
lines_of_stock facts k = sum_of same_stock (λ f. stock_of_line f) (λ f. pos 1) facts k

-- the number of ORDER rows by customer
abbrev pub orders_of_customer : List OrderFact → CustomerId → Option ℤ
orders_of_customer facts k = sum_of same_customer (λ f. customer_of_order f) (λ f. pos 1) facts k

-- the number of those that have an O_CARRIER_ID and that the population had not delivered
abbrev pub deliveries_to_customer : ℕ → List OrderFact → CustomerId → Option ℤ
deliveries_to_customer initial facts k = sum_of same_customer (λ f. customer_of_order f)
    (λ f. pos (cond (f.is_delivered && nat_lt (delivered_of initial) f.key.order) 1 0)) facts k

-- 1 where the order has an O_CARRIER_ID, and 0 where it has none
abbrev pub is_delivered : List OrderFact → OrderId → Option ℤ
is_delivered facts k = greatest_of same_order (λ f. f.key) (λ f. pos (cond f.is_delivered 1 0)) facts k

-- O_ALL_LOCAL
abbrev pub is_all_local : List OrderFact → OrderId → Option ℤ
is_all_local facts k = greatest_of same_order (λ f. f.key) (λ f. pos (cond f.is_all_local 1 0)) facts k

-- 1 where the order has no O_CARRIER_ID, and 0 where it has one
abbrev pub is_open : List OrderFact → OrderId → Option ℤ
is_open facts k = least_of same_order (λ f. f.key) (λ f. pos (cond f.is_delivered 0 1)) facts k

-- 1 where O_ALL_LOCAL is 0, and 0 where it is 1
abbrev pub is_remote : List OrderFact → OrderId → Option ℤ
is_remote facts k = least_of same_order (λ f. f.key) (λ f. pos (cond f.is_all_local 0 1)) facts k

-- 1 where the order has a NEW-ORDER row
abbrev pub has_new_order : List NewOrderFact → OrderId → Option ℤ
has_new_order facts k = greatest_of same_order (λ f. f.key) (λ f. pos 1) facts k

-- 10 where there is a WAREHOUSE row
abbrev pub ten_of_warehouse : List WarehouseFact → ℕ → Option ℤ
ten_of_warehouse facts k = greatest_of nat_eq (λ f. f.warehouse) (λ f. pos 10) facts k

-- the number of ITEM rows
abbrev pub item_rows : List ItemFact → ℕ → Option ℤ
item_rows facts k = sum_of nat_eq (λ f. f.item) (λ f. pos 1) facts k

-- S_QUANTITY
abbrev pub s_quantity : List StockFact → StockId → Option ℤ
s_quantity facts k = greatest_of same_stock (λ f. f.key) (λ f. f.quantity) facts k

-- S_YTD
abbrev pub s_ytd : List StockFact → StockId → Option ℤ
s_ytd facts k = greatest_of same_stock (λ f. f.key) (λ f. pos f.ytd) facts k

-- S_ORDER_CNT
abbrev pub s_orders : List StockFact → StockId → Option ℤ
s_orders facts k = greatest_of same_stock (λ f. f.key) (λ f. pos f.orders) facts k

-- S_REMOTE_CNT
abbrev pub s_remotes : List StockFact → StockId → Option ℤ
s_remotes facts k = greatest_of same_stock (λ f. f.key) (λ f. pos f.remotes) facts k

-- the number of STOCK rows
abbrev pub stock_rows : List StockFact → StockId → Option ℤ
stock_rows facts k = sum_of same_stock (λ f. f.key) (λ f. pos 1) facts k

-- the number of STOCK rows by S_W_ID
abbrev pub stocks_of_warehouse : List StockFact → ℕ → Option ℤ
stocks_of_warehouse facts k = sum_of nat_eq (λ f. f.key.warehouse) (λ f. pos 1) facts k

-- the number of STOCK rows by S_I_ID
abbrev pub stocks_of_item : List StockFact → ℕ → Option ℤ
stocks_of_item facts k = sum_of nat_eq (λ f. f.key.item) (λ f. pos 1) facts k
