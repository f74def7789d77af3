use Rattle.std.specs.Prelude.{nat_eq}
use Rattle.std.specs.Ordering.{nat_cmp}
use Rattle.oe_ledgers.specs.Keys.{customer_cmp, district_cmp, order_cmp, same_customer, same_district, same_order}
use Rattle.oe_ledgers.specs.Keys.{same_stock, stock_cmp}
use Rattle.oe_line_numbers.specs.Numbers.{block_cmp, same_block}
use Rattle.oe_checks.specs.Keys.{customers_once, districts_once, items_once, new_orders_once, orders_once}
use Rattle.oe_checks.specs.Keys.{stocks_once, warehouses_once}
use Rattle.oe_line_numbers.specs.Blocks.{lines_once}
use Rattle.oe_books.proofs.findings.once_found.Goals as goal

pub returns-in-Warehouses : goal.returns-in-Warehouses
returns-in-Warehouses c given t h =
    rw c.in-Warehouses.is (c.listed.ensures nat_cmp nat_eq (warehouses_once t.warehouses) (c.warehouses_once.ensures
    t.warehouses h.books.warehouses.kept h.few.warehouses))

pub returns-in-Districts : goal.returns-in-Districts
returns-in-Districts c given t h =
    rw c.in-Districts.is (c.listed-in-Districts.ensures district_cmp same_district (districts_once t.districts)
    (c.districts_once.ensures t.districts h.books.districts.kept.sums h.few.districts))

pub returns-in-Customers : goal.returns-in-Customers
returns-in-Customers c given t h =
    rw c.in-Customers.is (c.listed-in-Customers.ensures customer_cmp same_customer (customers_once t.customers)
    (c.customers_once.ensures t.customers h.books.customers.kept h.few.customers))

pub returns-in-NewOrders : goal.returns-in-NewOrders
returns-in-NewOrders c given t h =
    rw c.in-NewOrders.is (c.listed-in-NewOrders.ensures order_cmp same_order (new_orders_once t.new_orders)
    (c.new_orders_once.ensures t.new_orders h.books.new_orders.kept h.few.new_orders))

pub returns-in-Orders : goal.returns-in-Orders
returns-in-Orders c given t h =
    rw c.in-Orders.is (c.listed-in-Orders.ensures order_cmp same_order (orders_once t.orders) (c.orders_once.ensures
    t.orders h.books.orders.kept.sums h.few.orders))

pub returns-in-Lines : goal.returns-in-Lines
returns-in-Lines c given t h =
    rw c.in-Lines.is (c.listed-in-Lines.ensures block_cmp same_block (lines_once t.lines) (c.lines_once.ensures
    t.lines h.books.lines.kept.numbers h.few.lines))

pub returns-in-Items : goal.returns-in-Items
returns-in-Items c given t h =
    rw c.in-Items.is (c.listed-in-Items.ensures nat_cmp nat_eq (items_once t.items) (c.items_once.ensures t.items
    h.books.items.kept h.few.items))

pub returns-in-Stocks : goal.returns-in-Stocks
returns-in-Stocks c given t h =
    rw c.in-Stocks.is (c.listed-in-Stocks.ensures stock_cmp same_stock (stocks_once t.stocks) (c.stocks_once.ensures
    t.stocks h.books.stocks.kept h.few.stocks))
