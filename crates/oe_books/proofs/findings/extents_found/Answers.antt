use Rattle.std.specs.Prelude.{nat_eq}
use Rattle.std.specs.Ordering.{nat_cmp}
use Rattle.oe_ledgers.specs.Keys.{district_cmp, same_district, same_stock, stock_cmp}
use Rattle.oe_checks.specs.Schema.{orders_without_gap, ten_districts}
use Rattle.oe_checks.specs.Sizes.{customers_each, stock_apart}
use Rattle.oe_books.proofs.findings.extents_found.Goals as goal

pub returns-in-Districts : goal.returns-in-Districts
returns-in-Districts c given t h =
    rw c.in-Districts.is (c.listed.ensures nat_cmp nat_eq (ten_districts t.warehouses t.districts)
    (c.ten_districts.ensures t.warehouses t.districts h.books.warehouses.kept h.books.districts.kept.sums
    h.few.districts))

pub returns-in-Stocks : goal.returns-in-Stocks
returns-in-Stocks c given t h =
    rw c.in-Stocks.is (c.listed-in-Stocks.ensures stock_cmp same_stock (stock_apart t.warehouses t.items t.stocks)
    (c.stocked.ensures t.warehouses t.items t.stocks h.books.warehouses.kept h.few.warehouses h.books.items.kept
    h.few.items h.books.stocks.kept h.few.stocks))

pub returns-in-Customers : goal.returns-in-Customers
returns-in-Customers c given t h =
    rw c.in-Customers.is (c.listed-in-Customers.ensures district_cmp same_district
    (customers_each c.args.s.now.each t.districts t.customers) (c.customers_each.ensures t.districts t.customers
    h.books.districts.kept.sums h.few.districts h.books.customers.kept h.few.customers))

pub returns-in-Orders : goal.returns-in-Orders
returns-in-Orders c given t h =
    rw c.in-Orders.is (c.listed-in-Orders.ensures district_cmp same_district (orders_without_gap t.orders)
    (c.orders_without_gap.ensures t.orders h.books.orders.kept.sums h.few.orders))
