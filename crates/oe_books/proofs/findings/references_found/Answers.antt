use Rattle.std.specs.Prelude.{nat_eq}
use Rattle.std.specs.Ordering.{nat_cmp}
use Rattle.oe_ledgers.specs.Keys.{customer_cmp, district_cmp, order_cmp, same_customer, same_district, same_order}
use Rattle.oe_ledgers.specs.Keys.{same_stock, stock_cmp}
use Rattle.oe_checks.specs.References.{customers_refer, districts_refer, histories_refer_to_customers}
use Rattle.oe_checks.specs.References.{histories_refer_to_districts, lines_refer_to_orders, lines_refer_to_stocks}
use Rattle.oe_checks.specs.References.{new_orders_refer, orders_refer, stocks_refer_to_items}
use Rattle.oe_checks.specs.References.{stocks_refer_to_warehouses}
use Rattle.oe_books.proofs.findings.references_found.Goals as goal

pub returns-in-DistrictWarehouse : goal.returns-in-DistrictWarehouse
returns-in-DistrictWarehouse c given t h =
    rw c.in-DistrictWarehouse.is (c.listed.ensures nat_cmp nat_eq (districts_refer t.districts t.warehouses)
    (c.districts_refer.ensures t.districts t.warehouses h.books.districts.kept.sums h.few.districts
    h.books.warehouses.kept h.few.warehouses))

pub returns-in-CustomerDistrict : goal.returns-in-CustomerDistrict
returns-in-CustomerDistrict c given t h =
    rw c.in-CustomerDistrict.is (c.listed-in-CustomerDistrict.ensures district_cmp same_district
    (customers_refer t.customers t.districts) (c.customers_refer.ensures t.customers t.districts
    h.books.customers.kept h.few.customers h.books.districts.kept.sums h.few.districts))

pub returns-in-HistoryCustomer : goal.returns-in-HistoryCustomer
returns-in-HistoryCustomer c given t h =
    rw c.in-HistoryCustomer.is (c.listed-in-HistoryCustomer.ensures customer_cmp same_customer
    (histories_refer_to_customers t.histories t.customers) (c.histories_refer_to_customers.ensures t.histories
    t.customers h.books.histories.kept.sums h.few.histories h.books.customers.kept h.few.customers))

pub returns-in-HistoryDistrict : goal.returns-in-HistoryDistrict
returns-in-HistoryDistrict c given t h =
    rw c.in-HistoryDistrict.is (c.listed-in-HistoryDistrict.ensures district_cmp same_district
    (histories_refer_to_districts t.histories t.districts) (c.histories_refer_to_districts.ensures t.histories
    t.districts h.books.histories.kept.sums h.few.histories h.books.districts.kept.sums h.few.districts))

pub returns-in-NewOrderOrder : goal.returns-in-NewOrderOrder
returns-in-NewOrderOrder c given t h =
    rw c.in-NewOrderOrder.is (c.listed-in-NewOrderOrder.ensures order_cmp same_order
    (new_orders_refer t.new_orders t.orders) (c.new_orders_refer.ensures t.new_orders t.orders
    h.books.new_orders.kept h.few.new_orders h.books.orders.kept.sums h.few.orders))

pub returns-in-OrderCustomer : goal.returns-in-OrderCustomer
returns-in-OrderCustomer c given t h =
    rw c.in-OrderCustomer.is (c.listed-in-OrderCustomer.ensures customer_cmp same_customer
    (orders_refer t.orders t.customers) (c.orders_refer.ensures t.orders t.customers h.books.orders.kept.sums
    h.few.orders h.books.customers.kept h.few.customers))

pub returns-in-LineOrder : goal.returns-in-LineOrder
returns-in-LineOrder c given t h =
    rw c.in-LineOrder.is (c.listed-in-LineOrder.ensures order_cmp same_order (lines_refer_to_orders t.lines t.orders)
    (c.lines_refer_to_orders.ensures t.lines t.orders h.books.lines.kept.sums h.few.lines h.books.orders.kept.sums
    h.few.orders))

pub returns-in-LineStock : goal.returns-in-LineStock
returns-in-LineStock c given t h =
    rw c.in-LineStock.is (c.listed-in-LineStock.ensures stock_cmp same_stock (lines_refer_to_stocks t.lines t.stocks)
    (c.lines_refer_to_stocks.ensures t.lines t.stocks h.books.lines.kept.sums h.few.lines h.books.stocks.kept
    h.few.stocks))

pub returns-in-StockWarehouse : goal.returns-in-StockWarehouse
returns-in-StockWarehouse c given t h =
    rw c.in-StockWarehouse.is (c.listed-in-StockWarehouse.ensures nat_cmp nat_eq
    (stocks_refer_to_warehouses t.stocks t.warehouses) (c.stocks_refer_to_warehouses.ensures t.stocks t.warehouses
    h.books.stocks.kept h.few.stocks h.books.warehouses.kept h.few.warehouses))

pub returns-in-StockItem : goal.returns-in-StockItem
returns-in-StockItem c given t h =
    rw c.in-StockItem.is (c.listed-in-StockItem.ensures nat_cmp nat_eq (stocks_refer_to_items t.stocks t.items)
    (c.stocks_refer_to_items.ensures t.stocks t.items h.books.stocks.kept h.few.stocks h.books.items.kept
    h.few.items))
