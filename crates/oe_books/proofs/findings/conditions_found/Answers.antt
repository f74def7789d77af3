use Rattle.std.specs.Prelude.{nat_eq}
use Rattle.std.specs.Ordering.{nat_cmp}
use Rattle.oe_ledgers.specs.Keys.{customer_cmp, district_cmp, order_cmp, same_customer, same_district, same_order}
use Rattle.oe_checks.specs.Conditions.{condition_1, condition_2_of_new_orders, condition_2_of_orders, condition_3}
use Rattle.oe_checks.specs.Conditions.{condition_4, condition_5, condition_6, condition_7, condition_8, condition_9}
use Rattle.oe_checks.specs.Accounts.{condition_10, condition_12}
use Rattle.oe_books.proofs.findings.conditions_found.Goals as goal

pub returns-in-First : goal.returns-in-First
returns-in-First c given t h =
    rw c.in-First.is (c.listed.ensures nat_cmp nat_eq (condition_1 t.warehouses t.districts) (c.condition_1.ensures
    t.warehouses t.districts h.books.warehouses.kept h.books.districts.kept.sums h.few.districts
    h.books.districts.kept.amounts))

pub returns-in-SecondOfOrders : goal.returns-in-SecondOfOrders
returns-in-SecondOfOrders c given t h =
    rw c.in-SecondOfOrders.is (c.listed-in-SecondOfOrders.ensures district_cmp same_district
    (condition_2_of_orders t.districts t.orders) (c.condition_2_of_orders.ensures t.districts t.orders
    h.books.districts.kept.sums h.books.orders.kept.sums))

pub returns-in-SecondOfNewOrders : goal.returns-in-SecondOfNewOrders
returns-in-SecondOfNewOrders c given t h =
    rw c.in-SecondOfNewOrders.is (c.listed-in-SecondOfNewOrders.ensures district_cmp same_district
    (condition_2_of_new_orders t.districts t.new_orders) (c.condition_2_of_new_orders.ensures t.districts
    t.new_orders h.books.districts.kept.sums h.books.new_orders.kept))

pub returns-in-Third : goal.returns-in-Third
returns-in-Third c given t h =
    rw c.in-Third.is (c.listed-in-Third.ensures district_cmp same_district (condition_3 t.new_orders)
    (c.condition_3.ensures t.new_orders h.books.new_orders.kept h.few.new_orders))

pub returns-in-Fourth : goal.returns-in-Fourth
returns-in-Fourth c given t h =
    rw c.in-Fourth.is (c.listed-in-Fourth.ensures district_cmp same_district (condition_4 t.orders t.lines)
    (c.condition_4.ensures t.orders t.lines h.books.orders.kept.sums h.few.orders h.books.orders.kept.counts
    h.books.lines.kept.sums h.few.lines))

pub returns-in-Fifth : goal.returns-in-Fifth
returns-in-Fifth c given t h =
    rw c.in-Fifth.is (c.listed-in-Fifth.ensures order_cmp same_order (condition_5 t.orders t.new_orders)
    (c.condition_5.ensures t.orders t.new_orders h.books.orders.kept.sums h.books.new_orders.kept))

pub returns-in-Sixth : goal.returns-in-Sixth
returns-in-Sixth c given t h =
    rw c.in-Sixth.is (c.listed-in-Sixth.ensures order_cmp same_order (condition_6 t.orders t.lines)
    (c.condition_6.ensures t.orders t.lines h.books.orders.kept.sums h.books.lines.kept.sums h.few.lines))

pub returns-in-Seventh : goal.returns-in-Seventh
returns-in-Seventh c given t h =
    rw c.in-Seventh.is (c.listed-in-Seventh.ensures order_cmp same_order (condition_7 t.orders t.lines)
    (c.condition_7.ensures t.orders t.lines h.books.orders.kept.sums h.books.lines.kept.sums h.few.lines))

pub returns-in-Eighth : goal.returns-in-Eighth
returns-in-Eighth c given t h =
    rw c.in-Eighth.is (c.listed-in-Eighth.ensures nat_cmp nat_eq (condition_8 t.warehouses t.histories)
    (c.condition_8.ensures t.warehouses t.histories h.books.warehouses.kept h.books.histories.kept.sums
    h.few.histories h.books.histories.kept.amounts))

pub returns-in-Ninth : goal.returns-in-Ninth
returns-in-Ninth c given t h =
    rw c.in-Ninth.is (c.listed-in-Ninth.ensures district_cmp same_district (condition_9 t.districts t.histories)
    (c.condition_9.ensures t.districts t.histories h.books.districts.kept.sums h.books.histories.kept.sums
    h.few.histories h.books.histories.kept.amounts))

pub returns-in-Tenth : goal.returns-in-Tenth
returns-in-Tenth c given t h =
    rw c.in-Tenth.is (c.listed-in-Tenth.ensures customer_cmp same_customer
    (condition_10 t.customers t.orders t.lines t.histories) (c.condition_10.ensures t.customers t.orders t.lines
    t.histories h.books.customers.kept h.delivered h.few.lines h.books.lines.kept.amounts h.books.histories.kept.sums
    h.few.histories h.books.histories.kept.amounts))

pub returns-in-Twelfth : goal.returns-in-Twelfth
returns-in-Twelfth c given t h =
    rw c.in-Twelfth.is (c.listed-in-Twelfth.ensures customer_cmp same_customer
    (condition_12 t.customers t.orders t.lines) (c.condition_12.ensures t.customers t.orders t.lines
    h.books.customers.kept h.delivered))
