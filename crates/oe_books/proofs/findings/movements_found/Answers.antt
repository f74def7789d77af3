use Rattle.std.proofs.Common.{sym, subst}
use Rattle.std.specs.Prelude.{IfOk}
use Rattle.oe_tally.specs.Walks.{AreAll}
use Rattle.oe_ledgers.specs.Keys.{customer_cmp, order_cmp, same_customer, same_order, same_stock, stock_cmp}
use Rattle.oe_checks.specs.Movements.{all_local, delivery_count, payment_count, stock_orders, stock_quantity}
use Rattle.oe_checks.specs.Movements.{stock_remote, stock_ytd}
use Rattle.oe_books.specs.Found.{initial_of}
use Rattle.oe_books.proofs.findings.movements_found.Goals as goal

pub returns-in-StockYtd : goal.returns-in-StockYtd
returns-in-StockYtd c given t h =
    rw c.in-StockYtd.is (c.listed.ensures stock_cmp same_stock (stock_ytd (initial_of c.args.s.now) t.stocks t.lines)
    (subst (λ n. IfOk c.stock_ytd.result (λ es. AreAll stock_cmp same_stock (stock_ytd n t.stocks t.lines) es.items))
    (sym h.books.initial) (c.stock_ytd.ensures t.stocks t.lines h.books.stocks.kept h.books.lines.kept.sums
    h.few.lines h.books.lines.kept.quantities)))

pub returns-in-StockOrders : goal.returns-in-StockOrders
returns-in-StockOrders c given t h =
    rw c.in-StockOrders.is (c.listed-in-StockOrders.ensures stock_cmp same_stock
    (stock_orders (initial_of c.args.s.now) t.stocks t.lines)
    (subst (λ n. IfOk c.stock_orders.result (λ es. AreAll stock_cmp same_stock (stock_orders n t.stocks t.lines)
    es.items))
    (sym h.books.initial) (c.stock_orders.ensures t.stocks t.lines h.books.stocks.kept h.books.lines.kept.sums
    h.few.lines)))

pub returns-in-StockRemote : goal.returns-in-StockRemote
returns-in-StockRemote c given t h =
    rw c.in-StockRemote.is (c.listed-in-StockRemote.ensures stock_cmp same_stock
    (stock_remote (initial_of c.args.s.now) t.stocks t.lines)
    (subst (λ n. IfOk c.stock_remote.result (λ es. AreAll stock_cmp same_stock (stock_remote n t.stocks t.lines)
    es.items))
    (sym h.books.initial) (c.stock_remote.ensures t.stocks t.lines h.books.stocks.kept h.books.lines.kept.sums
    h.few.lines)))

pub returns-in-PaymentCount : goal.returns-in-PaymentCount
returns-in-PaymentCount c given t h =
    rw c.in-PaymentCount.is (c.listed-in-PaymentCount.ensures customer_cmp same_customer
    (payment_count t.customers t.histories) (c.payment_count.ensures t.customers t.histories h.books.customers.kept
    h.books.histories.kept.sums h.few.histories))

pub returns-in-DeliveryCount : goal.returns-in-DeliveryCount
returns-in-DeliveryCount c given t h =
    rw c.in-DeliveryCount.is (c.listed-in-DeliveryCount.ensures customer_cmp same_customer
    (delivery_count (initial_of c.args.s.now) t.customers t.orders) (c.delivery_count.ensures t.customers t.orders
    h.books.customers.kept h.books.orders.kept.sums h.few.orders))

pub returns-in-AllLocal : goal.returns-in-AllLocal
returns-in-AllLocal c given t h =
    rw c.in-AllLocal.is (c.listed-in-AllLocal.ensures order_cmp same_order (all_local t.orders t.lines)
    (c.all_local.ensures t.orders t.lines h.books.orders.kept.sums h.books.lines.kept.sums h.few.lines))

pub returns-in-Quantity : goal.returns-in-Quantity
returns-in-Quantity c given t h =
    rw c.in-Quantity.is (c.listed-in-Quantity.ensures stock_cmp same_stock (stock_quantity t.stocks)
    (c.stock_quantity.ensures t.stocks h.books.stocks.kept))
