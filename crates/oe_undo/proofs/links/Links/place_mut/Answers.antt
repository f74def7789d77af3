-- Each table's place, and the links with what was last written there.
use Rattle.std.proofs.Common.{refl, ap}
use Rattle.oe_rows.specs.Key.{history_cmp}
use Rattle.oe_table.specs.Table.{rows_of}
use Rattle.oe_undo.specs.contracts.links.Links.{the_view}
use Rattle.oe_undo.proofs.LinkFacts.{on_some_always, on_some_weaker}
use Rattle.oe_undo.proofs.links.Links.place_mut.Goals as goal

pub returns-in-Warehouse : goal.returns-in-Warehouse
returns-in-Warehouse c = rw (← c.self.view_is, c.in-Warehouse.is) (
  (
    refl,
    (λ w. on_some_always c.place_in.result
        (ap (λ t. record (the_view c.self.inside) { warehouses = t }) (c.place_in.follows.holds w))),
    ap (λ t. record (the_view c.self.inside) { warehouses = t }) c.place_in.follows.holds-at-none,
  ),
  record { writes_back = tt; place = c.place_in.ensures.place },
)

pub returns-in-District : goal.returns-in-District
returns-in-District c = rw (← c.self.view_is, c.in-District.is) (
  (
    refl,
    (λ w. on_some_always c.place_in-in-District.result
        (ap (λ t. record (the_view c.self.inside) { districts = t }) (c.place_in-in-District.follows.holds w))),
    ap (λ t. record (the_view c.self.inside) { districts = t }) c.place_in-in-District.follows.holds-at-none,
  ),
  record { writes_back = tt; place = c.place_in-in-District.ensures.place },
)

pub returns-in-Customer : goal.returns-in-Customer
returns-in-Customer c = rw (← c.self.view_is, c.in-Customer.is) (
  (
    refl,
    (λ w. on_some_always c.place_in-in-Customer.result
        (ap (λ t. record (the_view c.self.inside) { customers = t }) (c.place_in-in-Customer.follows.holds w))),
    ap (λ t. record (the_view c.self.inside) { customers = t }) c.place_in-in-Customer.follows.holds-at-none,
  ),
  record { writes_back = tt; place = c.place_in-in-Customer.ensures.place },
)

pub returns-in-History : goal.returns-in-History
returns-in-History c = rw (← c.self.view_is, c.in-History.is) (
  (
    refl,
    (λ w. on_some_weaker c.row_mut.result (λ h. ap (λ t. record (the_view c.self.inside) { histories = t }) h.rows)
        (c.row_mut.follows.holds w)),
    ap (λ t. record (the_view c.self.inside) { histories = rows_of history_cmp t }) c.row_mut.follows.holds-at-none,
  ),
  record { writes_back = tt; place = c.row_mut.ensures.row },
)

pub returns-in-NewOrder : goal.returns-in-NewOrder
returns-in-NewOrder c = rw (← c.self.view_is, c.in-NewOrder.is) (
  (
    refl,
    (λ w. on_some_always c.place_in-in-NewOrder.result
        (ap (λ t. record (the_view c.self.inside) { new_orders = t }) (c.place_in-in-NewOrder.follows.holds w))),
    ap (λ t. record (the_view c.self.inside) { new_orders = t }) c.place_in-in-NewOrder.follows.holds-at-none,
  ),
  record { writes_back = tt; place = c.place_in-in-NewOrder.ensures.place },
)

pub returns-in-Order : goal.returns-in-Order
returns-in-Order c = rw (← c.self.view_is, c.in-Order.is) (
  (
    refl,
    (λ w. on_some_always c.place_in-in-Order.result
        (ap (λ t. record (the_view c.self.inside) { orders = t }) (c.place_in-in-Order.follows.holds w))),
    ap (λ t. record (the_view c.self.inside) { orders = t }) c.place_in-in-Order.follows.holds-at-none,
  ),
  record { writes_back = tt; place = c.place_in-in-Order.ensures.place },
)

pub returns-in-OrderLine : goal.returns-in-OrderLine
returns-in-OrderLine c = rw (← c.self.view_is, c.in-OrderLine.is) (
  (
    refl,
    (λ w. on_some_always c.place_in-in-OrderLine.result
        (ap (λ t. record (the_view c.self.inside) { order_lines = t }) (c.place_in-in-OrderLine.follows.holds w))),
    ap (λ t. record (the_view c.self.inside) { order_lines = t }) c.place_in-in-OrderLine.follows.holds-at-none,
  ),
  record { writes_back = tt; place = c.place_in-in-OrderLine.ensures.place },
)

pub returns-in-Item : goal.returns-in-Item
returns-in-Item c = rw (← c.self.view_is, c.in-Item.is) (
  (
    refl,
    (λ w. on_some_always c.place_in-in-Item.result
        (ap (λ t. record (the_view c.self.inside) { items = t }) (c.place_in-in-Item.follows.holds w))),
    ap (λ t. record (the_view c.self.inside) { items = t }) c.place_in-in-Item.follows.holds-at-none,
  ),
  record { writes_back = tt; place = c.place_in-in-Item.ensures.place },
)

pub returns-in-Stock : goal.returns-in-Stock
returns-in-Stock c = rw (← c.self.view_is, c.in-Stock.is) (
  (
    refl,
    (λ w. on_some_always c.place_in-in-Stock.result
        (ap (λ t. record (the_view c.self.inside) { stocks = t }) (c.place_in-in-Stock.follows.holds w))),
    ap (λ t. record (the_view c.self.inside) { stocks = t }) c.place_in-in-Stock.follows.holds-at-none,
  ),
  record { writes_back = tt; place = c.place_in-in-Stock.ensures.place },
)
