use Rattle.oe_rows.specs.Key.{history_cmp}
use Rattle.oe_table.specs.Table.{rows_of}
use Rattle.oe_undo.specs.contracts.links.Links.{the_view}
use Rattle.oe_undo.proofs.LinkFacts.{set_warehouses, set_districts, set_customers, set_histories, set_new_orders}
use Rattle.oe_undo.proofs.LinkFacts.{set_orders, set_order_lines, set_items, set_stocks}
use Rattle.oe_undo.proofs.links.Links.set.Goals as goal

pub returns-in-Warehouse : goal.returns-in-Warehouse
returns-in-Warehouse c = rw (← c.self.view_is, c.in-Warehouse.is)
    (set_warehouses (the_view c.self.inside) c.set.new.links c.in-Warehouse.key c.args.link c.set.ensures)

pub returns-in-District : goal.returns-in-District
returns-in-District c = rw (← c.self.view_is, c.in-District.is)
    (set_districts (the_view c.self.inside) c.set-in-District.new.links c.in-District.key c.args.link
    c.set-in-District.ensures)

pub returns-in-Customer : goal.returns-in-Customer
returns-in-Customer c = rw (← c.self.view_is, c.in-Customer.is)
    (set_customers (the_view c.self.inside) c.set-in-Customer.new.links c.in-Customer.key c.args.link
    c.set-in-Customer.ensures)

pub returns-in-History : goal.returns-in-History
returns-in-History c = rw (← c.self.view_is, c.in-History.is)
    (set_histories (the_view c.self.inside) (rows_of history_cmp c.set_history.new.links) c.in-History.key c.args.link
    c.set_history.ensures)

pub returns-in-NewOrder : goal.returns-in-NewOrder
returns-in-NewOrder c = rw (← c.self.view_is, c.in-NewOrder.is)
    (set_new_orders (the_view c.self.inside) c.set-in-NewOrder.new.links c.in-NewOrder.key c.args.link
    c.set-in-NewOrder.ensures)

pub returns-in-Order : goal.returns-in-Order
returns-in-Order c = rw (← c.self.view_is, c.in-Order.is)
    (set_orders (the_view c.self.inside) c.set-in-Order.new.links c.in-Order.key c.args.link c.set-in-Order.ensures)

pub returns-in-OrderLine : goal.returns-in-OrderLine
returns-in-OrderLine c = rw (← c.self.view_is, c.in-OrderLine.is)
    (set_order_lines (the_view c.self.inside) c.set-in-OrderLine.new.links c.in-OrderLine.key c.args.link
    c.set-in-OrderLine.ensures)

pub returns-in-Item : goal.returns-in-Item
returns-in-Item c = rw (← c.self.view_is, c.in-Item.is)
    (set_items (the_view c.self.inside) c.set-in-Item.new.links c.in-Item.key c.args.link c.set-in-Item.ensures)

pub returns-in-Stock : goal.returns-in-Stock
returns-in-Stock c = rw (← c.self.view_is, c.in-Stock.is)
    (set_stocks (the_view c.self.inside) c.set-in-Stock.new.links c.in-Stock.key c.args.link c.set-in-Stock.ensures)
