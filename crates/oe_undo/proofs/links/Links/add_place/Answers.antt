use Rattle.std.proofs.lemmas.Result.{on_ok_weaker}
use Rattle.oe_rows.specs.Key.{history_cmp}
use Rattle.oe_table.specs.Table.{rows_of}
use Rattle.oe_undo.specs.contracts.links.Links.{the_view}
use Rattle.oe_undo.proofs.LinkFacts.{give_warehouses, give_districts, give_customers, give_histories, give_new_orders}
use Rattle.oe_undo.proofs.LinkFacts.{give_orders, give_order_lines, give_items, give_stocks}
use Rattle.oe_undo.proofs.links.Links.add_place.Goals as goal

pub returns-in-Warehouse-clause-given : goal.returns-in-Warehouse-clause-given
returns-in-Warehouse-clause-given c = rw (← c.self.view_is, c.in-Warehouse.is)
    (on_ok_weaker c.reach.result (give_warehouses (the_view c.self.inside) c.reach.new.links c.in-Warehouse.key)
    c.reach.ensures.given)

pub returns-in-District-clause-given : goal.returns-in-District-clause-given
returns-in-District-clause-given c = rw (← c.self.view_is, c.in-District.is)
    (on_ok_weaker c.reach-in-District.result
    (give_districts (the_view c.self.inside) c.reach-in-District.new.links c.in-District.key)
    c.reach-in-District.ensures.given)

pub returns-in-Customer-clause-given : goal.returns-in-Customer-clause-given
returns-in-Customer-clause-given c = rw (← c.self.view_is, c.in-Customer.is)
    (on_ok_weaker c.reach-in-Customer.result
    (give_customers (the_view c.self.inside) c.reach-in-Customer.new.links c.in-Customer.key)
    c.reach-in-Customer.ensures.given)

pub returns-in-History-clause-given : goal.returns-in-History-clause-given
returns-in-History-clause-given c = rw (← c.self.view_is, c.in-History.is)
    (on_ok_weaker c.reach_history.result
    (give_histories (the_view c.self.inside) (rows_of history_cmp c.reach_history.new.links) c.in-History.key)
    c.reach_history.ensures.given)

pub returns-in-NewOrder-clause-given : goal.returns-in-NewOrder-clause-given
returns-in-NewOrder-clause-given c = rw (← c.self.view_is, c.in-NewOrder.is)
    (on_ok_weaker c.reach-in-NewOrder.result
    (give_new_orders (the_view c.self.inside) c.reach-in-NewOrder.new.links c.in-NewOrder.key)
    c.reach-in-NewOrder.ensures.given)

pub returns-in-Order-clause-given : goal.returns-in-Order-clause-given
returns-in-Order-clause-given c = rw (← c.self.view_is, c.in-Order.is)
    (on_ok_weaker c.reach-in-Order.result
    (give_orders (the_view c.self.inside) c.reach-in-Order.new.links c.in-Order.key) c.reach-in-Order.ensures.given)

pub returns-in-OrderLine-clause-given : goal.returns-in-OrderLine-clause-given
returns-in-OrderLine-clause-given c = rw (← c.self.view_is, c.in-OrderLine.is)
    (on_ok_weaker c.reach-in-OrderLine.result
    (give_order_lines (the_view c.self.inside) c.reach-in-OrderLine.new.links c.in-OrderLine.key)
    c.reach-in-OrderLine.ensures.given)

pub returns-in-Item-clause-given : goal.returns-in-Item-clause-given
returns-in-Item-clause-given c = rw (← c.self.view_is, c.in-Item.is)
    (on_ok_weaker c.reach-in-Item.result (give_items (the_view c.self.inside) c.reach-in-Item.new.links c.in-Item.key)
    c.reach-in-Item.ensures.given)

pub returns-in-Stock-clause-given : goal.returns-in-Stock-clause-given
returns-in-Stock-clause-given c = rw (← c.self.view_is, c.in-Stock.is)
    (on_ok_weaker c.reach-in-Stock.result
    (give_stocks (the_view c.self.inside) c.reach-in-Stock.new.links c.in-Stock.key) c.reach-in-Stock.ensures.given)
