use Rattle.std.specs.Prelude.{Some}
use Rattle.std.proofs.lemmas.Result.{on_ok_weaker}
use Rattle.oe_rows.specs.Key.{history_cmp}
use Rattle.oe_table.specs.Table.{rows_of}
use Rattle.oe_undo.specs.contracts.links.Links.{the_view}
use Rattle.oe_undo.proofs.LinkFacts.{insert_warehouses, insert_districts, insert_customers, insert_histories}
use Rattle.oe_undo.proofs.LinkFacts.{insert_new_orders, insert_orders, insert_order_lines, insert_items, insert_stocks}
use Rattle.oe_undo.proofs.LinkFacts.{history_put}
use Rattle.oe_undo.proofs.links.Links.insert.Goals as goal

pub returns-in-Warehouse-clause-inserted : goal.returns-in-Warehouse-clause-inserted
returns-in-Warehouse-clause-inserted c = rw (← c.self.view_is, c.in-Warehouse.is)
    (on_ok_weaker c.insert.result
    (insert_warehouses (the_view c.self.inside) c.insert.new.links c.in-Warehouse.key (Some c.args.link))
    c.insert.ensures.inserted)

pub returns-in-District-clause-inserted : goal.returns-in-District-clause-inserted
returns-in-District-clause-inserted c = rw (← c.self.view_is, c.in-District.is)
    (on_ok_weaker c.insert-in-District.result
    (insert_districts (the_view c.self.inside) c.insert-in-District.new.links c.in-District.key (Some c.args.link))
    c.insert-in-District.ensures.inserted)

pub returns-in-Customer-clause-inserted : goal.returns-in-Customer-clause-inserted
returns-in-Customer-clause-inserted c = rw (← c.self.view_is, c.in-Customer.is)
    (on_ok_weaker c.insert-in-Customer.result
    (insert_customers (the_view c.self.inside) c.insert-in-Customer.new.links c.in-Customer.key (Some c.args.link))
    c.insert-in-Customer.ensures.inserted)

pub returns-in-History-clause-inserted : goal.returns-in-History-clause-inserted
returns-in-History-clause-inserted c = rw (← c.self.view_is, c.in-History.is)
    (on_ok_weaker c.put_new.result
    (λ e. insert_histories (the_view c.self.inside) (rows_of history_cmp c.put_new.new.self) c.in-History.key
    (Some c.args.link) (history_put _ _ c.in-History.key (Some c.args.link) e)) c.put_new.ensures.rows)

pub returns-in-NewOrder-clause-inserted : goal.returns-in-NewOrder-clause-inserted
returns-in-NewOrder-clause-inserted c = rw (← c.self.view_is, c.in-NewOrder.is)
    (on_ok_weaker c.insert-in-NewOrder.result
    (insert_new_orders (the_view c.self.inside) c.insert-in-NewOrder.new.links c.in-NewOrder.key (Some c.args.link))
    c.insert-in-NewOrder.ensures.inserted)

pub returns-in-Order-clause-inserted : goal.returns-in-Order-clause-inserted
returns-in-Order-clause-inserted c = rw (← c.self.view_is, c.in-Order.is)
    (on_ok_weaker c.insert-in-Order.result
    (insert_orders (the_view c.self.inside) c.insert-in-Order.new.links c.in-Order.key (Some c.args.link))
    c.insert-in-Order.ensures.inserted)

pub returns-in-OrderLine-clause-inserted : goal.returns-in-OrderLine-clause-inserted
returns-in-OrderLine-clause-inserted c = rw (← c.self.view_is, c.in-OrderLine.is)
    (on_ok_weaker c.insert-in-OrderLine.result
    (insert_order_lines (the_view c.self.inside) c.insert-in-OrderLine.new.links c.in-OrderLine.key (Some c.args.link))
    c.insert-in-OrderLine.ensures.inserted)

pub returns-in-Item-clause-inserted : goal.returns-in-Item-clause-inserted
returns-in-Item-clause-inserted c = rw (← c.self.view_is, c.in-Item.is)
    (on_ok_weaker c.insert-in-Item.result
    (insert_items (the_view c.self.inside) c.insert-in-Item.new.links c.in-Item.key (Some c.args.link))
    c.insert-in-Item.ensures.inserted)

pub returns-in-Stock-clause-inserted : goal.returns-in-Stock-clause-inserted
returns-in-Stock-clause-inserted c = rw (← c.self.view_is, c.in-Stock.is)
    (on_ok_weaker c.insert-in-Stock.result
    (insert_stocks (the_view c.self.inside) c.insert-in-Stock.new.links c.in-Stock.key (Some c.args.link))
    c.insert-in-Stock.ensures.inserted)
