use Rattle.std.proofs.Common.{sym, subst}
use Rattle.oe_formulas.specs.declared.orders.Seen.{Seen}
use Rattle.oe_formulas.specs.Orders.{seen_by}
use Rattle.oe_model.specs.Positions.{NewOrderQueue}
use Rattle.oe_model.specs.NewOrder.{new_order_taken}
use Rattle.oe_engine.specs.View.{view_of}
use Rattle.oe_engine.specs.Stages.{HoldsAll}
use Rattle.oe_neworder.specs.Program.{position_of}
use Rattle.oe_neworder.proofs.LineFacts.{order_at_queue}
use Rattle.oe_neworder.proofs.programs.Program.next_before_lines.Goals as goal

pub insert_new_order-requires : goal.insert_new_order-requires
insert_new_order-requires c = λ o.
    order_at_queue (view_of c.args.engine.now) c.args.tx.now.terminal c.args.request.now
    (seen_by c.copied-seen-in-Queue.result)
    (subst (λ (y : Seen). HoldsAll (view_of c.args.engine.now) c.args.tx.now.terminal
    (new_order_taken c.args.request.now (NewOrderQueue (seen_by y)))) (sym c.copied-seen-in-Queue.ensures)
    (subst (λ p. HoldsAll (view_of c.args.engine.now) c.args.tx.now.terminal
    (new_order_taken c.args.request.now (position_of c.args.request.now p))) c.in-Queue.is c.requires.held))
