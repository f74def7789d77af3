use Rattle.std.proofs.Common.{◌≡◌, ◌+◌, Some, drop, refl, sym, ap, ◌∙◌, subst}
use Rattle.std.specs.Prelude.{option_map}
use Rattle.std.specs.FinMap.{get}
use Rattle.oe_theory.specs.Machine.{Exclusive}
use Rattle.oe_rows.specs.declared.locks.Name.TheVariants as name
use Rattle.oe_requests.specs.declared.requests.Request.TheVariants as request
use Rattle.oe_model.specs.Keys.{order_of_line, order_in, line_in}
use Rattle.oe_model.specs.Changes.{UpdateOrderLine}
use Rattle.oe_model.specs.Delivery.{with_date}
use Rattle.oe_model.specs.Positions.{DeliveryLine, InDelivery}
use Rattle.oe_engine.specs.View.{view_of}
use Rattle.oe_engine.specs.Programs.{GoesOn}
use Rattle.oe_delivery.specs.Program.{line_position}
use Rattle.oe_delivery.proofs.StageFacts.{line_asks, line_does, order_held}
use Rattle.oe_delivery.proofs.stages.date_line.Goals.{After-line, After-put_held}
use Rattle.oe_delivery.proofs.stages.date_line.Goals as goal

line_is : (c : After-line) → c.line.result ≡ line_in (order_in c.args.request.now.district c.args.remainder.now.order)
    c.args.number
line_is c = c.line.ensures ∙ ap (λ k. line_in k c.args.number)
    (c.order-2.ensures ∙ ap (λ o. order_in c.args.request.now.district o) c.order.ensures)

found : (c : After-put_held) → get (view_of c.args.engine.now).rows.order_lines c.line.result ≡ Some c.in-Some.row.now
found c = ap (λ r. get r.order_lines c.line.result) (sym c.tables.ensures) ∙ sym c.in-Some.ensures

pub put_held-requires-clause-held : goal.put_held-requires-clause-held
put_held-requires-clause-held c = λ o.
    subst (λ k. (view_of c.args.engine.now).held c.args.tx.now.terminal (name.Order (order_of_line k)) ≡ Some Exclusive)
    (sym (line_is (goal.at.put_held-requires-clause-held c).After-line))
    (order_held (view_of c.args.engine.now) c.args.tx.now.terminal c.args.request.now c.args.remainder.now
    c.requires.held)

pub returns-in-Ok : goal.returns-in-Ok
returns-in-Ok c =
    subst (λ l. GoesOn c.args.engine.now c.args.tx.now (request.Delivery c.args.request.now)
    (InDelivery c.args.request.now (line_position c.args.remainder.now))
    c.put_held.new.engine (InDelivery c.args.request.now (line_position l))) (sym c.pass.ensures)
    (c.in-Ok.ensures.does (UpdateOrderLine c.line.result (with_date c.args.request.now.stamp c.in-Some.row.now))
    (ap (option_map (λ z. UpdateOrderLine c.line.result (with_date c.args.request.now.stamp z)))
    (found (goal.at.returns-in-Ok c).After-put_held))
    (request.Delivery c.args.request.now) (InDelivery c.args.request.now (line_position c.args.remainder.now))
    (InDelivery c.args.request.now
    (DeliveryLine c.args.remainder.now.order c.args.remainder.now.customer (drop 1 c.args.remainder.now.numbers)
    (c.args.remainder.now.sum + c.in-Some.row.now.amount)))
    (line_asks c.args.engine.now c.args.tx.now c.args.request.now c.args.remainder.now c.args.number c.requires.next)
    (line_does c.args.engine.now c.args.tx.now c.args.request.now c.args.remainder.now c.args.number c.requires.next
    c.line.result
    (line_is (goal.at.returns-in-Ok c).After-line) c.in-Some.row.now (found (goal.at.returns-in-Ok c).After-put_held)))

pub returns-in-Err : goal.returns-in-Err
returns-in-Err c = (
  c.in-Err.ensures.does (UpdateOrderLine c.line.result (with_date c.args.request.now.stamp c.in-Some.row.now))
      (ap (option_map (λ z. UpdateOrderLine c.line.result (with_date c.args.request.now.stamp z)))
      (found (goal.at.returns-in-Err c).After-put_held))
      (request.Delivery c.args.request.now) (InDelivery c.args.request.now (line_position c.args.remainder.now))
      (InDelivery c.args.request.now
      (DeliveryLine c.args.remainder.now.order c.args.remainder.now.customer (drop 1 c.args.remainder.now.numbers)
      (c.args.remainder.now.sum + c.in-Some.row.now.amount)))
      (line_asks c.args.engine.now c.args.tx.now c.args.request.now c.args.remainder.now c.args.number c.requires.next)
      (line_does c.args.engine.now c.args.tx.now c.args.request.now c.args.remainder.now c.args.number c.requires.next
      c.line.result
      (line_is (goal.at.returns-in-Err c).After-line) c.in-Some.row.now
      (found (goal.at.returns-in-Err c).After-put_held)),
  c.in-Err.ensures.err,
  c.in-Err.ensures.name,
  refl,
)
