use Rattle.std.proofs.Common.{◌≡◌, None, Some, refl, sym, ap, ◌∙◌}
use Rattle.oe_theory.specs.Machine.{Take, Exclusive}
use Rattle.oe_rows.specs.declared.locks.Name.TheVariants as name
use Rattle.oe_requests.specs.declared.requests.Request.TheVariants as request
use Rattle.oe_model.specs.Keys.{district_of_new_order}
use Rattle.oe_model.specs.Changes.{DeleteNewOrder}
use Rattle.oe_model.specs.Delivery.{oldest}
use Rattle.oe_model.specs.Positions.{DeliveryQueue, DeliveryNothing, DeliveryOrder, InDelivery}
use Rattle.oe_engine.specs.View.{view_of}
use Rattle.oe_delivery.proofs.StageFacts.{none_waits, one_waits}
use Rattle.oe_delivery.proofs.stages.take_oldest.Goals.{After-hold, After-put}
use Rattle.oe_delivery.proofs.stages.take_oldest.Goals as goal

none : (c : After-hold) → oldest c.args.request.now.district (view_of c.args.engine.now).rows.new_orders ≡ None
none c = ap (λ r. oldest c.args.request.now.district r.new_orders) (sym c.tables.ensures) ∙ sym c.in_default.ensures

some : (c : After-put) → oldest c.args.request.now.district (view_of c.args.engine.now).rows.new_orders ≡ Some
    c.in-Some.order
some c = ap (λ r. oldest c.args.request.now.district r.new_orders) (sym c.tables.ensures) ∙ sym c.in-Some.ensures

pub returns-in-Ok : goal.returns-in-Ok
returns-in-Ok c =
    c.in-Ok.ensures.does (request.Delivery c.args.request.now) (InDelivery c.args.request.now DeliveryQueue)
    (InDelivery c.args.request.now DeliveryNothing)
    refl (none_waits c.args.engine.now c.args.tx.now c.args.request.now (none (goal.at.returns-in-Ok c).After-hold))

pub returns-in-Err : goal.returns-in-Err
returns-in-Err c = (
  c.in-Err.ensures.does (request.Delivery c.args.request.now) (InDelivery c.args.request.now DeliveryQueue)
      (InDelivery c.args.request.now DeliveryNothing)
      refl (none_waits c.args.engine.now c.args.tx.now c.args.request.now (none (goal.at.returns-in-Err c).After-hold)),
  c.in-Err.ensures.err,
  c.in-Err.ensures.name,
  refl,
)

pub returns-in-Ok-put : goal.returns-in-Ok-put
returns-in-Ok-put c =
    c.in-Ok-put.ensures.does (DeleteNewOrder c.new_order.result) refl
    (request.Delivery c.args.request.now) (InDelivery c.args.request.now DeliveryQueue)
    (InDelivery c.args.request.now (DeliveryOrder c.in-Some.order))
    (ap (λ k. Take (name.Queue (district_of_new_order k)) Exclusive) (sym c.new_order.ensures))
    (one_waits c.args.engine.now c.args.tx.now c.args.request.now c.in-Some.order c.new_order.result c.new_order.ensures
    (some (goal.at.returns-in-Ok-put c).After-put))

pub returns-in-Err-put : goal.returns-in-Err-put
returns-in-Err-put c = (
  c.in-Err-put.ensures.does (DeleteNewOrder c.new_order.result) refl
      (request.Delivery c.args.request.now) (InDelivery c.args.request.now DeliveryQueue)
      (InDelivery c.args.request.now (DeliveryOrder c.in-Some.order))
      (ap (λ k. Take (name.Queue (district_of_new_order k)) Exclusive) (sym c.new_order.ensures))
      (one_waits c.args.engine.now c.args.tx.now c.args.request.now c.in-Some.order c.new_order.result
      c.new_order.ensures (some (goal.at.returns-in-Err-put c).After-put)),
  c.in-Err-put.ensures.err,
  c.in-Err-put.ensures.name,
  refl,
)
