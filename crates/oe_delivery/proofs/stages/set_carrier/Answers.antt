use Rattle.std.proofs.Common.{◌≡◌, Some, refl, subst}
use Rattle.std.specs.Prelude.{option_map}
use Rattle.std.specs.FinMap.{get}
use Rattle.oe_requests.specs.declared.requests.Request.TheVariants as request
use Rattle.oe_model.specs.Positions.{DeliveryOrder, InDelivery}
use Rattle.oe_delivery.specs.Remainder.{remainder_of}
use Rattle.oe_delivery.specs.Program.{line_position}
use Rattle.oe_delivery.proofs.StageFacts.{CarrierStage, carrier_stage}
use Rattle.oe_delivery.proofs.stages.set_carrier.Goals.{After-put}
use Rattle.oe_delivery.proofs.stages.set_carrier.Goals as goal

stage : (c : After-put) → CarrierStage c.args.engine.now c.args.tx.now c.args.request.now c.args.order c.order.result
    c.in-Some.remainder
stage c =
    carrier_stage c.args.engine.now c.args.tx.now c.args.request.now c.args.order c.in-Some.remainder c.order.result
    c.order.ensures
    (subst (λ r. Some c.in-Some.remainder ≡ option_map (remainder_of c.order.result r) (get r.orders c.order.result))
    c.tables.ensures c.in-Some.ensures)

pub returns-in-Ok : goal.returns-in-Ok
returns-in-Ok c =
    let d = stage (goal.at.returns-in-Ok c).After-put in
    c.in-Ok.ensures.does d.0 d.1 (request.Delivery c.args.request.now)
    (InDelivery c.args.request.now (DeliveryOrder c.args.order))
    (InDelivery c.args.request.now (line_position c.in-Some.remainder)) d.2 d.3

pub returns-in-Err : goal.returns-in-Err
returns-in-Err c =
    let d = stage (goal.at.returns-in-Err c).After-put in (
      c.in-Err.ensures.does d.0 d.1 (request.Delivery c.args.request.now)
          (InDelivery c.args.request.now (DeliveryOrder c.args.order))
          (InDelivery c.args.request.now (line_position c.in-Some.remainder)) d.2 d.3,
      c.in-Err.ensures.err,
      c.in-Err.ensures.name,
      refl,
    )
