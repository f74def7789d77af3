use Rattle.std.proofs.Common.{Some, refl, sym, ap}
use Rattle.oe_theory.specs.Machine.{Take, Go, Exclusive}
use Rattle.oe_rows.specs.declared.locks.Name.TheVariants as name
use Rattle.oe_requests.specs.declared.requests.Request.TheVariants as request
use Rattle.oe_formulas.specs.Orders.{seen_by}
use Rattle.oe_model.specs.Changes.{InsertOrder}
use Rattle.oe_model.specs.Positions.{NewOrderOrder, NewOrderQueue, InNewOrder}
use Rattle.oe_neworder.proofs.stages.insert_order.Goals as goal

pub returns-in-Ok : goal.returns-in-Ok
returns-in-Ok c =
    c.in-Ok.ensures.does (InsertOrder c.order.result c.order_row.result) refl (request.NewOrder c.args.request.now)
    (InNewOrder c.args.request.now (NewOrderOrder (seen_by c.args.seen)))
    (InNewOrder c.args.request.now (NewOrderQueue (seen_by c.args.seen)))
    (ap (λ k. Take (name.Order k) Exclusive) (sym c.order.ensures))
    (λ i. Go (Some (InsertOrder (sym c.order.ensures i) (sym c.order_row.ensures i)))
    (InNewOrder c.args.request.now (NewOrderQueue (seen_by c.args.seen))))

pub returns-in-Err : goal.returns-in-Err
returns-in-Err c = (
  c.in-Err.ensures.does (InsertOrder c.order.result c.order_row.result) refl (request.NewOrder c.args.request.now)
      (InNewOrder c.args.request.now (NewOrderOrder (seen_by c.args.seen)))
      (InNewOrder c.args.request.now (NewOrderQueue (seen_by c.args.seen)))
      (ap (λ k. Take (name.Order k) Exclusive) (sym c.order.ensures))
      (λ i. Go (Some (InsertOrder (sym c.order.ensures i) (sym c.order_row.ensures i)))
      (InNewOrder c.args.request.now (NewOrderQueue (seen_by c.args.seen)))),
  c.in-Err.ensures.err,
  c.in-Err.ensures.name,
  refl,
)
