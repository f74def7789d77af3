use Rattle.std.proofs.Common.{Some, refl, sym, ap, ◌∙◌, subst}
use Rattle.oe_theory.specs.Machine.{Take, Shared}
use Rattle.oe_rows.specs.declared.locks.Name.TheVariants as name
use Rattle.oe_requests.specs.declared.requests.Request.TheVariants as request
use Rattle.oe_model.specs.Positions.{NewOrderCustomer, NewOrderOrder, InNewOrder}
use Rattle.oe_formulas.specs.Orders.{seen_by}
use Rattle.oe_engine.specs.View.{view_of}
use Rattle.oe_neworder.specs.Looks.{Sees}
use Rattle.oe_neworder.proofs.stages.read_customer.Goals.{After-hold}
use Rattle.oe_neworder.proofs.stages.read_customer.Goals as goal

sees : (c : After-hold) → Sees c.args.request.now (view_of c.args.engine.now).rows
    (NewOrderCustomer c.args.order c.args.warehouse_tax c.args.district_tax) (Some c.in-Some.seen)
sees c = subst (λ r. Sees c.args.request.now r (NewOrderCustomer c.args.order c.args.warehouse_tax c.args.district_tax)
    (Some c.in-Some.seen)) c.tables.ensures c.in-Some.ensures

pub returns-in-Ok : goal.returns-in-Ok
returns-in-Ok c =
    let here = sees (goal.at.returns-in-Ok c).After-hold in
    c.in-Ok.ensures.does (request.NewOrder c.args.request.now)
    (InNewOrder c.args.request.now (NewOrderCustomer c.args.order c.args.warehouse_tax c.args.district_tax))
    (InNewOrder c.args.request.now (NewOrderOrder (seen_by c.in-Some.seen)))
    (here.0 ∙ ap (λ k. Take (name.Customer k) Shared) (sym c.customer.ensures)) here.1

pub returns-in-Err : goal.returns-in-Err
returns-in-Err c =
    let here = sees (goal.at.returns-in-Err c).After-hold in (
      c.in-Err.ensures.does (request.NewOrder c.args.request.now)
          (InNewOrder c.args.request.now (NewOrderCustomer c.args.order c.args.warehouse_tax c.args.district_tax))
          (InNewOrder c.args.request.now (NewOrderOrder (seen_by c.in-Some.seen)))
          (here.0 ∙ ap (λ k. Take (name.Customer k) Shared) (sym c.customer.ensures)) here.1,
      c.in-Err.ensures.err,
      c.in-Err.ensures.name,
      refl,
    )
