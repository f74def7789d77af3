use Rattle.std.proofs.Common.{Ok, Err, refl, subst}
use Rattle.oe_requests.specs.declared.requests.Request.TheVariants as request
use Rattle.oe_model.specs.Positions.{NewOrderDistrict, NewOrderCustomer, InNewOrder}
use Rattle.oe_neworder.specs.Looks.{TakesNumber}
use Rattle.oe_neworder.proofs.stages.take_number.Goals as goal

pub returns-in-Err : goal.returns-in-Err
returns-in-Err c = (
  c.failed.ensures.fails (request.NewOrder c.args.request.now)
      (InNewOrder c.args.request.now (NewOrderDistrict c.args.tax))
      refl
      ((subst (λ r. TakesNumber c.args.request.now r (Err c.in-Err.refusal)) c.tables.ensures c.in-Err.ensures).1
      c.args.tax),
  refl,
  refl,
  refl,
)

pub returns-in-Ok-put : goal.returns-in-Ok-put
returns-in-Ok-put c =
    let taken = subst (λ r. TakesNumber c.args.request.now r (Ok c.in-Ok.numbered)) c.tables.ensures c.in-Ok.ensures
    c.args.tax in
    c.in-Ok-put.ensures.does taken.0 taken.1 (request.NewOrder c.args.request.now)
    (InNewOrder c.args.request.now (NewOrderDistrict c.args.tax))
    (InNewOrder c.args.request.now (NewOrderCustomer c.in-Ok.numbered.order c.args.tax c.in-Ok.numbered.tax)) refl
    taken.2

pub returns-in-Err-put : goal.returns-in-Err-put
returns-in-Err-put c =
    let taken = subst (λ r. TakesNumber c.args.request.now r (Ok c.in-Ok.numbered)) c.tables.ensures c.in-Ok.ensures
    c.args.tax in (
      c.in-Err-put.ensures.does taken.0 taken.1 (request.NewOrder c.args.request.now)
          (InNewOrder c.args.request.now (NewOrderDistrict c.args.tax))
          (InNewOrder c.args.request.now
          (NewOrderCustomer c.in-Ok.numbered.order c.args.tax c.in-Ok.numbered.tax)) refl
          taken.2,
      c.in-Err-put.ensures.err,
      c.in-Err-put.ensures.name,
      refl,
    )
