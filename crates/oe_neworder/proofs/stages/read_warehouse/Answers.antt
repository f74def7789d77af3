use Rattle.std.proofs.Common.{Ok, Err, refl, sym, ap, subst}
use Rattle.oe_theory.specs.Machine.{Take, Shared}
use Rattle.oe_rows.specs.declared.locks.Name.TheVariants as name
use Rattle.oe_requests.specs.declared.requests.Request.TheVariants as request
use Rattle.oe_model.specs.Positions.{NewOrderWarehouse, NewOrderDistrict, InNewOrder}
use Rattle.oe_neworder.specs.Looks.{ReadsTax}
use Rattle.oe_neworder.proofs.stages.read_warehouse.Goals as goal

pub returns-in-Err : goal.returns-in-Err
returns-in-Err c = (
  c.failed.ensures.fails (request.NewOrder c.args.request.now) (InNewOrder c.args.request.now NewOrderWarehouse)
      (ap (λ k. Take (name.Warehouse k) Shared) (sym c.warehouse_key.ensures))
      (subst (λ r. ReadsTax c.args.request.now r (Err c.in-Err.refusal)) c.tables.ensures c.in-Err.ensures).1,
  refl,
  refl,
  refl,
)

pub returns-in-Ok-hold : goal.returns-in-Ok-hold
returns-in-Ok-hold c =
    c.in-Ok-hold.ensures.does (request.NewOrder c.args.request.now) (InNewOrder c.args.request.now NewOrderWarehouse)
    (InNewOrder c.args.request.now (NewOrderDistrict c.in-Ok.tax))
    (ap (λ k. Take (name.Warehouse k) Shared) (sym c.warehouse_key.ensures))
    (subst (λ r. ReadsTax c.args.request.now r (Ok c.in-Ok.tax)) c.tables.ensures c.in-Ok.ensures)

pub returns-in-Err-hold : goal.returns-in-Err-hold
returns-in-Err-hold c = (
  c.in-Err-hold.ensures.does (request.NewOrder c.args.request.now) (InNewOrder c.args.request.now NewOrderWarehouse)
      (InNewOrder c.args.request.now (NewOrderDistrict c.in-Ok.tax))
      (ap (λ k. Take (name.Warehouse k) Shared) (sym c.warehouse_key.ensures))
      (subst (λ r. ReadsTax c.args.request.now r (Ok c.in-Ok.tax)) c.tables.ensures c.in-Ok.ensures),
  c.in-Err-hold.ensures.err,
  c.in-Err-hold.ensures.name,
  refl,
)
