use Rattle.std.proofs.Common.{◌≡◌, Some, sym, ap, ◌∙◌}
use Rattle.std.specs.FinMap.{get}
use Rattle.oe_model.specs.Keys.{warehouse_of_district}
use Rattle.oe_model.specs.Changes.{UpdateWarehouse}
use Rattle.oe_model.specs.Positions.{PaymentWarehouse, PaymentDistrict}
use Rattle.oe_store.specs.Places.{rows}
use Rattle.oe_engine.specs.View.{view_of}
use Rattle.oe_payment.proofs.StageFacts.{warehouse_stage}
use Rattle.oe_payment.proofs.stages.pay_warehouse.Goals as goal

pub returns-clause-does : goal.returns-clause-does
returns-clause-does c =
    let k = warehouse_of_district c.args.request.now.district in
    let found : get (view_of c.args.engine.now).rows.warehouses k ≡ Some c.in-Some.row.now =
    ap (λ r. get r.warehouses k) (sym c.tables.ensures)
    ∙ (ap (λ j. get (rows c.tables.result.now).warehouses j) (sym c.warehouse_key.ensures)
    ∙ sym c.in-Some.ensures) in
    c.go-done.ensures.does c.args.request.now PaymentWarehouse (PaymentDistrict c.copied-name.result)
    (UpdateWarehouse k (record c.in-Some.row.now { ytd = c.in-Ok.ytd }))
    (rw (c.warehouse_key.ensures, c.copied-name.ensures)
    (warehouse_stage c.args.request.now c.args.tx.now c.args.engine.now c.in-Some.row.now c.in-Ok.ytd found
    c.in-Ok.ensures))
