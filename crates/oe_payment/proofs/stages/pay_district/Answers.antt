use Rattle.std.proofs.Common.{◌≡◌, Some, sym, ap, ◌∙◌}
use Rattle.std.specs.FinMap.{get}
use Rattle.oe_model.specs.Changes.{UpdateDistrict}
use Rattle.oe_model.specs.Payment.{behind_district}
use Rattle.oe_model.specs.Positions.{PaymentDistrict}
use Rattle.oe_engine.specs.View.{view_of}
use Rattle.oe_payment.proofs.StageFacts.{district_stage}
use Rattle.oe_payment.proofs.stages.pay_district.Goals as goal

pub returns-clause-does : goal.returns-clause-does
returns-clause-does c = λ w.
    let k = c.args.request.now.district in
    let found : get (view_of c.args.engine.now).rows.districts k ≡ Some c.in-Some.row.now =
    ap (λ r. get r.districts k) (sym c.tables.ensures) ∙ sym c.in-Some.ensures in
    c.go-done.ensures.does c.args.request.now (PaymentDistrict w)
    (behind_district c.args.request.now.customer w c.copied-name.result)
    (UpdateDistrict k (record c.in-Some.row.now { ytd = c.in-Ok.ytd }))
    (rw c.copied-name.ensures
    (district_stage c.args.request.now c.args.tx.now c.args.engine.now w c.in-Some.row.now c.in-Ok.ytd found
    c.in-Ok.ensures))
