use Rattle.std.proofs.Common.{◌≡◌, sym, ap, ◌∙◌, Some}
use Rattle.std.specs.FinMap.{get}
use Rattle.oe_requests.specs.declared.requests.Request.TheVariants as request
use Rattle.oe_model.specs.Positions.{RenameCustomer, RenameOld, InRename}
use Rattle.oe_engine.specs.View.{view_of}
use Rattle.oe_rename.proofs.StageFacts.{customer_asks, customer_reads}
use Rattle.oe_rename.proofs.stages.take_customer.Goals.{After-hold}
use Rattle.oe_rename.proofs.stages.take_customer.Goals as goal

found : (c : After-hold) → get (view_of c.args.engine.now).rows.customers c.args.request.now.customer ≡ Some
    c.in-Some.row.now
found c = ap (λ r. get r.customers c.args.request.now.customer) (sym c.tables.ensures) ∙ sym c.in-Some.ensures

pub returns-in-Ok : goal.returns-in-Ok
returns-in-Ok c =
    let q = c.args.request.now in
    let y = c.in-Some.row.now in
    let here = found (goal.at.returns-in-Ok c).After-hold in
    rw (c.of-last.ensures)
    (c.in-Ok.ensures.does (request.Rename q) (InRename q RenameCustomer) (InRename q (RenameOld y.name.last))
    (rw (c.exclusive.ensures) (customer_asks q c.args.tx.now c.args.engine.now y here))
    (customer_reads q c.args.tx.now c.args.engine.now y here))

pub returns-in-Err : goal.returns-in-Err
returns-in-Err c =
    let q = c.args.request.now in
    let y = c.in-Some.row.now in
    let here = found (goal.at.returns-in-Err c).After-hold in (
      c.in-Err.ensures.does (request.Rename q) (InRename q RenameCustomer) (InRename q (RenameOld y.name.last))
          (rw (c.exclusive.ensures) (customer_asks q c.args.tx.now c.args.engine.now y here))
          (customer_reads q c.args.tx.now c.args.engine.now y here),
      c.in-Err.ensures.err,
      c.in-Err.ensures.name,
    )
