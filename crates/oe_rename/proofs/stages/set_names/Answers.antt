use Rattle.std.proofs.Common.{◌≡◌, refl, Some}
use Rattle.std.specs.FinMap.{get}
use Rattle.oe_rows.specs.declared.customers.Customer.{Customer}
use Rattle.oe_requests.specs.declared.requests.Request.TheVariants as request
use Rattle.oe_model.specs.Changes.{UpdateCustomer}
use Rattle.oe_model.specs.Positions.{RenameNew, RenameEnd, InRename}
use Rattle.oe_model.specs.Rename.{with_new_name}
use Rattle.oe_engine.specs.View.{view_of}
use Rattle.oe_rename.proofs.StageFacts.{may_set, names_written, names_set}
use Rattle.oe_rename.proofs.stages.set_names.Goals.{After-put_under}
use Rattle.oe_rename.proofs.stages.set_names.Goals as goal

-- with the new name the transaction may set both
pub put_under-requires : goal.put_under-requires
put_under-requires c = record {
  covered = λ o. rw (c.exclusive.ensures, c.new_name.ensures, c.as_text.ensures)
      (may_set (view_of c.args.engine.now) c.args.tx.now.terminal c.args.request.now c.args.last c.requires.recalls
      c.requires.held);
}

-- the customer is there
found : (c : After-put_under) → (y : Customer)
    × (get (view_of c.args.engine.now).rows.customers c.args.request.now.customer ≡ Some y)
found c = (c.requires.recalls.0, c.requires.recalls.1)

pub returns-in-Ok : goal.returns-in-Ok
returns-in-Ok c =
    let q = c.args.request.now in
    let (y, here) = found (goal.at.returns-in-Ok c).After-put_under in
    c.in-Ok.ensures.does (UpdateCustomer q.customer (with_new_name q y))
    (names_written q c.args.tx.now c.args.engine.now y here c.as_text.result c.as_text-2.result c.as_text.ensures
    c.as_text-2.ensures)
    (request.Rename q) (InRename q (RenameNew c.args.last)) (InRename q (RenameEnd c.args.last))
    (rw (c.exclusive.ensures, c.new_name.ensures) refl)
    (names_set q c.args.tx.now c.args.engine.now y here c.args.last)

pub returns-in-Err : goal.returns-in-Err
returns-in-Err c =
    let q = c.args.request.now in
    let (y, here) = found (goal.at.returns-in-Err c).After-put_under in (
      c.in-Err.ensures.does (UpdateCustomer q.customer (with_new_name q y))
          (names_written q c.args.tx.now c.args.engine.now y here c.as_text.result c.as_text-2.result c.as_text.ensures
          c.as_text-2.ensures)
          (request.Rename q) (InRename q (RenameNew c.args.last)) (InRename q (RenameEnd c.args.last))
          (rw (c.exclusive.ensures, c.new_name.ensures) refl)
          (names_set q c.args.tx.now c.args.engine.now y here c.args.last),
      c.in-Err.ensures.err,
      c.in-Err.ensures.name,
    )
