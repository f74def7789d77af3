use Rattle.std.proofs.Common.{refl}
use Rattle.oe_requests.specs.declared.requests.Request.TheVariants as request
use Rattle.oe_model.specs.Positions.{RenameOld, RenameNew, InRename}
use Rattle.oe_rename.proofs.stages.take_old_name.Goals as goal

pub returns-in-Ok : goal.returns-in-Ok
returns-in-Ok c =
    let q = c.args.request.now in
    c.in-Ok.ensures.does (request.Rename q) (InRename q (RenameOld c.args.last)) (InRename q (RenameNew c.args.last))
    (rw (c.exclusive-lock.ensures, c.district_key.ensures) refl) refl

pub returns-in-Err : goal.returns-in-Err
returns-in-Err c =
    let q = c.args.request.now in (
      c.in-Err.ensures.does (request.Rename q) (InRename q (RenameOld c.args.last)) (InRename q (RenameNew c.args.last))
          (rw (c.exclusive-lock.ensures, c.district_key.ensures) refl) refl,
      c.in-Err.ensures.err,
      c.in-Err.ensures.name,
    )
