use Rattle.oe_script.specs.Session.{state_of}
use Rattle.oe_script.proofs.LineFacts.{replied_never}
use Rattle.oe_script.proofs.outcome.answer_line.Goals as goal

pub returns-in-Err : goal.returns-in-Err
returns-in-Err g c = (
  replied_never (state_of g.M.Machine.world c.args.core.now) c.args.number c.args.line.now
      (g.W.Outlet.sink c.args.to.now)
      (g.W.Outlet.sink c.make_room.new.to) c.args.out.now.items c.requires.live c.in-Err.ensures.stream,
  tt,
)
