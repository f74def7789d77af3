use Rattle.std.proofs.Common.{Some, ap}
use Rattle.oe_script.specs.declared.session.Session.{Session}
use Rattle.oe_script.specs.Session.{state_of}
use Rattle.oe_script.proofs.Ending.{heard_from, heard_ran}
use Rattle.oe_script.proofs.script.run_opened_script.Goals as goal

pub returns : goal.returns
returns g c =
    heard_ran (Some (g.M.Machine.world c.args.core)) c.requires _ (g.R.Intake.source c.args.reader.now)
    (g.R.Intake.source c.run-ran.new.reader) (g.W.Outlet.sink c.args.writer.now)
    (g.W.Outlet.sink c.run-ran.new.writer) c.run-ran.result
    (heard_from (state_of g.M.Machine.world c.on-session.result.core) (Some (g.M.Machine.world c.args.core))
    (ap (λ (s : Session _). state_of g.M.Machine.world s.core) c.on-session.ensures) _
    (g.R.Intake.source c.args.reader.now)
    (g.R.Intake.source c.run-ran.new.reader) (g.W.Outlet.sink c.args.writer.now)
    (g.W.Outlet.sink c.run-ran.new.writer) c.run-ran.result c.run-ran.ensures)
