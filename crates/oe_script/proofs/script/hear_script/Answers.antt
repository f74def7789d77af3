use Rattle.std.proofs.Common.{None, ap}
use Rattle.oe_script.specs.declared.session.Session.{Session}
use Rattle.oe_script.specs.Hearing.{HearsEach}
use Rattle.oe_script.specs.Session.{state_of}
use Rattle.oe_script.proofs.Ending.{heard_from, heard_ran}
use Rattle.oe_script.proofs.script.hear_script.Goals as goal

pub returns-clause-heard : goal.returns-clause-heard
returns-clause-heard g c =
    heard_from (state_of g.M.Machine.world c.new-session.result.core) None
    (ap (λ (s : Session _). state_of g.M.Machine.world s.core) c.new-session.ensures)
    (λ told. HearsEach g.H.Listener.hears c.args.listener.now told c.run-ran.new.listener)
    (g.R.Intake.source c.args.reader.now) (g.R.Intake.source c.run-ran.new.reader)
    (g.W.Outlet.sink c.args.writer.now) (g.W.Outlet.sink c.run-ran.new.writer) c.run-ran.result c.run-ran.ensures

pub returns-clause-ran : goal.returns-clause-ran
returns-clause-ran g c =
    heard_ran None tt (λ told. HearsEach g.H.Listener.hears c.args.listener.now told c.run-ran.new.listener)
    (g.R.Intake.source c.args.reader.now) (g.R.Intake.source c.run-ran.new.reader)
    (g.W.Outlet.sink c.args.writer.now) (g.W.Outlet.sink c.run-ran.new.writer) c.run-ran.result
    (returns-clause-heard g c)
