use Rattle.std.proofs.Common.{refl}
use Rattle.oe_load.specs.Turns.{counts_of, state_of}
use Rattle.oe_load.proofs.LoadFacts.{steps_of}
use Rattle.oe_load.proofs.loads.early.Goals as goal

pub returns-in-Ok : goal.returns-in-Ok
returns-in-Ok g c = steps_of c.args.plan.now
    (state_of (g.M.Machine.world c.args.core.now) (counts_of c.args.served.now) c.args.drawing.now) _
    c.terminal_after-terminal.result c.args.out.now.items c.in-Ok.happening c.ask.new.out.items c.requires.few
    c.terminal_after-terminal.ensures c.in-Ok.ensures c.begun_after-drawing.ensures refl refl
