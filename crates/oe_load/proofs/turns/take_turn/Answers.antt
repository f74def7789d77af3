use Rattle.std.proofs.Common.{sym, ◌∙◌}
use Rattle.oe_load.specs.Turns.{counts_of}
use Rattle.oe_load.proofs.LoadFacts.{turned_of}
use Rattle.oe_load.proofs.turns.take_turn.Goals as goal

pub returns : goal.returns
returns g c = turned_of c.args.plan.now (g.M.Machine.world c.args.core.now) (counts_of c.args.served.now)
    c.args.terminal
    c.args.out.now.items c.ask.result (g.M.Machine.world c.ask.new.core) (counts_of c.ask.new.served)
    c.ask.new.out.items
    (sym c.is_open.ensures ∙ c.if-is_open.false) c.ask.ensures
