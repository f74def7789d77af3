use Rattle.std.proofs.Common.{◌++◌, ap, ◌∙◌, arith}
use Rattle.oe_waits.proofs.ReachFacts.{least_is, line_is}
use Rattle.oe_waits.proofs.shows.cycle.Goals as goal

pub returns-clause-items : goal.returns-clause-items
returns-clause-items g c =
    c.cycle_in.ensures.items ∙ ap (λ l. c.args.out.now.items ++ l)
    (line_is (g.M.Machine.world c.args.core.now) c.reached-ahead.result c.reached-back.result c.args.least
    (omega arith, omega arith) c.reached-ahead.ensures c.reached-back.ensures)

pub returns-clause-found : goal.returns-clause-found
returns-clause-found g c =
    c.cycle_in.ensures.found
    ∙ least_is (g.M.Machine.world c.args.core.now) c.reached-ahead.result c.reached-back.result c.args.least
    (omega arith, omega arith) c.reached-ahead.ensures c.reached-back.ensures
