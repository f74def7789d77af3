use Rattle.oe_core.proofs.AskFacts.{listed_held}
use Rattle.oe_core.proofs.cores.Core.names.Goals as goal

pub returns-clause-held : goal.returns-clause-held
returns-clause-held c =
    rw (← c.self.view_is)
    (listed_held _ c.args.terminal c.self.invariant c.names.result.now c.names.ensures.held c.names.ensures.idle)
