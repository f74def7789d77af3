-- The head says how many records there are.
use Rattle.oe_log.proofs.KeptFacts.{len_is}
use Rattle.oe_log.proofs.log.Log.mark.Goals as goal

pub returns : goal.returns
returns c =
    rw (← c.self.view_is)
    (len_is c.self.inside.layout c.self.invariant.kept c.terminal.result c.args.segment c.at.result.now
    c.terminal.ensures
    c.at.ensures.high
    c.at.ensures.value)
