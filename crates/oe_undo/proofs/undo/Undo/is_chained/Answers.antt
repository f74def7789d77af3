use Rattle.oe_undo.proofs.ChainedFacts.{is_whole}
use Rattle.oe_undo.proofs.undo.Undo.is_chained.Goals as goal

pub returns-clause-whole : goal.returns-clause-whole
returns-clause-whole c =
    rw (← c.self.view_is)
    (is_whole c.self.inside.segments c.horizon-horizon.result c.terminals_are.ensures
    c.horizon-horizon.ensures.value)
