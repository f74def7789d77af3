use Rattle.std.proofs.Common.{◌∙◌}
use Rattle.oe_core.proofs.CountFacts.{horizon_is}
use Rattle.oe_core.proofs.cores.Core.horizon.Goals as goal

pub returns : goal.returns
returns c = rw (← c.self.view_is) (c.horizon.ensures ∙ horizon_is _ c.self.invariant)
