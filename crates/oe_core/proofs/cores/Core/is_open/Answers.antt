use Rattle.std.proofs.Common.{refl, sym, ap, ◌∙◌}
use Rattle.std.specs.Prelude.{is_some}
use Rattle.oe_core.proofs.MoveFacts.{lent_tx}
use Rattle.oe_core.proofs.CountFacts.{open_is}
use Rattle.oe_core.proofs.cores.Core.is_open.Goals as goal

pub returns : goal.returns
returns c =
    rw (← c.self.view_is)
    (c.is_some.ensures ∙ (ap is_some (sym (lent_tx c.self.invariant refl c.at.ensures.high c.at.ensures.value refl))
    ∙ open_is _ c.self.invariant c.args.terminal))
