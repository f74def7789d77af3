use Rattle.std.proofs.Common.{sym, ◌∙◌}
use Rattle.oe_values.proofs.stamps.Stamp.text.Goals as goal

pub returns-clause-only : goal.returns-clause-only
returns-clause-only c text says = c.bytes.ensures.only text says ∙ sym c.in-Some.ensures.value
