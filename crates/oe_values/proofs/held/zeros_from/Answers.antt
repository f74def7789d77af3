use Rattle.std.proofs.Common.{sym, ◌∙◌}
use Rattle.oe_values.proofs.HeldFacts.{none_found}
use Rattle.oe_values.proofs.held.zeros_from.Goals as goal

pub returns-in-None : goal.returns-in-None
returns-in-None c = none_found c.args.bytes.now (sym c.first_zero.ensures ∙ c.in-None.is)
