use Rattle.oe_fact_laws.proofs.GapFacts.{no_gap}
use Rattle.oe_fact_laws.proofs.orders_have_no_gap.Goals as goal

pub returns : goal.returns
returns c = no_gap
