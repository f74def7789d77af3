use Rattle.std.proofs.Common.{arith}
use Rattle.oe_sources.proofs.TextFacts.{no_count, no_count_empty}
use Rattle.oe_sources.proofs.texts.may_count.Goals as goal

pub returns-in-empty : goal.returns-in-empty
returns-in-empty c b = no_count_empty c.args.text.now (omega arith)

pub returns-else-first-eq114 : goal.returns-else-first-eq114
returns-else-first-eq114 c b = no_count c.args.text.now (omega arith) c.if-first-eq114.false b
