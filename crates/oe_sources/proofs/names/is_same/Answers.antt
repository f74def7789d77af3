use Rattle.oe_sources.proofs.NameFacts.{same_is}
use Rattle.oe_sources.proofs.names.is_same.Goals as goal

pub returns : goal.returns
returns c = same_is c.args.a.now c.args.b.now c.eq_ignore_ascii_case.result c.eq_ignore_ascii_case.ensures.test
