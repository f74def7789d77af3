use Rattle.oe_comparison.proofs.CountFacts.{counted}
use Rattle.oe_comparison.proofs.laws.differences_are_counted.Goals as goal

pub returns : goal.returns
returns g c = counted g.K.Ord.cmp g.met.K.TableKey.exact g.met.K.Ord.total
