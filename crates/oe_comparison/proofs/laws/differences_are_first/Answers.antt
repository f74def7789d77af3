use Rattle.oe_comparison.proofs.LawFacts.{none_is_same, some_is_first}
use Rattle.oe_comparison.proofs.laws.differences_are_first.Goals as goal

pub returns : goal.returns
returns g c = record {
  none = none_is_same g.K.Ord.cmp g.met.K.TableKey.exact g.met.K.Ord.total;
  some = some_is_first g.K.Ord.cmp g.met.K.TableKey.exact g.met.K.Ord.total;
}
