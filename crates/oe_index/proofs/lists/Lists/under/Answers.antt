use Rattle.std.proofs.Common.{[]}
use Rattle.oe_index.proofs.ListFacts.{list-ascends, none-ascends}
use Rattle.oe_index.proofs.lists.Lists.under.Goals as goal

pub returns-in_default-clause-ordered : goal.returns-in_default-clause-ordered
returns-in_default-clause-ordered g c = none-ascends g.K.Ord.cmp c.none.result c.none.ensures

pub returns-clause-ordered : goal.returns-clause-ordered
returns-clause-ordered g c =
    rw (c.keys.ensures, c.in-Some.ensures.lookup.3.1 [], c.deref.ensures.value)
    (list-ascends g.K.Ord.cmp c.self.inside.lists.items c.args.number c.self.invariant)
