use Rattle.std.proofs.Common.{[]}
use Rattle.oe_index.proofs.ListFacts.{list-ascends}
use Rattle.oe_index.proofs.lists.Lists.has.Goals as goal

pub has-requires : goal.has-requires
has-requires g c =
    rw (c.in-Some.ensures.lookup.3.1 [], c.deref.ensures.value)
    (list-ascends g.K.Ord.cmp c.self.inside.lists.items c.args.number c.self.invariant)
