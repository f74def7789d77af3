use Rattle.std.proofs.Common.{[]}
use Rattle.oe_index.proofs.ListFacts.{list-ascends, lists-without, unlists-there}
use Rattle.oe_index.proofs.lists.Lists.remove.Goals as goal

pub take_out-requires : goal.take_out-requires
take_out-requires g c = rw (c.in-Some.ensures.item.3.1 [])
    (list-ascends g.K.Ord.cmp c.self.inside.lists.items c.args.number c.self.invariant)

pub invariant_of-self-2 : goal.invariant_of-self-2
invariant_of-self-2 g c =
    lists-without g.met.K.Ord.total g.met.K.TableKey.exact c.args.number c.args.key.now c.self.inside.lists.items
    c.in-Some.list.now c.take_out.new.self c.in-Some.ensures.item.3.1 c.self.invariant c.take_out.ensures

pub returns : goal.returns
returns g c =
    rw (← c.self.view_is)
    (unlists-there g.met.K.Ord.total g.met.K.TableKey.exact c.args.number c.args.key.now c.self.inside.lists.items
    c.in-Some.list.now c.take_out.new.self c.in-Some.ensures.item.3.1 c.self.invariant
    c.take_out.ensures c.in-Some.ensures.item.3.0)
