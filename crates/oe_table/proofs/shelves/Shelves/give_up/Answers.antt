use Rattle.std.proofs.Common.{[]}
use Rattle.oe_table.specs.Shelf.{whole_list}
use Rattle.oe_table.proofs.ShelvesFacts.{past-shelves, shelf-ascends}
use Rattle.oe_table.proofs.GivenUpFacts.{none-left, rows-left, shelves-left, places-left}
use Rattle.oe_table.proofs.shelves.Shelves.give_up.Goals as goal

pub returns-in_default-clause-places : goal.returns-in_default-clause-places
returns-in_default-clause-places g c =
    let shelves = c.self.inside.shelves.items in
    rw (← c.self.view_is) (none-left g.met.K.Ord.total g.met.K.TableKey.exact (whole_list shelves) c.args.key.now
    (past-shelves g.K.Ord.cmp g.K.ShelvedKey.shelf_of g.met.K.TableKey.exact shelves c.args.key.now c.self.invariant
    (rw (← c.shelf-number.ensures.number) c.in_default.ensures.item.3)))

pub give_up-requires : goal.give_up-requires
give_up-requires g c =
    rw (c.in-Some.ensures.item.3.1 [])
    (shelf-ascends g.K.Ord.cmp g.K.ShelvedKey.shelf_of 0 c.self.inside.shelves.items c.shelf-number.result
    c.self.invariant)

pub invariant_of-self-2 : goal.invariant_of-self-2
invariant_of-self-2 g c =
    rw c.shelf-number.ensures.number
    (shelves-left g.met.K.Ord.total g.met.K.TableKey.exact g.K.ShelvedKey.shelf_of c.self.inside.shelves.items
    c.in-Some.shelf.now c.give_up.new.self c.args.key.now c.self.invariant
    (rw (← c.shelf-number.ensures.number) c.in-Some.ensures.item.3.1) c.give_up.ensures)

pub returns-clause-places : goal.returns-clause-places
returns-clause-places g c =
    rw (← c.self.view_is, c.shelf-number.ensures.number)
    (places-left g.met.K.Ord.total g.met.K.TableKey.exact g.K.ShelvedKey.shelf_of c.self.inside.shelves.items
    c.in-Some.shelf.now c.give_up.new.self c.args.key.now c.self.invariant
    (rw (← c.shelf-number.ensures.number) c.in-Some.ensures.item.3.0)
    (rw (← c.shelf-number.ensures.number) c.in-Some.ensures.item.3.1) c.give_up.ensures)

pub returns-clause-rows : goal.returns-clause-rows
returns-clause-rows g c = rows-left g.met.K.Ord.total g.met.K.TableKey.exact c.args.self.now _ c.args.key.now
    (returns-clause-places g c)
