use Rattle.oe_table.proofs.RangeFacts.{joined-ascends}
use Rattle.oe_table.proofs.shelves.Shelves.all_slots.Goals as goal

pub returns-clause-ordered : goal.returns-clause-ordered
returns-clause-ordered g c = rw (← c.self.view_is)
    (joined-ascends g.K.Ord.cmp g.K.ShelvedKey.shelf_of g.met.K.ShelvedKey.ascends 0 c.self.inside.shelves.items
    c.self.invariant)
