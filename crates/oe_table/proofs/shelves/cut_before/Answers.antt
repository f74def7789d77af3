use Rattle.std.proofs.Common.{[]}
use Rattle.oe_table.proofs.ShelvesFacts.{shelf-ascends}
use Rattle.oe_table.proofs.shelves.cut_before.Goals as goal

pub lower-slot-requires : goal.lower-slot-requires
lower-slot-requires g c = rw (c.in-Some.ensures.lookup.3.1 [])
    (shelf-ascends g.K.Ord.cmp g.K.ShelvedKey.shelf_of 0 c.args.shelves.now c.shelf-number.result c.requires)
