use Rattle.oe_table.proofs.ShelvesFacts.{no-shelves}
use Rattle.oe_table.proofs.shelves.Shelves.new.Goals as goal

pub invariant_of-result : goal.invariant_of-result
invariant_of-result g c = no-shelves g.K.Ord.cmp g.K.ShelvedKey.shelf_of c.new.result.items c.new.ensures.items
