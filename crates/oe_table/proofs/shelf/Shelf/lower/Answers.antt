use Rattle.oe_table.proofs.ShelfFacts.{lower-at}
use Rattle.oe_table.proofs.shelf.Shelf.lower.Goals as goal

pub returns-in-Ok : goal.returns-in-Ok
returns-in-Ok g c = lower-at g.K.Ord.cmp g.met.K.Ord.total c.args.self.now c.args.key.now c.in-Ok.at c.requires
    c.in-Ok.ensures
