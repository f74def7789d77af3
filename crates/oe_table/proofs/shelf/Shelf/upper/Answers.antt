use Rattle.std.proofs.Common.{◌∙◌}
use Rattle.oe_table.proofs.ShelfFacts.{upper-at, lower-upper}
use Rattle.oe_table.proofs.shelf.Shelf.upper.Goals as goal

pub returns-in-Ok : goal.returns-in-Ok
returns-in-Ok g c = upper-at g.K.Ord.cmp g.met.K.Ord.total c.args.self.now c.args.key.now c.in-Ok.at c.requires
    c.in-Ok.ensures

pub returns-in-Err : goal.returns-in-Err
returns-in-Err g c = c.in-Err.ensures.1 ∙ lower-upper g.K.Ord.cmp g.met.K.Ord.total c.args.self.now c.args.key.now
    c.in-Err.ensures.2
