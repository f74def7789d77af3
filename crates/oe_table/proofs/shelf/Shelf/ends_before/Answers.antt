use Rattle.std.proofs.Common.{◌∙◌, Option}
use Rattle.oe_table.proofs.ShelfFacts.{ends-answer}
use Rattle.oe_table.proofs.shelf.Shelf.ends_before.Goals as goal

pub returns-in-Some : goal.returns-in-Some
returns-in-Some g c =
    let e : g.row.K.Denot × Option g.row.R.Denot = (c.last-in-Some.inside.key, c.last-in-Some.inside.content) in
    rw (← c.slots.ensures, c.is_lt.ensures, c.cmp.ensures)
    (ends-answer g.K.Ord.cmp g.met.K.Ord.total c.slots.result.now e c.args.key.now (rw c.slots.ensures c.requires)
    (λ d. c.last-in-Some.view_is ∙ c.in-Some.ensures.item.3.1 d))
