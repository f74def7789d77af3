use Rattle.std.proofs.Common.{◌∙◌, Option}
use Rattle.oe_table.proofs.ShelfFacts.{slot-answer}
use Rattle.oe_table.proofs.shelf.Shelf.slot.Goals as goal

pub returns-in-Some : goal.returns-in-Some
returns-in-Some g c =
    let e : g.row.K.Denot × Option g.row.R.Denot = (c.slot.inside.key, c.slot.inside.content) in
    let all = c.slots.ensures in
    rw (← all) (slot-answer g.K.Ord.cmp g.met.K.Ord.total c.slots.result.now e c.args.key.now c.position-at.result
    (rw all c.requires)
    (rw all (c.position-at.ensures.stands (rw (← all) c.in-Some.ensures.lookup.3.0)))
    (λ d. c.slot.view_is ∙ c.in-Some.ensures.lookup.3.1 d))
