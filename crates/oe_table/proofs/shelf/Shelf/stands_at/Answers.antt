use Rattle.std.proofs.Common.{◌∙◌, Option}
use Rattle.oe_table.proofs.ShelfFacts.{stands-answer}
use Rattle.oe_table.proofs.shelf.Shelf.stands_at.Goals as goal

pub returns-in-Some : goal.returns-in-Some
returns-in-Some g c =
    let e : g.row.K.Denot × Option g.row.R.Denot = (c.slot.inside.key, c.slot.inside.content) in
    rw (← c.slots.ensures, c.is_eq.ensures, c.cmp.ensures)
    (stands-answer g.K.Ord.cmp g.met.K.Ord.total c.slots.result.now e c.args.key.now c.args.at
    c.in-Some.ensures.lookup.3.0 (λ d. c.slot.view_is ∙ c.in-Some.ensures.lookup.3.1 d))
