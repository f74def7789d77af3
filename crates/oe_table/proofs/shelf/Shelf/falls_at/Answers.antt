use Rattle.std.proofs.Common.{◌≡◌, sym, ◌∙◌, subst, ◌-◌, get_or, Option}
use Rattle.oe_table.proofs.NearFacts.{first-answer, between-answer}
use Rattle.oe_table.proofs.shelf.Shelf.falls_at.Goals as goal

pub returns-then-at-eq0 : goal.returns-then-at-eq0
returns-then-at-eq0 g c t =
    let e : g.row.K.Denot × Option g.row.R.Denot = (c.slot.inside.key, c.slot.inside.content) in
    rw (← c.slots-slots.ensures)
    (first-answer g.K.Ord.cmp g.met.K.Ord.total c.slots-slots.result.now e c.args.key.now c.args.at
    (rw c.slots-slots.ensures c.requires) c.in-Some.ensures.lookup.3.0
    (λ d. c.slot.view_is ∙ c.in-Some.ensures.lookup.3.1 d)
    (rw (← c.cmp.ensures) (sym c.is_gt.ensures ∙ c.if-not-is_gt.false)) c.if-at-eq0.true)

pub returns : goal.returns
returns g c t =
    let e : g.row.K.Denot × Option g.row.R.Denot = (c.slot.inside.key, c.slot.inside.content) in
    let b : g.row.K.Denot × Option g.row.R.Denot = (c.before-2.inside.key, c.before-2.inside.content) in
    rw (← c.slots-slots.ensures)
    (between-answer g.K.Ord.cmp g.met.K.Ord.total c.slots-slots.result.now b e c.args.key.now c.args.at
    (rw c.slots-slots.ensures c.requires) c.in-Some.ensures.lookup.3.0 c.if-at-eq0.false
    (subst (λ (y : g.row.K.Denot × Option g.row.R.Denot). y ≡ get_or c.slots-slots.result.now (c.args.at - 1) y)
    (sym c.before-2.view_is) c.index-slots-at.is)
    (rw (← c.cmp-2.ensures) (sym c.is_lt.ensures ∙ t)) (λ d. c.slot.view_is ∙ c.in-Some.ensures.lookup.3.1 d)
    (rw (← c.cmp.ensures) (sym c.is_gt.ensures ∙ c.if-not-is_gt.false)))
