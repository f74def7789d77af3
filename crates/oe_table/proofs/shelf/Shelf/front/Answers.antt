use Rattle.std.proofs.Common.{◌∙◌, sym, Option}
use Rattle.oe_table.proofs.PassedFacts.{none-more, is_blank}
use Rattle.oe_table.proofs.shelf.Shelf.front.Goals as goal

pub loop-slot-preserved : goal.loop-slot-preserved
loop-slot-preserved g c =
    let e : g.row.K.Denot × Option g.row.R.Denot = (c.slot.inside.key, c.slot.inside.content) in
    none-more c.self.inside.slots c.loop-slot.passed e (rw (← c.as_slice.ensures) c.in-Some.ensures.lookup.3.0)
    (λ d. rw (← c.as_slice.ensures) (c.slot.view_is ∙ c.in-Some.ensures.lookup.3.1 d))
    (is_blank c.slot.inside.content (sym c.is_some.ensures ∙ c.if-is_some.false)) c.loop-slot.invariant

pub returns-then-is_some : goal.returns-then-is_some
returns-then-is_some g c = rw (← c.self.view_is) c.loop-slot.invariant

pub returns : goal.returns
returns g c = rw (← c.self.view_is) c.loop-slot.invariant
