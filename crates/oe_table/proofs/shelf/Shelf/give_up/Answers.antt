use Rattle.std.proofs.Common.{◌∙◌, sym, Option, ◌≡◌, true}
use Rattle.std.specs.Prelude.{is_some}
use Rattle.oe_table.proofs.GivenUpFacts.{nothing-left, row-left, blank-left}
use Rattle.oe_table.proofs.PassedFacts.{is_blank}
use Rattle.oe_table.proofs.shelf.Shelf.give_up.Goals as goal

pub returns-in_default : goal.returns-in_default
returns-in_default g c =
    sym (nothing-left g.K.Ord.cmp c.args.self.now c.args.key.now
    (c.position-at.ensures.none (rw (← c.slots.ensures) c.in_default.ensures.lookup.3)))

pub returns-then-has_row : goal.returns-then-has_row
returns-then-has_row g c =
    let e : g.row.K.Denot × Option g.row.R.Denot = (c.slot.inside.key, c.slot.inside.content) in
    let all = c.slots.ensures in
    let row : is_some c.slot.inside.content ≡ true = sym c.is_some-has_row.ensures ∙ c.if-has_row.true in
    sym (row-left g.met.K.Ord.total g.met.K.TableKey.exact c.args.self.now e c.args.key.now c.position-at.result
    c.requires
    (c.position-at.ensures.stands (rw (← all) c.in-Some.ensures.lookup.3.0))
    (λ d. rw (← all) (c.slot.view_is ∙ c.in-Some.ensures.lookup.3.1 d)) (λ none. let h = rw none at row in cc))

pub returns : goal.returns
returns g c =
    let e : g.row.K.Denot × Option g.row.R.Denot = (c.slot.inside.key, c.slot.inside.content) in
    let all = c.slots.ensures in
    c.remove.ensures ∙ blank-left g.met.K.Ord.total g.met.K.TableKey.exact c.args.self.now e c.args.key.now
    c.position-at.result c.requires
    (c.position-at.ensures.stands (rw (← all) c.in-Some.ensures.lookup.3.0))
    (λ d. rw (← all) (c.slot.view_is ∙ c.in-Some.ensures.lookup.3.1 d))
    (is_blank c.slot.inside.content (sym c.is_some-has_row.ensures ∙ c.if-has_row.false))
