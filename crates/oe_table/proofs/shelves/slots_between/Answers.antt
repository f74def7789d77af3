use Rattle.std.proofs.Common.{◌∙◌}
use Rattle.std.specs.Slice.Iter.{iter_rest}
use Rattle.oe_table.proofs.RangeFacts.{cut-same, cut-apart}
use Rattle.oe_table.proofs.shelves.slots_between.Goals as goal

pub returns-then-from-to : goal.returns-then-from-to
returns-then-from-to g c =
    cut-same c.args.shelves.now c.args.from.shelf c.args.from.slot c.args.to.shelf c.args.to.slot _ c.if-from-to.true
    c.slots_within.ensures

pub returns : goal.returns
returns g c =
    cut-apart c.args.shelves.now c.args.from.shelf c.args.from.slot c.args.to.shelf c.args.to.slot
    (iter_rest c.iter.result) (iter_rest c.iter-2.result) (iter_rest c.iter-3.result)
    c.if-from-to.false (c.iter.ensures.rest ∙ c.slots_from-front.ensures)
    (c.iter-2.ensures.rest ∙ c.shelves_between-between.ensures) (c.iter-3.ensures.rest ∙ c.slots_to-back.ensures)
