use Rattle.std.proofs.Common.{◌∙◌, ap}
use Rattle.oe_table.specs.Table.{live}
use Rattle.oe_table.proofs.PassedFacts.{rows-cut}
use Rattle.oe_table.proofs.shelves.rows_between.Goals as goal

pub returns : goal.returns
returns g c =
    ap live c.slots_between-slots.ensures
    ∙ rows-cut c.args.shelves.now c.args.from.shelf c.args.from.slot c.row_cut.result c.args.to.shelf c.args.to.slot
    c.row_cut.ensures.later c.row_cut.ensures.same c.row_cut.ensures.blanked
