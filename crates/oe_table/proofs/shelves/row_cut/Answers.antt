use Rattle.std.proofs.Common.{◌∙◌, ap, max, [], get_or}
use Rattle.oe_table.proofs.PassedFacts.{none-between}
use Rattle.oe_table.proofs.shelves.row_cut.Goals as goal

pub returns-clause-blanked : goal.returns-clause-blanked
returns-clause-blanked g c =
    none-between (get_or c.args.shelves.now c.args.from.shelf []) c.args.from.slot c.blanked_on.result _ c.max.result
    (c.max.ensures ∙ ap (max c.args.from.slot) c.min.ensures) c.blanked_on.ensures
