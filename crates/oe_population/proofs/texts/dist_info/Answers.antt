use Rattle.std.proofs.Common.{◌∙◌, lit<}
use Rattle.oe_model.proofs.PopulationTextFacts.{dist_text_text}
use Rattle.oe_population.proofs.TextFacts.{dist_parts, same_text}
use Rattle.oe_population.proofs.texts.dist_info.Goals as goal

pub of_printable-requires : goal.of_printable-requires
of_printable-requires c = (
  lit< tt,
  same_text 24 24 _ _
      (dist_parts _ _ _ _ _ _ c.write_digits-3.ensures c.write_digits-2.ensures c.write_digits.ensures)
      (dist_text_text c.args.warehouse c.args.district c.args.item),
)

pub returns : goal.returns
returns c = c.of_printable.ensures ∙ dist_parts _ _ _ _ _ _ c.write_digits-3.ensures c.write_digits-2.ensures
    c.write_digits.ensures
