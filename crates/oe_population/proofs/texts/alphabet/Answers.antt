use Rattle.std.proofs.Common.{◌∙◌, arith, lit<}
use Rattle.oe_model.proofs.PopulationTextFacts.{wider, letters_text}
use Rattle.oe_population.proofs.TextFacts.{alphabets_part}
use Rattle.oe_population.proofs.texts.alphabet.Goals as goal

pub of_printable-requires : goal.of_printable-requires
of_printable-requires c = (
  lit< tt,
  rw (alphabets_part c.args.count c.args.first c.requires.count)
      (wider 0 500 (omega arith) c.requires.count (letters_text c.args.count c.args.first)),
)

pub returns : goal.returns
returns c = c.of_printable.ensures ∙ alphabets_part c.args.count c.args.first c.requires.count
