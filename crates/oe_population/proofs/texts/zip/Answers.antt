use Rattle.std.proofs.Common.{refl, lit<}
use Rattle.std.specs.Prelude.{codes}
use Rattle.oe_model.proofs.PopulationTextFacts.{joined, literal, dec_text}
use Rattle.oe_population.proofs.texts.zip.Goals as goal

pub of_printable-requires : goal.of_printable-requires
of_printable-requires c =
    (lit< tt, rw c.write_digits.ensures (joined _ _ (dec_text c.args.number 4) (literal 5 5 (codes "11111") refl)))
