use Rattle.std.proofs.Common.{◌≡◌, rules}
use Rattle.oe_model.specs.Population.{dec}
use Rattle.oe_model.proofs.PopulationTextFacts.{dec_text}
use Rattle.oe_population.proofs.TextFacts.{written, labelled, same_text}
use Rattle.oe_population.proofs.texts.numbered.Goals as goal

pub of_printable-requires : goal.of_printable-requires
of_printable-requires g c =
    let label : c.copy_from_slice.new.self ≡ c.args.label.now = search rules in
    let digits : c.write_digits.new.cells ≡ dec c.args.number c.args.digits = search rules in (
      search rules,
      same_text _ _ _ _ (written _ _ _ _ _ _ _ label digits)
          (labelled _ _ _ _ _ c.requires.fits c.requires.printable (dec_text c.args.number c.args.digits)),
    )
