use Rattle.std.proofs.Common.{◌≡◌, arith, rules, lit<}
use Rattle.oe_model.specs.Population.{last_name}
use Rattle.oe_model.proofs.PopulationTextFacts.{wider, last_name_text}
use Rattle.oe_population.proofs.texts.name_of.Goals as goal

pub of_printable-requires : goal.of_printable-requires
of_printable-requires c =
    let whole : c.as_bytes.result.now ≡ last_name c.args.number = search rules in
    (lit< tt, rw whole (wider 0 16 (omega arith) (omega arith) (last_name_text c.args.number)))
