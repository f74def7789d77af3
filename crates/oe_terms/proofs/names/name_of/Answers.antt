use Rattle.std.proofs.Common.{◌≡◌, rules}
use Rattle.oe_model.specs.Population.{last_name}
use Rattle.oe_terms.proofs.NameFacts.{last_name_is}
use Rattle.oe_terms.proofs.names.name_of.Goals as goal

pub unreachable-requires : goal.unreachable-requires
unreachable-requires c =
    let whole : c.as_str.result.now ≡ last_name c.args.number = search rules in
    let some = c.in-None.ensures.variant.1 (rw whole (last_name_is c.args.number c.requires)) in
    let no : ⊥ = cc in
    no
