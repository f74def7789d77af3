use Rattle.std.proofs.Common.{◌+◌, ◌∷◌, List, take, sym, ap, ◌∙◌, ℕ}
use Rattle.std.proofs.lemmas.List.{take_rest}
use Rattle.oe_file_rows.specs.Line.{fields_of}
use Rattle.oe_file_rows.proofs.FieldFacts.{alone, parted}
use Rattle.oe_comparison.proofs.columns.split_field.Goals as goal

pub returns-in-Some-clause-fields : goal.returns-in-Some-clause-fields
returns-in-Some-clause-fields c =
    let line = c.args.line.now in
    parted line c.in-Some.end c.in-Some.ensures
    ∙ ap (λ (z : List ℕ). take c.in-Some.end line ∷ fields_of z) (sym (take_rest line (c.in-Some.end + 1)))

pub returns-in-None-clause-fields : goal.returns-in-None-clause-fields
returns-in-None-clause-fields c = alone c.args.line.now c.in-None.ensures
