use Rattle.std.proofs.Common.{◌≡◌, [], true, sym, ◌∙◌, rules}
use Rattle.std.specs.Option.{option_copied}
use Rattle.oe_file_rows.specs.Line.{fields_of, left_of}
use Rattle.oe_comparison.specs.Columns.{is_same}
use Rattle.oe_comparison.proofs.ColumnFacts.{same_column, none_right, no_field}
use Rattle.oe_comparison.proofs.columns.first_other.Goals as goal

pub returns-in_default-rest : goal.returns-in_default-rest
returns-in_default-rest c =
    let their = c.split_field-their.result in
    let our = c.split_field-our.result in
    let same : is_same their.field.now our.field.now ≡ true = search rules in
    let none : left_of (option_copied our.rest) ≡ [] = no_field our.rest c.in_default-rest.not-Some in
    sym (sym c.loop-their.invariant.same
    ∙ sym (same_column c.loop-their.place (fields_of c.loop-their.left.now) (fields_of c.loop-their.right.now)
    (left_of (option_copied their.rest)) (left_of (option_copied our.rest)) their.field.now our.field.now
    c.split_field-their.ensures.fields c.split_field-our.ensures.fields same)
    ∙ none_right _ (left_of (option_copied their.rest)) (left_of (option_copied our.rest)) none)
