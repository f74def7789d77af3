use Rattle.std.proofs.Common.{◌≡◌, Option, None, Some, Ok, ap, subst, sym, ◌∙◌, refl, rules}
use Rattle.std.specs.declared.cmp.Ordering.TheVariants.{Equal}
use Rattle.oe_values.specs.declared.memory.NoMemory.{NoMemory}
use Rattle.oe_comparison.specs.Columns.{Other, column_texts, first_other}
use Rattle.oe_comparison.specs.Texts.{line_of}
use Rattle.oe_comparison.specs.Walks.{at_rows, TellsFront}
use Rattle.oe_comparison.specs.declared.sides.Turn.TheVariants as turn
use Rattle.oe_comparison.proofs.ColumnFacts.{none_itself}
use Rattle.oe_comparison.proofs.walks.pass_both.Goals as goal

pub returns-then-equals : goal.returns-then-equals
returns-then-equals g c =
    let columns = g.R.DumpedRow.columns in
    let ours = column_texts (columns c.args.key.now c.args.ours.now) in
    let rows : c.args.theirs.now ≡ c.args.ours.now = search rules in
    let same : column_texts (columns c.args.their_key.now c.args.theirs.now) ≡ ours =
    λ i. column_texts (columns (c.requires i) (rows i)) in
    let none : first_other 0 (column_texts (columns c.args.their_key.now c.args.theirs.now)) ours ≡ None =
    ap (λ ts. first_other 0 ts ours) same ∙ none_itself 0 ours in
    subst (λ (o : Option Other). TellsFront {E = NoMemory} (line_of g.R.RowLine.key_of)
    (Some (at_rows Equal c.args.their_key.now c.args.key.now o)) c.args.others c.args.report.now c.args.report.now
    (Ok (turn.Passed Equal c.args.others))) (sym none) (refl, (refl, refl))
