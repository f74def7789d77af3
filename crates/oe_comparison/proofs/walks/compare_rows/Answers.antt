use Rattle.std.proofs.Common.{◌∙◌, ap}
use Rattle.std.proofs.lemmas.Result.{on_ok_weaker}
use Rattle.oe_comparison.specs.Differences.{differences, theirs_shown, ours_shown}
use Rattle.oe_comparison.specs.Texts.{line_of, with_differences}
use Rattle.oe_comparison.proofs.DifferenceFacts.{numbered_shown}
use Rattle.oe_comparison.proofs.walks.compare_rows.Goals as goal

pub returns : goal.returns
returns g c =
    let columns = g.R.DumpedRow.columns in
    let theirs = numbered_shown columns c.iter.result ∙ ap (λ ns. theirs_shown columns ns) c.iter.ensures in
    on_ok_weaker c.compare_sides.result
    (λ told.
    told
    ∙ λ i. with_differences g.R.RowLine.own_table (line_of g.R.RowLine.key_of)
    (differences g.K.Ord.cmp (theirs i) (ours_shown columns c.args.ours)) c.args.report.now)
    c.compare_sides.ensures
