use Rattle.std.proofs.Common.{◌∙◌, ap}
use Rattle.std.proofs.lemmas.Result.{on_ok_weaker}
use Rattle.std.specs.Slice.Iter.{iter_rest}
use Rattle.oe_comparison.specs.Differences.{differences, keyless}
use Rattle.oe_comparison.specs.Histories.{history_order}
use Rattle.oe_comparison.specs.Texts.{with_histories}
use Rattle.oe_comparison.proofs.DifferenceFacts.{keyless_shown}
use Rattle.oe_comparison.proofs.histories.compare_sorted.Goals as goal

pub returns : goal.returns
returns c =
    let theirs = keyless_shown (iter_rest c.iter.result) ∙ ap keyless c.iter.ensures.rest in
    let ours = keyless_shown (iter_rest c.iter-2.result) ∙ ap keyless c.iter-2.ensures.rest in
    on_ok_weaker c.compare_sides.result
    (λ told. told ∙ λ i. with_histories (differences history_order (theirs i) (ours i)) c.args.report.now)
    c.compare_sides.ensures
