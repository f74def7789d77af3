use Rattle.std.proofs.Common.{[], ◌∙◌, ap, refl, if◌then◌else◌}
use Rattle.std.proofs.lemmas.Result.{on_ok_weaker}
use Rattle.oe_values.specs.declared.memory.NoMemory.{NoMemory}
use Rattle.oe_comparison.specs.Differences.{differences, with_columns}
use Rattle.oe_comparison.specs.Texts.{with_more}
use Rattle.oe_comparison.specs.Walks.{rows_from, pair_of}
use Rattle.oe_comparison.proofs.DifferenceFacts.{pair_left, ahead_of, passed_by, fewer, none_left, all_told}
use Rattle.oe_comparison.proofs.sides.compare_sides.Goals as goal

pub loop-passed-init : goal.loop-passed-init
loop-passed-init g c =
    let columns = g.C.Comparing.columns_of in
    let theirs = pair_left g.A.RowWalk.left c.args.theirs c.next_row-their.new.self c.next_row-their.result
    c.next_row-their.ensures in
    let ours = pair_left g.B.RowWalk.left c.args.ours c.next_row-our.new.self c.next_row-our.result
    c.next_row-our.ensures in
    (λ i. differences g.C.Comparing.order_of (with_columns columns (theirs i)) (with_columns columns (ours i)), refl)

pub loop-passed-preserved : goal.loop-passed-preserved
loop-passed-preserved g c =
    let l = c.loop-passed in
    let told = rw c.in-Ok-Passed.field-0-is at c.in-Ok-Passed.ensures in
    let passed = c.in-Ok-Passed.passed in
    let xs = g.A.RowWalk.left l.theirs in
    let ys = g.B.RowWalk.left l.ours in
    let all = differences g.C.Comparing.order_of
    (with_columns g.C.Comparing.columns_of (g.A.RowWalk.left c.args.theirs))
    (with_columns g.C.Comparing.columns_of (g.B.RowWalk.left c.args.ours)) in
    ahead_of g.C.Comparing.order_of g.C.Comparing.columns_of g.C.Comparing.line_at all c.args.report.now _ _ _ _
    c.in-Ok-Passed.count c.pass.new.report
    (c.next_of-their.ensures ∙ ap (λ b. if b then xs else rows_from (pair_of l.their) xs) c.is_le.ensures)
    (c.next_of-our.ensures ∙ ap (λ b. if b then ys else rows_from (pair_of l.our) ys) c.is_ge.ensures)
    (passed_by g.C.Comparing.order_of g.C.Comparing.columns_of g.C.Comparing.line_at all c.args.report.now NoMemory
    l.their l.our xs ys l.others c.in-Ok-Passed.count passed l.report c.pass.new.report told
    l.invariant)

pub loop-passed-smaller : goal.loop-passed-smaller
loop-passed-smaller g c =
    let l = c.loop-passed in
    let told = rw c.in-Ok-Passed.field-0-is at c.in-Ok-Passed.ensures in
    let xs = g.A.RowWalk.left l.theirs in
    let ys = g.B.RowWalk.left l.ours in
    let theirs = c.next_of-their.ensures
    ∙ ap (λ b. if b then xs else rows_from (pair_of l.their) xs) c.is_le.ensures in
    let ours = c.next_of-our.ensures ∙ ap (λ b. if b then ys else rows_from (pair_of l.our) ys) c.is_ge.ensures in
    rw (theirs, ours)
    (fewer g.C.Comparing.order_of g.C.Comparing.columns_of g.C.Comparing.line_at [] c.args.report.now NoMemory l.their
    l.our xs ys l.others c.in-Ok-Passed.count c.in-Ok-Passed.passed l.report c.pass.new.report told)

pub returns-in-Ok-End : goal.returns-in-Ok-End
returns-in-Ok-End g c =
    let l = c.loop-passed in
    let cmp = g.C.Comparing.order_of in
    let columns = g.C.Comparing.columns_of in
    let line = g.C.Comparing.line_at in
    let all = differences cmp (with_columns columns (g.A.RowWalk.left c.args.theirs))
    (with_columns columns (g.B.RowWalk.left c.args.ours)) in
    let ended = rw c.in-Ok-End.field-0-is at c.in-Ok-End.ensures in
    let end = none_left cmp columns line all c.args.report.now NoMemory l.their l.our (g.A.RowWalk.left l.theirs)
    (g.B.RowWalk.left l.ours) l.others l.report c.pass.new.report ended in
    on_ok_weaker c.more.result
    (λ told. all_told line g.C.Comparing.own_table all _ l.others c.args.report.now l.report c.more.new.self l.invariant
    end.0 (told ∙ λ i. with_more (c.table.ensures i) l.others (end.1 i)))
    c.more.ensures
