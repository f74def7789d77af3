-- Commit after commit, from the oldest on.
use Rattle.std.proofs.Common.{◌≡◌, ◌-◌, ◌+◌, suc, ap, arith, subst, length}
use Rattle.oe_log.specs.Log.{SegmentLog}
use Rattle.oe_journal.proofs.ForgetsFacts.{ForgetsSoFar, one_so_far}
use Rattle.oe_journal.proofs.purges.forget_names.Goals as goal

pub loop-earlier-preserved : goal.loop-earlier-preserved
loop-earlier-preserved c =
    let all = length c.args.undo.now.log.committed in
    let kept = ap (λ (v : SegmentLog). length v.committed) c.segments.ensures in
    let one_less : all - c.loop-earlier.earlier ≡ suc (all - (c.loop-earlier.earlier + 1)) = omega arith in
    one_so_far c.args.tables.now c.loop-earlier.tables c.forget_renamed.new.tables c.args.undo.now.log c.args.moment
    (all - (c.loop-earlier.earlier + 1)) (c.kept-kept.result - 1 - c.loop-earlier.earlier) (omega arith)
    (omega (arith, c.kept-kept.ensures, kept)) c.forget_renamed.ensures.others c.forget_renamed.ensures.names
    (subst (ForgetsSoFar c.args.tables.now c.loop-earlier.tables c.args.undo.now.log c.args.moment) one_less
    c.loop-earlier.invariant)
