use Rattle.oe_undo.specs.Held.{all_held, of_key, count_later}
use Rattle.oe_undo.specs.Restored.{later_of, row_before}
use Rattle.oe_undo.proofs.WalkFacts.{Goes, reads_left}
use Rattle.oe_undo.proofs.undo.Undo.row_at.Given as goal

abbrev pub invariant-loop-link : goal.invariant-loop-link
invariant-loop-link l =
    Goes l.self.log l.moment (count_later l.moment (of_key l.key (all_held l.self.log)))
    (row_before (later_of l.moment (of_key l.key (all_held l.self.log))) l.fn.now) l.fn.ticks l.link l.row l.ticks

abbrev pub decreases-loop-link : goal.decreases-loop-link
decreases-loop-link l = reads_left l.self.log l.moment
    (count_later l.moment (of_key l.key (all_held l.self.log))) l.link
