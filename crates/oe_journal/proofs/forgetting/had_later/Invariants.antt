use Rattle.std.specs.Prelude.{Option, None}
use Rattle.oe_rows.specs.declared.keys.Key.TheVariants.{Customer}
use Rattle.oe_rows.specs.declared.rows.Row.{Row}
use Rattle.oe_index.specs.Numbers.{name_number}
use Rattle.oe_undo.specs.Held.{all_held, of_key, count_later}
use Rattle.oe_undo.specs.Restored.{later_of, row_before}
use Rattle.oe_undo.proofs.WalkFacts.{Goes, reads_left}
use Rattle.oe_journal.specs.Forgetting.{one_tells}
use Rattle.oe_journal.proofs.ForgettingFacts.{Asks}
use Rattle.oe_journal.proofs.forgetting.had_later.Given as goal

-- the records read so far tell none of the list's names, whatever row they are put back on
abbrev pub invariant-loop-link : goal.invariant-loop-link
invariant-loop-link l =
    ((row : Option Row) × Goes l.undo.log l.moment
    (count_later l.moment (of_key (Customer l.key) (all_held l.undo.log)))
    (row_before (later_of l.moment (of_key (Customer l.key) (all_held l.undo.log))) None) 0 l.link row l.ticks)
    × Asks l.undo.log l.moment (name_number l.last)
    (one_tells (name_number l.last) (later_of l.moment (of_key (Customer l.key) (all_held l.undo.log)))) l.link

abbrev pub decreases-loop-link : goal.decreases-loop-link
decreases-loop-link l =
    reads_left l.undo.log l.moment (count_later l.moment (of_key (Customer l.key) (all_held l.undo.log))) l.link
