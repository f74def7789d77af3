use Rattle.std.proofs.Common.{◌-◌}
use Rattle.oe_journal.specs.ExactNames.{KeepsExactNames}
use Rattle.oe_journal.specs.Linked.{StayLinked}
use Rattle.oe_journal.proofs.UndoneFacts.{Undoes}
use Rattle.oe_journal.proofs.rewinds.take_newest.Given as goal

abbrev pub invariant-loop : goal.invariant-loop
invariant-loop l =
    Undoes l.fn.tables l.tables l.fn.undo.log l.undo.log l.fn.count (l.fn.count - l.counter)
    × StayLinked l.fn.tables l.tables l.fn.undo.links l.undo.links
    × KeepsExactNames l.fn.tables l.tables l.fn.undo.log l.undo.log
