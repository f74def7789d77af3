use Rattle.std.proofs.Common.{◌≡◌, ◌-◌, take}
use Rattle.oe_rows.specs.declared.keys.Key.{Key}
use Rattle.oe_log.specs.Log.{records_at}
use Rattle.oe_undo.specs.Held.{horizon}
use Rattle.oe_undo.specs.Undo.{link_seen}
use Rattle.oe_journal.specs.ExactNames.{KeepsExactNames}
use Rattle.oe_journal.specs.Identity.{links_behind}
use Rattle.oe_journal.specs.Linked.{StayLinked}
use Rattle.oe_journal.proofs.BackFacts.{GoesBack}
use Rattle.oe_journal.proofs.unwinding.take_back.Given as goal

abbrev pub invariant-loop : goal.invariant-loop
invariant-loop l =
    GoesBack l.fn.tables l.tables l.fn.undo.log l.undo.log l.segment l.count (records_at l.undo.log l.segment)
    (l.count - l.counter)
    × StayLinked l.fn.tables l.tables l.fn.undo.links l.undo.links
    × ((k : Key) → links_behind (horizon l.fn.undo.log) l.segment
    (take (l.count - l.counter) (records_at l.undo.log l.segment)) (link_seen l.undo) k
    ≡ links_behind (horizon l.fn.undo.log) l.segment (take l.count (records_at l.fn.undo.log l.segment))
    (link_seen l.fn.undo) k)
    × KeepsExactNames l.fn.tables l.tables l.fn.undo.log l.undo.log
