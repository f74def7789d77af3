use Rattle.std.proofs.Common.{◌≡◌, ◌-◌, length}
use Rattle.oe_store.specs.Names.{SameNames}
use Rattle.oe_journal.proofs.PurgeFacts.{ForgetsOldest}
use Rattle.oe_journal.proofs.purges.forget_oldest.Given as goal

abbrev pub invariant-loop : goal.invariant-loop
invariant-loop l =
    ForgetsOldest l.fn.tables l.tables l.fn.undo.log l.undo.log (length l.fn.undo.log.committed - l.count)
    (length l.fn.undo.log.committed - l.counter)
    × (l.undo.links ≡ l.fn.undo.links)
    × SameNames l.fn.tables l.tables
