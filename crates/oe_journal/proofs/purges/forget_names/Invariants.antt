use Rattle.std.proofs.Common.{◌-◌, length}
use Rattle.oe_journal.proofs.ForgetsFacts.{ForgetsSoFar}
use Rattle.oe_journal.proofs.purges.forget_names.Given as goal

abbrev pub invariant-loop-earlier : goal.invariant-loop-earlier
invariant-loop-earlier l =
    ForgetsSoFar l.fn.tables l.tables l.undo.log l.moment (length l.undo.log.committed - l.earlier)
