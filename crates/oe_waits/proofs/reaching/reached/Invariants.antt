use Rattle.std.proofs.Common.{◌≡◌, length}
use Rattle.oe_waits.specs.Reaching.{leads}
use Rattle.oe_waits.proofs.SetFacts.{IsClosing, undone_count}
use Rattle.oe_waits.proofs.reaching.reached.Given as goal

-- what is found is reached, and what those that are done lead to is found
abbrev pub invariant-loop-next : goal.invariant-loop-next
invariant-loop-next g l = IsClosing (leads (g.M.Machine.world l.core) l.way) l.fn.from l.found l.done ×
    (length l.done ≡ 65)

abbrev pub decreases-loop-next : goal.decreases-loop-next
decreases-loop-next g l = undone_count l.done
