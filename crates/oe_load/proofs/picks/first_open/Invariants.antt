use Rattle.std.proofs.Common.{◌≡◌, ◌-◌}
use Rattle.std.specs.Prelude.{is_some}
use Rattle.oe_waits.specs.Waits.{last_terminal}
use Rattle.oe_load.specs.Picks.{first_after}
use Rattle.oe_load.proofs.picks.first_open.Given as goal

-- what is still to be looked at has the same answer
abbrev pub invariant-loop-before : goal.invariant-loop-before
invariant-loop-before g l =
    first_after (λ t. is_some ((g.M.Machine.world l.core).active t)) l.before (last_terminal - l.before)
    ≡ first_after (λ t. is_some ((g.M.Machine.world l.core).active t)) 0 last_terminal
