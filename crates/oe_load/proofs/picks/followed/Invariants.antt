use Rattle.std.proofs.Common.{◌≡◌, ◌-◌}
use Rattle.oe_waits.specs.Waits.{last_terminal}
use Rattle.oe_load.specs.Picks.{holders_of, waits_end}
use Rattle.oe_load.proofs.picks.followed.Given as goal

-- the waits that are left lead to where all do
abbrev pub invariant-loop : goal.invariant-loop
invariant-loop g l =
    waits_end (g.M.Machine.world l.core) (holders_of l.holders) l.terminal (last_terminal - l.counter) l.at
    ≡ waits_end (g.M.Machine.world l.core) (holders_of l.holders) l.terminal last_terminal l.terminal
