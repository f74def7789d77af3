use Rattle.std.proofs.Common.{◌≡◌, ◌-◌}
use Rattle.oe_load.specs.Turns.{counts_of}
use Rattle.oe_load.specs.Flats.{first_behind}
use Rattle.oe_load.specs.Picks.{holders_of, is_able}
use Rattle.oe_load.proofs.picks.able.Given as goal

-- what is still to be looked at has the same answer
abbrev pub invariant-loop-before : goal.invariant-loop-before
invariant-loop-before g l =
    let f = is_able l.plan (g.M.Machine.world l.core) (counts_of l.served) (holders_of l.holders) in
    first_behind l.plan f l.drawn l.before (l.plan.numbers.terminals - l.before)
    ≡ first_behind l.plan f l.drawn 0 l.plan.numbers.terminals
