use Rattle.std.proofs.Common.{◌≡◌, ◌-◌}
use Rattle.oe_load.specs.Turns.{counts_of}
use Rattle.oe_load.specs.Flats.{left_behind}
use Rattle.oe_load.proofs.flats.left.Given as goal

-- what is still to be looked at has the same answer
abbrev pub invariant-loop-before : goal.invariant-loop-before
invariant-loop-before l =
    left_behind l.plan (counts_of l.served) l.drawn l.before (l.plan.numbers.terminals - l.before)
    ≡ left_behind l.plan (counts_of l.served) l.drawn 0 l.plan.numbers.terminals
