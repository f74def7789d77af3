use Rattle.std.proofs.Common.{◌≡◌, map, vec_len}
use Rattle.oe_drive.specs.Plans.{errands_by, errands_in}
use Rattle.oe_drive.proofs.planning.plans.Given as goal

abbrev pub invariant-loop-before : goal.invariant-loop-before
invariant-loop-before l =
    (map errands_in l.plans.items ≡ errands_by l.numbers.scale l.numbers.seed l.numbers.requests l.before)
    × (vec_len l.plans ≡ l.before)
