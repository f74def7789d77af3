use Rattle.std.proofs.Common.{◌≡◌, ◌≤◌, ℕ}
use Rattle.oe_load.specs.Turns.{counts_of}
use Rattle.oe_load.proofs.served.are_served.Given as goal

-- of the terminals so far all requests were served
abbrev pub invariant-loop-before : goal.invariant-loop-before
invariant-loop-before l =
    (t : ℕ) → 1 ≤ t → t ≤ l.before → counts_of l.served t ≡ l.plan.numbers.requests
