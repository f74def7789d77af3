use Rattle.std.proofs.Common.{◌≡◌, [], replicate}
use Rattle.oe_locks.proofs.Locks.new.Given as goal

abbrev pub invariant-loop : goal.invariant-loop
invariant-loop l = l.held.items ≡ replicate l.counter []
