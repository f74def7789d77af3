use Rattle.std.proofs.Common.{◌≡◌, ◌≤◌, replicate, None, vec_capacity}
use Rattle.oe_values.proofs.terminals.empty_slots.Given as goal

abbrev pub invariant-loop : goal.invariant-loop
invariant-loop g l = record { items : l.slots.items ≡ replicate l.counter None; room : 65 ≤ vec_capacity l.slots }
