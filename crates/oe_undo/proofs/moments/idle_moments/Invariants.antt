-- So many idle terminals were pushed.
use Rattle.std.proofs.Common.{◌≡◌, ◌≤◌, [], length, vec_capacity}
use Rattle.std.specs.List.{All}
use Rattle.oe_undo.specs.Owners.{MomentList}
use Rattle.oe_undo.proofs.moments.idle_moments.Given as goal

abbrev pub invariant-loop : goal.invariant-loop
invariant-loop l = record {
  size : length l.terminals.items ≡ l.counter;
  idle : All (λ (m : MomentList). m.moments ≡ []) l.terminals.items;
  room : 65 ≤ vec_capacity l.terminals;
}
