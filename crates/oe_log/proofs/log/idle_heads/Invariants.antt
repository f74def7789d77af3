-- So many idle terminals were pushed.
use Rattle.std.proofs.Common.{◌≡◌, ◌≤◌, replicate, vec_capacity}
use Rattle.oe_log.specs.Kept.{idle_head}
use Rattle.oe_log.proofs.log.idle_heads.Given as goal

abbrev pub invariant-loop : goal.invariant-loop
invariant-loop l = record {
  items : l.terminals.items ≡ replicate l.counter idle_head;
  room : 65 ≤ vec_capacity l.terminals;
}
