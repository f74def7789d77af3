use Rattle.std.proofs.Common.{◌≡◌, ◌≤◌, sum, ◌*◌}
use Rattle.std.proofs.Common.{take}
use Rattle.oe_rows.proofs.credits.total.Given as goal

-- the sum so far, and a bound on it
abbrev pub invariant-loop-amount : goal.invariant-loop-amount
invariant-loop-amount l = record {
  so_far : l.sum ≡ sum (take l.amount-index l.amounts);
  bound : l.sum ≤ 999999 * l.amount-index;
}
