use Rattle.std.proofs.Common.{◌≡◌, take, map}
use Rattle.oe_formulas.proofs.orders.Seen.total.Given as goal

abbrev pub invariant-loop-index : goal.invariant-loop-index
invariant-loop-index l = take l.index l.amounts ≡ map (λ x. x.amount) (take l.index l.lines)
