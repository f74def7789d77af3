use Rattle.std.proofs.Common.{ℕ, ◌<◌}
use Rattle.oe_store.specs.Places.{rows}
use Rattle.oe_from.specs.Scales.{has_name}
use Rattle.oe_from.proofs.scales.unnamed.Given as goal

-- some customer has each name so far
abbrev pub invariant-loop-number : goal.invariant-loop-number
invariant-loop-number l = (n : ℕ) → n < l.number → has_name (rows l.tables) l.district n
