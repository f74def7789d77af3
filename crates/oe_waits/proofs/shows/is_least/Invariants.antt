use Rattle.std.proofs.Common.{◌≡◌, false}
use Rattle.std.specs.Prelude.{◌&&◌}
use Rattle.oe_waits.specs.Knots.{any_to}
use Rattle.oe_waits.specs.Reaching.{is_in}
use Rattle.oe_waits.proofs.shows.is_least.Given as goal

-- none so far is in both
abbrev pub invariant-loop-before : goal.invariant-loop-before
invariant-loop-before l = any_to (λ u. is_in l.fn.ahead u && is_in l.fn.back u) l.before ≡ false
