use Rattle.std.proofs.Common.{◌≡◌, ℕ, ◌≤◌}
use Rattle.std.specs.Prelude.{◌&&◌, ◌||◌, nat_le}
use Rattle.oe_waits.specs.Reaching.{leads, is_in}
use Rattle.oe_waits.proofs.reaching.add_next.Given as goal

-- those so far to which a wait leads are added
abbrev pub invariant-loop-before : goal.invariant-loop-before
invariant-loop-before g l =
    (u : ℕ) → 1 ≤ u → u ≤ 64
    → is_in l.found u ≡ (is_in l.initial.found u || (nat_le u l.before && leads (g.M.Machine.world l.core) l.way
    l.from u))
