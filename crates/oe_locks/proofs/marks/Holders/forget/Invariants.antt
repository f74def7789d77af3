use Rattle.std.proofs.Common.{◌≡◌, ℕ, ◌<◌, ◌≤◌, false, if◌then◌else◌, length, ◌==◌}
use Rattle.oe_locks.specs.Marks.{may_hold}
use Rattle.oe_locks.proofs.marks.Holders.forget.Given as goal

-- the terminal is out of the first sets, and those behind are as before
abbrev pub invariant-loop-place : goal.invariant-loop-place
invariant-loop-place l = record {
  size : length l.self-inside.sets.items ≡ 64;
  done : (k u : ℕ) → k < l.place → may_hold l.self-inside.sets.items k u
      ≡ (if u == l.terminal then false else may_hold l.fn.self k u);
  left : (k u : ℕ) → l.place ≤ k → may_hold l.self-inside.sets.items k u ≡ may_hold l.fn.self k u;
}
