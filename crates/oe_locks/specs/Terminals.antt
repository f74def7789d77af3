-- Sets of terminals.
use Rattle.std.specs.Prelude.{◌≡◌, ℕ, zero, suc, ◌<◌, ◌==◌, Bool, true, false}
use Rattle.std.specs.Int.{bit_at}

-- the terminal is in the set: the bit of the first terminal is the lowest one, and 0 is no terminal's number
abbrev pub has : ℕ → ℕ → Bool
has set zero = false
has set (suc i) = bit_at set i == 1

-- the least terminal of a set
pub record IsLeast (set u : ℕ) : Type 0 where
  pub in_set : has set u ≡ true
  pub least : (v : ℕ) → v < u → has set v ≡ false
