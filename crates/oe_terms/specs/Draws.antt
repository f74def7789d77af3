-- What is drawn from a generator: a value, and the generator after it.
use Rattle.std.specs.Prelude.{ℕ, ◌+◌, ◌-◌, ◌%◌, bit_or}
use Rattle.rand_pcg.specs.Lcg.{Lcg, started, increment_of}
use Rattle.rand_pcg.specs.Pcg.{pcg32, multiplier_64}

-- the generator of a terminal, before its first draw
abbrev pub words_of : ℕ → ℕ → Lcg
words_of seed terminal = started 64 multiplier_64 seed (increment_of 64 terminal)

-- a number from x to y (clause 2.1.5)
abbrev pub random : ℕ → ℕ → Lcg → ℕ × Lcg
random x y g = (x + (pcg32 g).0 % (y - x + 1), (pcg32 g).1)

-- a number from x to y, some more often than others: NURand(A, x, y) with the constant C. The number up to A is drawn
-- first (clause 2.1.6)
abbrev pub nurand : ℕ → ℕ → ℕ → ℕ → Lcg → ℕ × Lcg
nurand a c x y g =
    let left = random 0 a g in
    let right = random x y left.1 in
    ((bit_or left.0 right.0 + c) % (y - x + 1) + x, right.1)
