-- Counts that stay at their greatest number.
use Rattle.std.specs.Prelude.{ℕ, ◌+◌, ◌-◌, ◌^◌, min}
use Rattle.oe_tally.specs.declared.count.Count.{Count}

-- the sum, or 2^32 - 1 where it is greater
abbrev pub sum_in_32_bits : ℕ → ℕ → ℕ
sum_in_32_bits a b = min (a + b) (2 ^ 32 - 1)

-- the rows of both
abbrev pub counts_joined : Count → Count → Count
counts_joined a b = record { rows = sum_in_32_bits a.rows b.rows }
