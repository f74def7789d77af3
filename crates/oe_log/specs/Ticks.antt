-- A count of records that were read.
use Rattle.std.specs.Prelude.{ℕ, ◌+◌, ◌-◌, ◌^◌, min}

-- `count` records more; at its greatest value the count rises no further
abbrev pub ticks_with : ℕ → ℕ → ℕ
ticks_with before count = min (before + count) (2 ^ 64 - 1)
