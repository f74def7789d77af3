-- The bytes of a text, as a value holds them.
use Rattle.std.specs.Prelude.{ℕ, cond, ◌==◌, ◌++◌, ◌-◌, nat_le, List, length, replicate}
use Rattle.std.specs.List.{position_or_len}

-- where the zeros behind a text begin
abbrev pub zeros_from : List ℕ → ℕ
zeros_from bytes = position_or_len (λ b. b == 0) bytes

-- a number as it stands in two bytes
abbrev pub in_two_bytes : ℕ → ℕ
in_two_bytes n = cond (nat_le 65_535 n) 65_535 n

-- a text with zeros behind it, as many as there is room for
abbrev pub with_zeros : ℕ → List ℕ → List ℕ
with_zeros most text = text ++ replicate (most - length text) 0
