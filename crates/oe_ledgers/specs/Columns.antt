-- A column of the rows that have a key, taken together: its sum, its greatest value. None where no row has the key.
use Rattle.std.specs.Prelude.{ℕ, Bool, true, false, ◌+◌, min, ℤ, ◌+ℤ◌, List, map, Option}
use Rattle.std.specs.Int.{int_wrap, w128}
use Rattle.oe_tally.specs.Tallies.{total}

abbrev pub of_key : {F K C : Type 0} → (K → K → Bool) → (F → K) → (C → C → C) → (F → C) → List F → K → Option C
of_key same key op column facts k = total same op (map (λ f. (key f, column f)) facts) k

-- the sum, or the cap where it is greater
abbrev pub sum_up_to : ℕ → ℕ → ℕ → ℕ
sum_up_to cap a b = min (a + b) cap

-- the sum as 128 bits have it
abbrev pub sum_in_128_bits : ℤ → ℤ → ℤ
sum_in_128_bits a b = int_wrap w128 (a +ℤ b)

-- whether one is so
abbrev pub either : Bool → Bool → Bool
either true b = true
either false b = b
