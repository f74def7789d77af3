-- The line that refuses another.
use Rattle.std.specs.Prelude.{ℕ, List, ◌++◌, codes, decimal}

-- the refusal of the n-th line, counted from 1
abbrev pub bad_line : ℕ → List ℕ
bad_line n = codes "error 1 BadLine " ++ decimal n ++ codes "\n"
