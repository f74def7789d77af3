-- The places of a shelf.
use Rattle.std.specs.Prelude.{ℕ, ◌-◌, List, ◌++◌, length, replicate, Option, None, Some}

-- these places, and empty ones behind them where there are fewer than n
abbrev pub spread : {X : Type 0} → ℕ → List (Option X) → List (Option X)
spread n xs = xs ++ replicate (n - length xs) None

-- the content of a place, if there is one
abbrev pub content_in : {X : Type 0} → Option (Option X) → Option X
content_in None = None
content_in (Some x) = x
