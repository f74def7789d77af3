-- The words that say the numbers of a drive or a load.
use Rattle.std.specs.Prelude.{◌≡◌, ◌<◌, ◌^◌, ℕ, List, [], ◌∷◌, Some, slice_get}
use Rattle.std.specs.Int.{IsInRange}
use Rattle.std.specs.Fmt.{decimal}
use Rattle.oe_rows.specs.declared.scales.Scale.{Scale}
use Rattle.oe_numbers.specs.declared.drives.DriveNumbers.{DriveNumbers}
use Rattle.oe_numbers.specs.declared.drives.LoadNumbers.{LoadNumbers}
use Rattle.oe_numbers.specs.declared.drives.FollowingNumbers.{FollowingNumbers}

-- Each number is in its range: the population's scale, the extents, the terminals, the requests of each (at most
-- `most`), and the seed.
abbrev pub AreNumbers : ℕ → Scale → ℕ → ℕ → ℕ → ℕ → Type 0
AreNumbers most scale extents terminals requests seed =
    IsInRange 1 16 scale.warehouses
    × IsInRange 1 3_000 scale.customers
    × IsInRange 1 100_000 scale.items
    × IsInRange 2 4_096 extents
    × IsInRange 1 63 terminals
    × IsInRange 1 most requests
    × (seed < 2 ^ 32)

-- the numbers in their order, each in decimal
abbrev pub number_words : Scale → ℕ → ℕ → ℕ → ℕ → List (List ℕ)
number_words scale extents terminals requests seed =
    decimal scale.warehouses
    ∷ decimal scale.customers
    ∷ decimal scale.items
    ∷ decimal extents
    ∷ decimal terminals
    ∷ decimal requests
    ∷ decimal seed
    ∷ []

-- a drive has at most 1,000 requests of each terminal
abbrev pub AreInRange : DriveNumbers → Type 0
AreInRange d = AreNumbers 1_000 d.scale d.extents d.terminals d.requests d.seed

abbrev pub words_of : DriveNumbers → List (List ℕ)
words_of d = number_words d.scale d.extents d.terminals d.requests d.seed

-- a load has at most 1,000,000,000
abbrev pub AreOfLoad : LoadNumbers → Type 0
AreOfLoad d = AreNumbers 1_000_000_000 d.scale d.extents d.terminals d.requests d.seed

abbrev pub load_words_of : LoadNumbers → List (List ℕ)
load_words_of d = number_words d.scale d.extents d.terminals d.requests d.seed

-- a load on tables that are there says no scale: their rows have it
abbrev pub AreFollowing : FollowingNumbers → Type 0
AreFollowing d =
    IsInRange 2 4_096 d.extents
    × IsInRange 1 63 d.terminals
    × IsInRange 1 1_000_000_000 d.requests
    × (d.seed < 2 ^ 32)

abbrev pub following_words_of : FollowingNumbers → List (List ℕ)
following_words_of d = decimal d.extents ∷ decimal d.terminals ∷ decimal d.requests ∷ decimal d.seed ∷ []

-- the word of that place says a number of a range
abbrev pub Says : List (List ℕ) → ℕ → ℕ → ℕ → ℕ → Type 0
Says words place low high n = IsInRange low high n × (slice_get words place ≡ Some (decimal n))

-- the first three words say the scale
abbrev pub IsScaleOf : List (List ℕ) → Scale → Type 0
IsScaleOf words s = Says words 0 1 16 s.warehouses × Says words 1 1 3_000 s.customers × Says words 2 1 100_000 s.items
