-- How a shelf keeps its places: in pieces of 256, one behind another in the order in which they were met.
use Rattle.std.specs.Prelude.{◌≡◌, ℕ, ◌<◌, ◌≤◌, ◌+◌, ◌*◌, ◌/◌, ◌%◌, List, length, map, slice_get, count_by, is_some}
use Rattle.std.specs.Prelude.{Option, None, Some, option_map, option_and_then}
use Rattle.std.specs.List.{range_with_len}
use Rattle.oe_undo.specs.Shelf.{content_in}

-- where the place of number n stands, if its piece was met: so far behind the start of that piece
abbrev pub stands_at : List (Option ℕ) → ℕ → Option ℕ
stands_at starts n = option_map (λ start. start + n % 256) (content_in (slice_get starts (n / 256)))

module _ {X : Type 0} where
  -- the content of the place of number n: a piece that was not met is empty
  abbrev pub content_of : List (Option ℕ) → List (Option X) → ℕ → Option X
  content_of starts met n = option_and_then (λ at. content_in (slice_get met at)) (stands_at starts n)

  -- the places, by their numbers
  abbrev pub places_by_number : ℕ → List (Option ℕ) → List (Option X) → List (Option X)
  places_by_number count starts met = map (content_of starts met) (range_with_len 0 count)

  -- the places of number n and above are empty
  abbrev pub IsEmptyFrom : ℕ → List (Option ℕ) → List (Option X) → Type 0
  IsEmptyFrom n starts met = (m : ℕ) → n ≤ m → content_of starts met m ≡ None

  -- the places that stand are those of the met pieces: each number of one has its place there, and no two the same
  pub record ArePieces (starts : List (Option ℕ)) (met : List (Option X)) : Type 0 where
    pub whole : length met ≡ 256 * count_by is_some starts
    pub within : (n at : ℕ) → stands_at starts n ≡ Some at → at < length met
    pub apart : (m n at : ℕ) → stands_at starts m ≡ Some at → stands_at starts n ≡ Some at → m ≡ n
