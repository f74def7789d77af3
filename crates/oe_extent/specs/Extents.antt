-- Lists of extents as lists of what each extent holds, the newest first.
use Rattle.std.specs.Prelude.{◌≡◌, ◌==◌, ◌<◌, ℕ, cond, ◌-◌, List, [], ◌∷◌, ◌++◌, length, map, drop, Option, None}
use Rattle.std.specs.Prelude.{Some, get_or, IfSome}
use Rattle.std.specs.Global.{Box}
use Rattle.oe_extent.specs.declared.sizes.TheConstants.{EXTENT_BYTES}
use Rattle.oe_extent.specs.declared.extents.Address.{Address}
use Rattle.oe_extent.specs.declared.extents.Extent.{Extent, Extent', Held-Extent-older, None', Some'}
use Rattle.oe_extent.specs.Strings.{bytes_of_strings}

-- what an extent holds: its number among all, and its strings, the newest first
pub record Contents : Type 0 where
  pub number : ℕ
  pub strings : List (List ℕ)

-- what an extent and those before it hold
abbrev mutual
  pub contents_in : Extent → List Contents
  contents_in (Extent' number strings older) =
      record { number = number; strings = strings } ∷ contents_before older

  pub contents_before : Held-Extent-older → List Contents
  contents_before None' = []
  contents_before (Some' p e) = contents_in e

abbrev pub contents_of : Option (Box Extent) → List Contents
contents_of None = []
contents_of (Some b) = contents_in b.value

abbrev pub number_of : Extent → ℕ
number_of (Extent' number strings older) = number

-- the extent has no strings, and none before it
abbrev pub IsEmptyExtent : Extent → Type 0
IsEmptyExtent e = contents_in e ≡ record { number = number_of e; strings = [] } ∷ []

-- each of these extents that is there lies at its number
abbrev pub LieAtNumbers : List (Option (Box Extent)) → Type 0
LieAtNumbers es = (i : ℕ) → IfSome (get_or es i None) (λ e. number_of e.value ≡ i)

abbrev pub numbers_of : List Contents → List ℕ
numbers_of cs = map (λ c. c.number) cs

-- the strings of the newest extent
abbrev pub newest_strings : List Contents → List (List ℕ)
newest_strings [] = []
newest_strings (c ∷ cs) = c.strings

-- all strings of a list
abbrev pub all_strings : List Contents → List (List ℕ)
all_strings [] = []
all_strings (c ∷ cs) = c.strings ++ all_strings cs

-- the bytes that are left in the newest extent
abbrev pub rest_of : List Contents → ℕ
rest_of [] = 0
rest_of (c ∷ cs) = EXTENT_BYTES - length (bytes_of_strings c.strings)

-- where the next string of the newest extent begins
abbrev pub end_of : List Contents → Address
end_of [] = record { extent = 0; offset = 0 }
end_of (c ∷ cs) = record { extent = c.number; offset = length (bytes_of_strings c.strings) }

-- one extent with this one string
abbrev pub first_string : ℕ → List ℕ → Contents
first_string n x = record { number = n; strings = x ∷ [] }

-- a string more in the newest extent
abbrev pub with_string : List ℕ → List Contents → List Contents
with_string x [] = []
with_string x (c ∷ cs) = record { number = c.number; strings = x ∷ c.strings } ∷ cs

-- without the newest string
abbrev pub without_newest : List Contents → List Contents
without_newest [] = []
without_newest (c ∷ cs) = record { number = c.number; strings = drop 1 c.strings } ∷ cs

-- the newest of several strings of the newest extent was taken off
pub record LosesString (old new : List Contents) : Type 0 where
  pub several : 1 < length (newest_strings old)
  pub left : new ≡ without_newest old

-- the newest extent, which had this number, was taken off
pub record LosesExtent (old new : List Contents) (number : ℕ) : Type 0 where
  pub left : new ≡ drop 1 old
  pub numbers : numbers_of old ≡ number ∷ numbers_of new

-- the strings of the extent with that number, of the newest where there are several
abbrev pub strings_at : ℕ → List Contents → List (List ℕ)
strings_at n [] = []
strings_at n (c ∷ cs) = cond (c.number == n) c.strings (strings_at n cs)
