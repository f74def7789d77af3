-- The links of one table: shelf by shelf the places of its keys, by number.
use Rattle.std.specs.Prelude.{◌≡◌, ℕ, cond, Bool, false, List, Option, None, Some}
use Rattle.std.specs.Ordering.{eq_by_cmp}
use Rattle.std.specs.declared.cmp.Ordering.{Ordering}
use Rattle.oe_undo.specs.Shelf.{content_in}
use Rattle.oe_undo.specs.Places.{place_at, with_content, is_up_to}
use Rattle.oe_undo.specs.declared.links.OwnedLink.{OwnedLink}

-- the places for the links of a table
abbrev pub LinkTable : Type 0
LinkTable = List (List (Option OwnedLink))

-- the link in a place, if there is one
abbrev pub link_in : Option (Option OwnedLink) → Option OwnedLink
link_in p = content_in p

-- what stands at a number of a shelf; nothing at no number
abbrev pub link_by_number : LinkTable → ℕ → Option ℕ → Option (Option OwnedLink)
link_by_number t s None = None
link_by_number t s (Some n) = place_at t s n

-- the place at a number of a shelf has this link, or is empty
abbrev pub with_number : LinkTable → ℕ → Option ℕ → Option OwnedLink → LinkTable
with_number t s None l = t
with_number t s (Some n) l = with_content t s n l

-- the second number is of the first one's shelf, and not above it
abbrev pub is_not_above : ℕ → Option ℕ → ℕ → Option ℕ → Bool
is_not_above s (Some n) t (Some m) = is_up_to s n t m
is_not_above s None t m = false
is_not_above s (Some n) t None = false

module _ {K : Type 0} (shelf_of : K → ℕ) (number_of : K → Option ℕ) where
  -- what stands at a key
  abbrev pub key_place : LinkTable → K → Option (Option OwnedLink)
  key_place t k = link_by_number t (shelf_of k) (number_of k)

  -- each key of the shelf up to this one has a place, which is empty where there was none
  abbrev pub GivesNumbers : LinkTable → LinkTable → K → Type 0
  GivesNumbers old new own =
      (k : K) → key_place new k ≡ cond (is_not_above (shelf_of own) (number_of own) (shelf_of k) (number_of k))
      (Some (link_in (key_place old k))) (key_place old k)

module _ {K : Type 0} (cmp : K → K → Ordering) (shelf_of : K → ℕ) (number_of : K → Option ℕ) where
  -- the key's place has this link, or is empty, and all others are as they were
  abbrev pub SetsNumber : LinkTable → LinkTable → K → Option OwnedLink → Type 0
  SetsNumber old new own l =
      (k : K) → key_place shelf_of number_of new k ≡ cond (eq_by_cmp cmp own k) (Some l)
      (key_place shelf_of number_of old k)

  -- the key's place has this link, and each key of the shelf up to this one has a place
  abbrev pub InsertsNumber : LinkTable → LinkTable → K → Option OwnedLink → Type 0
  InsertsNumber old new own l =
      (k : K) → key_place shelf_of number_of new k ≡ cond (eq_by_cmp cmp own k) (Some l)
      (cond (is_not_above (shelf_of own) (number_of own) (shelf_of k) (number_of k))
      (Some (link_in (key_place shelf_of number_of old k))) (key_place shelf_of number_of old k))
