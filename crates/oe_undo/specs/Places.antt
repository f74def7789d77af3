-- Places by shelf and number.
use Rattle.std.specs.Prelude.{◌≡◌, ℕ, List, [], get_or, set, slice_get, cond, Bool, eqb, leb, ◌&&◌, Option, Some}
use Rattle.oe_undo.specs.Shelf.{content_in}

-- what stands at a number of a shelf: nothing, an empty place, or one with something in it
abbrev pub place_at : {X : Type 0} → List (List (Option X)) → ℕ → ℕ → Option (Option X)
place_at ss s n = slice_get (get_or ss s []) n

-- the place at a number of a shelf has this in it, or is empty
abbrev pub with_content : {X : Type 0} → List (List (Option X)) → ℕ → ℕ → Option X → List (List (Option X))
with_content ss s n p = set ss s (set (get_or ss s []) n p)

-- a number is of this shelf, and not above this one
abbrev pub is_up_to : ℕ → ℕ → ℕ → ℕ → Bool
is_up_to s n t m = eqb s t && leb m n

-- the shelf has places up to this number, with what was in them, and all others are as they were
abbrev pub ReachesPlace : {X : Type 0} → List (List (Option X)) → List (List (Option X)) → ℕ → ℕ → Type 0
ReachesPlace old new s n =
    (t m : ℕ) → place_at new t m ≡ cond (is_up_to s n t m) (Some (content_in (place_at old t m))) (place_at old t m)
