-- What a sweep leaves of shelves and at each key: the places that have a row.
use Rattle.std.proofs.Common.{◌≡◌, refl, sym, ◌∙◌, ap, Bool, true, false, cond, ℕ, suc, zero, ◌<◌, ◌≤◌, List, [], ◌∷◌}
use Rattle.std.proofs.Common.{◌++◌, map, length, get_or, set, arith, Option, Some, None}
use Rattle.std.specs.Prelude.{is_some}
use Rattle.std.specs.List.{AllByRecursion, list_all}
use Rattle.std.specs.List.Sorted.{IsStrictlySortedBy}
use Rattle.std.specs.Map.{keys_of}
use Rattle.std.specs.Ordering.{is_eq}
use Rattle.std.specs.FinMap.{IsAntisymmetric}
use Rattle.std.specs.declared.cmp.Ordering.{Ordering}
use Rattle.std.specs.declared.cmp.Ordering.TheVariants.{Less}
use Rattle.std.proofs.lemmas.List.Elements.{filter-append}
use Rattle.oe_table.specs.Table.{place, left_of, with_rows}
use Rattle.oe_table.specs.Shelf.{whole_list, IsAscending, AreShelves}
use Rattle.oe_table.proofs.TableFacts.{tied}
use Rattle.oe_table.proofs.WalkFacts.{place-below}

blank-step : {R : Type 0} (b : Bool) (old new : Option (Option R)) → (b ≡ true → old ≡ None) → new ≡ left_of old
    → new ≡ left_of (cond b (Some None) old)
blank-step true old new none is = is ∙ ap left_of (none refl)
blank-step false old new none is = is

row-step : {R : Type 0} (b : Bool) (row : R) (old new : Option (Option R)) → new ≡ left_of old
    → cond b (Some (Some row)) new ≡ left_of (cond b (Some (Some row)) old)
row-step true row old new is = refl
row-step false row old new is = is

module _ {K R : Type 0} where
  -- where each place has a row, all are left
  pub rows-alone : (s : List (K × Option R)) → list_all (λ e. is_some e.1) s ≡ true → s ≡ with_rows s
  rows-alone [] h = refl
  rows-alone ((key, None) ∷ s) h = cc
  rows-alone ((key, Some row) ∷ s) h = ap (λ t. (key, Some row) ∷ t) (rows-alone s h)

  all-swept : (P : K → Type 0) (s : List (K × Option R)) → AllByRecursion P (keys_of s)
      → AllByRecursion P (keys_of (with_rows s))
  all-swept P [] h = h
  all-swept P ((key, None) ∷ s) h = all-swept P s h.1
  all-swept P ((key, Some row) ∷ s) h = (h.0, all-swept P s h.1)

  ascending-swept : (cmp : K → K → Ordering) (s : List (K × Option R)) → IsAscending cmp s
      → IsAscending cmp (with_rows s)
  unfolding IsStrictlySortedBy
  ascending-swept cmp [] up = up
  ascending-swept cmp ((key, None) ∷ s) up = ascending-swept cmp s up.1
  ascending-swept cmp ((key, Some row) ∷ s) up = (all-swept (λ y. cmp key y ≡ Less) s up.0, ascending-swept cmp s up.1)

  pub shelves-swept : (cmp : K → K → Ordering) (shelf_of : K → ℕ) (m : ℕ) (ss : List (List (K × Option R)))
      → AreShelves cmp shelf_of m ss → AreShelves cmp shelf_of m (map with_rows ss)
  unfolding AreShelves
  shelves-swept cmp shelf_of m [] h = h
  shelves-swept cmp shelf_of m (s ∷ ss) h =
      (ascending-swept cmp s h.0, all-swept (λ k. shelf_of k ≡ m) s h.1, shelves-swept cmp shelf_of (suc m) ss h.2)

  -- all shelves as one
  pub joined-swept : (ss : List (List (K × Option R))) → whole_list (map with_rows ss) ≡ with_rows (whole_list ss)
  joined-swept [] = refl
  joined-swept (s ∷ ss) = ap (λ t. with_rows s ++ t) (joined-swept ss)
      ∙ sym (filter-append (λ e. is_some e.1) s (whole_list ss))

  -- what is left at each key
  pub place-swept : (cmp : K → K → Ordering) → IsAntisymmetric cmp → (s : List (K × Option R)) → IsAscending cmp s
      → (q : K) → place cmp (with_rows s) q ≡ left_of (place cmp s q)
  unfolding IsStrictlySortedBy
  place-swept cmp exact [] up q = refl
  place-swept cmp exact ((key, None) ∷ s) up q =
      blank-step (is_eq (cmp q key)) (place cmp s q) (place cmp (with_rows s) q)
      (λ at. ap (place cmp s) (exact q key (tied (cmp q key) at)) ∙ place-below cmp key s up.0)
      (place-swept cmp exact s up.1 q)
  place-swept cmp exact ((key, Some row) ∷ s) up q = row-step (is_eq (cmp q key)) row (place cmp s q)
      (place cmp (with_rows s) q) (place-swept cmp exact s up.1 q)

-- a loop over the shelves: those before n are swept
abbrev pub swept_to : {K R : Type 0} → ℕ → List (List (K × Option R)) → List (List (K × Option R))
swept_to zero ss = ss
swept_to (suc n) [] = []
swept_to (suc n) (s ∷ ss) = with_rows s ∷ swept_to n ss

module _ {K R : Type 0} where
  pub swept-more : (n : ℕ) (ss now : List (List (K × Option R))) (s : List (K × Option R)) → now ≡ swept_to n ss
      → n < length ss → ((d : List (K × Option R)) → s ≡ get_or now n d)
      → set now n (with_rows s) ≡ swept_to (suc n) ss
  swept-more zero [] now s is within there = absurd (omega arith)
  swept-more zero (r ∷ ss) now s is within there =
      let same : s ≡ r = there r ∙ ap (λ l. get_or l 0 r) is in
      ap (λ l. set l 0 (with_rows s)) is ∙ ap (λ x. with_rows x ∷ ss) same
  swept-more (suc n) [] now s is within there = absurd (omega arith)
  swept-more (suc n) (r ∷ ss) now s is within there =
      ap (λ l. set l (suc n) (with_rows s)) is
      ∙ ap (λ l. with_rows r ∷ l)
      (swept-more n ss (swept_to n ss) s refl (omega arith) (λ d. there d ∙ ap (λ l. get_or l (suc n) d) is))

  pub swept-long : (n : ℕ) (ss : List (List (K × Option R))) → length (swept_to n ss) ≡ length ss
  swept-long zero ss = refl
  swept-long (suc n) [] = refl
  swept-long (suc n) (s ∷ ss) = ap suc (swept-long n ss)

  pub swept-all : (n : ℕ) (ss : List (List (K × Option R))) → length ss ≤ n → swept_to n ss ≡ map with_rows ss
  swept-all zero [] long = refl
  swept-all zero (s ∷ ss) long = absurd (omega arith)
  swept-all (suc n) [] long = refl
  swept-all (suc n) (s ∷ ss) long = ap (λ l. with_rows s ∷ l) (swept-all n ss (omega arith))
