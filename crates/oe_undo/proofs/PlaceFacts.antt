-- Shelves of places.
use Rattle.std.proofs.Common.{◌≡◌, refl, sym, ◌∙◌, ap, subst, Bool, true, false, cond, ℕ, zero, suc, ◌+◌, ◌-◌, ◌<◌, ◌≤◌}
use Rattle.std.proofs.Common.{List, [], ◌∷◌, ◌++◌, length, set, get_or, replicate, arith, Option, Some, None, inl, inr}
use Rattle.std.specs.Prelude.{slice_get, eqb, leb, ◌&&◌}
use Rattle.std.proofs.lemmas.Bool.{cases_lt, leb-true, leb-false}
use Rattle.std.proofs.lemmas.List.{append_assoc, append-nil, replicate_more, get_or-set_same, get_or-set_other}
use Rattle.std.proofs.lemmas.Option.{slice_get_past}
use borrow.Author.Tests.{eqb-true, eqb-false}
use Rattle.oe_undo.specs.Shelf.{spread, content_in}
use Rattle.oe_undo.specs.Places.{place_at, ReachesPlace}
use Rattle.oe_undo.proofs.SpreadFacts.{length-spread}

-- empty shelves at the end
module _ {A : Type 0} where
  pub padded-more : (first now next : List (List A)) (n : ℕ) → now ≡ first ++ replicate n [] → next ≡ now ++ [] ∷ []
      → next ≡ first ++ replicate (n + 1) []
  padded-more first now next n e more =
      more ∙ ap (λ t. t ++ [] ∷ []) e ∙ append_assoc first (replicate n []) ([] ∷ [])
      ∙ ap (λ t. first ++ t) (replicate_more n [])

  get_or-padded : (ss : List (List A)) (n i : ℕ) → get_or (ss ++ replicate n []) i [] ≡ get_or ss i []
  get_or-padded [] zero i = refl
  get_or-padded [] (suc n) zero = refl
  get_or-padded [] (suc n) (suc i) = get_or-padded [] n i
  get_or-padded (s ∷ ss) n zero = refl
  get_or-padded (s ∷ ss) n (suc i) = get_or-padded ss n i

module _ {X : Type 0} where
  -- the places of a shelf with empty ones behind them
  within : (r m : ℕ) (xs : List (Option X)) → m < length xs + r
      → slice_get (xs ++ replicate r None) m ≡ Some (content_in (slice_get xs m))
  within zero m [] h = absurd (omega (arith, h))
  within (suc r) zero [] h = refl
  within (suc r) (suc m) [] h = within r m [] (omega (arith, h))
  within r zero (x ∷ xs) h = refl
  within r (suc m) (x ∷ xs) h = within r m xs (omega (arith, h))

  front : (m : ℕ) (xs ys : List (Option X)) → m < length xs → slice_get (xs ++ ys) m ≡ slice_get xs m
  front m [] ys h = absurd (omega (arith, h))
  front zero (x ∷ xs) ys h = refl
  front (suc m) (x ∷ xs) ys h = front m xs ys (omega (arith, h))

  behind : (j m : ℕ) (xs : List (Option X)) → j ≤ m → slice_get (spread j xs) m ≡ slice_get xs m
  behind j m xs h =
      elim (cases_lt m (length xs)) [
        | inl there ↦ front m xs (replicate (j - length xs) None) there
        | inr past ↦
            slice_get_past (spread j xs) m (fewer past) ∙ sym (slice_get_past xs m past)
      ]
    where
      fewer : length xs ≤ m → length (spread j xs) ≤ m
      fewer past =
          elim (cases_lt (length xs) j) [
            | inl less ↦ let long = length-spread j xs (omega (arith, less)) in omega (arith, long, h)
            | inr enough ↦
                let none : j - length xs ≡ 0 = omega (arith, enough) in
                let same : length (spread j xs) ≡ length (xs ++ []) = ap (λ k. length (xs ++ replicate k None)) none in
                let end = ap length (append-nil xs) in omega (arith, same, end, past)
          ]

  spread-place : (k m : ℕ) (xs : List (Option X))
      → slice_get (spread (k + 1) xs) m ≡ cond (leb m k) (Some (content_in (slice_get xs m))) (slice_get xs m)
  spread-place k m xs = go (leb m k) refl
    where
      go : (b : Bool) → leb m k ≡ b → slice_get (spread (k + 1) xs) m ≡ cond b (Some (content_in (slice_get xs m)))
          (slice_get xs m)
      go true e = let up = leb-true m k e in within (k + 1 - length xs) m xs (omega (arith, up))
      go false e = let over = leb-false m k e in behind (k + 1) m xs (omega (arith, over))

  -- a shelf has places up to a number, behind which there may be new shelves
  pub shelf_reached : (old mid new : List (List (Option X))) (n s k : ℕ) → mid ≡ old ++ replicate n [] → s < length mid
      → new ≡ set mid s (spread (k + 1) (get_or mid s [])) → ReachesPlace old new s k
  shelf_reached old mid new n s k is some e t m = go (eqb s t) refl
    where
      same : (i : ℕ) → get_or mid i [] ≡ get_or old i []
      same i = ap (λ ss. get_or ss i []) is ∙ get_or-padded old n i

      go : (b : Bool) → eqb s t ≡ b → place_at new t m ≡ cond (b && leb m k) (Some (content_in (place_at old t m)))
          (place_at old t m)
      go true q =
          let here : s ≡ t = eqb-true s t q in
          subst (λ i. place_at new i m ≡ cond (leb m k) (Some (content_in (place_at old i m))) (place_at old i m)) here
          (ap (λ xs. slice_get xs m)
          (ap (λ ss. get_or ss s []) e ∙ get_or-set_same mid s (spread (k + 1) (get_or mid s [])) [] some
          ∙ ap (spread (k + 1)) (same s))
          ∙ spread-place k m (get_or old s []))
      go false q =
          ap (λ xs. slice_get xs m)
          (ap (λ ss. get_or ss t []) e ∙ get_or-set_other mid s t (spread (k + 1) (get_or mid s [])) []
          (λ h. eqb-false s t q (sym h)) ∙ same t)

  -- there is no such place yet
  pub no_place : (old mid : List (List (Option X))) (n s k : ℕ) → mid ≡ old ++ replicate n []
      → length (get_or mid s []) ≤ k → place_at old s k ≡ None
  no_place old mid n s k is short =
      let same : get_or mid s [] ≡ get_or old s [] = ap (λ ss. get_or ss s []) is ∙ get_or-padded old n s in
      sym (ap (λ xs. slice_get xs k) same) ∙ slice_get_past (get_or mid s []) k short
