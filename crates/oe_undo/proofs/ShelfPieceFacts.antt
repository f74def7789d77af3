-- Places that are kept in pieces.
use Rattle.std.proofs.Common.{◌≡◌, refl, sym, ◌∙◌, ap, subst, ℕ, zero, suc, ◌+◌, ◌-◌, ◌*◌, ◌/◌, ◌%◌, ◌<◌, ◌≤◌, List, []}
use Rattle.std.proofs.Common.{◌∷◌, ◌++◌, length, set, get_or, replicate, cond, inl, inr, arith, Option, Some, None}
use Rattle.std.specs.Prelude.{slice_get, count_by, is_some, option_map, option_and_then}
use Rattle.std.proofs.lemmas.Bool.{cases_eq}
use Rattle.std.proofs.lemmas.List.{length-set, length-append, length-replicate, get_or-set_same, get_or-set_other}
use Rattle.std.proofs.lemmas.List.Sums.{sum_by-cons, sum_by-append, sum_by-set, count_by-le-length}
use Rattle.std.proofs.lemmas.Option.{none-some, same_Some, slice_get_past}
use Rattle.oe_undo.specs.Shelf.{spread, content_in}
use Rattle.oe_undo.specs.ShelfPieces.{stands_at, content_of, places_by_number, IsEmptyFrom, ArePieces}
use Rattle.oe_undo.proofs.ByNumberFacts.{by_number_in}
use Rattle.oe_undo.proofs.SpreadFacts.{padded, content-spread}

module _ {Y : Type 0} where
  pub content_get : (ys : List (Option Y)) (i : ℕ) → content_in (slice_get ys i) ≡ get_or ys i None
  content_get [] i = refl
  content_get (y ∷ ys) zero = refl
  content_get (y ∷ ys) (suc i) = content_get ys i

  set_here : (ys : List (Option Y)) (i : ℕ) (y : Option Y) → i < length ys → content_in (slice_get (set ys i y) i) ≡ y
  set_here ys i y h = content_get (set ys i y) i ∙ get_or-set_same ys i y None h

  set_there : (ys : List (Option Y)) (i j : ℕ) (y : Option Y) → (j ≡ i → ⊥)
      → content_in (slice_get (set ys i y) j) ≡ content_in (slice_get ys j)
  set_there ys i j y apart = content_get (set ys i y) j ∙ get_or-set_other ys i j y None apart ∙ sym (content_get ys j)

-- how many pieces were met
abbrev one : Option ℕ → ℕ
one o = cond (is_some o) 1 0

count_set : (starts : List (Option ℕ)) (p s : ℕ) → content_in (slice_get starts p) ≡ None → p < length starts
    → count_by is_some (set starts p (Some s)) ≡ count_by is_some starts + 1
count_set starts p s unmet there =
    let all : count_by is_some (set starts p (Some s)) + one (get_or starts p None) ≡ count_by is_some starts + 1 =
    sum_by-set one starts p (Some s) None there in
    let none : one (get_or starts p None) ≡ 0 = ap one (sym (content_get starts p) ∙ unmet) in omega (arith, all, none)

count_none : (n : ℕ) → count_by {X = Option ℕ} is_some (replicate n None) ≡ 0
count_none zero = refl
count_none (suc n) =
    let all : count_by {X = Option ℕ} is_some (replicate (suc n) None) ≡ 0 + count_by {X = Option ℕ} is_some
    (replicate n None) = sum_by-cons one None (replicate n None) in
    let rest = count_none n in omega (arith, all, rest)

count_spread : (n : ℕ) (starts : List (Option ℕ)) → count_by is_some (spread n starts) ≡ count_by is_some starts
count_spread n starts =
    let all : count_by is_some (spread n starts) ≡ count_by is_some starts + count_by {X = Option ℕ} is_some
    (replicate (n - length starts) None) = sum_by-append one starts
    (replicate (n - length starts) None) in
    let none = count_none (n - length starts) in omega (arith, all, none)

-- what has no place is in no met piece
unmet_from : (starts seen : List (Option ℕ)) (n : ℕ) → seen ≡ starts → None ≡ stands_at seen n
    → content_in (slice_get starts (n / 256)) ≡ None
unmet_from starts seen n is e =
    go (content_in (slice_get starts (n / 256))) (sym (ap (λ s. stands_at s n) is) ∙ sym e)
  where
    go : (o : Option ℕ) → option_map (λ start. start + n % 256) o ≡ None → o ≡ None
    go None e = refl
    go (Some s) e = absurd (none-some (s + n % 256) (sym e))

module _ {X : Type 0} where
  pub fits : (starts : List (Option ℕ)) (met : List (Option X)) → ArePieces starts met
      → length met ≤ 256 * length starts
  fits starts met pieces =
      let all = pieces.whole in
      let few = count_by-le-length is_some starts in omega (arith, all, few)

  -- there is room for a piece that was not met
  pub room_for : (starts seen : List (Option ℕ)) (met : List (Option X)) (n : ℕ) → ArePieces starts met
      → seen ≡ starts → None ≡ stands_at seen n → n < 256 * length starts → length met + 256 ≤ 256 * length starts
  room_for starts seen met n pieces is unseen below =
      let all = pieces.whole in
      let there : n / 256 < length starts = omega (arith, below) in
      let one = count_set starts (n / 256) 0 (unmet_from starts seen n is unseen) there in
      let few = count_by-le-length is_some (set starts (n / 256) (Some 0)) in
      let long = length-set starts (n / 256) (Some 0) in omega (arith, all, one, few, long)

  pub read_of : (starts : List (Option ℕ)) (met : List (Option X)) (n at : ℕ) → stands_at starts n ≡ Some at
      → content_of starts met n ≡ get_or met at None
  read_of starts met n at e = ap (option_and_then (λ a. content_in (slice_get met a))) e ∙ content_get met at

  -- what is read is the content of a place in the list
  pub content_seen : (starts seen : List (Option ℕ)) (met shown : List (Option X)) (count n : ℕ) → seen ≡ starts
      → shown ≡ met → IsEmptyFrom count starts met
      → content_of seen shown n ≡ content_in (slice_get (places_by_number count starts met) n)
  content_seen starts seen met shown count n e f bare =
      ap (λ s. content_of s shown n) e ∙ ap (λ m. content_of starts m n) f
      ∙ by_number_in (content_of starts met) count n bare

  pub pieces_seen : (starts seen : List (Option ℕ)) (met shown : List (Option X)) → seen ≡ starts → shown ≡ met
      → ArePieces starts met → ArePieces seen shown
  pieces_seen starts seen met shown e f pieces =
      subst (λ s. ArePieces s shown) (sym e) (subst (λ m. ArePieces starts m) (sym f) pieces)

  -- there are none
  pub no_pieces : (starts : List (Option ℕ)) (met : List (Option X)) → starts ≡ [] → met ≡ [] → ArePieces starts met
  no_pieces starts met e f = subst (λ s. ArePieces s met) (sym e) (subst (λ m. ArePieces [] m) (sym f) none)
    where
      none : ArePieces {X = X} [] []
      none = record {
        whole = refl;
        within = λ n at h. absurd (none-some at h);
        apart = λ m n at h k. absurd (none-some at h);
      }

  pub no_content : (starts : List (Option ℕ)) (met : List (Option X)) → starts ≡ [] → IsEmptyFrom 0 starts met
  no_content starts met e m h = ap (λ s. content_of s met m) e

-- a place is written
module _ {X : Type 0} (starts : List (Option ℕ)) (met : List (Option X)) (i at : ℕ) (w : Option X)
    (pieces : ArePieces starts met) (place : stands_at starts i ≡ Some at) where
  pub written : ArePieces starts (set met at w)
  written = record {
    whole = length-set met at w ∙ pieces.whole;
    within = λ n a e. subst (λ k. a < k) (sym (length-set met at w)) (pieces.within n a e);
    apart = pieces.apart;
  }

  pub written_here : content_of starts (set met at w) i ≡ w
  written_here = ap (option_and_then (λ a. content_in (slice_get (set met at w) a))) place
      ∙ set_here met at w (pieces.within i at place)

  pub written_there : (n : ℕ) → (n ≡ i → ⊥) → content_of starts (set met at w) n ≡ content_of starts met n
  written_there n other = go (stands_at starts n) refl
    where
      go : (o : Option ℕ) → stands_at starts n ≡ o
          → option_and_then (λ a. content_in (slice_get (set met at w) a)) o
          ≡ option_and_then (λ a. content_in (slice_get met a)) o
      go None q = refl
      go (Some a) q = set_there met at a w (λ s. other (pieces.apart n i at (q ∙ ap (λ b. Some b) s) place))

-- a number's piece is put behind the others
module _ {X : Type 0} (starts starts' seen : List (Option ℕ)) (met met' : List (Option X)) (number start : ℕ)
    (pieces : ArePieces starts met) (is : seen ≡ starts) (unseen : None ≡ stands_at seen number)
    (below : number < 256 * length starts) (begins : start ≡ length met)
    (set' : starts' ≡ set starts (number / 256) (Some start)) (more : met' ≡ met ++ replicate 256 None) where
  unmet : content_in (slice_get starts (number / 256)) ≡ None
  unmet = unmet_from starts seen number is unseen

  there : number / 256 < length starts
  there = omega (arith, below)

  pub stands_here : (n : ℕ) → n / 256 ≡ number / 256 → stands_at starts' n ≡ Some (start + n % 256)
  stands_here n e = ap (option_map (λ s. s + n % 256))
      (ap (λ s. content_in (slice_get s (n / 256))) set'
      ∙ ap (λ q. content_in (slice_get (set starts (number / 256) (Some start)) q)) e
      ∙ set_here starts (number / 256) (Some start) there)

  stands_there : (n : ℕ) → (n / 256 ≡ number / 256 → ⊥) → stands_at starts' n ≡ stands_at starts n
  stands_there n other = ap (option_map (λ s. s + n % 256))
      (ap (λ s. content_in (slice_get s (n / 256))) set' ∙ set_there starts (number / 256) (n / 256) (Some start) other)

  stood : (n : ℕ) → n / 256 ≡ number / 256 → stands_at starts n ≡ None
  stood n e = ap (option_map (λ s. s + n % 256)) (ap (λ q. content_in (slice_get starts q)) e ∙ unmet)

  longer : length met' ≡ length met + 256
  longer = ap length more ∙ length-append met (replicate 256 None)
      ∙ ap (λ k. length met + k) (length-replicate {A = Option X} 256 None)

  here_at : (n at : ℕ) → n / 256 ≡ number / 256 → stands_at starts' n ≡ Some at → start + n % 256 ≡ at
  here_at n at e q = same_Some (start + n % 256) at (sym (stands_here n e) ∙ q)

  there_at : (n at : ℕ) → (n / 256 ≡ number / 256 → ⊥) → stands_at starts' n ≡ Some at → at < length met
  there_at n at other q = pieces.within n at (sym (stands_there n other) ∙ q)

  within' : (n at : ℕ) → stands_at starts' n ≡ Some at → at < length met'
  within' n at q =
      let long = longer in
      elim (cases_eq (n / 256) (number / 256)) [
        | inl e ↦ let new = here_at n at e q in omega (arith, long, new, begins)
        | inr other ↦ let old = there_at n at other q in omega (arith, long, old)
      ]

  apart' : (m n at : ℕ) → stands_at starts' m ≡ Some at → stands_at starts' n ≡ Some at → m ≡ n
  apart' m n at q r =
      elim (cases_eq (m / 256) (number / 256)) [
        | inl e ↦
            let new = here_at m at e q in
            elim (cases_eq (n / 256) (number / 256)) [
              | inl f ↦ let too = here_at n at f r in omega (arith, e, f, new, too)
              | inr other ↦ let old = there_at n at other r in absurd (omega (arith, new, old, begins))
            ]
        | inr other ↦
            elim (cases_eq (n / 256) (number / 256)) [
              | inl f ↦
                  let new = here_at n at f r in
                  let old = there_at m at other q in absurd (omega (arith, new, old, begins))
              | inr too ↦ pieces.apart m n at (sym (stands_there m other) ∙ q) (sym (stands_there n too) ∙ r)
            ]
      ]

  pub appended : ArePieces starts' met'
  appended =
      let long = longer in
      let all = pieces.whole in
      let one = ap (λ s. count_by is_some s) set' ∙ count_set starts (number / 256) start unmet there in
      record { whole = omega (arith, long, all, one); within = within'; apart = apart' }

  pub appended_content : (n : ℕ) → content_of starts' met' n ≡ content_of starts met n
  appended_content n =
      ap (λ m. content_of starts' m n) more ∙ go (stands_at starts' n)
      ∙ elim (cases_eq (n / 256) (number / 256)) [
        | inl e ↦
            let past : length met ≤ start + n % 256 = omega (arith, begins) in
            ap (option_and_then (λ a. content_in (slice_get met a))) (stands_here n e)
            ∙ ap (λ o. content_in o) (slice_get_past met (start + n % 256) past)
            ∙ sym (ap (option_and_then (λ a. content_in (slice_get met a))) (stood n e))
        | inr other ↦ ap (option_and_then (λ a. content_in (slice_get met a))) (stands_there n other)
      ]
    where
      go : (o : Option ℕ) → option_and_then (λ a. content_in (slice_get (met ++ replicate 256 None) a)) o
          ≡ option_and_then (λ a. content_in (slice_get met a)) o
      go None = refl
      go (Some a) = padded 256 a met

-- there are more pieces, which were not met
module _ {X : Type 0} (starts starts' : List (Option ℕ)) (met met' : List (Option X)) (k : ℕ)
    (spreads : starts' ≡ spread k starts) (same : met' ≡ met) where
  stands_same : (n : ℕ) → stands_at starts' n ≡ stands_at starts n
  stands_same n = ap (λ s. stands_at s n) spreads
      ∙ ap (option_map (λ s. s + n % 256)) (content-spread k (n / 256) starts)

  pub spread_content : (n : ℕ) → content_of starts' met' n ≡ content_of starts met n
  spread_content n = ap (λ m. content_of starts' m n) same
      ∙ ap (option_and_then (λ a. content_in (slice_get met a))) (stands_same n)

  pub spread_pieces : ArePieces starts met → ArePieces starts' met'
  spread_pieces pieces = record {
    whole =
        ap length same ∙ pieces.whole
        ∙ ap (λ c. 256 * c) (sym (ap (λ s. count_by is_some s) spreads ∙ count_spread k starts));
    within = λ n at e. subst (λ m. at < length m) (sym same) (pieces.within n at (sym (stands_same n) ∙ e));
    apart = λ m n at e f. pieces.apart m n at (sym (stands_same m) ∙ e) (sym (stands_same n) ∙ f);
  }
