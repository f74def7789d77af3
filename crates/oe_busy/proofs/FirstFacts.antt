-- The first names of a list, and of all that were counted.
use Rattle.std.proofs.Common.{◌≡◌, ℕ, suc, ◌+◌, ◌-◌, ◌≤◌, ◌<◌, Bool, true, false, cond, List, [], ◌∷◌, ◌++◌}
use Rattle.std.proofs.Common.{length, take, get_or, Option, None, Some, refl, sym, ap, ◌∙◌, subst, inl, inr, arith}
use Rattle.std.proofs.Common.{append_assoc}
use Rattle.std.specs.Prelude.{◌⊎◌}
use Rattle.std.specs.Option.{MatchOption}
use Rattle.std.specs.List.{flat_map}
use Rattle.std.proofs.lemmas.Bool.{cases_Bool, true≢false}
use Rattle.std.proofs.lemmas.List.{append-nil, flat_map_more, take_more, take_all}
use Rattle.oe_rows.specs.declared.locks.Name.{Name}
use Rattle.oe_locks.specs.Listed.{stands}
use Rattle.oe_waits.proofs.HeldFacts.{stands_one_more}
use Rattle.oe_busy.specs.Firsts.{is_left, name_line, precedes, sooner, AreMostBusy, IsFirst}
use Rattle.oe_busy.proofs.OrderFacts.{not_back, not_before, not_itself}

-- THE FIRST OF A LIST

-- the first name of a list that counts, or that none does
abbrev pub IsBest : (Name → ℕ) → (Name → Bool) → List Name → Option Name → Type 0
IsBest f g xs None = (q : Name) → stands xs q ≡ true → g q ≡ false
IsBest f g xs (Some b) =
    (g b ≡ true) × ((q : Name) → stands xs q ≡ true → g q ≡ true → precedes f q b ≡ false)

module _ (f : Name → ℕ) (g : Name → Bool) (xs : List Name) (x : Name) where
  not_here : (q : Name) → g x ≡ false → q ≡ x → g q ≡ false
  not_here q e same = ap g same ∙ e

  best_next : (best : Option Name) (b : Bool) → g x ≡ b → IsBest f g xs best
      → IsBest f g (xs ++ x ∷ []) (sooner f best x b)
  best_next None false e h = λ q m. elim (stands_one_more xs x q m) [
    | inl l ↦ h q l
    | inr r ↦ not_here q e r
  ]
  best_next (Some l) false e h = (
    h.0,
    λ q m k. elim (stands_one_more xs x q m) [
      | inl l ↦ h.1 q l k
      | inr r ↦ absurd (true≢false (sym k ∙ not_here q e r))
    ],
  )
  best_next None true e h = (
    e,
    λ q m k. elim (stands_one_more xs x q m) [
      | inl l ↦ absurd (true≢false (sym k ∙ h q l))
      | inr r ↦ ap (λ z. precedes f z x) r ∙ not_itself f x
    ],
  )
  best_next (Some l) true e h = go (precedes f x l) refl
    where
      go : (c : Bool) → precedes f x l ≡ c → IsBest f g (xs ++ x ∷ []) (cond c (Some x) (Some l))
      go true k = (
        e,
        λ q m t. elim (stands_one_more xs x q m) [
          | inl s ↦ not_before f q l x (h.1 q s t) (not_back f x l k)
          | inr r ↦ ap (λ z. precedes f z x) r ∙ not_itself f x
        ],
      )
      go false k = (
        h.0,
        λ q m t. elim (stands_one_more xs x q m) [
          | inl s ↦ h.1 q s t
          | inr r ↦ ap (λ z. precedes f z l) r ∙ k
        ],
      )

pub best_more : (f : Name → ℕ) (g : Name → Bool) (xs : List Name) (i : ℕ) (x : Name) (best : Option Name)
    → x ≡ get_or xs i x → i < length xs → IsBest f g (take i xs) best
    → IsBest f g (take (i + 1) xs) (sooner f best x (g x))
best_more f g xs i x best is within h =
    subst (λ ys. IsBest f g ys (sooner f best x (g x)))
    (ap (λ z. take i xs ++ z ∷ []) is ∙ sym (take_more xs i x within))
    (best_next f g (take i xs) x best (g x) refl h)

pub best_all : (f : Name → ℕ) (behind : Option Name) (xs : List Name) (n : ℕ) (best : Option Name) → length xs ≤ n
    → IsBest f (is_left f behind) (take n xs) best
    → ((q : Name) → stands xs q ≡ false → is_left f behind q ≡ false)
    → MatchOption best ((q : Name) → is_left f behind q ≡ false) (IsFirst f behind)
best_all f behind xs n None long h none = λ q. by_list q (cases_Bool (stands xs q))
  where
    by_list : (q : Name) → (stands xs q ≡ true) ⊎ (stands xs q ≡ false) → is_left f behind q ≡ false
    by_list q (inl m) = h q (ap (λ ys. stands ys q) (take_all n xs long) ∙ m)
    by_list q (inr m) = none q m
best_all f behind xs n (Some b) long h none = (h.0, λ q t. by_list q t (cases_Bool (stands xs q)))
  where
    by_list : (q : Name) → is_left f behind q ≡ true → (stands xs q ≡ true) ⊎ (stands xs q ≡ false)
        → precedes f q b ≡ false
    by_list q t (inl m) = h.1 q (ap (λ ys. stands ys q) (take_all n xs long) ∙ m) t
    by_list q t (inr m) = absurd (true≢false (sym t ∙ none q m))

-- THE FIRST OF ALL

-- the lines of the first k names are there, of which this one is the last; whatever come next are the first behind it
abbrev pub Shows : (Name → ℕ) → ℕ → List ℕ → List ℕ → Option Name → ℕ → Type 0
Shows f most old new last k =
    (shown : List Name) × (new ≡ old ++ flat_map (name_line f) shown)
    × ((ns : List Name) → AreMostBusy f last (most - k) ns → AreMostBusy f None most (shown ++ ns))

-- so many names, or all
abbrev pub AreShown : (Name → ℕ) → ℕ → List ℕ → List ℕ → Type 0
AreShown f most old new = (ns : List Name) × AreMostBusy f None most ns × (new ≡ old ++ flat_map (name_line f) ns)

module _ (f : Name → ℕ) (most : ℕ) (old : List ℕ) where
  pub shows_none : Shows f most old old None 0
  shows_none =
      let all : most - 0 ≡ most = omega arith in
      ([], sym (append-nil old), λ ns h. subst (λ j. AreMostBusy f None j ns) all h)

  pub shows_more : (mid new : List ℕ) (last : Option Name) (n : Name) (k : ℕ) → k < most → IsFirst f last n
      → Shows f most old mid last k → new ≡ mid ++ name_line f n → Shows f most old new (Some n) (k + 1)
  shows_more mid new last n k few first (shown, is, rest) e = (
    shown ++ n ∷ [],
    e ∙ (ap (λ z. z ++ name_line f n) is ∙ flat_map_more (name_line f) old shown n),
    λ ns h.
        let one : suc (most - (k + 1)) ≡ most - k = omega (arith, few) in
        subst (AreMostBusy f None most) (sym (append_assoc shown (n ∷ []) ns))
        (rest (n ∷ ns) (subst (λ j. AreMostBusy f last j (n ∷ ns)) one (first, h))),
  )

  ends : (new : List ℕ) (last : Option Name) (k : ℕ) → Shows f most old new last k → AreMostBusy f last (most - k) []
      → AreShown f most old new
  ends new last k (shown, is, rest) h = (shown, subst (AreMostBusy f None most) (append-nil shown) (rest [] h), is)

  pub shows_all : (new : List ℕ) (last : Option Name) (k : ℕ) → k < most → ((q : Name) → is_left f last q ≡ false)
      → Shows f most old new last k → AreShown f most old new
  shows_all new last k few none h =
      let one : suc (most - suc k) ≡ most - k = omega (arith, few) in
      ends new last k h (subst (λ j. AreMostBusy f last j []) one none)

  pub shows_most : (new : List ℕ) (last : Option Name) (k : ℕ) → most ≤ k → Shows f most old new last k
      → AreShown f most old new
  shows_most new last k many h =
      let none : 0 ≡ most - k = omega (arith, many) in
      ends new last k h (subst (λ j. AreMostBusy f last j []) none refl)
