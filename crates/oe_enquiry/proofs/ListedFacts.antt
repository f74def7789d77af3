-- Lists that have each element once, and what is listed.
use Rattle.std.proofs.Common.{◌≡◌, ℕ, ◌+◌, ◌≤◌, refl, sym, ap, ◌∙◌, subst, Bool, true, false, cond, List, [], ◌∷◌, ◌++◌}
use Rattle.std.proofs.Common.{map, length, length-append, inl, inr, arith}
use Rattle.std.specs.Prelude.{◌⊎◌, ◌==◌, ◌&&◌, not}
use Rattle.std.proofs.lemmas.Bool.{eqb-true, eq-eqb}
use Rattle.oe_model.specs.Lists.{IsAmong, IsDistinct}
use Rattle.oe_model.proofs.ListFacts.{one_is}
use Rattle.oe_enquiry.specs.Level.{is_listed, list_with}

module _ {A : Type 0} where
  -- what is among two lists
  pub of_two : (xs ys : List A) (i : A) → IsAmong i (xs ++ ys) → IsAmong i xs ⊎ IsAmong i ys
  of_two [] ys i h = inr h
  of_two (x ∷ xs) ys i (inl e) = inl (inl e)
  of_two (x ∷ xs) ys i (inr h) = more (of_two xs ys i h)
    where
      more : IsAmong i xs ⊎ IsAmong i ys → IsAmong i (x ∷ xs) ⊎ IsAmong i ys
      more (inl j) = inl (inr j)
      more (inr j) = inr j

  pub in_first : (xs ys : List A) (i : A) → IsAmong i xs → IsAmong i (xs ++ ys)
  in_first [] ys i h = absurd h
  in_first (x ∷ xs) ys i (inl e) = inl e
  in_first (x ∷ xs) ys i (inr h) = inr (in_first xs ys i h)

  pub in_second : (xs ys : List A) (i : A) → IsAmong i ys → IsAmong i (xs ++ ys)
  in_second [] ys i h = h
  in_second (x ∷ xs) ys i h = inr (in_second xs ys i h)

  -- an element has a list before it and one behind it
  record Parts (x : A) (ys : List A) : Type 0 where
    before : List A
    after : List A
    is : ys ≡ before ++ x ∷ after

  parts : (x : A) (ys : List A) → IsAmong x ys → Parts x ys
  parts x [] h = absurd h
  parts x (y ∷ ys) (inl e) = record { before = []; after = ys; is = ap (λ z. z ∷ ys) e }
  parts x (y ∷ ys) (inr h) =
      let p = parts x ys h in record { before = y ∷ p.before; after = p.after; is = ap (λ zs. y ∷ zs) p.is }

  -- distinct elements that are all among others are no more than these
  pub no_more : (xs ys : List A) → IsDistinct xs → ((i : A) → IsAmong i xs → IsAmong i ys) → length xs ≤ length ys
  no_more [] ys d h = omega arith
  no_more (x ∷ xs) ys d h =
      let p = parts x ys (h x (inl refl)) in
      let rest : length xs ≤ length (p.before ++ p.after) = no_more xs (p.before ++ p.after) d.1
      (λ i j. stays p.before p.after i (λ e. d.0 (subst (λ z. IsAmong z xs) (sym e) j))
      (subst (IsAmong i) p.is (h i (inr j)))) in
      let less : length (p.before ++ p.after) ≡ length p.before + length p.after = length-append p.before p.after in
      let all : length (p.before ++ x ∷ p.after) ≡ length p.before + length (x ∷ p.after) =
      length-append p.before (x ∷ p.after) in
      let same : length ys ≡ length (p.before ++ x ∷ p.after) = ap length p.is in
      omega (arith, rest, less, all, same)
    where
      without : (before after : List A) (i : A) → (x ≡ i → ⊥) → IsAmong i before ⊎ ((x ≡ i) ⊎ IsAmong i after)
          → IsAmong i (before ++ after)
      without before after i n (inl j) = in_first before after i j
      without before after i n (inr (inl e)) = absurd (n e)
      without before after i n (inr (inr j)) = in_second before after i j

      stays : (before after : List A) (i : A) → (x ≡ i → ⊥) → IsAmong i (before ++ x ∷ after)
          → IsAmong i (before ++ after)
      stays before after i n j = without before after i n (of_two before (x ∷ after) i j)

  -- one more that is not among them
  pub distinct_more : (xs : List A) (x : A) → IsDistinct xs → (IsAmong x xs → ⊥) → IsDistinct (xs ++ x ∷ [])
  distinct_more [] x d n = (λ h. h, tt)
  distinct_more (y ∷ xs) x d n = (
    (λ h. not_here (of_two xs (x ∷ []) y h)),
    distinct_more xs x d.1 (λ h. n (inr h)),
  )
    where
      not_here : IsAmong y xs ⊎ ((x ≡ y) ⊎ ⊥) → ⊥
      not_here (inl h) = d.0 h
      not_here (inr (inl e)) = n (inl (sym e))
      not_here (inr (inr h)) = h

  pub mapped : {B : Type 0} (f : B → A) (xs : List B) (y : A) → IsAmong y (map f xs)
      → (x : B) × IsAmong x xs × (f x ≡ y)
  mapped f [] y i = absurd i
  mapped f (x ∷ xs) y (inl e) = (x, inl refl, e)
  mapped f (x ∷ xs) y (inr i) = let h = mapped f xs y i in (h.0, inr h.1, h.2)

  pub is_mapped : {B : Type 0} (f : B → A) (xs : List B) (x : B) → IsAmong x xs → IsAmong (f x) (map f xs)
  is_mapped f [] x i = i
  is_mapped f (y ∷ xs) x (inl e) = inl (ap f e)
  is_mapped f (y ∷ xs) x (inr i) = inr (is_mapped f xs x i)

any_among : (items : List ℕ) (i : ℕ) → is_listed items i ≡ true → IsAmong i items
any_among [] i e = let no : ⊥ = cc in absurd no
any_among (j ∷ items) i e = by (j == i) refl e (any_among items i)
  where
    by : (b : Bool) → (j == i) ≡ b → Rattle.std.specs.Prelude.◌||◌ b (is_listed items i) ≡ true
        → (is_listed items i ≡ true → IsAmong i items) → (j ≡ i) ⊎ IsAmong i items
    by true t e rest = inl (eqb-true j i t)
    by false t e rest = inr (rest e)

among_any : (items : List ℕ) (i : ℕ) → IsAmong i items → is_listed items i ≡ true
among_any items i h = one_is (λ j. j == i) items i h (eq-eqb i i refl)

module _ (p : ℕ → Bool) where
  abbrev next_list : List ℕ → ℕ → List ℕ
  next_list items i = cond (not (is_listed items i) && p i) (items ++ i ∷ []) items

  -- what is listed next, of what is there and of whether it passes
  data Step (items : List ℕ) (i : ℕ) : List ℕ → Type 0 where
    was_there : IsAmong i items → Step items i items
    fails : p i ≡ false → Step items i items
    comes : (IsAmong i items → ⊥) → p i ≡ true → Step items i (items ++ i ∷ [])

  step : (items : List ℕ) (i : ℕ) → Step items i (next_list items i)
  step items i = by (is_listed items i) (p i) refl refl
    where
      by : (b c : Bool) → is_listed items i ≡ b → p i ≡ c → Step items i (cond (not b && c) (items ++ i ∷ []) items)
      by true c t s = was_there (any_among items i t)
      by false true t s = comes (λ h. let no : true ≡ false = sym (among_any items i h) ∙ t in let z : ⊥ = cc in z) s
      by false false t s = fails s

  step_distinct : (items next : List ℕ) (i : ℕ) → Step items i next → IsDistinct items → IsDistinct next
  step_distinct items _ i (was_there h) d = d
  step_distinct items _ i (fails e) d = d
  step_distinct items _ i (comes n e) d = distinct_more items i d n

  pub listed_distinct : (items xs : List ℕ) → IsDistinct items → IsDistinct (list_with p items xs)
  listed_distinct items [] d = d
  listed_distinct items (x ∷ xs) d = listed_distinct (next_list items x) xs
      (step_distinct items (next_list items x) x (step items x) d)

  step_each : (items next : List ℕ) (i j : ℕ) → Step items i next → IsAmong j next
      → IsAmong j items ⊎ ((i ≡ j) × (p j ≡ true))
  step_each items _ i j (was_there h) k = inl k
  step_each items _ i j (fails e) k = inl k
  step_each items _ i j (comes n e) k = of (of_two items (i ∷ []) j k)
    where
      of : IsAmong j items ⊎ ((i ≡ j) ⊎ ⊥) → IsAmong j items ⊎ ((i ≡ j) × (p j ≡ true))
      of (inl h) = inl h
      of (inr (inl same)) = inr (same, subst (λ z. p z ≡ true) same e)
      of (inr (inr h)) = absurd h

  -- what is listed was there, or passes
  pub listed_each : (items xs : List ℕ) (j : ℕ) → IsAmong j (list_with p items xs)
      → IsAmong j items ⊎ (IsAmong j xs × (p j ≡ true))
  listed_each items [] j k = inl k
  listed_each items (x ∷ xs) j k = of (listed_each (next_list items x) xs j k)
    where
      before : IsAmong j items ⊎ ((x ≡ j) × (p j ≡ true)) → IsAmong j items ⊎ (IsAmong j (x ∷ xs) × (p j ≡ true))
      before (inl h) = inl h
      before (inr h) = inr (inl h.0, h.1)

      of : IsAmong j (next_list items x) ⊎ (IsAmong j xs × (p j ≡ true))
          → IsAmong j items ⊎ (IsAmong j (x ∷ xs) × (p j ≡ true))
      of (inl h) = before (step_each items (next_list items x) x j (step items x) h)
      of (inr h) = inr (inr h.0, h.1)

  step_keeps : (items next : List ℕ) (i j : ℕ) → Step items i next → IsAmong j items → IsAmong j next
  step_keeps items _ i j (was_there h) k = k
  step_keeps items _ i j (fails e) k = k
  step_keeps items _ i j (comes n e) k = in_first items (i ∷ []) j k

  pub listed_keeps : (items xs : List ℕ) (j : ℕ) → IsAmong j items → IsAmong j (list_with p items xs)
  listed_keeps items [] j k = k
  listed_keeps items (x ∷ xs) j k = listed_keeps (next_list items x) xs j
      (step_keeps items (next_list items x) x j (step items x) k)

  step_all : (items next : List ℕ) (i : ℕ) → Step items i next → p i ≡ true → IsAmong i next
  step_all items _ i (was_there h) t = h
  step_all items _ i (fails e) t = let no : true ≡ false = sym t ∙ e in let z : ⊥ = cc in absurd z
  step_all items _ i (comes n e) t = in_second items (i ∷ []) i (inl refl)

  -- and what passes is listed
  pub listed_all : (items xs : List ℕ) (j : ℕ) → IsAmong j xs → p j ≡ true → IsAmong j (list_with p items xs)
  listed_all items [] j k t = absurd k
  listed_all items (x ∷ xs) j (inl e) t =
      listed_keeps (next_list items x) xs j
      (subst (λ z. IsAmong z (next_list items x)) e
      (step_all items (next_list items x) x (step items x) (subst (λ z. p z ≡ true) (sym e) t)))
  listed_all items (x ∷ xs) j (inr k) t = listed_all (next_list items x) xs j k t
