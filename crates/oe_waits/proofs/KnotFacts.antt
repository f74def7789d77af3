-- Chains of a relation between numbers, and what is reached by them.
use Rattle.std.proofs.Common.{◌≡◌, ℕ, zero, suc, ◌≤◌, ◌<◌, Bool, true, false, List, [], ◌∷◌, ◌++◌, refl, sym, ap, ◌∙◌}
use Rattle.std.proofs.Common.{inl, inr, subst, arith}
use Rattle.std.specs.Prelude.{◌⊎◌, ◌≢◌, ◌&&◌}
use Rattle.std.proofs.lemmas.Bool.{cases_Bool, or_cases, or_parts, or_left, or_right, and_parts, and_from, cases_eq}
use Rattle.std.proofs.lemmas.Bool.{true≢false}
use Rattle.oe_waits.specs.Knots.{any_to, count_to, leads_through, Chain, Reaches, HasNoCycle}

-- a number from 1 to n
abbrev pub IsTo : ℕ → ℕ → Type 0
IsTo n v = (1 ≤ v) × (v ≤ n)

-- each of the list is such a number
abbrev pub AreTo : ℕ → List ℕ → Type 0
AreTo n [] = Unit {0}
AreTo n (v ∷ vs) = IsTo n v × AreTo n vs

-- the first number from 1 to n that passes
pub record First (f : ℕ → Bool) (n : ℕ) : Type 0 where
  pub number : ℕ
  pub within : IsTo n number
  pub passes : f number ≡ true
  pub first : (v : ℕ) → 1 ≤ v → v < number → f v ≡ false

pub none_to : (f : ℕ → Bool) (n : ℕ) → any_to f n ≡ false → (v : ℕ) → 1 ≤ v → v ≤ n → f v ≡ false
none_to f zero e v low high = let no : ⊥ = omega (arith, low, high) in absurd no
none_to f (suc n) e v low high =
    elim (cases_eq v (suc n)) [
      | inl same ↦ rw same ((or_parts (any_to f n) (f (suc n)) e).1)
      | inr other ↦ none_to f n ((or_parts (any_to f n) (f (suc n)) e).0) v low (omega (arith, high, other))
    ]

pub first_to : (f : ℕ → Bool) (n : ℕ) → any_to f n ≡ true → First f n
first_to f zero e = absurd (true≢false (sym e))
first_to f (suc n) e =
    elim (cases_Bool (any_to f n)) [
      | inl below ↦
          let x = first_to f n below in
          record {
            number = x.number;
            within = (x.within.0, omega (arith, x.within.1));
            passes = x.passes;
            first =
                x.first;
          }
      | inr none ↦ record {
        number = suc n;
        within = (omega arith, omega arith);
        passes = elim (or_cases (any_to f n) (f (suc n)) e) [
          | inl p ↦ absurd (true≢false (sym p ∙ none))
          | inr p ↦ p
        ];
        first = λ v low high. none_to f n none v low (omega (arith, high));
      }
    ]

pub any_from : (f : ℕ → Bool) (n v : ℕ) → 1 ≤ v → v ≤ n → f v ≡ true → any_to f n ≡ true
any_from f n v low high e =
    elim (cases_Bool (any_to f n)) [
      | inl h ↦ h
      | inr none ↦ absurd (true≢false (sym e ∙ none_to f n none v low high))
    ]

-- a chain goes on with another
pub chain_on : (r : ℕ → ℕ → Bool) (t : ℕ) (vs : List ℕ) (v : ℕ) (us : List ℕ) (u : ℕ) → Chain r t vs v
    → Chain r v us u → Chain r t (vs ++ v ∷ us) u
chain_on r t [] v us u h k = (h, k)
chain_on r t (x ∷ vs) v us u h k = (h.0, chain_on r x vs v us u h.1 k)

pub reaches_on : (r : ℕ → ℕ → Bool) (t v u : ℕ) → Reaches r t v → Reaches r v u → Reaches r t u
reaches_on r t v u h k = (h.0 ++ v ∷ k.0, chain_on r t h.0 v k.0 u h.1 k.1)

-- what is led to is reached
pub leads_reaches : (r : ℕ → ℕ → Bool) (n t u : ℕ) → leads_through r n t u ≡ true → Reaches r t u
leads_reaches r zero t u e = ([], e)
leads_reaches r (suc n) t u e =
    elim (or_cases (leads_through r n t u) (leads_through r n t (suc n) && leads_through r n (suc n) u) e) [
      | inl h ↦ leads_reaches r n t u h
      | inr h ↦
          let both = and_parts (leads_through r n t (suc n)) (leads_through r n (suc n) u) h in
          reaches_on r t (suc n) u (leads_reaches r n t (suc n) both.0) (leads_reaches r n (suc n) u both.1)
    ]

-- a chain through numbers from 1 to n
abbrev pub Through : (ℕ → ℕ → Bool) → ℕ → ℕ → ℕ → Type 0
Through r n t u = (vs : List ℕ) × AreTo n vs × Chain r t vs u

more : (r : ℕ → ℕ → Bool) (n t v u : ℕ) → r t v ≡ true → IsTo n v → Through r n v u → Through r n t u
more r n t v u e w h = (v ∷ h.0, (w, h.1), (e, h.2))

-- a chain through numbers up to n + 1 goes through those up to n, or there to n + 1 and from there on
parted : (r : ℕ → ℕ → Bool) (n t : ℕ) (vs : List ℕ) (u : ℕ) → AreTo (suc n) vs → Chain r t vs u
    → Through r n t u ⊎ (Through r n t (suc n) × Through r n (suc n) u)
parted r n t [] u a c = inl ([], tt, c)
parted r n t (v ∷ vs) u a c = go (cases_eq v (suc n)) (parted r n v vs u a.1 c.1)
  where
    small : v ≢ suc n → IsTo n v
    small other = (a.0.0, omega (arith, a.0.1, other))

    go : (v ≡ suc n) ⊎ (v ≢ suc n) → Through r n v u ⊎ (Through r n v (suc n) × Through r n (suc n) u)
        → Through r n t u ⊎ (Through r n t (suc n) × Through r n (suc n) u)
    go (inl same) (inl h) = inr (
      ([], tt, subst (λ z. r t z ≡ true) same c.0),
      subst (λ z. Through r n z u) same h,
    )
    go (inl same) (inr h) = inr (([], tt, subst (λ z. r t z ≡ true) same c.0), h.1)
    go (inr other) (inl h) = inl (more r n t v u c.0 (small other) h)
    go (inr other) (inr h) = inr (more r n t v (suc n) c.0 (small other) h.0, h.1)

through_leads : (r : ℕ → ℕ → Bool) (n t u : ℕ) → Through r n t u → leads_through r n t u ≡ true
through_leads r zero t u ([], a, c) = c
through_leads r zero t u (v ∷ vs, a, c) = let no : ⊥ = omega (arith, a.0.0, a.0.1) in absurd no
through_leads r (suc n) t u (vs, a, c) =
    elim (parted r n t vs u a c) [
      | inl h ↦ or_left (leads_through r n t u) _ (through_leads r n t u h)
      | inr h ↦ or_right (leads_through r n t u) _
          (and_from (leads_through r n t (suc n)) (leads_through r n (suc n) u) (through_leads r n t (suc n) h.0)
          (through_leads r n (suc n) u h.1))
    ]

module _ (r : ℕ → ℕ → Bool) (n : ℕ) (inside : (t u : ℕ) → r t u ≡ true → IsTo n u) where
  all_inside : (t : ℕ) (vs : List ℕ) (u : ℕ) → Chain r t vs u → AreTo n vs
  all_inside t [] u c = tt
  all_inside t (v ∷ vs) u c = (inside t v c.0, all_inside v vs u c.1)

  -- what is reached is led to, where only the numbers from 1 to n are
  pub reaches_leads : (t u : ℕ) → Reaches r t u → leads_through r n t u ≡ true
  reaches_leads t u h = through_leads r n t u (h.0, all_inside t h.0 u h.1, h.1)

  fewer : (f g : ℕ → Bool) (m : ℕ) → ((v : ℕ) → f v ≡ true → g v ≡ true) → count_to f m ≤ count_to g m
  fewer f g zero h = omega arith
  fewer f g (suc m) h =
      elim (cases_Bool (f (suc m))) [
        | inl p ↦ rw (p, h (suc m) p) (let below = fewer f g m h in omega (arith, below))
        | inr p ↦ elim (cases_Bool (g (suc m))) [
          | inl q ↦ rw (p, q) (let below = fewer f g m h in omega (arith, below))
          | inr q ↦ rw (p, q) (fewer f g m h)
        ]
      ]

  -- f passes fewer than g, which it implies, where one number more passes g
  less : (f g : ℕ → Bool) (m v : ℕ) → ((x : ℕ) → f x ≡ true → g x ≡ true) → 1 ≤ v → v ≤ m → f v ≡ false → g v ≡ true
      → count_to f m < count_to g m
  less f g zero v h low high p q = let no : ⊥ = omega (arith, low, high) in absurd no
  less f g (suc m) v h low high p q =
      go (cases_eq v (suc m)) (cases_Bool (f (suc m))) (cases_Bool (g (suc m)))
      (λ other. less f g m v h low (omega (arith, high, other)) p q)
    where
      go : (v ≡ suc m) ⊎ (v ≢ suc m) → (f (suc m) ≡ true) ⊎ (f (suc m) ≡ false)
          → (g (suc m) ≡ true) ⊎ (g (suc m) ≡ false) → (v ≢ suc m → count_to f m < count_to g m)
          → count_to f (suc m) < count_to g (suc m)
      go (inl same) (inl a) b k = absurd (true≢false (sym a ∙ (ap f (sym same) ∙ p)))
      go (inl same) (inr a) (inr b) k = absurd (true≢false (sym q ∙ (ap g same ∙ b)))
      go (inl same) (inr a) (inl b) k = rw (a, b) (let below = fewer f g m h in omega (arith, below))
      go (inr other) (inl a) (inl b) k = rw (a, b) (let below = k other in omega (arith, below))
      go (inr other) (inl a) (inr b) k = absurd (true≢false (sym (h (suc m) a) ∙ b))
      go (inr other) (inr a) (inl b) k = rw (a, b) (let below = k other in omega (arith, below))
      go (inr other) (inr a) (inr b) k = rw (a, b) (k other)

  -- where no number leads to itself, one that is reached, or the number itself, is related to none
  pub record Goes_on (t : ℕ) : Type 0 where
    pub number : ℕ
    pub way : (number ≡ t) ⊎ Reaches r t number
    pub free : any_to (r number) n ≡ false

  -- how many are led to
  abbrev pub reach_count : ℕ → ℕ
  reach_count t = count_to (leads_through r n t) n

  -- to whom a number is related, fewer are led to
  step_less : HasNoCycle r → (t u : ℕ) → IsTo n u → r t u ≡ true → reach_count u < reach_count t
  step_less none t u within e =
      less (leads_through r n u) (leads_through r n t) n u
      (λ v h. reaches_leads t v (reaches_on r t u v ([], e) (leads_reaches r n u v h))) within.0 within.1
      (elim (cases_Bool (leads_through r n u u)) [
        | inl h ↦ absurd (none u (leads_reaches r n u u h))
        | inr h ↦ h
      ]) (reaches_leads t u ([], e))

  after : HasNoCycle r → (t : ℕ) → ((u : ℕ) → reach_count u < reach_count t → Goes_on u) → Goes_on t
  after none t next = go (cases_Bool (any_to (r t) n))
    where
      joined : (u : ℕ) → r t u ≡ true → Goes_on u → Goes_on t
      joined u e y = record {
        number = y.number;
        way = elim y.way [
          | inl same ↦ inr (subst (λ z. Reaches r t z) (sym same) ([], e))
          | inr far ↦ inr (reaches_on r t u y.number ([], e) far)
        ];
        free = y.free;
      }

      go : (any_to (r t) n ≡ true) ⊎ (any_to (r t) n ≡ false) → Goes_on t
      go (inr e) = record { number = t; way = inl refl; free = e }
      go (inl e) =
          let x = first_to (r t) n e in
          joined x.number x.passes (next x.number (step_less none t x.number x.within x.passes))

  pub goes_on : HasNoCycle r → (k t : ℕ) → reach_count t ≤ k → Goes_on t
  goes_on none zero t h = after none t (λ u below. let no : ⊥ = omega (arith, below, h) in absurd no)
  goes_on none (suc k) t h = after none t (λ u below. goes_on none k u (omega (arith, below, h)))
