-- Where each ORDER key stands once, and the greatest O_ID is the number of rows, each number up to it has a row.
use Rattle.std.proofs.Common.{◌≡◌, ℕ, zero, suc, ◌+◌, ◌-◌, ◌≤◌, ◌<◌, refl, sym, ◌∙◌, ap, subst, Bool, true, false}
use Rattle.std.proofs.Common.{cond, max, Option, Some, None, List, [], ◌∷◌, map, inl, inr, arith, ℤ, pos, ◌+ℤ◌, nat_eq}
use Rattle.std.proofs.Common.{nat_lt}
use Rattle.std.specs.Prelude.{◌⊎◌, ◌&&◌, unwrap_or, option_map}
use Rattle.std.specs.List.{All}
use Rattle.std.specs.Int.{int_max}
use Rattle.std.proofs.lemmas.Bool.{ltb-false, eqb-true, eq-eqb, cases_order}
use Rattle.std.proofs.lemmas.Int.{ints}
use Rattle.std.proofs.lemmas.List.Elements.{All-head, All-tail}
use Rattle.oe_tally.specs.Tallies.{together, total}
use Rattle.oe_facts.specs.declared.keys.DistrictId.{DistrictId}
use Rattle.oe_facts.specs.declared.facts.OrderFact.{OrderFact}
use Rattle.oe_ledgers.specs.Columns.{of_key}
use Rattle.oe_ledgers.specs.Keys.{same_district, same_order, district_of_order}
use Rattle.oe_ledgers.specs.Figures.{greatest_order, orders_of_district}
use Rattle.oe_ledgers.proofs.SumFacts.{projected, pos_max}
use Rattle.oe_model.proofs.CountFacts as counts
use Rattle.oe_checks.specs.declared.figures.Apart.{Apart}
use Rattle.oe_checks.specs.Comparing.{repeats_apart, single}
use Rattle.oe_model.proofs.EntryFacts.{EachOf}
use Rattle.oe_fact_laws.specs.FactLaws.{order_at, Orders_have_no_gap}
use Rattle.oe_fact_laws.proofs.TiedFacts.{equal_tied}

-- how many of some rows have a key
module _ {J : Type 0} (same : J → J → Bool) (key : OrderFact → J) (j : J) where
  abbrev count : List OrderFact → ℕ
  count [] = 0
  count (f ∷ fs) = cond (same (key f) j) 1 0 + count fs

  abbrev rows : List OrderFact → Option ℤ
  rows fs = of_key same key (λ a b. a +ℤ b) (λ f. pos 1) fs j

  step : (b : Bool) (s : Option ℤ) (n : ℕ) → unwrap_or s (pos 0) ≡ pos n
      → unwrap_or (together (λ p q. p +ℤ q) (cond b (Some (pos 1)) None) s) (pos 0) ≡ pos (cond b 1 0 + n)
  step true None n e = omega (arith, ints)
  step true (Some z) n e = omega (arith, ints)
  step false None n e = omega (arith, ints)
  step false (Some z) n e = omega (arith, ints)

  rows_are : (fs : List OrderFact) → unwrap_or (rows fs) (pos 0) ≡ pos (count fs)
  rows_are [] = refl
  rows_are (f ∷ fs) = step (same (key f) j) (rows fs) (count fs) (rows_are fs)

  -- where there is one
  some_rows : (fs : List OrderFact) (n : ℕ) → count fs ≡ suc n → rows fs ≡ Some (pos (suc n))
  some_rows fs n e = go (rows fs) (rows_are fs)
    where
      go : (s : Option ℤ) → unwrap_or s (pos 0) ≡ pos (count fs) → s ≡ Some (pos (suc n))
      go None is = absurd (let no : ⊥ = omega (arith, ints) in no)
      go (Some z) is = ap Some (is ∙ ap pos e)

  none_rows : (fs : List OrderFact) → rows fs ≡ None → count fs ≡ 0
  none_rows fs e = let is = rows_are fs in let none : unwrap_or (rows fs) (pos 0) ≡ pos 0 =
      ap (λ s. unwrap_or s (pos 0)) e in omega (arith, ints)

  -- a key that stands once
  at_most_one : (fs : List OrderFact) → repeats_apart (rows fs) ≡ None → count fs ≤ 1
  at_most_one fs = go (rows fs) (rows_are fs)
    where
      few : (n : ℕ) (b : Bool) → nat_lt 1 n ≡ b → (a : Apart) → cond b (Some a) None ≡ None → n ≤ 1
      few n true t a e = let no : ⊥ = cc in absurd no
      few n false t a e = ltb-false 1 n t

      go : (s : Option ℤ) → unwrap_or s (pos 0) ≡ pos (count fs) → repeats_apart s ≡ None → count fs ≤ 1
      go None is e = let none : count fs ≡ 0 = omega (arith, ints) in omega arith
      go (Some z) is e = few (count fs) (nat_lt 1 (count fs)) refl (record { first = pos (count fs); second = pos 1 })
          (ap repeats_apart (ap Some (sym is)) ∙ e)

-- SUMS OVER NUMBERS

total-both : (n : ℕ) (g h : ℕ → ℕ) → counts.total n (λ i. g i + h i) ≡ counts.total n g + counts.total n h
total-both zero g h = refl
total-both (suc n) g h = let e = total-both n g h in omega arith

-- as many as there may be are one each
most : (n : ℕ) (g : ℕ → ℕ) → ((i : ℕ) → i < n → g i ≤ 1) → counts.total n g ≤ n
most zero g h = omega arith
most (suc n) g h = let e = most n g (λ i l. h i (omega arith)) in let l = h n (omega arith) in omega arith

one_each : (n : ℕ) (g : ℕ → ℕ) → ((i : ℕ) → i < n → g i ≤ 1) → counts.total n g ≡ n → (i : ℕ) → i < n → g i ≡ 1
one_each zero g h e i l = absurd (let no : ⊥ = omega arith in no)
one_each (suc n) g h e i l = by_order (cases_order i n) (one_each n g (λ i l. h i (omega arith)))
  where
    rest : counts.total n g ≤ n
    rest = most n g (λ i l. h i (omega arith))

    last : g n ≤ 1
    last = h n (omega arith)

    by_order : (i ≡ n) ⊎ ((i < n) ⊎ (n < i)) → (counts.total n g ≡ n → (j : ℕ) → j < n → g j ≡ 1) → g i ≡ 1
    by_order (inl s) before = ap g s ∙ (let a = rest in let b = last in let z : g n ≡ 1 = omega arith in z)
    by_order (inr (inl s)) before = before
        (let a = rest in let b = last in let z : counts.total n g ≡ n = omega arith in z) i s
    by_order (inr (inr s)) before = absurd (let no : ⊥ = omega arith in no)

-- one of the numbers from 1 on is this one
none_is : (n k : ℕ) → n < k → counts.total n (λ i. cond (nat_eq k (suc i)) 1 0) ≡ 0
none_is zero k l = refl
none_is (suc n) k l =
    let rest = none_is n k (omega arith) in
    let last : ◌≡◌ {A = ℕ} (cond (nat_eq k (suc n)) 1 0) 0 = by_test (nat_eq k (suc n)) refl in
    omega arith
  where
    by_test : (b : Bool) → nat_eq k (suc n) ≡ b → ◌≡◌ {A = ℕ} (cond b 1 0) 0
    by_test true t = let e = eqb-true k (suc n) t in absurd (let no : ⊥ = omega arith in no)
    by_test false t = refl

is_one : (n k : ℕ) → 1 ≤ k → k ≤ n → counts.total n (λ i. cond (nat_eq k (suc i)) 1 0) ≡ 1
is_one zero k low high = absurd (let no : ⊥ = omega arith in no)
is_one (suc n) k low high = by_test (nat_eq k (suc n)) refl (is_one n k low)
  where
    other : (k ≡ suc n) ⊎ ((k < suc n) ⊎ (suc n < k)) → nat_eq k (suc n) ≡ false → k ≤ n
    other (inl s) t = let z : false ≡ true = sym t ∙ eq-eqb k (suc n) s in let no : ⊥ = cc in absurd no
    other (inr (inl s)) t = omega arith
    other (inr (inr s)) t = absurd (let no : ⊥ = omega arith in no)

    by_test : (b : Bool) → nat_eq k (suc n) ≡ b
        → (k ≤ n → counts.total n (λ i. cond (nat_eq k (suc i)) 1 0) ≡ 1)
        → counts.total n (λ i. cond (nat_eq k (suc i)) 1 0) + cond b 1 0 ≡ 1
    by_test true t before = let e = eqb-true k (suc n) t in let rest = none_is n k (omega arith) in omega arith
    by_test false t before = let rest = before (other (cases_order k (suc n)) t) in omega arith

-- A DISTRICT

module _ (d : DistrictId) where
  abbrev is_here : OrderFact → Bool
  is_here f = same_district (district_of_order f.key) d

  abbrev here : List OrderFact → ℕ
  here fs = count same_district (λ f. district_of_order f.key) d fs

  abbrev numbered : ℕ → List OrderFact → ℕ
  numbered n fs = count same_order (λ f. f.key) (order_at d n) fs

  -- the greatest number of the district's rows
  abbrev greatest : List OrderFact → Option ℕ
  greatest fs = total same_district max (map (λ f. (district_of_order f.key, f.key.order)) fs) d

  greatest_is : (fs : List OrderFact) → option_map pos (greatest fs) ≡ greatest_order fs d
  greatest_is fs = projected same_district max int_max (λ f. (district_of_order f.key, f.key.order)) pos pos_max fs d

  abbrev AtMost : ℕ → Option ℕ → Type 0
  AtMost n None = ⊥
  AtMost n (Some g) = n ≤ g

  still : (b : Bool) (o n : ℕ) (s : Option ℕ) → AtMost n s → AtMost n (together max (cond b (Some o) None) s)
  still true o n None h = absurd h
  still true o n (Some g) h = omega arith
  still false o n s h = h

  own : (o : ℕ) (s : Option ℕ) → AtMost o (together max (Some o) s)
  own o None = omega arith
  own o (Some g) = omega arith

  bounded : (fs : List OrderFact) → EachOf (λ f. is_here f ≡ true → AtMost f.key.order (greatest fs)) fs
  bounded [] = tt
  bounded (f ∷ fs) = (
    λ t. subst (λ b. AtMost f.key.order (together max (cond b (Some f.key.order) None) (greatest fs))) (sym t)
        (own f.key.order (greatest fs)),
    Rattle.oe_model.proofs.EntryFacts.each_of (λ g. is_here g ≡ true → AtMost g.key.order (greatest fs))
        (λ g. is_here g ≡ true → AtMost g.key.order (greatest (f ∷ fs)))
        (λ g h t. still (is_here f) f.key.order g.key.order (greatest fs) (h t)) fs (bounded fs),
  )

  -- a district without rows has none
  nobody : (fs : List OrderFact) → here fs ≡ 0 → greatest fs ≡ None
  nobody [] e = refl
  nobody (f ∷ fs) e = by_test (is_here f) (nobody fs) e
    where
      by_test : (b : Bool) → (here fs ≡ 0 → greatest fs ≡ None) → cond b 1 0 + here fs ≡ 0
          → together max (cond b (Some f.key.order) None) (greatest fs) ≡ None
      by_test true rest e = absurd (let no : ⊥ = omega arith in no)
      by_test false rest e = rest (let z : here fs ≡ 0 = omega arith in z)

  -- each row of the district is counted at its number
  one_row : (f : OrderFact) (g : ℕ) → 1 ≤ f.key.order → (is_here f ≡ true → f.key.order ≤ g)
      → counts.total g (λ i. cond (same_order f.key (order_at d (suc i))) 1 0) ≡ cond (is_here f) 1 0
  one_row f g low high =
      by_test (nat_eq f.key.warehouse d.warehouse) (nat_eq f.key.district d.district) high
    where
      zeros : counts.total g (λ i. 0) ≡ 0
      zeros = let h = counts.total-constant g 0 in omega arith

      by_test : (a b : Bool) → ((a && b) ≡ true → f.key.order ≤ g)
          → counts.total g (λ i. cond (a && (b && nat_eq f.key.order (suc i))) 1 0) ≡ cond (a && b) 1 0
      by_test true true h = is_one g f.key.order low (h refl)
      by_test true false h = zeros
      by_test false b h = zeros

  each_counts : (fs : List OrderFact) (g : ℕ) → All (λ f. 1 ≤ f.key.order) fs
      → EachOf (λ f. is_here f ≡ true → f.key.order ≤ g) fs
      → counts.total g (λ i. numbered (suc i) fs) ≡ here fs
  each_counts [] g low high = let h = counts.total-constant g 0 in omega arith
  each_counts (f ∷ fs) g low high =
      let both = total-both g (λ i. cond (same_order f.key (order_at d (suc i))) 1 0) (λ i. numbered (suc i) fs) in
      let one = one_row f g (All-head (λ (z : OrderFact). 1 ≤ z.key.order) f fs low) high.0 in
      let rest = each_counts fs g (All-tail (λ (z : OrderFact). 1 ≤ z.key.order) f fs low) high.1 in
      omega arith

pub no_gap : Orders_have_no_gap
no_gap orders d g low once gap is n from to =
    some_rows same_order (λ f. f.key) (order_at d n) orders 0
    (subst (λ (k : ℕ). numbered d k orders ≡ 1) (let z : suc (n - 1) ≡ n = omega arith in z)
    (one_each g (λ i. numbered d (suc i) orders)
    (λ i l. at_most_one same_order (λ f. f.key) (order_at d (suc i)) orders (once (order_at d (suc i)))) full (n - 1)
    (omega arith)))
  where
    greatest_at : greatest d orders ≡ Some g
    greatest_at = go (greatest d orders) (greatest_is d orders ∙ is)
      where
        go : (s : Option ℕ) → option_map pos s ≡ Some (pos g) → s ≡ Some g
        go None e = let no : ⊥ = cc in absurd no
        go (Some m) e = let z : pos m ≡ pos g = cc in ap Some (let y : m ≡ g = omega (arith, ints) in y)

    high : EachOf (λ f. is_here d f ≡ true → f.key.order ≤ g) orders
    high = subst (λ (s : Option ℕ). EachOf (λ (f : OrderFact). is_here d f ≡ true → AtMost d f.key.order s) orders)
        greatest_at (bounded d orders)

    -- the number of the district's rows
    all : here d orders ≡ g
    all = go (orders_of_district orders d) refl (rows_are same_district (λ f. district_of_order f.key) d orders)
      where
        go : (s : Option ℤ) → orders_of_district orders d ≡ s → unwrap_or s (pos 0) ≡ pos (here d orders)
            → here d orders ≡ g
        go None e count =
            let none : here d orders ≡ 0 = none_rows same_district (λ f. district_of_order f.key) d orders e in
            let gone : Some g ≡ None = sym greatest_at ∙ nobody d orders none in
            let no : ⊥ = cc in absurd no
        go (Some z) e count =
            let same : pos g ≡ z = (equal_tied (pos g) z).0 ((λ i. single (sym is i) (sym e i)) ∙ gap) in
            omega (arith, ints)

    full : counts.total g (λ i. numbered d (suc i) orders) ≡ g
    full = each_counts d orders g low high ∙ all
