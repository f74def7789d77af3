-- Slots at the beginning of a shelf that have no row: what leaves them so, and that a walk over rows may pass them.
use Rattle.std.proofs.Common.{◌≡◌, refl, sym, ◌∙◌, ap, Bool, true, false, cond, ℕ, suc, zero, ◌<◌, ◌≤◌, ◌+◌, ◌==◌, min}
use Rattle.std.proofs.Common.{max, List, [], ◌∷◌, ◌++◌, length, get_or, set, take, drop, arith, Option, Some, None}
use Rattle.std.specs.Prelude.{is_some}
use Rattle.std.specs.List.{insert}
use Rattle.std.proofs.lemmas.List.{take-set-le}
use borrow.Author.Tests.{eqb-true, ltb-true, ltb-false}
use lib.Dec.{ltb}
use Rattle.oe_table.specs.Table.{live}
use Rattle.oe_table.specs.Shelf.{whole_list, cut_between}

take-insert : {A : Type 0} (n : ℕ) (s : List A) (i : ℕ) (x : A) → n ≤ i → i ≤ length s
    → take n (insert s i x) ≡ take n s
take-insert zero s i x le within = refl
take-insert (suc n) s zero x le within = absurd (omega arith)
take-insert (suc n) [] (suc i) x le within = absurd (omega arith)
take-insert (suc n) (y ∷ s) (suc i) x le within = ap (λ t. y ∷ t) (take-insert n s i x (omega arith) (omega arith))

pub is_blank : {A : Type 0} (o : Option A) → is_some o ≡ false → o ≡ None
is_blank None e = refl
is_blank (Some x) e = cc

module _ {K R : Type 0} where
  -- fewer of them
  pub none-before : (s : List (K × Option R)) (n m : ℕ) → m ≤ n → live (take n s) ≡ [] → live (take m s) ≡ []
  none-before s n zero le none = refl
  none-before s zero (suc m) le none = absurd (omega arith)
  none-before [] (suc n) (suc m) le none = refl
  none-before ((key, None) ∷ s) (suc n) (suc m) le none = none-before s n m (omega arith) none
  none-before ((key, Some row) ∷ s) (suc n) (suc m) le none = cc

  -- one more
  none-next : (s : List (K × Option R)) (n : ℕ) (e : K × Option R) → n < length s
      → ((d : K × Option R) → e ≡ get_or s n d) → e.1 ≡ None → live (take n s) ≡ [] → live (take (suc n) s) ≡ []
  none-next [] n e within there blank none = absurd (omega arith)
  none-next ((key, None) ∷ s) zero e within there blank none = refl
  none-next ((key, Some row) ∷ s) zero e within there blank none =
      let h : e.1 ≡ Some row = ap (λ (y : K × Option R). y.1) (there e) in cc
  none-next ((key, None) ∷ s) (suc n) e within there blank none = none-next s n e (omega arith) there blank none
  none-next ((key, Some row) ∷ s) (suc n) e within there blank none = cc

  pub none-more : (s : List (K × Option R)) (n : ℕ) (e : K × Option R) → n < length s
      → ((d : K × Option R) → e ≡ get_or s n d) → e.1 ≡ None → live (take n s) ≡ [] → live (take (n + 1) s) ≡ []
  none-more s n e within there blank none = let next : n + 1 ≡ suc n = omega arith in
      rw next (none-next s n e within there blank none)

  -- what is written or put at a later slot leaves them
  pub none-set : (s : List (K × Option R)) (n m i : ℕ) (e : K × Option R) → m ≡ min n i → live (take n s) ≡ []
      → live (take m (set s i e)) ≡ []
  none-set s n m i e is none = ap live (take-set-le m s i e (omega arith)) ∙ none-before s n m (omega arith) none

  pub none-insert : (s : List (K × Option R)) (n m i : ℕ) (e : K × Option R) → m ≡ min n i → i ≤ length s
      → live (take n s) ≡ [] → live (take m (insert s i e)) ≡ []
  none-insert s n m i e is within none = ap live (take-insert m s i e (omega arith) within)
      ∙ none-before s n m (omega arith) none

  pub live-append : (s t : List (K × Option R)) → live (s ++ t) ≡ live s ++ live t
  live-append [] t = refl
  live-append ((key, None) ∷ s) t = live-append s t
  live-append ((key, Some row) ∷ s) t = ap (λ l. (key, row) ∷ l) (live-append s t)

drop-nil : {A : Type 0} (n : ℕ) → drop {A = A} n [] ≡ []
drop-nil zero = refl
drop-nil (suc n) = refl

take-within : {A : Type 0} (s : List A) (n j : ℕ) → n ≤ j → take n (take j s) ≡ take n s
take-within s zero j le = refl
take-within s (suc n) zero le = absurd (omega arith)
take-within [] (suc n) (suc j) le = refl
take-within (x ∷ s) (suc n) (suc j) le = ap (λ t. x ∷ t) (take-within s n j (omega arith))

module _ {K R : Type 0} where
  none-after : (s : List (K × Option R)) (i : ℕ) → live s ≡ [] → live (drop i s) ≡ []
  none-after s zero none = none
  none-after [] (suc i) none = refl
  none-after ((key, None) ∷ s) (suc i) none = none-after s i none
  none-after ((key, Some row) ∷ s) (suc i) none = cc

  none-at_all : (s : List (K × Option R)) (i : ℕ) → live (drop i (take i s)) ≡ []
  none-at_all s zero = refl
  none-at_all [] (suc i) = refl
  none-at_all (e ∷ s) (suc i) = none-at_all s i

  -- the later start of a walk
  pub none-between : (s : List (K × Option R)) (i b end n : ℕ) → n ≡ max i (min b end) → live (take b s) ≡ []
      → live (drop i (take n s)) ≡ []
  none-between s i b end n is none = by (ltb i n) refl
    where
      by : (c : Bool) → ltb i n ≡ c → live (drop i (take n s)) ≡ []
      by true e = let less : i < n = ltb-true i n e in none-after (take n s) i (none-before s b n (omega arith) none)
      by false e =
          let under : n ≤ i = ltb-false i n e in
          let same : n ≡ i = omega arith in
          ap (λ m. live (drop i (take m s))) same ∙ none-at_all s i

  passed : (s : List (K × Option R)) (i n : ℕ) → i ≤ n → live (drop i (take n s)) ≡ []
      → live (drop n s) ≡ live (drop i s)
  passed s zero zero le none = refl
  passed s (suc i) zero le none = absurd (omega arith)
  passed [] i (suc n) le none = sym (ap live (drop-nil i))
  passed ((key, None) ∷ s) zero (suc n) le none = passed s zero n (omega arith) none
  passed ((key, Some row) ∷ s) zero (suc n) le none = cc
  passed (e ∷ s) (suc i) (suc n) le none = passed s i n (omega arith) none

  -- the rows from the later start on
  pub rows-cut : (ss : List (List (K × Option R))) (a i n b j : ℕ) → i ≤ n → (a ≡ b → n ≤ j)
      → live (drop i (take n (get_or ss a []))) ≡ [] → live (cut_between ss a n b j) ≡ live (cut_between ss a i b j)
  rows-cut ss a i n b j le before none = by (a == b) refl
    where
      by : (same : Bool) → (a == b) ≡ same
          → live (cond same (drop n (take j (get_or ss a [])))
          (drop n (get_or ss a []) ++ (whole_list (drop (a + 1) (take b ss)) ++ take j (get_or ss b []))))
          ≡ live (cond same (drop i (take j (get_or ss a [])))
          (drop i (get_or ss a []) ++ (whole_list (drop (a + 1) (take b ss)) ++ take j (get_or ss b []))))
      by true e = passed (take j (get_or ss a [])) i n le
          (ap (λ t. live (drop i t)) (take-within (get_or ss a []) n j (before (eqb-true a b e))) ∙ none)
      by false e =
          live-append (drop n (get_or ss a [])) (whole_list (drop (a + 1) (take b ss)) ++ take j (get_or ss b []))
          ∙ ap (λ t. t ++ live (whole_list (drop (a + 1) (take b ss)) ++ take j (get_or ss b [])))
          (passed (get_or ss a []) i n le none)
          ∙ sym (live-append (drop i (get_or ss a []))
          (whole_list (drop (a + 1) (take b ss)) ++ take j (get_or ss b [])))
