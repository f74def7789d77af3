-- Steps of loops that fill a table.
use Rattle.std.proofs.Common.{◌≡◌, ℕ, ◌+◌, ◌<◌, refl, sym, ◌∙◌, ap, Bool, true, false, cond, Some, arith}
use Rattle.std.specs.Prelude.{◌&&◌, ◌||◌, ◌==◌}
use Rattle.std.specs.declared.cmp.Ordering.{Ordering}
use Rattle.std.specs.declared.cmp.Ordering.TheVariants.{Less, Equal, Greater}
use Rattle.std.specs.Ordering.{eq_by_cmp, is_eq, nat_cmp, ordering_then}
use Rattle.std.specs.Cmp.{IsTotalOrder}
use Rattle.std.specs.FinMap.{FinMap, IsAntisymmetric, get, empty, insert, get-empty, get-insert}
use Rattle.std.proofs.lemmas.Bool.Decides.{nat_tests}
use Rattle.oe_table.proofs.TableFacts.{tied}
use Rattle.oe_model.specs.Population.{counts_to}
use Rattle.oe_population.specs.Fill.{IsFree, Fills}

-- numbers from 1 to one more
pub counts_none : (n : ℕ) → counts_to 0 n ≡ false
counts_none n = grind (arith, nat_tests)

counts_more : (i n : ℕ) → counts_to (i + 1) n ≡ ((n == i + 1) || counts_to i n)
counts_more i n = grind (arith, nat_tests)

counts_at : (most i : ℕ) → i < most → counts_to most (i + 1) ≡ true
counts_at most i h = grind (arith, nat_tests)

counts_past : (i : ℕ) → counts_to i (i + 1) ≡ false
counts_past i = grind (arith, nat_tests)

pub same_number : (n m : ℕ) → (n == m) ≡ true → n ≡ m
same_number n m e = grind (arith, nat_tests)

pub is_eq-nat_cmp : (n m : ℕ) → is_eq (nat_cmp n m) ≡ (n == m)
is_eq-nat_cmp n m = grind (arith, nat_tests)

pub is_eq-then : (a b : Ordering) → is_eq (ordering_then a b) ≡ (is_eq a && is_eq b)
is_eq-then Less b = refl
is_eq-then Equal b = refl
is_eq-then Greater b = refl

first_then : {A : Type 0} (x y : Bool) (a b : A) → cond x a (cond y a b) ≡ cond (x || y) a b
first_then true y a b = refl
first_then false y a b = refl

either_same : (b : Bool) → (b || b) ≡ b
either_same true = refl
either_same false = refl

or_false : (b : Bool) → (b || false) ≡ b
or_false true = refl
or_false false = refl

pub and_false : (b : Bool) → (b && false) ≡ false
and_false true = refl
and_false false = refl

-- tests `test k b` where b says whether a number of k counts: without it no key passes
module _ {K : Type 0} (test : K → Bool → Bool) (none : (k : K) → test k false ≡ false) where
  spread : (k : K) (x y : Bool) → test k (x || y) ≡ (test k x || test k y)
  spread k true true = sym (either_same (test k true))
  spread k true false = sym (ap (λ b. test k true || b) (none k) ∙ or_false (test k true))
  spread k false y = sym (ap (λ b. b || test k y) (none k))

  passes : (k : K) (b : Bool) → test k b ≡ true → b ≡ true
  passes k true e = refl
  passes k false e = let no : false ≡ true = sym (none k) ∙ e in cc

module _ {K X : Type 0} {R : K → K → Ordering} (row : K → X) where
  -- nothing is filled, and another test that is the same
  pub fills_none : (test : K → Bool) (m : FinMap R X) → ((k : K) → test k ≡ false) → Fills test row m m
  fills_none test m none k = rw (none k) refl

  pub fills_by : (test other : K → Bool) (old new : FinMap R X) → ((k : K) → other k ≡ test k) → Fills test row old new
      → Fills other row old new
  fills_by test other old new same fills k = fills k ∙ ap (λ b. cond b (Some (row k)) (get old k)) (sym (same k))

  -- one row is put
  pub fills_put : IsTotalOrder R → IsAntisymmetric R → (old new : FinMap R X) (key : K) → new ≡ insert old key (row key)
      → Fills (λ k. eq_by_cmp R k key) row old new
  fills_put total exact old new key is k = ap (λ m. get m k) is ∙ get-insert total old key (row key) k
      ∙ own (eq_by_cmp R k key) refl
    where
      own : (b : Bool) → eq_by_cmp R k key ≡ b → cond b (Some (row key)) (get old k) ≡ cond b (Some (row k)) (get old k)
      own true e = ap (λ q. Some (row q)) (sym (exact k key (tied (R k key) e)))
      own false e = refl

  module _ (test : K → Bool → Bool) (none : (k : K) → test k false ≡ false) (number_of : K → ℕ) where
    -- at the start of the loop
    pub fill_start : (m : FinMap R X) → Fills (λ k. test k (counts_to 0 (number_of k))) row m m
    fill_start m = fills_none (λ k. test k (counts_to 0 (number_of k))) m
        (λ k. ap (test k) (counts_none (number_of k)) ∙ none k)

    -- an iteration, which fills the keys of the next number, those that pass `inner`
    module _ (i : ℕ) (old now : FinMap R X) (inner : K → Bool)
        (same : (k : K) → test k (number_of k == i + 1) ≡ inner k)
        (before : Fills (λ k. test k (counts_to i (number_of k))) row old now) where
      pub fill_step : (new : FinMap R X) → Fills inner row now new
          → Fills (λ k. test k (counts_to (i + 1) (number_of k))) row old new
      fill_step new here k =
          here k ∙ ap (cond (inner k) (Some (row k))) (before k) ∙ first_then (inner k)
          (test k (counts_to i (number_of k))) (Some (row k)) (get old k)
          ∙ ap (λ b. cond (b || test k (counts_to i (number_of k))) (Some (row k)) (get old k)) (sym (same k))
          ∙ ap (λ b. cond b (Some (row k)) (get old k))
          (sym (spread test none k (number_of k == i + 1) (counts_to i (number_of k)))
          ∙ ap (test k) (sym (counts_more i (number_of k))))

      -- they are free, where all of the loop were at the start
      pub fill_free : (most : ℕ) → i < most → IsFree (λ k. test k (counts_to most (number_of k))) old → IsFree inner now
      fill_free most small free k passed =
          let e : test k (number_of k == i + 1) ≡ true = same k ∙ passed in
          let here : (number_of k == i + 1) ≡ true = passes test none k (number_of k == i + 1) e in
          let next : number_of k ≡ i + 1 = same_number (number_of k) (i + 1) here in
          let past : test k (counts_to i (number_of k)) ≡ false = ap (λ n. test k (counts_to i n)) next
          ∙ ap (test k) (counts_past i) ∙ none k in
          let within : test k (counts_to most (number_of k)) ≡ true =
          ap (λ n. test k (counts_to most n)) next ∙ ap (test k) (counts_at most i small) ∙ sym (ap (test k) here)
          ∙ e in
          before k ∙ ap (λ b. cond b (Some (row k)) (get old k)) past ∙ free k within

-- a table without a row
pub free_empty : {K X : Type 0} (R : K → K → Ordering) (test : K → Bool) → IsFree test (empty {X = X} {R = R})
free_empty R test k e = get-empty R k
