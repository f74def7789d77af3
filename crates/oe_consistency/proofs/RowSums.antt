-- Sums over rows that are alike, that add up, or that each became another; and what holds of entries that are put in.
use Rattle.std.proofs.Common.{◌≡◌, ℕ, ◌+◌, refl, ◌∙◌, ap, List, [], ◌∷◌, Some, arith}
use Rattle.std.specs.Prelude.{sum_by}
use Rattle.std.specs.declared.cmp.Ordering.{Ordering}
use Rattle.std.specs.Cmp.{IsTotalOrder}
use Rattle.std.proofs.lemmas.List.Sums.{sum_by-cons}
use Rattle.std.specs.FinMap.{FinMap, IsAntisymmetric, get, insert, entries, entries-from_sorted}
use Rattle.oe_model.specs.Maps.{each, with_all, sum_of}
use Rattle.oe_model.proofs.MapFacts.{mapped, still_sorted}
use Rattle.oe_model.proofs.EntryFacts.{EachOf, each_of, entries_at}
use Rattle.oe_model.proofs.PresenceFacts.{each_row}
use Rattle.oe_model.proofs.SumFacts.{sum_in, sum-cons, sum_same}

-- two numbers of each entry, together
pub sum_both : {A : Type 0} (f g : A → ℕ) (xs : List A) → sum_by (λ x. f x + g x) xs ≡ sum_by f xs + sum_by g xs
sum_both f g [] = refl
sum_both f g (x ∷ xs) =
    let a = sum_by-cons (λ y. f y + g y) x xs in
    let b = sum_by-cons f x xs in
    let c = sum_by-cons g x xs in
    let d = sum_both f g xs in
    omega arith

module _ {K X : Type 0} {R : K → K → Ordering} (o : IsTotalOrder R) (exact : IsAntisymmetric R) where
  -- numbers that agree at each row
  pub sum_alike : (f g : K → X → ℕ) (m : FinMap R X) → ((k : K) (x : X) → get m k ≡ Some x → f k x ≡ g k x)
      → sum_of f m ≡ sum_of g m
  sum_alike f g m h = sum_same f g (entries m)
      (each_of (λ e. get m e.0 ≡ Some e.1) (λ e. f e.0 e.1 ≡ g e.0 e.1) (λ e row. h e.0 e.1 row) (entries m)
      (entries_at o m))

  pub sum_added : (f g : K → X → ℕ) (m : FinMap R X) → sum_of (λ k x. f k x + g k x) m ≡ sum_of f m + sum_of g m
  sum_added f g m = sum_both (λ (e : K × X). f e.0 e.1) (λ e. g e.0 e.1) (entries m)

  -- rows that each became another
  pub sum_mapped : (f : K → X → ℕ) (g : K → X → X) (m : FinMap R X)
      → sum_of f (each g m) ≡ sum_of (λ k x. f k (g k x)) m
  sum_mapped f g m = ap (sum_in f) (entries-from_sorted R (mapped R g (entries m)) (still_sorted R g m))
      ∙ along (entries m)
    where
      along : (es : List (K × X)) → sum_in f (mapped R g es) ≡ sum_in (λ k x. f k (g k x)) es
      along [] = refl
      along (e ∷ es) =
          let a = sum-cons f (e.0, g e.0 e.1) (mapped R g es) in
          let b = sum-cons (λ (k : K) (x : X). f k (g k x)) e es in
          let c = along es in
          omega arith

  -- what holds of each entry that is put in, and of each row before, holds of each row
  pub rows_of_all : (P : K → X → Type 0) (es : List (K × X)) (m : FinMap R X) → EachOf (λ e. P e.0 e.1) es
      → ((k : K) (x : X) → get m k ≡ Some x → P k x)
      → (k : K) (x : X) → get (with_all es m) k ≡ Some x → P k x
  rows_of_all P [] m h old = old
  rows_of_all P (e ∷ es) m h old = rows_of_all P es (insert m e.0 e.1) h.1 (each_row o exact P m e.0 e.1 h.0 old)
