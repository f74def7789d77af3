-- The rows of a group are those of the whole table that pass its test, and a sum over the group counts them alone.
use Rattle.std.proofs.Common.{◌≡◌, ℕ, ◌+◌, refl, sym, ◌∙◌, ap, Bool, true, false, cond, List, [], ◌∷◌, None, zero-add}
use Rattle.std.specs.Prelude.{filter, sum_by}
use Rattle.std.specs.declared.cmp.Ordering.{Ordering}
use Rattle.std.specs.Cmp.{IsTotalOrder}
use Rattle.std.specs.FinMap.{FinMap, IsAntisymmetric, entries, entries_sorted, get-entries, retain_keys}
use Rattle.std.specs.FinMap.{get-retain_keys}
use Rattle.std.specs.FinMap.Entries.{find-where_key, is_sorted-where_key, same_entries}
use Rattle.std.proofs.lemmas.List.Sums.{sum_by-cons}
use Rattle.oe_model.specs.Maps.{sum_of}

sum_passing : {A : Type 0} (p : A → Bool) (f : A → ℕ) (xs : List A)
    → sum_by (λ x. cond (p x) (f x) 0) xs ≡ sum_by f (filter p xs)
sum_passing p f [] = refl
sum_passing p f (x ∷ xs) = sum_by-cons (λ y. cond (p y) (f y) 0) x xs
    ∙ ap (λ n. cond (p x) (f x) 0 + n) (sum_passing p f xs) ∙ by_test (p x)
  where
    by_test : (b : Bool) → cond b (f x) 0 + sum_by f (filter p xs) ≡ sum_by f (cond b (x ∷ filter p xs) (filter p xs))
    by_test true = sym (sum_by-cons f x (filter p xs))
    by_test false = zero-add (sum_by f (filter p xs))

module _ {K X : Type 0} {R : K → K → Ordering} (total : IsTotalOrder R) (exact : IsAntisymmetric R) (m : FinMap R X)
    (p : K → Bool) where
  pub kept_rows : entries (retain_keys m p) ≡ filter (λ e. p e.0) (entries m)
  kept_rows =
      sym (same_entries R total exact _ _ (is_sorted-where_key R p (entries m) (entries_sorted m))
      (entries_sorted (retain_keys m p)) (λ k.
      find-where_key R p k (λ x e. ap p (sym (exact k x e))) (entries m)
      ∙ ap (λ o. cond (p k) o None) (sym (get-entries m k))
      ∙ sym (get-retain_keys m p k (λ x e. ap p (sym (exact k x e)))) ∙ get-entries (retain_keys m p) k))

  -- a number that counts where the key passes
  pub sum_of_group : (f : K → X → ℕ) → sum_of (λ k x. cond (p k) (f k x) 0) m ≡ sum_by (λ e. f e.0 e.1)
      (entries (retain_keys m p))
  sum_of_group f = sum_passing (λ (e : K × X). p e.0) (λ e. f e.0 e.1) (entries m)
      ∙ ap (sum_by (λ (e : K × X). f e.0 e.1)) (sym kept_rows)
