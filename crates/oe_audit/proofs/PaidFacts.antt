-- What was paid by the rows that stood then is what the rows that stand add up to, each where it stood then.
use Rattle.std.proofs.Common.{◌≡◌, ℕ, ◌+◌, refl, sym, ◌∙◌, ap, subst, Bool, true, false, cond, List, [], ◌∷◌, Option}
use Rattle.std.proofs.Common.{Some, None, zero-add}
use Rattle.std.specs.Prelude.{◌&&◌, IsSome, is_some, sum_by}
use Rattle.std.specs.declared.cmp.Ordering.{Ordering}
use Rattle.std.specs.Cmp.{IsTotalOrder}
use Rattle.std.specs.Ordering.{eq_by_cmp}
use Rattle.std.specs.FinMap.{FinMap, IsAntisymmetric, get, entries}
use Rattle.std.proofs.lemmas.List.Sums.{sum_by-cons}
use Rattle.oe_rows.specs.Key.{customer_cmp}
use Rattle.oe_rows.specs.declared.keys.DistrictKey.{DistrictKey}
use Rattle.oe_rows.specs.declared.keys.HistoryKey.{HistoryKey}
use Rattle.oe_rows.specs.declared.histories.History.{History}
use Rattle.oe_rows.proofs.KeyFacts.{history_total, exact_history}
use Rattle.oe_model.specs.Keys.{customer_in}
use Rattle.oe_model.specs.Maps.{sum_of}
use Rattle.oe_model.specs.FurtherConditions.{paid_by}
use Rattle.oe_model.proofs.EntryFacts.{EachOf, entries_at}
use Rattle.oe_rows_of.proofs.ChosenFacts.{rows_at, rows_none, rows_some, all_is}
use Rattle.oe_rows_of.specs.Then.{has_row_then, ArePassed, AreNow}
use Rattle.oe_audit.specs.Payments.{is_in, paid_in, amount_in}
use Rattle.oe_audit.specs.Ledgers.{payment_adds}
use Rattle.oe_audit.specs.declared.payments.Place.{Place}
use Rattle.oe_audit.specs.declared.payments.Place.TheVariants as place
use Rattle.oe_model.specs.Rows.{Rows}

pub sum_pointwise : {A : Type 0} (f g : A → ℕ) → ((x : A) → f x ≡ g x) → (xs : List A) → sum_by f xs ≡ sum_by g xs
sum_pointwise f g h [] = refl
sum_pointwise f g h (x ∷ xs) = sum_by-cons f x xs ∙ (λ i. h x i + sum_pointwise f g h xs i) ∙ sym (sum_by-cons g x xs)

-- rows of one map that are those of another at the same keys
module _ {K X : Type 0} {R : K → K → Ordering} (total : IsTotalOrder R) (exact : IsAntisymmetric R) (m n : FinMap R X)
    (stays : (k : K) → IsSome (get m k) → get n k ≡ get m k) (f : K → X → ℕ) where
  abbrev own : K × X → ℕ
  own e = f e.0 e.1

  abbrev where_there : K × X → ℕ
  where_there e = cond (is_some (get m e.0)) (f e.0 e.1) 0

  along : (es : List (K × X)) → EachOf (λ e. get n e.0 ≡ Some e.1) es
      → sum_by own (rows_at m es) ≡ sum_by where_there es
  along [] h = refl
  along (e ∷ es) h = go (get m e.0) refl (along es h.1)
    where
      go : (v : Option X) → get m e.0 ≡ v → sum_by own (rows_at m es) ≡ sum_by where_there es
          → sum_by own (rows_at m (e ∷ es)) ≡ sum_by where_there (e ∷ es)
      go None t rest =
          let none : where_there e ≡ 0 = ap (λ (v : Option X). cond (is_some v) (f e.0 e.1) 0) t in
          ap (sum_by own) (rows_none m e es t) ∙ rest
          ∙ sym (sum_by-cons where_there e es ∙ ap (λ k. k + sum_by where_there es) none
          ∙ zero-add (sum_by where_there es))
      go (Some x) t rest =
          let same : Some e.1 ≡ Some x = sym h.0 ∙ stays e.0 (ap is_some t) ∙ t in
          let is : e.1 ≡ x = cc in
          let all : where_there e ≡ f e.0 x = ap (λ (v : Option X). cond (is_some v) (f e.0 e.1) 0) t ∙ ap (f e.0) is in
          ap (sum_by own) (rows_some m e es x t) ∙ sum_by-cons own (e.0, x) (rows_at m es)
          ∙ (λ i. sym all i + rest i) ∙ sym (sum_by-cons where_there e es)

  pub sum_stayed : sum_of f m ≡ sum_by where_there (entries n)
  sum_stayed =
      ap (sum_by own) (all_is m total exact n (λ k p. subst (λ (v : Option X). IsSome v) (sym (stays k p)) p))
      ∙ along (entries n) (entries_at total n)

and_true : (b : Bool) (n : ℕ) → cond b n 0 ≡ cond (b && true) n 0
and_true true n = refl
and_true false n = refl

and_turned : (a b : Bool) (n : ℕ) → cond a (cond b n 0) 0 ≡ cond (b && a) n 0
and_turned true true n = refl
and_turned true false n = refl
and_turned false true n = refl
and_turned false false n = refl

module _ (now past : Rows) (b : HistoryKey → History → Bool) where
  counted : (w : Bool) → AreNow w past now → ArePassed past now
      → sum_of (λ k y. cond (b k y) y.amount 0) past.histories ≡ sum_by
      (λ e. cond (b e.0 e.1 && has_row_then w past.histories e.0) e.1.amount 0) (entries now.histories)
  counted true same h =
      ap (λ (r : Rows). sum_of (λ k y. cond (b k y) y.amount 0) r.histories) same
      ∙ sum_pointwise _ _ (λ e. and_true (b e.0 e.1) e.1.amount) (entries now.histories)
  counted false same h =
      sum_stayed history_total exact_history past.histories now.histories h.histories
      (λ k y. cond (b k y) y.amount 0)
      ∙ sum_pointwise _ _ (λ e. and_turned (is_some (get past.histories e.0)) (b e.0 e.1) e.1.amount)
      (entries now.histories)

module _ (now past : Rows) (w : Bool) (same : AreNow w past now) (h : ArePassed past now) where
  -- what was paid in a place, and by a customer
  pub paid_was : (p : Place) → paid_in past p ≡ sum_by (amount_in p w past.histories) (entries now.histories)
  paid_was (place.Warehouse g) = counted now past (λ k y. is_in (place.Warehouse g) y.district) w same h
  paid_was (place.District g) = counted now past (λ k y. is_in (place.District g) y.district) w same h

  pub paid_by_was : (g : DistrictKey) (c : ℕ)
      → paid_by past (customer_in g c) ≡ sum_by (λ e. payment_adds w past.histories g e c) (entries now.histories)
  paid_by_was g c = counted now past (λ k y. eq_by_cmp customer_cmp y.customer (customer_in g c)) w same h
