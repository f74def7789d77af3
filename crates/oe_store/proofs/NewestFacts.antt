-- A customer's last order is the last of the customer's orders in their district, which stand by O_ID.
use Rattle.std.proofs.Common.{◌≡◌, ℕ, suc, ◌<◌, ◌≤◌, refl, sym, ◌∙◌, ap, subst, Bool, true, false, cond, List, [], ◌∷◌}
use Rattle.std.proofs.Common.{Some, None, arith}
use Rattle.std.specs.Prelude.{T, ◌&&◌, ◌||◌, not, nat_le, filter, find, option_map}
use Rattle.std.specs.List.{list_any}
use Rattle.std.specs.Ordering.{eq_by_cmp, is_lt, nat_cmp, ordering_then}
use Rattle.std.specs.declared.cmp.Ordering.{Ordering}
use Rattle.std.specs.declared.cmp.Ordering.TheVariants.{Less, Equal, Greater}
use Rattle.std.specs.Cmp.{tied_itself, nat_cmp_total, ranked}
use Rattle.std.specs.FinMap.{FinMap, entries, entries_sorted}
use Rattle.std.specs.FinMap.Entries.{is_sorted, below_all}
use Rattle.std.proofs.lemmas.Bool.Decides.{nat_tests}
use Rattle.oe_rows.specs.Key.{district_cmp, customer_cmp, order_cmp}
use Rattle.oe_rows.specs.declared.keys.DistrictKey.{DistrictKey}
use Rattle.oe_rows.specs.declared.keys.CustomerKey.{CustomerKey}
use Rattle.oe_rows.specs.declared.keys.OrderKey.{OrderKey}
use Rattle.oe_rows.specs.declared.orders.Order.{Order}
use Rattle.oe_rows.proofs.KeyFacts.{district_total, exact_district, customer_total, exact_customer, order_total}
use Rattle.oe_rows.proofs.KeyFacts.{exact_order}
use Rattle.oe_model.specs.Keys.{district_of_customer, district_of_order, customer_of_order}
use Rattle.oe_model.specs.Queries.{orders_of, last_order}
use Rattle.oe_model.proofs.MapFacts.{is_same, is_self}
use Rattle.oe_model.proofs.EntryFacts.{EachOf, each_of}
use Rattle.oe_index.specs.Own.{own_of}
use Rattle.oe_store.specs.Places.{entries_of}
use Rattle.oe_store.specs.Newest.{newest_from}
use Rattle.oe_store.proofs.GroupFacts.{kept_alike}

left : (a b : Bool) → T (a && b) → T a
left true b p = tt
left false b p = p

right : (a b : Bool) → T (a && b) → T b
right true b p = p
right false b p = absurd p

module _ {A : Type 0} where
  find_alike : (p q : A → Bool) (xs : List A) → EachOf (λ x. p x ≡ q x) xs → find p xs ≡ find q xs
  find_alike p q [] h = refl
  find_alike p q (x ∷ xs) h = let rest = find_alike p q xs h.1 in λ i. cond (h.0 i) (Some x) (rest i)

  -- of what passes a test that is stricter
  stricter : (p q : A → Bool) → ((x : A) → q x ≡ true → p x ≡ true) → (xs : List A)
      → filter q (filter p xs) ≡ filter q xs
  stricter p q h [] = refl
  stricter p q h (x ∷ xs) = by (p x) (q x) refl refl (stricter p q h xs)
    where
      by : (a b : Bool) → p x ≡ a → q x ≡ b → filter q (filter p xs) ≡ filter q xs
          → filter q (cond a (x ∷ filter p xs) (filter p xs)) ≡ cond (q x) (x ∷ filter q xs) (filter q xs)
      by true b s t rest = ap (λ ys. cond (q x) (x ∷ ys) ys) rest
      by false true s t rest = let z : true ≡ false = sym (h x t) ∙ s in let no : ⊥ = cc in absurd no
      by false false s t rest = rest ∙ sym (ap (λ b. cond b (x ∷ filter q xs) (filter q xs)) t)

  each_filtered : (P : A → Type 0) (q : A → Bool) (xs : List A) → EachOf P xs → EachOf P (filter q xs)
  each_filtered P q [] h = tt
  each_filtered P q (x ∷ xs) h = by (q x) (each_filtered P q xs h.1)
    where
      by : (b : Bool) → EachOf P (filter q xs) → EachOf P (cond b (x ∷ filter q xs) (filter q xs))
      by true rest = (h.0, rest)
      by false rest = rest

  each_passes : (q : A → Bool) (xs : List A) → EachOf (λ x. q x ≡ true) (filter q xs)
  each_passes q [] = tt
  each_passes q (x ∷ xs) = by (q x) refl (each_passes q xs)
    where
      by : (b : Bool) → q x ≡ b → EachOf (λ x. q x ≡ true) (filter q xs)
          → EachOf (λ x. q x ≡ true) (cond b (x ∷ filter q xs) (filter q xs))
      by true t rest = (t, rest)
      by false t rest = rest

-- an order before others of larger numbers, and none has a larger number than it
abbrev newer : List (OrderKey × Order) → OrderKey × Order → Bool
newer xs e = list_any (λ g. nat_le (suc e.0.order) g.0.order) xs

abbrev Rises : List (OrderKey × Order) → Type 0
Rises [] = Unit {0}
Rises (e ∷ es) = EachOf (λ g. e.0.order < g.0.order) es × Rises es

not_below : (m n : ℕ) → n ≤ m → nat_le (suc m) n ≡ false
not_below m n h = grind (arith, nat_tests)

below : (m n : ℕ) → m < n → nat_le (suc m) n ≡ true
below m n h = grind (arith, nat_tests)

last_found : (e : OrderKey × Order) (es : List (OrderKey × Order)) → Rises (e ∷ es)
    → option_map (λ f. f.0.order) (find (λ f. not (newer (e ∷ es) f)) (e ∷ es)) ≡ newest_from (Some e.0.order) es
last_found e [] r = ap (λ b. option_map (λ (f : OrderKey × Order). f.0.order) (cond (not (b || false)) (Some e) None))
    (not_below e.0.order e.0.order (omega arith))
last_found e (f ∷ es) r =
    ap (λ b. option_map (λ (g : OrderKey × Order). g.0.order)
    (cond (not b) (Some e) (find (λ g. not (newer (e ∷ f ∷ es) g)) (f ∷ es)))) outdone
    ∙ ap (option_map (λ (g : OrderKey × Order). g.0.order))
    (find_alike (λ g. not (newer (e ∷ f ∷ es) g)) (λ g. not (newer (f ∷ es) g)) (f ∷ es)
    (each_of (λ g. e.0.order < g.0.order) (λ g. not (newer (e ∷ f ∷ es) g) ≡ not (newer (f ∷ es) g))
    (λ g h. ap (λ b. not (b || newer (f ∷ es) g)) (not_below g.0.order e.0.order (omega arith))) (f ∷ es) r.0))
    ∙ last_found f es r.1
  where
    outdone : newer (e ∷ f ∷ es) e ≡ true
    outdone = (λ i. not_below e.0.order e.0.order (omega arith) i || (below e.0.order f.0.order r.0.0 i || newer es e))

last_is_newest : (xs : List (OrderKey × Order)) → Rises xs
    → option_map (λ f. f.0.order) (find (λ f. not (newer xs f)) xs) ≡ newest_from None xs
last_is_newest [] r = refl
last_is_newest (e ∷ es) r = last_found e es r

less_by : (c d : ℕ) (r : Ordering) → r ≡ nat_cmp c d → T (is_lt r) → c < d
less_by c d Less e h = ranked c d Less e
less_by c d Equal e h = absurd h
less_by c d Greater e h = absurd h

rises : (a b : OrderKey) → a.warehouse ≡ b.warehouse → a.district ≡ b.district → T (is_lt (order_cmp a b))
    → a.order < b.order
rises a b w d h =
    less_by a.order b.order (nat_cmp a.order b.order) refl
    (subst T
    (ap (λ r. is_lt (ordering_then r (ordering_then (nat_cmp a.district b.district) (nat_cmp a.order b.order))))
    (ap (nat_cmp a.warehouse) (sym w) ∙ tied_itself nat_cmp_total a.warehouse)
    ∙ ap (λ r. is_lt (ordering_then r (nat_cmp a.order b.order)))
    (ap (nat_cmp a.district) (sym d) ∙ tied_itself nat_cmp_total a.district)) h)

module _ (k : CustomerKey) where
  abbrev is_own : OrderKey × Order → Bool
  is_own e = eq_by_cmp customer_cmp (customer_of_order e.0 e.1) k

  own_district : (e : OrderKey × Order) → is_own e ≡ true → district_of_order e.0 ≡ district_of_customer k
  own_district e t = ap district_of_customer (is_same customer_total exact_customer (customer_of_order e.0 e.1) k t)

  all_above : (e : OrderKey × Order) (es : List (OrderKey × Order)) → is_own e ≡ true → T (below_all order_cmp e.0 es)
      → EachOf (λ g. (is_own g ≡ true) → e.0.order < g.0.order) es
  all_above e [] own b = tt
  all_above e (g ∷ es) own b = (
    (λ t.
        let same : district_of_order e.0 ≡ district_of_order g.0 = own_district e own ∙ sym (own_district g t) in
        rises e.0 g.0 (ap (λ (h : DistrictKey). h.warehouse) same) (ap (λ (h : DistrictKey). h.district) same)
        (left (is_lt (order_cmp e.0 g.0)) (below_all order_cmp e.0 es) b)),
    all_above e es own (right (is_lt (order_cmp e.0 g.0)) (below_all order_cmp e.0 es) b),
  )

  meet : (e : OrderKey × Order) (xs : List (OrderKey × Order))
      → EachOf (λ g. (is_own g ≡ true) → e.0.order < g.0.order) xs → EachOf (λ g. is_own g ≡ true) xs
      → EachOf (λ g. e.0.order < g.0.order) xs
  meet e [] h g = tt
  meet e (x ∷ xs) h g = (h.0 g.0, meet e xs h.1 g.1)

  own_rise : (es : List (OrderKey × Order)) → T (is_sorted order_cmp es) → Rises (filter is_own es)
  own_rise [] s = tt
  own_rise (e ∷ es) s = by (is_own e) refl (own_rise es (right (below_all order_cmp e.0 es) (is_sorted order_cmp es) s))
    where
      by : (b : Bool) → is_own e ≡ b → Rises (filter is_own es)
          → Rises (cond b (e ∷ filter is_own es) (filter is_own es))
      by true t rest = (
        meet e (filter is_own es)
            (each_filtered (λ g. (is_own g ≡ true) → e.0.order < g.0.order) is_own es
            (all_above e es t (left (below_all order_cmp e.0 es) (is_sorted order_cmp es) s))) (each_passes is_own es),
        rest,
      )
      by false t rest = rest

  -- a walk over the district meets all of the customer's orders
  pub own_in : (h : DistrictKey) → h ≡ district_of_customer k
      → (m : FinMap order_cmp Order) (es : List (OrderKey × Order)) → es ≡ entries_of district_cmp district_of_order h m
      → own_of k es ≡ orders_of k m
  own_in h is m es are =
      ap (filter is_own)
      (are ∙ sym (kept_alike order_total exact_order m (λ j. eq_by_cmp district_cmp (district_of_order j) h)
      (λ j. eq_by_cmp district_cmp (district_of_order j) h) (λ j x e. refl)))
      ∙ stricter (λ e. eq_by_cmp district_cmp (district_of_order e.0) h) is_own
      (λ e t. ap (λ d. eq_by_cmp district_cmp d h) (own_district e t ∙ sym is)
      ∙ is_self district_total exact_district h) (entries m)

  -- a walk that meets them ends at the last
  pub newest_starts : (m : FinMap order_cmp Order) (es walk : List (OrderKey × Order)) → es ≡ walk
      → own_of k walk ≡ orders_of k m
      → newest_from None (own_of k es) ≡ option_map (λ e. e.0.order) (last_order k m)
  newest_starts m es walk is all =
      ap (λ (xs : List (OrderKey × Order)). newest_from None (own_of k xs)) is ∙ ap (newest_from None) all
      ∙ sym (last_is_newest (filter is_own (entries m)) (own_rise (entries m) (entries_sorted m)))
