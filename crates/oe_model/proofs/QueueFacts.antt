-- The order that a delivery finds, and its lines: what the program leaves of them, a line at a time.
use Rattle.std.proofs.Common.{◌≡◌, ℕ, ◌+◌, ◌<◌, ◌≤◌, refl, sym, ◌∙◌, ap, subst, Bool, true, false, cond, List, [], ◌∷◌}
use Rattle.std.proofs.Common.{map, Option, Some, None, arith}
use Rattle.std.specs.Prelude.{T, ◌&&◌, option_map, ◌||◌, IsSome}
use Rattle.std.specs.List.{list_any}
use Rattle.std.specs.declared.cmp.Ordering.{Ordering}
use Rattle.std.specs.declared.cmp.Ordering.TheVariants.{Less, Equal, Greater}
use Rattle.std.specs.Cmp.{tied_itself, nat_cmp_total, ranked}
use Rattle.std.specs.Ordering.{eq_by_cmp, is_lt, nat_cmp, ordering_then}
use Rattle.std.proofs.lemmas.List.Sums.{sum_by-cons}
use Rattle.std.specs.FinMap.{FinMap, IsAntisymmetric, get, insert, entries, entries_sorted, get-entries, get-insert}
use Rattle.std.specs.FinMap.Entries.{find, is_sorted, below_all}
use Rattle.oe_rows.specs.Key.{district_cmp, new_order_cmp, order_cmp, order_line_cmp}
use Rattle.oe_rows.specs.declared.keys.DistrictKey.{DistrictKey}
use Rattle.oe_rows.specs.declared.keys.NewOrderKey.{NewOrderKey}
use Rattle.oe_rows.specs.declared.keys.OrderKey.{OrderKey}
use Rattle.oe_rows.specs.declared.keys.OrderLineKey.{OrderLineKey}
use Rattle.oe_rows.specs.declared.orders.NewOrder.{NewOrder}
use Rattle.oe_rows.specs.declared.orders.OrderLine.{OrderLine}
use Rattle.oe_rows.proofs.KeyFacts.{district_total, exact_district, new_order_total, exact_new_order, order_line_total}
use Rattle.oe_rows.proofs.KeyFacts.{exact_order_line}
use Rattle.oe_model.specs.Keys.{district_of_new_order, order_of_line, new_order_in}
use Rattle.oe_model.specs.Maps.{each}
use Rattle.oe_model.specs.Delivery.{new_orders_of, oldest, lines_of, worth, with_date}
use Rattle.oe_model.specs.Conditions.{IsLeast}
use Rattle.oe_model.proofs.MapFacts.{tied, get-each, same, is_same, is_self}
use Rattle.oe_model.proofs.EntryFacts.{EachOf, kept_at, get_kept, same_each, among_kept}
use Rattle.oe_model.proofs.PresenceFacts.{some_present}

first_part : (a b : Bool) → T (a && b) → T a
first_part true b p = tt
first_part false b p = p

second_part : (a b : Bool) → T (a && b) → T b
second_part true b p = p
second_part false b p = absurd p

module _ {K X : Type 0} {R : K → K → Ordering} (exact : IsAntisymmetric R) where
  -- a key that is found among keys above j is above j
  above : (j k : K) (es : List (K × X)) → T (below_all R j es) → IsSome (find R k es) → T (is_lt (R j k))
  above j k [] b h = let no : ⊥ = cc in absurd no
  above j k (e ∷ es) b h = by_test (λ p. above j k es (second_part _ _ b) p) (eq_by_cmp R k e.0) refl h
    where
      by_test : (IsSome (find R k es) → T (is_lt (R j k))) → (c : Bool) → eq_by_cmp R k e.0 ≡ c
          → IsSome (cond c (Some e.1) (find R k es)) → T (is_lt (R j k))
      by_test rest true t h = subst (λ (i : K). T (is_lt (R j i))) (sym (exact k e.0 (tied (R k e.0) t)))
          (first_part _ _ b)
      by_test rest false t h = rest h

-- the oldest order is the least
module _ (h : DistrictKey) (m : FinMap new_order_cmp NewOrder) where
  abbrev mine : NewOrderKey → Bool
  mine k = eq_by_cmp district_cmp (district_of_new_order k) h

  less_order : (o i : ℕ) → T (is_lt (new_order_cmp (new_order_in h o) (new_order_in h i))) → o ≤ i
  less_order o i p = by_rank (nat_cmp o i) refl (subst (λ (r : Ordering). T (is_lt r)) same p)
    where
      same : new_order_cmp (new_order_in h o) (new_order_in h i) ≡ nat_cmp o i
      same = ap (λ (r : Ordering). ordering_then r (ordering_then (nat_cmp h.district h.district) (nat_cmp o i)))
          (tied_itself nat_cmp_total h.warehouse)
          ∙ ap (λ (r : Ordering). ordering_then r (nat_cmp o i)) (tied_itself nat_cmp_total h.district)

      by_rank : (r : Ordering) → nat_cmp o i ≡ r → T (is_lt r) → o ≤ i
      by_rank Less e p = let l : o < i = ranked o i Less (sym e) in omega arith
      by_rank Equal e p = absurd p
      by_rank Greater e p = absurd p

  oldest_in : (o : ℕ) (es : List (NewOrderKey × NewOrder)) → T (is_sorted new_order_cmp es)
      → EachOf (λ e. (mine e.0 ≡ true) × (get m e.0 ≡ Some e.1)) es
      → ((i : ℕ) → IsSome (get m (new_order_in h i)) → IsSome (find new_order_cmp (new_order_in h i) es))
      → (let v : Option ℕ = elim es [ [] ↦ None | e ∷ es ↦ Some e.0.order ] in v) ≡ Some o
      → IsLeast (λ i. IsSome (get m (new_order_in h i))) o
  oldest_in o [] s a f e = let no : ⊥ = cc in absurd no
  oldest_in o (e ∷ es) s a f is =
      let number : e.0.order ≡ o = cc in
      let key : e.0 ≡ new_order_in h o = ap (λ (j : DistrictKey). new_order_in j e.0.order)
      (is_same district_total exact_district (district_of_new_order e.0) h a.0.0) ∙ ap (new_order_in h) number in
      (some_present (get m (new_order_in h o)) e.1 (ap (get m) (sym key) ∙ a.0.1), λ i p. least key i (f i p))
    where
      least : e.0 ≡ new_order_in h o → (i : ℕ) → IsSome (find new_order_cmp (new_order_in h i) (e ∷ es)) → o ≤ i
      least key i p = by_test (eq_by_cmp new_order_cmp (new_order_in h i) e.0) refl p
        where
          by_test : (c : Bool) → eq_by_cmp new_order_cmp (new_order_in h i) e.0 ≡ c
              → IsSome (cond c (Some e.1) (find new_order_cmp (new_order_in h i) es)) → o ≤ i
          by_test true t p =
              let same : new_order_in h i ≡ new_order_in h o = is_same new_order_total exact_new_order
              (new_order_in h i) e.0 t ∙ key in
              let n : i ≡ o = ap (λ (k : NewOrderKey). k.order) same in
              omega arith
          by_test false t p = less_order o i
              (subst (λ (k : NewOrderKey). T (is_lt (new_order_cmp k (new_order_in h i)))) key
              (above exact_new_order e.0 (new_order_in h i) es (first_part _ _ s) p))

  pub oldest_least : (o : ℕ) → oldest h m ≡ Some o → IsLeast (λ i. IsSome (get m (new_order_in h i))) o
  oldest_least o e =
      oldest_in o (entries (new_orders_of h m)) (entries_sorted (new_orders_of h m))
      (kept_at new_order_total exact_new_order m mine)
      (λ i p. subst (λ (v : Option NewOrder). IsSome v)
      (sym (get_kept new_order_total exact_new_order m mine (new_order_in h i)
      ∙ ap (λ b. cond b (get m (new_order_in h i)) None) (is_self district_total exact_district h))
      ∙ get-entries (new_orders_of h m) (new_order_in h i)) p)
      e

-- a line that is dated if its key is marked
abbrev pub date_marked : ℕ → (OrderLineKey → Bool) → OrderLineKey → OrderLine → OrderLine
date_marked stamp marked k x = cond (marked k) (with_date stamp x) x

abbrev pub mark : OrderLineKey → (OrderLineKey → Bool) → OrderLineKey → Bool
mark j marked k = eq_by_cmp order_line_cmp k j || marked k

abbrev pub mark_all : List (OrderLineKey × OrderLine) → (OrderLineKey → Bool) → OrderLineKey → Bool
mark_all [] marked = marked
mark_all (e ∷ es) marked = mark_all es (mark e.0 marked)

or_swap : (a b c : Bool) → ((a || b) || c) ≡ (b || (a || c))
or_swap true true c = refl
or_swap true false c = refl
or_swap false true c = refl
or_swap false false c = refl

mark_all-any : (es : List (OrderLineKey × OrderLine)) (marked : OrderLineKey → Bool) (k : OrderLineKey)
    → mark_all es marked k ≡ (marked k || list_any (eq_by_cmp order_line_cmp k) (map (λ e. e.0) es))
mark_all-any [] marked k = by_mark (marked k)
  where
    by_mark : (b : Bool) → b ≡ (b || false)
    by_mark true = refl
    by_mark false = refl
mark_all-any (e ∷ es) marked k = mark_all-any es (mark e.0 marked) k
    ∙ or_swap (eq_by_cmp order_line_cmp k e.0) (marked k) (list_any (eq_by_cmp order_line_cmp k) (map (λ e. e.0) es))

module _ (stamp : ℕ) (m : FinMap order_line_cmp OrderLine) where
  -- to date one more line is to mark one more
  pub dated-marked : (marked : OrderLineKey → Bool) (k : OrderLineKey) (x : OrderLine) → get m k ≡ Some x
      → insert (each (date_marked stamp marked) m) k (with_date stamp (date_marked stamp marked k x)) ≡ each
      (date_marked stamp (mark k marked)) m
  dated-marked marked k x here = same order_line_total exact_order_line _ _ (λ j.
      get-insert order_line_total (each (date_marked stamp marked) m) k _ j
      ∙ ap (cond (eq_by_cmp order_line_cmp j k) _)
      (get-each order_line_cmp (date_marked stamp marked) exact_order_line m j)
      ∙ by_key j (eq_by_cmp order_line_cmp j k) refl
      ∙ sym (get-each order_line_cmp (date_marked stamp (mark k marked)) exact_order_line m j))
    where
      once : (b : Bool) → with_date stamp (cond b (with_date stamp x) x) ≡ with_date stamp x
      once true = refl
      once false = refl

      by_key : (j : OrderLineKey) (b : Bool) → eq_by_cmp order_line_cmp j k ≡ b
          → cond b (Some (with_date stamp (date_marked stamp marked k x)))
          (option_map (date_marked stamp marked j) (get m j))
          ≡ option_map (λ y. cond (b || marked j) (with_date stamp y) y)
          (get m j)
      by_key j true e =
          ap Some (once (marked k)) ∙ ap (option_map (λ y. with_date stamp y)) (sym here)
          ∙ ap (λ (i : OrderLineKey). option_map (λ y. with_date stamp y) (get m i))
          (sym (is_same order_line_total exact_order_line j k e))
      by_key j false e = refl

  -- to mark each of an order's lines is to mark what is of the order
  pub all-dated : (k : OrderKey) → each (date_marked stamp (mark_all (lines_of k m) (λ _. false))) m ≡ each
      (λ j x. cond (eq_by_cmp order_cmp (order_of_line j) k) (with_date stamp x) x) m
  all-dated k = same_each order_line_total exact_order_line _ _ m (λ j x e.
      ap (λ (b : Bool). cond b (with_date stamp x) x)
      (mark_all-any (lines_of k m) (λ _. false) j ∙ among_kept order_line_total exact_order_line m
      (λ l. eq_by_cmp order_cmp (order_of_line l) k) j x e))

  pub none-dated : each (date_marked stamp (λ _. false)) m ≡ m
  none-dated = same order_line_total exact_order_line _ _
      (λ k. get-each order_line_cmp (date_marked stamp (λ _. false)) exact_order_line m k ∙ unchanged (get m k))
    where
      unchanged : (o : Option OrderLine) → option_map (λ x. x) o ≡ o
      unchanged None = refl
      unchanged (Some x) = refl

pub add_worth : (sum : ℕ) (e : OrderLineKey × OrderLine) (es : List (OrderLineKey × OrderLine))
    → (sum + e.1.amount) + worth es ≡ sum + worth (e ∷ es)
add_worth sum e es = let h : worth (e ∷ es) ≡ e.1.amount + worth es = sum_by-cons (λ e. e.1.amount) e es in omega arith
