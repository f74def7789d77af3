-- A customer's last order is the last that a walk over the orders finds, and the row of its number.
use Rattle.std.proofs.Common.{◌≡◌, ℕ, suc, ◌<◌, ◌≤◌, Bool, true, false, cond, Option, None, Some, List, [], ◌∷◌, refl}
use Rattle.std.proofs.Common.{sym, ap, ◌∙◌, subst, arith}
use Rattle.std.specs.Prelude.{T, ◌||◌, not, filter, find, nat_le, option_map}
use Rattle.std.specs.List.{list_any}
use Rattle.std.specs.Ordering.{eq_by_cmp, nat_cmp, ordering_then, is_lt}
use Rattle.std.specs.FinMap.{FinMap, get, entries, entries_sorted, get-entries, retain_keys, get-retain_keys}
use Rattle.std.specs.FinMap.Entries.{is_sorted, below_all, find-where_key, is_sorted-where_key, same_entries}
use Rattle.std.proofs.lemmas.Bool.{leb-false}
use Rattle.oe_rows.specs.Key.{district_cmp, customer_cmp, order_cmp}
use Rattle.oe_rows.specs.declared.keys.DistrictKey.{DistrictKey}
use Rattle.oe_rows.specs.declared.keys.CustomerKey.{CustomerKey}
use Rattle.oe_rows.specs.declared.keys.OrderKey.{OrderKey}
use Rattle.oe_rows.proofs.KeyFacts.{district_total, exact_district, customer_total, exact_customer, order_total}
use Rattle.oe_rows.proofs.KeyFacts.{exact_order}
use Rattle.oe_rows.specs.declared.orders.Order.{Order}
use Rattle.oe_model.specs.Keys.{district_of_customer, district_of_order, customer_of_order, order_in}
use Rattle.oe_model.specs.Queries.{orders_of, last_order}
use Rattle.oe_model.proofs.MapFacts.{is_same, is_self}
use Rattle.oe_model.proofs.EntryFacts.{EachOf, each_of, kept_at, entries_at}
use Rattle.oe_model.proofs.ListFacts.{not_above}
use Rattle.oe_model.proofs.PresenceFacts.{mapped_absent}
use Rattle.oe_theory.proofs.Sets.{some_inj}
use Rattle.oe_rows_of.proofs.ClimbFacts.{left, right, lower, same_number}

abbrev pub Entry : Type 0
Entry = OrderKey × Order

-- the last of a list, or what came before it
abbrev pub final : Option Entry → List Entry → Option Entry
final before [] = before
final before (x ∷ xs) = final (Some x) xs

abbrev pub Rises : List Entry → Type 0
Rises [] = Unit {0}
Rises (e ∷ es) = EachOf (λ f. e.0.order < f.0.order) es × Rises es

-- some order of the list has a larger number
abbrev has_larger : Entry → List Entry → Bool
has_larger e es = list_any (λ g. nat_le (suc e.0.order) g.0.order) es

le_true : (n m : ℕ) → n ≤ m → nat_le n m ≡ true
le_true n m h = go (nat_le n m) refl
  where
    go : (b : Bool) → nat_le n m ≡ b → b ≡ true
    go true t = refl
    go false t = absurd (let less : m < n = leb-false n m t in let no : ⊥ = omega arith in no)

-- the only one of a rising list that none is larger than is the last
find_last : (all es : List Entry) → Rises es → EachOf (λ e. has_larger e all ≡ has_larger e es) es
    → find (λ e. not (has_larger e all)) es ≡ final None es
find_last all [] r same = refl
find_last all (x ∷ []) r same =
    let none : has_larger x all ≡ false = same.0 ∙ ap (λ b. b || false) (not_above x.0.order x.0.order (omega arith)) in
    ap (λ b. cond (not b) (Some x) (find (λ e. not (has_larger e all)) [])) none
find_last all (x ∷ y ∷ es) r same =
    let own : nat_le (suc x.0.order) x.0.order ≡ false = not_above x.0.order x.0.order (omega arith) in
    let next : nat_le (suc x.0.order) y.0.order ≡ true = le_true (suc x.0.order) y.0.order (omega (arith, r.0.0)) in
    let some : has_larger x all ≡ true =
    same.0 ∙ ap (λ b. b || has_larger x (y ∷ es)) own ∙ ap (λ b. b || has_larger x es) next
    in
    ap (λ b. cond (not b) (Some x) (find (λ e. not (has_larger e all)) (y ∷ es))) some
    ∙ find_last all (y ∷ es) r.1
    (both (λ e. x.0.order < e.0.order) (λ e. has_larger e all ≡ has_larger e (x ∷ y ∷ es))
    (λ e. has_larger e all ≡ has_larger e (y ∷ es)) (λ e less is.
    is ∙ ap (λ b. b || has_larger e (y ∷ es)) (not_above e.0.order x.0.order (omega (arith, less)))) (y ∷ es) r.0
    same.1)
  where
    both : (P Q S : Entry → Type 0) → ((e : Entry) → P e → Q e → S e) → (zs : List Entry) → EachOf P zs → EachOf Q zs
        → EachOf S zs
    both P Q S f [] p q = tt
    both P Q S f (z ∷ zs) p q = (f z p.0 q.0, both P Q S f zs p.1 q.1)

each_filtered : (P : Entry → Type 0) (p : Entry → Bool) (es : List Entry) → EachOf P es → EachOf P (filter p es)
each_filtered P p [] h = tt
each_filtered P p (e ∷ es) h = go (p e) (each_filtered P p es h.1)
  where
    go : (b : Bool) → EachOf P (filter p es) → EachOf P (cond b (e ∷ filter p es) (filter p es))
    go true rest = (h.0, rest)
    go false rest = rest

rises_filtered : (p : Entry → Bool) (es : List Entry) → Rises es → Rises (filter p es)
rises_filtered p [] r = tt
rises_filtered p (e ∷ es) r = go (p e) (rises_filtered p es r.1)
  where
    go : (b : Bool) → Rises (filter p es) → Rises (cond b (e ∷ filter p es) (filter p es))
    go true rest = (each_filtered (λ f. e.0.order < f.0.order) p es r.0, rest)
    go false rest = rest

-- of those that pass one test, those that pass another that it follows from
filter_twice : (p q : Entry → Bool) → ((e : Entry) → p e ≡ true → q e ≡ true) → (es : List Entry)
    → filter p (filter q es) ≡ filter p es
filter_twice p q follows [] = refl
filter_twice p q follows (e ∷ es) = go (p e) (q e) refl refl (filter_twice p q follows es)
  where
    go : (b c : Bool) → p e ≡ b → q e ≡ c → filter p (filter q es) ≡ filter p es
        → filter p (cond c (e ∷ filter q es) (filter q es)) ≡ cond b (e ∷ filter p es) (filter p es)
    go true true s t rest = ap (λ z. cond z (e ∷ filter p (filter q es)) (filter p (filter q es))) s
        ∙ ap (λ z. e ∷ z) rest
    go true false s t rest = let no : ⊥ = (let z : false ≡ true = sym t ∙ follows e s in cc) in absurd no
    go false true s t rest = ap (λ z. cond z (e ∷ filter p (filter q es)) (filter p (filter q es))) s ∙ rest
    go false false s t rest = rest

module _ (h : DistrictKey) where
  abbrev is_in : Entry → Type 0
  is_in e = district_of_order e.0 ≡ h

  order_below : (a b : OrderKey) → district_of_order a ≡ h → district_of_order b ≡ h → T (is_lt (order_cmp a b))
      → a.order < b.order
  order_below a b d e l =
      let w : a.warehouse ≡ b.warehouse = ap (λ (g : DistrictKey). g.warehouse) (d ∙ sym e) in
      let n : a.district ≡ b.district = ap (λ (g : DistrictKey). g.district) (d ∙ sym e) in
      lower a.order b.order (nat_cmp a.order b.order) refl
      (subst T (ap is_lt (λ i. ordering_then (same_number a.warehouse b.warehouse w i)
      (ordering_then (same_number a.district b.district n i) (nat_cmp a.order b.order)))) l)

  above : (e : Entry) (es : List Entry) → T (below_all order_cmp e.0 es) → is_in e → EachOf is_in es
      → EachOf (λ f. e.0.order < f.0.order) es
  above e [] b d ds = tt
  above e (f ∷ es) b d ds = (
    order_below e.0 f.0 d ds.0 (left (is_lt (order_cmp e.0 f.0)) (below_all order_cmp e.0 es) b),
    above e es
        (right (is_lt (order_cmp e.0 f.0)) (below_all order_cmp e.0 es) b) d ds.1,
  )

  rise : (es : List Entry) → T (is_sorted order_cmp es) → EachOf is_in es → Rises es
  rise [] s ds = tt
  rise (e ∷ es) s ds = (
    above e es (left (below_all order_cmp e.0 es) (is_sorted order_cmp es) s) ds.0 ds.1,
    rise es
        (right (below_all order_cmp e.0 es) (is_sorted order_cmp es) s) ds.1,
  )

  abbrev pub in_district : OrderKey → Bool
  in_district o = eq_by_cmp district_cmp (district_of_order o) h

  abbrev group : FinMap order_cmp Order → List Entry
  group m = entries (retain_keys m in_district)

  group_rises : (m : FinMap order_cmp Order) → Rises (group m)
  group_rises m =
      rise (group m) (entries_sorted (retain_keys m in_district))
      (each_of (λ e. (in_district e.0 ≡ true) × (get m e.0 ≡ Some e.1)) is_in
      (λ e t. is_same district_total exact_district (district_of_order e.0) h t.0) (group m)
      (kept_at order_total exact_order m in_district))

  group_is : (m : FinMap order_cmp Order) → group m ≡ filter (λ e. in_district e.0) (entries m)
  group_is m =
      sym (same_entries order_cmp order_total exact_order _ _
      (is_sorted-where_key order_cmp in_district (entries m) (entries_sorted m))
      (entries_sorted (retain_keys m in_district)) (λ k.
      find-where_key order_cmp in_district k (λ x e. ap in_district (sym (exact_order k x e))) (entries m)
      ∙ ap (λ o. cond (in_district k) o None) (sym (get-entries m k))
      ∙ sym (get-retain_keys m in_district k (λ x e. ap in_district (sym (exact_order k x e))))
      ∙ get-entries (retain_keys m in_district) k))

module _ (c : CustomerKey) where
  abbrev pub is_own : Entry → Bool
  is_own e = eq_by_cmp customer_cmp (customer_of_order e.0 e.1) c

  own_in : (e : Entry) → is_own e ≡ true → in_district (district_of_customer c) e.0 ≡ true
  own_in e t =
      let same : customer_of_order e.0 e.1 ≡ c = is_same customer_total exact_customer (customer_of_order e.0 e.1) c
      t in
      ap (λ (k : CustomerKey). eq_by_cmp district_cmp (district_of_order e.0) (district_of_customer k)) (sym same)
      ∙ is_self district_total exact_district (district_of_order e.0)

  pub last_is : (m : FinMap order_cmp Order) → last_order c m ≡ final None (orders_of c m)
  last_is m =
      let es : List Entry = group (district_of_customer c) m in
      let owned : orders_of c m ≡ filter is_own es =
      sym (ap (filter is_own) (group_is (district_of_customer c) m) ∙ filter_twice is_own
      (λ e. in_district (district_of_customer c) e.0) own_in (entries m))
      in
      ap (λ xs. find (λ e. not (has_larger e xs)) xs) owned
      ∙ find_last (filter is_own es) (filter is_own es)
      (rises_filtered is_own es (group_rises (district_of_customer c) m)) (each_refl (filter is_own es))
      ∙ ap (final None) (sym owned)
    where
      each_refl : (xs : List Entry)
          → EachOf (λ e. has_larger e (filter is_own (group (district_of_customer c) m)) ≡ has_larger e
          (filter is_own (group (district_of_customer c) m))) xs
      each_refl [] = tt
      each_refl (x ∷ xs) = (refl, each_refl xs)

  pub last_has : (P : Entry → Type 0) (before : Option Entry) (es : List Entry) (e : Entry)
      → ((f : Entry) → before ≡ Some f → P f) → EachOf P es → final before es ≡ Some e → P e
  last_has P before [] e first each is = first e is
  last_has P before (f ∷ es) e first each is =
      last_has P (Some f) es e (λ g h. subst P (some_inj f g h) each.0) each.1 is

  owned : (es : List Entry) → EachOf (λ e. is_own e ≡ true) (filter is_own es)
  owned [] = tt
  owned (e ∷ es) = go (is_own e) refl (owned es)
    where
      go : (b : Bool) → is_own e ≡ b → EachOf (λ e. is_own e ≡ true) (filter is_own es)
          → EachOf (λ e. is_own e ≡ true) (cond b (e ∷ filter is_own es) (filter is_own es))
      go true t rest = (t, rest)
      go false t rest = rest

  -- the key of the last order, by its number
  pub last_key : (m : FinMap order_cmp Order) (e : Entry) → last_order c m ≡ Some e
      → e.0 ≡ order_in (district_of_customer c) e.0.order
  last_key m e is =
      let own : is_own e ≡ true =
      last_has (λ f. is_own f ≡ true) None (orders_of c m) e (λ f h. let no : ⊥ = cc in absurd no)
      (owned (entries m)) (sym (last_is m) ∙ is)
      in
      let same : customer_of_order e.0 e.1 ≡ c =
      is_same customer_total exact_customer (customer_of_order e.0 e.1) c own in
      ap (λ (k : CustomerKey). order_in (district_of_customer k) e.0.order) same

  -- a customer without a last order has none
  pub none_last : (m : FinMap order_cmp Order) (n : Option ℕ)
      → n ≡ option_map (λ (e : Entry). e.0.order) (last_order c m) → n ≡ None → None ≡ last_order c m
  none_last m n is none =
      sym (mapped_absent (λ (e : Entry). e.0.order) (last_order c m) (sym is ∙ none))

  -- the last order is a row of its key
  last_at : (m : FinMap order_cmp Order) (e : Entry) → last_order c m ≡ Some e → get m e.0 ≡ Some e.1
  last_at m e is =
      last_has (λ f. get m f.0 ≡ Some f.1) None (orders_of c m) e (λ f h. let no : ⊥ = cc in absurd no)
      (each_filtered (λ f. get m f.0 ≡ Some f.1) is_own (entries m) (entries_at order_total m))
      (sym (last_is m) ∙ is)

  -- the row of the last order's number
  row_of_last : (m : FinMap order_cmp Order) (n : ℕ) (k : OrderKey) (e : Entry) → last_order c m ≡ Some e
      → n ≡ e.0.order → k ≡ order_in (district_of_customer c) n → (e.0 ≡ k) × (get m k ≡ Some e.1)
  row_of_last m n k e is number at =
      let own : e.0 ≡ k =
      last_key m e is ∙ ap (order_in (district_of_customer c)) (sym number) ∙ sym at
      in
      (own, sym (ap (get m) own) ∙ last_at m e is)

  pub last_found : (m : FinMap order_cmp Order) (n : ℕ) (k : OrderKey) (y : Order)
      → Some n ≡ option_map (λ (e : Entry). e.0.order) (last_order c m) → k ≡ order_in (district_of_customer c) n
      → get m k ≡ Some y → Some (k, y) ≡ last_order c m
  last_found m n k y is at there = go (last_order c m) refl is
    where
      go : (v : Option Entry) → last_order c m ≡ v → Some n ≡ option_map (λ (e : Entry). e.0.order) v
          → Some (k, y) ≡ last_order c m
      go None none e = let no : ⊥ = cc in absurd no
      go (Some e) last number =
          let r = row_of_last m n k e last (some_inj n e.0.order number) at in
          let same : y ≡ e.1 = some_inj y e.1 (sym there ∙ r.1) in
          (λ i. Some (sym r.0 i, same i)) ∙ sym last

  pub last_absent : (m : FinMap order_cmp Order) (n : ℕ) (k : OrderKey)
      → Some n ≡ option_map (λ (e : Entry). e.0.order) (last_order c m) → k ≡ order_in (district_of_customer c) n
      → get m k ≡ None → None ≡ last_order c m
  last_absent m n k is at none = go (last_order c m) refl is
    where
      go : (v : Option Entry) → last_order c m ≡ v → Some n ≡ option_map (λ (e : Entry). e.0.order) v
          → None ≡ last_order c m
      go None last e = sym last
      go (Some e) last number =
          let r = row_of_last m n k e last (some_inj n e.0.order number) at in
          let there : ◌≡◌ {A = Option Order} None (Some e.1) = sym none ∙ r.1 in
          let no : ⊥ = cc in absurd no
