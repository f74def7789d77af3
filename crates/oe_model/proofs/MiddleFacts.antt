-- By last name the customer in the middle is chosen, where there is any.
use Rattle.std.proofs.Common.{◌≡◌, ℕ, ◌+◌, ◌-◌, ◌/◌, ◌<◌, ◌≤◌, refl, sym, ◌∙◌, ap, subst, Bool, true, false, cond, List}
use Rattle.std.proofs.Common.{[], ◌∷◌, length, Option, Some, None, inl, inr, arith}
use Rattle.std.specs.Prelude.{◌&&◌, ◌==◌, T, count_by, find, option_map}
use Rattle.std.specs.List.{filter_map, cons_option}
use Rattle.std.specs.declared.cmp.Ordering.{Ordering}
use Rattle.std.specs.Cmp.{IsTotalOrder, nat_cmp_total}
use Rattle.std.specs.Cmp.Lexicographic.{slice_cmp, nat_list_cmp_total}
use Rattle.std.specs.Ordering.{eq_by_cmp, nat_cmp, ordering_then}
use Rattle.std.proofs.lemmas.Bool.{eqb-true, eq-eqb}
use Rattle.std.proofs.lemmas.Cmp.{on_total, then_total}
use Rattle.std.proofs.lemmas.Map.Lookups.{exact_pairs, exact_unsigned}
use Rattle.std.specs.FinMap.{FinMap, IsAntisymmetric, get, entries, entries_sorted, nat_cmp-IsAntisymmetric}
use Rattle.std.specs.FinMap.{slice_cmp-IsAntisymmetric}
use Rattle.std.specs.FinMap.Entries.{is_sorted, below_all}
use Rattle.oe_rows.specs.Key.{district_cmp, customer_cmp}
use Rattle.oe_rows.specs.declared.keys.DistrictKey.{DistrictKey}
use Rattle.oe_rows.specs.declared.keys.CustomerKey.{CustomerKey}
use Rattle.oe_rows.specs.declared.customers.Customer.{Customer}
use Rattle.oe_rows.proofs.KeyFacts.{district_total, exact_district, customer_total, exact_customer}
use Rattle.oe_model.specs.Lists.{IsAmong, IsDistinct}
use Rattle.oe_model.specs.Keys.{customer_in, district_of_customer}
use Rattle.oe_model.specs.Choice.{first_name_of, namesakes, comes_before, middle}
use Rattle.oe_model.specs.Rules.{Name_is_middle}
use Rattle.oe_model.proofs.MapFacts.{is_same, is_self}
use Rattle.oe_model.proofs.EntryFacts.{EachOf, later, entries_at, row_among}
use Rattle.oe_model.proofs.ListFacts.{each_among, found_passes, none_passes}
use Rattle.oe_model.proofs.RankFacts.{HasRank, each_rank}

-- the order of C_FIRST and C_ID
abbrev name_order : List ℕ × ℕ → List ℕ × ℕ → Ordering
name_order a b = ordering_then (slice_cmp nat_cmp a.0 b.0) (nat_cmp a.1 b.1)

order_total : IsTotalOrder name_order
order_total = then_total (on_total (λ p. p.0) nat_list_cmp_total) (on_total (λ p. p.1) nat_cmp_total)

order_exact : IsAntisymmetric name_order
order_exact = exact_pairs (slice_cmp nat_cmp) nat_cmp (slice_cmp-IsAntisymmetric nat_cmp-IsAntisymmetric) exact_unsigned

same_text : (a b : List ℕ) → eq_by_cmp (slice_cmp nat_cmp) a b ≡ true → a ≡ b
same_text a b e = is_same nat_list_cmp_total (slice_cmp-IsAntisymmetric nat_cmp-IsAntisymmetric) a b e

-- what a filter takes, of what it takes it
module _ {A B : Type 0} (g : A → Option B) where
  from_among : (xs : List A) (y : B) → IsAmong y (filter_map g xs) → (x : A) × IsAmong x xs × (g x ≡ Some y)
  from_among [] y i = absurd i
  from_among (x ∷ xs) y i = by_value (g x) refl i (from_among xs y)
    where
      more : (x' : A) × IsAmong x' xs × (g x' ≡ Some y) → (x' : A) × IsAmong x' (x ∷ xs) × (g x' ≡ Some y)
      more h = (h.0, inr h.1, h.2)

      by_value : (v : Option B) → g x ≡ v → IsAmong y (cons_option v (filter_map g xs))
          → (IsAmong y (filter_map g xs) → (x' : A) × IsAmong x' xs × (g x' ≡ Some y))
          → (x' : A) × IsAmong x' (x ∷ xs) × (g x' ≡ Some y)
      by_value None e i rest = more (rest i)
      by_value (Some b) e (inl s) rest = (x, inl refl, e ∙ ap Some s)
      by_value (Some b) e (inr i) rest = more (rest i)

  into_among : (xs : List A) (x : A) (y : B) → IsAmong x xs → g x ≡ Some y → IsAmong y (filter_map g xs)
  into_among [] x y i e = i
  into_among (z ∷ xs) x y (inl s) e = subst (λ v. IsAmong y (cons_option v (filter_map g xs))) (sym (ap g s ∙ e))
      (inl refl)
  into_among (z ∷ xs) x y (inr i) e = by_value (g z) (into_among xs x y i e)
    where
      by_value : (v : Option B) → IsAmong y (filter_map g xs) → IsAmong y (cons_option v (filter_map g xs))
      by_value None j = j
      by_value (Some b) j = inr j

left : (a b : Bool) → T (a && b) → T a
left true b p = tt
left false b p = p

right : (a b : Bool) → T (a && b) → T b
right true b p = p
right false b p = absurd p

module _ (m : FinMap customer_cmp Customer) (h : DistrictKey) (last : List ℕ) where
  abbrev take_name : CustomerKey × Customer → Option (List ℕ × ℕ)
  take_name e = first_name_of h last e.0 e.1

  -- what it says of a customer that its name is taken
  record IsNamed (k : CustomerKey) (x : Customer) (p : List ℕ × ℕ) : Type 0 where
    key : k ≡ customer_in h p.1
    last_name : x.name.last ≡ last
    first : x.name.first ≡ p.0

  is_named : (k : CustomerKey) (x : Customer) (p : List ℕ × ℕ) → first_name_of h last k x ≡ Some p → IsNamed k x p
  is_named k x p e = by_tests (eq_by_cmp district_cmp (district_of_customer k) h)
      (eq_by_cmp (slice_cmp nat_cmp) x.name.last last) refl refl e
    where
      by_tests : (a b : Bool) → eq_by_cmp district_cmp (district_of_customer k) h ≡ a
          → eq_by_cmp (slice_cmp nat_cmp) x.name.last last ≡ b
          → cond (a && b) (Some (x.name.first, k.customer)) None ≡ Some p → IsNamed k x p
      by_tests true true s t e =
          let value : List ℕ × ℕ → Option (List ℕ × ℕ) → List ℕ × ℕ = λ d o. (elim o [ None ↦ d | Some v ↦ v ]) in
          let pair : ◌≡◌ {A = List ℕ × ℕ} (x.name.first, k.customer) p = ap (value p) e in
          record {
            key = ap (λ (d : DistrictKey). customer_in d k.customer)
                (is_same district_total exact_district (district_of_customer k) h s)
                ∙ ap (λ (v : List ℕ × ℕ). customer_in h v.1) pair;
            last_name = same_text x.name.last last t;
            first = ap (λ (v : List ℕ × ℕ). v.0) pair;
          }
      by_tests true false s t e = let no : ⊥ = cc in absurd no
      by_tests false b s t e = let no : ⊥ = cc in absurd no

  names_it : (c : ℕ) (x : Customer) → x.name.last ≡ last → first_name_of h last (customer_in h c) x
      ≡ Some (x.name.first, c)
  names_it c x e =
      ap (λ b. cond {A = Option (List ℕ × ℕ)} (b && eq_by_cmp (slice_cmp nat_cmp) x.name.last last)
      (Some (x.name.first, c)) None) (is_self district_total exact_district h)
      ∙ ap (λ b. cond {A = Option (List ℕ × ℕ)} b (Some (x.name.first, c)) None)
      (ap (λ z. eq_by_cmp (slice_cmp nat_cmp) z last) e ∙ is_self nat_list_cmp_total
      (slice_cmp-IsAntisymmetric nat_cmp-IsAntisymmetric) last)

  abbrev ps : List (List ℕ × ℕ)
  ps = namesakes h last m

  -- no name is taken twice
  distinct_in : (es : List (CustomerKey × Customer)) → T (is_sorted customer_cmp es)
      → IsDistinct (filter_map take_name es)
  distinct_in [] s = tt
  distinct_in (e ∷ es) s = by_name (take_name e) refl
      (distinct_in es (right (below_all customer_cmp e.0 es) (is_sorted customer_cmp es) s))
    where
      above : EachOf (λ f. eq_by_cmp customer_cmp f.0 e.0 ≡ false) es
      above = later customer_total e es (left (below_all customer_cmp e.0 es) (is_sorted customer_cmp es) s)

      by_name : (v : Option (List ℕ × ℕ)) → take_name e ≡ v → IsDistinct (filter_map take_name es)
          → IsDistinct (cons_option v (filter_map take_name es))
      by_name None t rest = rest
      by_name (Some p) t rest = ((λ i. twice i), rest)
        where
          twice : IsAmong p (filter_map take_name es) → ⊥
          twice i =
              let f = from_among take_name es p i in
              let one = is_named e.0 e.1 p t in
              let two = is_named f.0.0 f.0.1 p f.2 in
              let same : f.0.0 ≡ e.0 = two.key ∙ sym one.key in
              let differs : eq_by_cmp customer_cmp f.0.0 e.0 ≡ false = each_among
              (λ f. eq_by_cmp customer_cmp f.0 e.0 ≡ false) es f.0 above f.1 in
              let no : true ≡ false = sym (is_self customer_total exact_customer e.0)
              ∙ ap (λ z. eq_by_cmp customer_cmp z e.0) (sym same) ∙ differs in
              let z : ⊥ = cc in z

  distinct : IsDistinct ps
  distinct = distinct_in (entries m) (entries_sorted m)

  abbrev in_middle : List ℕ × ℕ → Bool
  in_middle p = count_by (λ y. comes_before y p) ps + 1 == (length ps + 1) / 2

  found : (c : ℕ) → middle ps ≡ Some c → (x : Customer) × (get m (customer_in h c) ≡ Some x) × (x.name.last ≡ last)
      × (count_by (λ y. comes_before y (x.name.first, c)) ps + 1 ≡ (length ps + 1) / 2)
  found c e = by_found (find in_middle ps) refl e
    where
      by_found : (v : Option (List ℕ × ℕ)) → find in_middle ps ≡ v → option_map (λ x. x.1) v ≡ Some c
          → (x : Customer) × (get m (customer_in h c) ≡ Some x) × (x.name.last ≡ last)
          × (count_by (λ y. comes_before y (x.name.first, c)) ps + 1 ≡ (length ps + 1) / 2)
      by_found None t e = let no : ⊥ = cc in absurd no
      by_found (Some p) t e =
          let number : p.1 ≡ c = cc in
          let passes = found_passes in_middle ps p t in
          let f = from_among take_name (entries m) p passes.1 in
          let n = is_named f.0.0 f.0.1 p f.2 in
          let at : get m f.0.0 ≡ Some f.0.1 = each_among (λ e. get m e.0 ≡ Some e.1) (entries m) f.0
          (entries_at customer_total m) f.1 in
          let pair : ◌≡◌ {A = List ℕ × ℕ} p (f.0.1.name.first, c) = (λ i. (sym n.first i, number i)) in (
            f.0.1,
            ap (get m) (sym (n.key ∙ ap (customer_in h) number)) ∙ at,
            n.last_name,
            ap (λ (z : List ℕ × ℕ). count_by (λ y. comes_before y z) ps + 1) (sym pair) ∙ eqb-true _ _ passes.0,
          )

  some_length : {A : Type 0} (x : A) (xs : List A) → IsAmong x xs → 1 ≤ length xs
  some_length x [] i = absurd i
  some_length x (y ∷ xs) i = omega arith

  half : (n : ℕ) → 1 ≤ n → (1 ≤ (n + 1) / 2) × ((n + 1) / 2 ≤ n)
  half n h = ((let z : 1 ≤ (n + 1) / 2 = omega arith in z), (let z : (n + 1) / 2 ≤ n = omega arith in z))

  none_named : (c : ℕ) (x : Customer) → middle ps ≡ None → get m (customer_in h c) ≡ Some x → x.name.last ≡ last → ⊥
  none_named c x e at own =
      let i : IsAmong (x.name.first, c) ps = into_among take_name (entries m) (customer_in h c, x) (x.name.first, c)
      (row_among customer_total exact_customer m (customer_in h c) x at) (names_it c x own) in
      let size = some_length (x.name.first, c) ps i in
      let mid = half (length ps) size in
      let top : (n : ℕ) × (n ≡ (length ps + 1) / 2) = ((length ps + 1) / 2, refl) in
      let low : 1 ≤ top.0 = subst (λ z. 1 ≤ z) (sym top.1) mid.0 in
      let high : top.0 ≤ length ps = subst (λ z. z ≤ length ps) (sym top.1) mid.1 in
      let r : HasRank order_total order_exact ps (top.0 - 1) = each_rank order_total order_exact ps distinct (top.0 - 1)
      (let z : top.0 - 1 < length ps = omega arith in z) in
      let is : count_by (λ y. comes_before y r.0) ps ≡ top.0 - 1 = r.2 in
      let one : count_by (λ y. comes_before y r.0) ps + 1 ≡ top.0 = omega arith in
      none_passes in_middle ps r.0 (nothing (find in_middle ps) e) r.1 (eq-eqb _ _ (one ∙ top.1))
    where
      nothing : (v : Option (List ℕ × ℕ)) → option_map (λ x. x.1) v ≡ None → v ≡ None
      nothing None e = refl
      nothing (Some p) e = let no : ⊥ = cc in absurd no

pub name_is_middle : Name_is_middle
name_is_middle = record {
  some = λ m h last c e. found m h last c e;
  none = λ m h last c x e at own. none_named m h last c x e at own;
}
