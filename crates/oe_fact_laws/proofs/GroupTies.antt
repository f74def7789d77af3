-- Conditions 2, 3 and 7 are checked: the greatest and the least number of a district's rows, and the lines of an order.
use Rattle.std.proofs.Common.{◌≡◌, ℕ, ◌+◌, ◌-◌, ◌≤◌, refl, sym, ◌∙◌, ap, subst, Bool, true, false}
use Rattle.std.proofs.Common.{min, max, Option, Some, None, List, inl, inr, arith, ℤ, pos, ◌+ℤ◌, ◌-ℤ◌}
use Rattle.std.specs.Prelude.{◌⊎◌, ◌↔◌, ◌&&◌, IsSome, unwrap_or, option_map}
use Rattle.std.specs.Int.{int_max, int_min}
use Rattle.std.specs.Cmp.{IsTotalOrder}
use Rattle.std.specs.declared.cmp.Ordering.{Ordering}
use Rattle.std.specs.FinMap.{FinMap, IsAntisymmetric, get}
use Rattle.std.proofs.lemmas.Int.{ints, clamps}
use lib.IntN.{+ℤ_assoc, +ℤ_comm}
use Rattle.oe_rows.specs.declared.keys.DistrictKey.{DistrictKey}
use Rattle.oe_rows.specs.declared.districts.District.{District}
use Rattle.oe_rows.proofs.KeyFacts.{district_total, exact_district, new_order_total, exact_new_order, order_total}
use Rattle.oe_rows.proofs.KeyFacts.{exact_order}
use Rattle.oe_model.specs.Keys.{district_of_order, district_of_new_order, customer_of_order}
use Rattle.oe_model.specs.Keys.{order_in, new_order_in}
use Rattle.oe_model.specs.Rows.{Rows}
use Rattle.oe_model.specs.Meets.{Meets}
use Rattle.oe_model.specs.Conditions as model
use Rattle.oe_model.specs.Conditions.{IsAfterGreatest, HasOrder, HasNewOrder, if_of, new_orders_of}
use Rattle.oe_model.proofs.MapFacts.{is_same, is_self}
use Rattle.oe_model.proofs.PresenceFacts.{present_some, some_present}
use Rattle.oe_facts.specs.declared.keys.DistrictId.{DistrictId}
use Rattle.oe_ledgers.specs.ColumnLaws.{int_max_associative, int_max_commutative}
use Rattle.oe_ledgers.specs.Columns.{of_key}
use Rattle.oe_ledgers.specs.Keys as ids
use Rattle.oe_ledgers.specs.Keys.{same_district}
use Rattle.oe_ledgers.specs.Figures.{d_next_order, greatest_order, greatest_new_order, least_new_order}
use Rattle.oe_ledgers.specs.Figures.{new_orders_of_district}
use Rattle.oe_checks.specs.Comparing.{next, next_if_any, span, unless_equal}
use Rattle.oe_checks.specs.Conditions as checks
use Rattle.oe_fact_laws.specs.Facts.{Facts, AreFactsOf, AreOf, district_fact, order_fact, new_order_fact}
use Rattle.oe_fact_laws.specs.Facts.{district_id}
use Rattle.oe_fact_laws.specs.FactLaws.{FindsNothing, AreNumbersToGive}
use Rattle.oe_fact_laws.proofs.FigureFacts.{of_row, sum_of_group, IsFigure, extreme, none_there}
use Rattle.oe_fact_laws.proofs.TiedFacts.{district_tie, both_ways, by_rows, equal_tied}
use Rattle.oe_fact_laws.proofs.TiedFacts.{int_min_associative, int_min_commutative}

-- the greatest, or the least, number of a district's rows
module _ {K X F : Type 0} {R : K → K → Ordering} (o : IsTotalOrder R) (exact : IsAntisymmetric R) (fact : K → X → F)
    (m : FinMap R X) (facts : List F) (are : AreOf fact m facts) (key : F → DistrictId) (number : F → ℕ)
    (of : K → DistrictKey) (key_is : (k : K) (x : X) → key (fact k x) ≡ district_id (of k))
    (number_of : K → ℕ) (number_is : (k : K) (x : X) → number (fact k x) ≡ number_of k)
    (key_in : DistrictKey → ℕ → K) (whole : (k : K) → key_in (of k) (number_of k) ≡ k)
    (of_in : (h : DistrictKey) (n : ℕ) → of (key_in h n) ≡ h)
    (number_in : (h : DistrictKey) (n : ℕ) → number_of (key_in h n) ≡ n) (h : DistrictKey)
    (op : ℤ → ℤ → ℤ) (assoc : (a b c : ℤ) → op (op a b) c ≡ op a (op b c)) (comm : (a b : ℤ) → op a b ≡ op b a)
    (chosen : ℕ → ℕ → ℕ) (is : (a b : ℕ) → op (pos a) (pos b) ≡ pos (chosen a b))
    (before : ℕ → ℕ → Type 0) (itself : (a : ℕ) → before a a)
    (pass : (a b c : ℕ) → before a b → before b c → before a c)
    (of_first : (a b : ℕ) → before a (chosen a b)) (of_second : (a b : ℕ) → before b (chosen a b))
    (either : (a b : ℕ) → (chosen a b ≡ a) ⊎ (chosen a b ≡ b)) where
  abbrev Has : ℕ → Type 0
  Has n = IsSome (get m (key_in h n))

  abbrev figure : Option ℤ
  figure = of_key same_district key op (λ f. pos (number f)) facts (district_id h)

  -- there is no row, or the figure is the number that goes farthest
  abbrev pub IsKnown : Type 0
  IsKnown = ((figure ≡ None) × ((n : ℕ) → Has n → ⊥))
      ⊎ ((g : ℕ) × (figure ≡ Some (pos g)) × Has g × ((n : ℕ) → Has n → before n g))

  inside : (k : K) (x : X) (n : ℕ) → k ≡ key_in h n → same_district (key (fact k x)) (district_id h) ≡ true
  inside k x n s =
      ap (λ d. same_district d (district_id h)) (key_is k x ∙ ap district_id (ap of s ∙ of_in h n))
      ∙ district_tie h h ∙ is_self district_total exact_district h

  known : (s : Option ℤ) → figure ≡ s
      → IsFigure o exact fact m facts are same_district key number (district_id h) op assoc comm chosen is before itself
      pass of_first of_second either s → IsKnown
  known None e none =
      inl (
        e,
        λ n p.
            let row = present_some (get m (key_in h n)) p in
            let no : true ≡ false = sym (inside (key_in h n) row.0 n refl) ∙ none (key_in h n) row.0 row.1 in
            (let z : ⊥ = cc in z),
      )
  known (Some z) e (g, same_z, x) =
      let home : of x.at ≡ h =
      is_same district_total exact_district (of x.at) h
      (sym (district_tie (of x.at) h) ∙ ap (λ d. same_district d (district_id h)) (sym (key_is x.at x.row)) ∙ x.inside)
      in
      let here : key_in h g ≡ x.at =
      (λ i. key_in (sym home i) ((sym x.has ∙ number_is x.at x.row) i)) ∙ whole x.at in
      inr (
        g,
        e ∙ ap Some same_z,
        some_present (get m (key_in h g)) x.row (ap (get m) here ∙ x.there),
        λ n p.
            let row = present_some (get m (key_in h n)) p in
            subst (λ (i : ℕ). before i g) (number_is (key_in h n) row.0 ∙ number_in h n)
            (x.most (key_in h n) row.0 row.1 (inside (key_in h n) row.0 n refl)),
      )

  pub is_known : IsKnown
  is_known = known figure refl
      (extreme o exact fact m facts are same_district key number (district_id h) op assoc comm chosen is before itself
      pass of_first of_second either)

-- with the greatest and the least of two
is_max : (a b : ℕ) → int_max (pos a) (pos b) ≡ pos (max a b)
is_max a b = omega (arith, ints, clamps)

is_min : (a b : ℕ) → int_min (pos a) (pos b) ≡ pos (min a b)
is_min a b = omega (arith, ints, clamps)

one_of_max : (a b : ℕ) → (max a b ≡ a) ⊎ (max a b ≡ b)
one_of_max a b = by_test (Rattle.std.specs.Prelude.nat_le a b) refl
  where
    by_test : (t : Bool) → Rattle.std.specs.Prelude.nat_le a b ≡ t → (max a b ≡ a) ⊎ (max a b ≡ b)
    by_test true e = let h = Rattle.std.proofs.lemmas.Bool.leb-true a b e in inr (omega arith)
    by_test false e = let h = Rattle.std.proofs.lemmas.Bool.leb-false a b e in inl (omega arith)

one_of_min : (a b : ℕ) → (min a b ≡ a) ⊎ (min a b ≡ b)
one_of_min a b = by_test (Rattle.std.specs.Prelude.nat_le a b) refl
  where
    by_test : (t : Bool) → Rattle.std.specs.Prelude.nat_le a b ≡ t → (min a b ≡ a) ⊎ (min a b ≡ b)
    by_test true e = let h = Rattle.std.proofs.lemmas.Bool.leb-true a b e in inl (omega arith)
    by_test false e = let h = Rattle.std.proofs.lemmas.Bool.leb-false a b e in inr (omega arith)

module _ (f : Facts) (r : Rows) (are : AreFactsOf f r) where
  orders_known : (h : DistrictKey)
      → ((greatest_order f.orders (district_id h) ≡ None) × ((n : ℕ) → HasOrder r h n → ⊥))
      ⊎ ((g : ℕ) × (greatest_order f.orders (district_id h) ≡ Some (pos g)) × HasOrder r h g
      × ((n : ℕ) → HasOrder r h n → n ≤ g))
  orders_known h =
      is_known order_total exact_order order_fact r.orders f.orders are.orders (λ z. ids.district_of_order z.key)
      (λ z. z.key.order) district_of_order (λ k x. refl) (λ k. k.order) (λ k x. refl) order_in (λ k. refl)
      (λ h n. refl) (λ h n. refl) h int_max int_max_associative int_max_commutative max is_max (λ a b. a ≤ b)
      (λ a. omega arith) (λ a b c p q. omega arith) (λ a b. omega arith) (λ a b. omega arith) one_of_max

  waiting_known : (h : DistrictKey)
      → ((greatest_new_order f.new_orders (district_id h) ≡ None) × ((n : ℕ) → HasNewOrder r h n → ⊥))
      ⊎ ((g : ℕ) × (greatest_new_order f.new_orders (district_id h) ≡ Some (pos g)) × HasNewOrder r h g
      × ((n : ℕ) → HasNewOrder r h n → n ≤ g))
  waiting_known h =
      is_known new_order_total exact_new_order new_order_fact r.new_orders f.new_orders are.new_orders
      (λ z. ids.district_of_order z.key) (λ z. z.key.order) district_of_new_order (λ k x. refl) (λ k. k.order)
      (λ k x. refl) new_order_in (λ k. refl) (λ h n. refl) (λ h n. refl) h int_max int_max_associative
      int_max_commutative max is_max (λ a b. a ≤ b) (λ a. omega arith) (λ a b c p q. omega arith)
      (λ a b. omega arith) (λ a b. omega arith) one_of_max

  oldest_known : (h : DistrictKey)
      → ((least_new_order f.new_orders (district_id h) ≡ None) × ((n : ℕ) → HasNewOrder r h n → ⊥))
      ⊎ ((g : ℕ) × (least_new_order f.new_orders (district_id h) ≡ Some (pos g)) × HasNewOrder r h g
      × ((n : ℕ) → HasNewOrder r h n → g ≤ n))
  oldest_known h =
      is_known new_order_total exact_new_order new_order_fact r.new_orders f.new_orders are.new_orders
      (λ z. ids.district_of_order z.key) (λ z. z.key.order) district_of_new_order (λ k x. refl) (λ k. k.order)
      (λ k x. refl) new_order_in (λ k. refl) (λ h n. refl) (λ h n. refl) h int_min int_min_associative
      int_min_commutative min is_min (λ a b. b ≤ a) (λ a. omega arith) (λ a b c p q. omega arith)
      (λ a b. omega arith) (λ a b. omega arith) one_of_min

  next_is : (h : DistrictKey) → d_next_order f.districts (district_id h) ≡ option_map (λ x. pos x.next_order)
      (get r.districts h)
  next_is h =
      of_row district_total exact_district district_fact r.districts f.districts are.districts same_district
      (λ z. z.key) int_max int_max_associative int_max_commutative (λ z. pos z.next_order) district_id
      (λ a x b. district_tie a b) h

  next_of : (h : DistrictKey) (x : District) → get r.districts h ≡ Some x
      → d_next_order f.districts (district_id h) ≡ Some (pos x.next_order)
  next_of h x e = next_is h ∙ ap (option_map (λ (y : District). pos y.next_order)) e

  no_next : (h : DistrictKey) → get r.districts h ≡ None → d_next_order f.districts (district_id h) ≡ None
  no_next h e = next_is h ∙ ap (option_map (λ (y : District). pos y.next_order)) e

  -- one more than the greatest
  after_tied : (P : ℕ → Type 0) (n g : ℕ) → P g → ((m : ℕ) → P m → m ≤ g)
      → (unless_equal (pos n) (pos g +ℤ pos 1) ≡ None) ↔ IsAfterGreatest P n
  after_tied P n g has most =
      both_ways (equal_tied (pos n) (pos g +ℤ pos 1)) (
        λ e. (g, (let z : n ≡ g + 1 = omega (arith, ints) in z), (has, most)),
        λ a.
            let low : a.0 ≤ g = most a.0 a.2.0 in
            let high : g ≤ a.0 = a.2.1 g has in
            let next : n ≡ a.0 + 1 = a.1 in
            omega (arith, ints),
      )

  orders_tied : (h : DistrictKey) (x : District) → 1 ≤ x.next_order → get r.districts h ≡ Some x
      → (checks.condition_2_of_orders f.districts f.orders (district_id h) ≡ None)
      ↔ IsAfterGreatest (HasOrder r h) x.next_order
  orders_tied h x low e = go (orders_known h)
    where
      go : ((greatest_order f.orders (district_id h) ≡ None) × ((n : ℕ) → HasOrder r h n → ⊥))
          ⊎ ((g : ℕ) × (greatest_order f.orders (district_id h) ≡ Some (pos g)) × HasOrder r h g
          × ((n : ℕ) → HasOrder r h n → n ≤ g))
          → (next (d_next_order f.districts (district_id h)) (greatest_order f.orders (district_id h)) ≡ None)
          ↔ IsAfterGreatest (HasOrder r h) x.next_order
      go (inl (none, nothing)) =
          let is : next (d_next_order f.districts (district_id h)) (greatest_order f.orders (district_id h))
          ≡ unless_equal (pos x.next_order) (pos 0) = (λ i. next (next_of h x e i) (none i)) in (
            λ t.
                let zero : pos x.next_order ≡ pos 0 = (equal_tied (pos x.next_order) (pos 0)).0 (sym is ∙ t) in
                absurd (let z : ⊥ = omega (arith, ints) in z),
            λ a. absurd (nothing a.0 a.2.0),
          )
      go (inr (g, some, has, most)) =
          let is : next (d_next_order f.districts (district_id h)) (greatest_order f.orders (district_id h))
          ≡ unless_equal (pos x.next_order) (pos g +ℤ pos 1) = (λ i. next (next_of h x e i) (some i)) in
          both_ways (λ t. sym is ∙ t, λ t. is ∙ t) (after_tied (HasOrder r h) x.next_order g has most)

  waiting_tied : (h : DistrictKey) (x : District) → get r.districts h ≡ Some x
      → (checks.condition_2_of_new_orders f.districts f.new_orders (district_id h) ≡ None)
      ↔ ((o : ℕ) → HasNewOrder r h o → IsAfterGreatest (HasNewOrder r h) x.next_order)
  waiting_tied h x e = go (waiting_known h)
    where
      go : ((greatest_new_order f.new_orders (district_id h) ≡ None) × ((n : ℕ) → HasNewOrder r h n → ⊥))
          ⊎ ((g : ℕ) × (greatest_new_order f.new_orders (district_id h) ≡ Some (pos g)) × HasNewOrder r h g
          × ((n : ℕ) → HasNewOrder r h n → n ≤ g))
          → (next_if_any (d_next_order f.districts (district_id h)) (greatest_new_order f.new_orders (district_id h))
          ≡ None) ↔ ((o : ℕ) → HasNewOrder r h o → IsAfterGreatest (HasNewOrder r h) x.next_order)
      go (inl (none, nothing)) =
          (λ t o p. absurd (nothing o p), λ a. (λ i. next_if_any (next_of h x e i) (none i)))
      go (inr (g, some, has, most)) =
          let is : next_if_any (d_next_order f.districts (district_id h))
          (greatest_new_order f.new_orders (district_id h))
          ≡ unless_equal (pos x.next_order) (pos g +ℤ pos 1) = (λ i. next_if_any (next_of h x e i) (some i)) in
          let tied = after_tied (HasNewOrder r h) x.next_order g has most in
          (λ t o p. tied.0 (sym is ∙ t), λ a. is ∙ tied.1 (a g has))

  abbrev AreAfterOrders : Type 0
  AreAfterOrders = (h : DistrictKey) (x : District) → get r.districts h ≡ Some x
      → IsAfterGreatest (HasOrder r h) x.next_order

  orders_checked : AreNumbersToGive r → FindsNothing (checks.condition_2_of_orders f.districts f.orders)
      ↔ AreAfterOrders
  orders_checked low =
      by_rows (checks.condition_2_of_orders f.districts f.orders) r.districts
      (λ h x. IsAfterGreatest (HasOrder r h) x.next_order) district_id
      (λ j. record { warehouse = j.warehouse; district = j.district }) (λ j. refl)
      (λ h e. ap (λ v. next v (greatest_order f.orders (district_id h))) (no_next h e))
      (λ h x e. orders_tied h x (low h x e) e)

  waiting_checked : FindsNothing (checks.condition_2_of_new_orders f.districts f.new_orders)
      ↔ ((h : DistrictKey) (x : District) → get r.districts h ≡ Some x
      → (o : ℕ) → HasNewOrder r h o → IsAfterGreatest (HasNewOrder r h) x.next_order)
  waiting_checked =
      by_rows (checks.condition_2_of_new_orders f.districts f.new_orders) r.districts
      (λ h x. (o : ℕ) → HasNewOrder r h o → IsAfterGreatest (HasNewOrder r h) x.next_order) district_id
      (λ j. record { warehouse = j.warehouse; district = j.district }) (λ j. refl)
      (λ h e. ap (λ v. next_if_any v (greatest_new_order f.new_orders (district_id h))) (no_next h e))
      (λ h x e. waiting_tied h x e)

  pub condition_2 : (FindsNothing (checks.condition_2_of_orders f.districts f.orders)
      × FindsNothing (checks.condition_2_of_new_orders f.districts f.new_orders) × AreNumbersToGive r)
      ↔ model.Condition_2 r
  condition_2 = (
    λ p h x e. record {
      orders = (orders_checked p.2).0 p.0 h x e;
      new_orders = waiting_checked.0 p.1 h x e;
    },
    λ c.
        let after : AreAfterOrders = λ h x e. (c h x e).orders in
        let low : AreNumbersToGive r = λ h x e.
        let a = after h x e in
        let next : x.next_order ≡ a.0 + 1 = a.1 in
        omega arith in
        ((orders_checked low).1 after, waiting_checked.1 (λ h x e. (c h x e).new_orders), low),
  )

  -- CONDITION 3

  queue_is : (h : DistrictKey)
      → unwrap_or (new_orders_of_district f.new_orders (district_id h)) (pos 0) ≡ pos (new_orders_of r h)
  queue_is h =
      sum_of_group new_order_total new_order_fact r.new_orders f.new_orders are.new_orders same_district
      (λ z. ids.district_of_order z.key) (λ z. pos 1) (district_id h) (λ k y. if_of h (district_of_new_order k) 1)
      (λ k y e. Rattle.oe_fact_laws.proofs.TiedFacts.counts_for _ _ 1 (district_tie (district_of_new_order k) h))

  -- a district with a row has a number of rows
  queue_some : (h : DistrictKey) (g : ℕ) → HasNewOrder r h g
      → new_orders_of_district f.new_orders (district_id h) ≡ Some (pos (new_orders_of r h))
  queue_some h g has = go (new_orders_of_district f.new_orders (district_id h)) refl (queue_is h)
    where
      go : (s : Option ℤ) → new_orders_of_district f.new_orders (district_id h) ≡ s
          → unwrap_or s (pos 0) ≡ pos (new_orders_of r h) → s ≡ Some (pos (new_orders_of r h))
      go (Some z) e is = ap Some is
      go None e is =
          let row = present_some (get r.new_orders (new_order_in h g)) has in
          let out : same_district (district_id h) (district_id h) ≡ false =
          none_there new_order_total exact_new_order new_order_fact r.new_orders f.new_orders are.new_orders
          same_district (λ z. ids.district_of_order z.key) (λ a b. a +ℤ b) +ℤ_assoc +ℤ_comm (λ z. pos 1)
          (district_id h) e (new_order_in h g) row.0 row.1 in
          let no : true ≡ false = sym (district_tie h h ∙ is_self district_total exact_district h) ∙ out in
          absurd (let z : ⊥ = cc in z)

  span_tied : (h : DistrictKey) → (checks.condition_3 f.new_orders (district_id h) ≡ None) ↔ model.Condition_3_at r h
  span_tied h = go (waiting_known h) (oldest_known h)
    where
      go : ((greatest_new_order f.new_orders (district_id h) ≡ None) × ((n : ℕ) → HasNewOrder r h n → ⊥))
          ⊎ ((g : ℕ) × (greatest_new_order f.new_orders (district_id h) ≡ Some (pos g)) × HasNewOrder r h g
          × ((n : ℕ) → HasNewOrder r h n → n ≤ g))
          → ((least_new_order f.new_orders (district_id h) ≡ None) × ((n : ℕ) → HasNewOrder r h n → ⊥))
          ⊎ ((g : ℕ) × (least_new_order f.new_orders (district_id h) ≡ Some (pos g)) × HasNewOrder r h g
          × ((n : ℕ) → HasNewOrder r h n → g ≤ n))
          → (span (greatest_new_order f.new_orders (district_id h)) (least_new_order f.new_orders (district_id h))
          (new_orders_of_district f.new_orders (district_id h)) ≡ None) ↔ model.Condition_3_at r h
      go (inl (none, nothing)) l = (
        λ t a b ga lb. absurd (nothing a ga.0),
        λ c. ap
            (λ v. span v (least_new_order f.new_orders (district_id h))
            (new_orders_of_district f.new_orders (district_id h))) none,
      )
      go (inr (g, some, has, most)) (inl (none, nothing)) = absurd (nothing g has)
      go (inr (g, some, has, most)) (inr (l, some_l, has_l, least)) =
          let is : span (greatest_new_order f.new_orders (district_id h)) (least_new_order f.new_orders (district_id h))
          (new_orders_of_district f.new_orders (district_id h))
          ≡ unless_equal ((pos g -ℤ pos l) +ℤ pos 1) (pos (new_orders_of r h)) =
          (λ i. span (some i) (some_l i) (queue_some h g has i)) in
          let order : l ≤ g = most l has_l in
          both_ways (λ t. sym is ∙ t, λ t. is ∙ t)
          (both_ways (equal_tied ((pos g -ℤ pos l) +ℤ pos 1) (pos (new_orders_of r h))) (
            λ e a b ga lb.
                let same_g : a ≡ g = (let p = most a ga.0 in let q = ga.1 g has in omega arith) in
                let same_l : b ≡ l = (let p = least b lb.0 in let q = lb.1 l has_l in omega arith) in
                numbers (new_orders_of r h) a b same_g same_l order e,
            λ c. back (new_orders_of r h) order (c g l (has, most) (has_l, least)),
          ))
        where
          numbers : (n a b : ℕ) → a ≡ g → b ≡ l → l ≤ g → ((pos g -ℤ pos l) +ℤ pos 1) ≡ pos n → a - b + 1 ≡ n
          numbers n a b s t order e = omega (arith, ints)

          back : (n : ℕ) → l ≤ g → g - l + 1 ≡ n → ((pos g -ℤ pos l) +ℤ pos 1) ≡ pos n
          back n order e = omega (arith, ints)

  pub condition_3 : Meets r → FindsNothing (checks.condition_3 f.new_orders) ↔ model.Condition_3 r
  condition_3 meets = (
    λ c h there. (span_tied h).0 (c (district_id h)),
    λ c j. back c (record { warehouse = j.warehouse; district = j.district }),
  )
    where
      -- a district with a NEW-ORDER row is there
      home : (h : DistrictKey) (g : ℕ) → HasNewOrder r h g → IsSome (get r.districts h)
      home h g has =
          let row = present_some (get r.new_orders (new_order_in h g)) has in
          let x = present_some (get r.orders (order_in h g)) (meets.new_orders (new_order_in h g) row.0 row.1) in
          let c = present_some (get r.customers (customer_of_order (order_in h g) x.0))
          (meets.orders (order_in h g) x.0 x.1) in
          meets.customers (customer_of_order (order_in h g) x.0) c.0 c.1

      back : model.Condition_3 r → (h : DistrictKey) → checks.condition_3 f.new_orders (district_id h) ≡ None
      back c h = (span_tied h).1 (λ a b ga lb. c h (home h a ga.0) a b ga lb)
