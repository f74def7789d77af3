-- The delivery of a district keeps conditions 1 to 4.
use Rattle.std.proofs.Common.{◌≡◌, ℕ, suc, zero, ◌+◌, ◌-◌, ◌<◌, ◌≤◌, refl, sym, ◌∙◌, ap, subst, true, false, cond}
use Rattle.std.proofs.Common.{Option, Some, None, inl, inr, arith}
use Rattle.std.specs.Prelude.{◌⊎◌, IsSome}
use Rattle.std.specs.Ordering.{eq_by_cmp}
use Rattle.std.specs.FinMap.{FinMap, get, insert, remove}
use Rattle.oe_theory.specs.World.{bump}
use Rattle.oe_rows.specs.Key.{district_cmp, new_order_cmp, order_cmp}
use Rattle.oe_rows.specs.declared.keys.DistrictKey.{DistrictKey}
use Rattle.oe_rows.specs.declared.keys.NewOrderKey.{NewOrderKey}
use Rattle.oe_rows.specs.declared.keys.OrderKey.{OrderKey}
use Rattle.oe_rows.specs.declared.customers.Customer.{Customer}
use Rattle.oe_rows.specs.declared.orders.NewOrder.{NewOrder}
use Rattle.oe_rows.specs.declared.orders.Order.{Order}
use Rattle.oe_requests.specs.declared.requests.DeliveryRequest.{DeliveryRequest}
use Rattle.oe_requests.specs.declared.replies.DistrictDelivery.{DistrictDelivery}
use Rattle.oe_requests.specs.declared.replies.DistrictDelivery.TheVariants.{Skipped}
use Rattle.oe_requests.specs.declared.replies.Reply.{Reply}
use Rattle.oe_rows.proofs.KeyFacts.{district_total, exact_district, new_order_total, exact_new_order, order_total}
use Rattle.oe_rows.proofs.KeyFacts.{exact_order, order_line_total, exact_order_line}
use Rattle.oe_model.specs.Keys.{district_of_new_order, district_of_order, order_of_line, customer_in, order_in}
use Rattle.oe_model.specs.Keys.{new_order_in}
use Rattle.oe_model.specs.Rows.{Rows}
use Rattle.oe_model.specs.Maps.{each, sum_of}
use Rattle.oe_model.specs.Meets.{Meets}
use Rattle.oe_model.specs.Delivery.{oldest, lines_of, worth, with_date, with_carrier, delivered_to, delivered_out}
use Rattle.oe_model.specs.Delivery.{delivery_of}
use Rattle.oe_model.specs.Delivery.{district_effect, delivery_effect}
use Rattle.oe_model.specs.Conditions.{Good, Condition_2, Condition_3, Condition_4, IsStocked, new_orders_of}
use Rattle.oe_model.specs.Conditions.{lines_asked, lines_there, if_of, IsGreatest, IsLeast, HasNewOrder}
use Rattle.oe_model.proofs.MapFacts.{is_self}
use Rattle.oe_model.proofs.SumFacts.{number_at, sum-insert, sum-remove, sum-none, sum-each}
use Rattle.oe_model.proofs.EffectFacts.{made_by, there, there_in_range, bump_below}
use Rattle.oe_model.proofs.PresenceFacts.{some_present, present_some, key_cases, not_turned, gone_other, gone_before}
use Rattle.oe_model.proofs.PresenceFacts.{present_insert, present_before}
use Rattle.oe_model.proofs.QueueFacts.{oldest_least}

abbrev count_in_district : DistrictKey → NewOrderKey → NewOrder → ℕ
count_in_district h k y = if_of h (district_of_new_order k) 1

-- so many numbers hold at most so many rows
at_most : (h : DistrictKey) (low n : ℕ) (m : FinMap new_order_cmp NewOrder)
    → ((i : ℕ) → IsSome (get m (new_order_in h i)) → (low ≤ i) × (i < low + n)) → sum_of (count_in_district h) m ≤ n
at_most h low zero m within =
    let none : sum_of (count_in_district h) m ≡ 0 = sum-none new_order_total exact_new_order (count_in_district h) m
    (λ k x k_at. by_key k x k_at (key_cases district_total exact_district (district_of_new_order k) h)) in
    omega arith
  where
    by_key : (k : NewOrderKey) (x : NewOrder) → get m k ≡ Some x → (district_of_new_order k ≡ h)
        ⊎ (eq_by_cmp district_cmp (district_of_new_order k) h ≡ false) → count_in_district h k x ≡ 0
    by_key k x k_at (inl s) =
        let p : IsSome (get m (new_order_in h k.order)) = some_present (get m (new_order_in h k.order)) x
        (ap (λ (g : DistrictKey). get m (new_order_in g k.order)) (sym s) ∙ k_at) in
        let w = within k.order p in
        absurd (let no : ⊥ = omega arith in no)
    by_key k x k_at (inr t) = ap (λ c. cond c 1 0) t
at_most h low (suc n) m within =
    let k : NewOrderKey = new_order_in h (low + n) in
    let fewer = at_most h low n (remove m k)
    (λ i p. by_number i (gone_before new_order_total exact_new_order m k (new_order_in h i) p)) in
    let sum = sum-remove new_order_total exact_new_order (count_in_district h) m k in
    let one : number_at (count_in_district h) k (get m k) ≤ 1 = small (get m k) in
    omega arith
  where
    small : (v : Option NewOrder) → number_at (count_in_district h) (new_order_in h (low + n)) v ≤ 1
    small None = omega arith
    small (Some x) = let e : if_of h h 1 ≡ 1 = ap (λ c. cond c 1 0) (is_self district_total exact_district h) in
        omega arith

    by_number : (i : ℕ) → (eq_by_cmp new_order_cmp (new_order_in h i) (new_order_in h (low + n)) ≡ false)
        × IsSome (get m (new_order_in h i)) → (low ≤ i) × (i < low + n)
    by_number i p =
        let w = within i p.1 in
        let differs : (i ≡ low + n) → ⊥ = λ s.
        let t : true ≡ false = sym (is_self new_order_total exact_new_order (new_order_in h i))
        ∙ ap (λ (j : ℕ). eq_by_cmp new_order_cmp (new_order_in h i) (new_order_in h j)) s ∙ p.0 in
        let z : ⊥ = cc in z in
        (w.0, (let less : i < low + n = omega arith in less))

module _ (f : ℕ → ℕ) (q : DeliveryRequest) (r : Rows) (g : Good f r) (o : ℕ)
    (is_oldest : oldest q.district r.new_orders ≡ Some o)
    (order : Order) (order_at : get r.orders (order_in q.district o) ≡ Some order) (u : Customer) (sum : ℕ) where
  abbrev h0 : DistrictKey
  h0 = q.district

  abbrev k : OrderKey
  k = order_in h0 o

  abbrev j : NewOrderKey
  j = new_order_in h0 o

  abbrev pub delivered_rows : Rows
  delivered_rows = record r {
    new_orders = remove r.new_orders j;
    orders = insert r.orders k (with_carrier q.carrier order);
    order_lines = each (λ i x. cond (eq_by_cmp order_cmp (order_of_line i) k) (with_date q.stamp x) x) r.order_lines;
    customers = insert r.customers (customer_in h0 order.customer) (delivered_to sum u);
  }

  least : IsLeast (HasNewOrder r h0) o
  least = oldest_least h0 r.new_orders o is_oldest

  kept_order : (i : OrderKey) → IsSome (get r.orders i) → IsSome (get delivered_rows.orders i)
  kept_order i p = present_insert order_total exact_order r.orders k (with_carrier q.carrier order) i p

  was_order : (i : OrderKey) → IsSome (get delivered_rows.orders i) → IsSome (get r.orders i)
  was_order i p = present_before order_total exact_order r.orders k (with_carrier q.carrier order) i
      (some_present (get r.orders k) order order_at) p

  was_new : (h : DistrictKey) (n : ℕ) → HasNewOrder delivered_rows h n → HasNewOrder r h n
  was_new h n p = (gone_before new_order_total exact_new_order r.new_orders j (new_order_in h n) p).1

  still_new : (h : DistrictKey) (n : ℕ) → eq_by_cmp new_order_cmp (new_order_in h n) j ≡ false → HasNewOrder r h n
      → HasNewOrder delivered_rows h n
  still_new h n e p = subst (λ (v : Option NewOrder). IsSome v)
      (sym (gone_other new_order_total exact_new_order r.new_orders j (new_order_in h n) e)) p

  -- a number that is not the oldest one's tells the keys apart
  other_key : (h : DistrictKey) (n : ℕ) → (new_order_in h n ≡ j → ⊥)
      → eq_by_cmp new_order_cmp (new_order_in h n) j ≡ false
  other_key h n apart = go (key_cases new_order_total exact_new_order (new_order_in h n) j)
    where
      go : (new_order_in h n ≡ j) ⊎ (eq_by_cmp new_order_cmp (new_order_in h n) j ≡ false)
          → eq_by_cmp new_order_cmp (new_order_in h n) j ≡ false
      go (inl s) = absurd (apart s)
      go (inr e) = e

  -- what is left in the queue is later
  later : (n : ℕ) → HasNewOrder delivered_rows h0 n → o < n
  later n p =
      let h = gone_before new_order_total exact_new_order r.new_orders j (new_order_in h0 n) p in
      let l = least.1 n h.1 in
      let differs : (n ≡ o) → ⊥ = λ s.
      let b : true ≡ false = sym (is_self new_order_total exact_new_order (new_order_in h0 n))
      ∙ ap (λ (i : ℕ). eq_by_cmp new_order_cmp (new_order_in h0 n) (new_order_in h0 i)) s ∙ h.0 in
      let z : ⊥ = cc in z in
      omega arith

  delivered_2 : Condition_2 delivered_rows
  delivered_2 h x e = record {
    orders =
        let b = (g.condition_2 h x e).orders in
        (b.0, b.1, (kept_order (order_in h b.0) b.2.0, λ m p. b.2.1 m (was_order (order_in h m) p)));
    new_orders = λ n p.
        let b = (g.condition_2 h x e).new_orders n (was_new h n p) in (
          b.0,
          b.1,
          (
            still_new h b.0 (other_key h b.0 (λ s. last n p b.0 (b.2.1 n (was_new h n p)) s)) b.2.0,
            λ m
                s. b.2.1 m (was_new h m s),
          ),
        );
  }
    where
      last : (n : ℕ) → HasNewOrder delivered_rows h n → (m : ℕ) → n ≤ m → new_order_in h m ≡ j → ⊥
      last n p m low s =
          let same : h ≡ h0 = ap district_of_new_order s in
          let number : m ≡ o = ap (λ (i : NewOrderKey). i.order) s in
          let l = later n (subst (λ (i : DistrictKey). HasNewOrder delivered_rows i n) same p) in
          omega arith

  queue_sum : (h : DistrictKey) → new_orders_of delivered_rows h + if_of h h0 1 ≡ new_orders_of r h
  queue_sum h =
      let row = present_some (get r.new_orders j) least.0 in
      ap (λ (v : Option NewOrder). sum_of (count_in_district h) delivered_rows.new_orders
      + number_at (count_in_district h) j v) (sym row.1)
      ∙ sum-remove new_order_total exact_new_order (count_in_district h) r.new_orders j

  at_home : IsSome (get r.districts h0) → (a b : ℕ) → IsGreatest (HasNewOrder delivered_rows h0) a
      → IsLeast (HasNewOrder delivered_rows h0) b → a - b + 1 ≡ new_orders_of delivered_rows h0
  at_home there a b ga lb =
      let one : if_of h0 h0 1 ≡ 1 = ap (λ c. cond c 1 0) (is_self district_total exact_district h0) in
      let sum' = queue_sum h0 in
      let oa = later a ga.0 in
      let ob = later b lb.0 in
      let ba = lb.1 a ga.0 in
      let greatest : IsGreatest (HasNewOrder r h0) a =
      (was_new h0 a ga.0, λ m p. by_key m p (key_cases new_order_total exact_new_order (new_order_in h0 m) j)) in
      let before : a - o + 1 ≡ new_orders_of r h0 = g.condition_3 h0 there a o greatest least in
      let few : sum_of (count_in_district h0) delivered_rows.new_orders ≤ suc (a - b) =
      at_most h0 b (suc (a - b)) delivered_rows.new_orders (λ i p. let x = lb.1 i p in let y = ga.1 i p in
      (x, (let z : i < b + suc (a - b) = omega arith in z))) in
      omega arith
    where
      by_key : (m : ℕ) → HasNewOrder r h0 m → (new_order_in h0 m ≡ j)
          ⊎ (eq_by_cmp new_order_cmp (new_order_in h0 m) j ≡ false) → m ≤ a
      by_key m p (inl s) = let n : m ≡ o = ap (λ (i : NewOrderKey). i.order) s in let l = later a ga.0 in omega arith
      by_key m p (inr e) = ga.1 m (still_new h0 m e p)

  delivered_3 : Condition_3 delivered_rows
  delivered_3 h there a b ga lb = go (key_cases district_total exact_district h h0)
    where
      go : (h ≡ h0) ⊎ (eq_by_cmp district_cmp h h0 ≡ false) → a - b + 1 ≡ new_orders_of delivered_rows h
      go (inl s) =
          subst (λ (i : DistrictKey). a - b + 1 ≡ new_orders_of delivered_rows i) (sym s)
          (at_home (subst (λ (i : DistrictKey). IsSome (get r.districts i)) s there) a b
          (subst (λ (i : DistrictKey). IsGreatest (HasNewOrder delivered_rows i) a) s ga)
          (subst (λ (i : DistrictKey). IsLeast (HasNewOrder delivered_rows i) b) s lb))
      go (inr n) =
          let new : (i : ℕ) → HasNewOrder r h i → HasNewOrder delivered_rows h i =
          λ i p. still_new h i (other_key h i (λ s. apart s)) p in
          let before : a - b + 1 ≡ new_orders_of r h = g.condition_3 h there a b
          (was_new h a ga.0, λ i p. ga.1 i (new i p)) (was_new h b lb.0, λ i p. lb.1 i (new i p)) in
          let none : if_of h h0 1 ≡ 0 = ap (λ c. cond c 1 0) (not_turned district_total exact_district h h0 n) in
          let sum' = queue_sum h in
          omega arith
        where
          apart : {i : ℕ} → new_order_in h i ≡ j → ⊥
          apart s =
              let same : h ≡ h0 = ap district_of_new_order s in
              let b : true ≡ false = sym (is_self district_total exact_district h) ∙ ap (eq_by_cmp district_cmp h) same
              ∙ n in
              let z : ⊥ = cc in z

  delivered_4 : Condition_4 delivered_rows
  delivered_4 h there =
      let of : OrderKey → Order → ℕ = λ i y. if_of h (district_of_order i) y.line_count in
      let orders : lines_asked delivered_rows h + if_of h h0 order.line_count ≡ lines_asked r h + if_of h h0
      order.line_count =
      ap (λ (v : Option Order). sum_of of delivered_rows.orders + number_at of k v) (sym order_at)
      ∙ sum-insert order_total exact_order of r.orders k (with_carrier q.carrier order) in
      let lines : lines_there delivered_rows h ≡ lines_there r h =
      sum-each order_line_total exact_order_line (λ i y. if_of h (district_of_order (order_of_line i)) 1)
      (λ i x. cond (eq_by_cmp order_cmp (order_of_line i) k) (with_date q.stamp x) x) r.order_lines (λ i x. refl) in
      let before : lines_asked r h ≡ lines_there r h = g.condition_4 h there in
      omega arith

  pub delivered_good : Meets delivered_rows → IsStocked delivered_rows → Good f delivered_rows
  delivered_good meets stocked = record {
    meets = meets;
    condition_1 = g.condition_1;
    condition_2 = delivered_2;
    condition_3 = delivered_3;
    condition_4 = delivered_4;
    stocked = stocked;
    unused = g.unused;
  }

pub district_good : (f : ℕ → ℕ) (q : DeliveryRequest) (r after : Rows) (d : DistrictDelivery) → Good f r → Meets after
    → IsStocked after → district_effect q r ≡ Some (after, d) → Good f after
district_good f q r after d g meets stocked e = by_oldest (oldest q.district r.new_orders) refl e
  where
    P : Type 0
    P = Good f after

    by_oldest : (v : Option ℕ) → oldest q.district r.new_orders ≡ v
        → (let w : Option (Rows × DistrictDelivery) = elim v
        [ None ↦ Some (r, Skipped) | Some o ↦ delivery_of q o r ] in w) ≡ Some (after, d) → P
    by_oldest None _ e = subst (λ (v : Rows). Good f v) (made_by r after Skipped d e) g
    by_oldest (Some o) is e =
        let sum : ℕ = worth (lines_of (order_in q.district o) r.order_lines) in
        there P (get r.orders (order_in q.district o)) _ _ e (λ order order_at e.
        there P (get r.customers (customer_in q.district order.customer)) _ _ e (λ u _ e.
        there_in_range P delivered_out (delivered_to sum u) _ _ e (λ _ e.
        let made : Rows = delivered_rows f q r g o is order order_at u sum in
        let same : made ≡ after = made_by made after _ d e in
        subst (λ (v : Rows). Good f v) same
        (delivered_good f q r g o is order order_at u sum (subst (λ (v : Rows). Meets v) (sym same) meets)
        (subst (λ (v : Rows). IsStocked v) (sym same) stocked)))))

-- a commit that changes no row, or after which all holds already
pub good_bump : (f : ℕ → ℕ) (t : ℕ) (r : Rows) → Good f r → Good (bump t f) r
good_bump f t r g = record {
  meets = g.meets;
  condition_1 = g.condition_1;
  condition_2 = g.condition_2;
  condition_3 = g.condition_3;
  condition_4 = g.condition_4;
  stocked = g.stocked;
  unused = λ i real less. let h = bump_below t f i.terminal in
      g.unused i real (let z : f i.terminal < i.number = omega arith in z);
}

pub delivery_good : (f : ℕ → ℕ) (t : ℕ) (q : DeliveryRequest) (r after : Rows) (y : Reply) → Good f r → Meets after
    → IsStocked after → delivery_effect q r ≡ Some (after, y) → Good (bump t f) after
delivery_good f t q r after y g meets stocked e =
    there (Good (bump t f) after) (district_effect q r) _ (after, y) e (λ one one_at e.
    let same : one.0 ≡ after = made_by one.0 after _ y e in
    good_bump f t after (district_good f q r after one.1 g meets stocked
    (one_at ∙ ap (λ (s : Rows). Some (s, one.1)) same)))
