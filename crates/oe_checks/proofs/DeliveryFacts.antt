-- The deliveries of orders, added up by customer, are the delivered lines of the customer's orders.
use Rattle.std.proofs.Common.{◌≡◌, refl, sym, ◌∙◌, ap, subst, Bool, true, false, cond, ℕ, ◌+◌, ◌*◌, ◌-◌, ◌^◌, ◌<◌}
use Rattle.std.proofs.Common.{◌≤◌, arith}
use Rattle.std.proofs.Common.{List, [], ◌∷◌, map, Option, Some, None, eqb-true}
use Rattle.std.specs.Prelude.{max, ℤ, ◌+ℤ◌, nat_eq, ◌&&◌}
use Rattle.std.specs.Int.{w128}
use Rattle.std.specs.Int.RustNames.{unsigned_abs}
use Rattle.std.specs.Cmp.{IsTotalOrder, nat_cmp_total, first_so, second_so, tied_then, unsigned_ties}
use Rattle.std.specs.List.{AllByRecursion}
use Rattle.std.specs.List.Sorted.{IsStrictlySortedBy}
use Rattle.std.specs.Map.{keys_of, lookup}
use Rattle.std.specs.Option.{option_map}
use Rattle.std.specs.Ordering.{eq_by_cmp, is_eq, nat_cmp, ordering_then}
use Rattle.std.proofs.lemmas.Cmp.{on_total, then_total}
use Rattle.std.proofs.lemmas.List.Elements.{recursion_from_All}
use Rattle.std.proofs.lemmas.Int.{int_wrap_fits, fits_signed_from_abs}
use Rattle.oe_tally.specs.Tallies.{together, total, IsSettled}
use Rattle.oe_tally.specs.Walks.{AreAll, wrong_at}
use Rattle.oe_facts.specs.declared.keys.CustomerId.{CustomerId}
use Rattle.oe_facts.specs.declared.keys.OrderId.{OrderId}
use Rattle.oe_facts.specs.declared.facts.OrderFact.{OrderFact}
use Rattle.oe_facts.specs.declared.facts.OrderLineFact.{OrderLineFact}
use Rattle.oe_ledgers.specs.declared.takings.Takings.{Takings}
use Rattle.oe_ledgers.specs.declared.orders.OrderSums.{OrderSums}
use Rattle.oe_ledgers.specs.declared.orders.Orders.{Orders}
use Rattle.oe_ledgers.specs.declared.order_lines.LineSums.{LineSums}
use Rattle.oe_ledgers.specs.declared.order_lines.OrderLines.{OrderLines}
use Rattle.oe_ledgers.specs.Columns.{of_key, sum_in_128_bits}
use Rattle.oe_ledgers.specs.ColumnLaws.{wrapped_associative, wrapped_commutative}
use Rattle.oe_ledgers.specs.Keys.{same_customer, same_order, order_cmp}
use Rattle.oe_ledgers.specs.Sums.{orders_joined, lines_joined, takings_joined}
use Rattle.oe_ledgers.specs.Keeping.{Keeps, KeepsOrders, KeepsOrderLines, order_entry, line_entry}
use Rattle.oe_ledgers.specs.Figures.{AreFew, AreAmounts}
use Rattle.oe_ledgers.proofs.SumFacts.{projected, summed, abs_at_most}
use Rattle.oe_checks.specs.declared.deliveries.Delivery.{Delivery}
use Rattle.oe_checks.specs.Deliveries.{customer_at, customer_of, same_known, delivered_amount, delivery}
use Rattle.oe_checks.specs.Deliveries.{delivery_entry, HasDeliveries}
use Rattle.oe_checks.proofs.RegroupFacts.{total-found, regroup, all-found}

exact_orders : (a b : OrderId) → same_order a b ≡ true → a ≡ b
exact_orders a b e =
    let rest : nat_eq a.district b.district && nat_eq a.order b.order ≡ true = second_so _ _ e in
    λ i. record {
      warehouse = eqb-true a.warehouse b.warehouse (first_so _ _ e) i;
      district = eqb-true a.district b.district (first_so _ _ rest) i;
      order = eqb-true a.order b.order (second_so _ _ rest) i;
    }

orders_total : IsTotalOrder order_cmp
orders_total =
    then_total (on_total (λ (k : OrderId). k.warehouse) nat_cmp_total)
    (then_total (on_total (λ (k : OrderId). k.district) nat_cmp_total)
    (on_total (λ (k : OrderId). k.order) nat_cmp_total))

orders_tie : (a b : OrderId) → same_order a b ≡ eq_by_cmp order_cmp a b
orders_tie a b =
    ap (λ x. x && (nat_eq a.district b.district && nat_eq a.order b.order)) (unsigned_ties a.warehouse b.warehouse)
    ∙ ap (λ x. is_eq (nat_cmp a.warehouse b.warehouse) && (x && nat_eq a.order b.order))
    (unsigned_ties a.district b.district)
    ∙ ap (λ x. is_eq (nat_cmp a.warehouse b.warehouse) && (is_eq (nat_cmp a.district b.district) && x))
    (unsigned_ties a.order b.order)
    ∙ ap (λ x. is_eq (nat_cmp a.warehouse b.warehouse) && x)
    (tied_then (nat_cmp a.district b.district) (nat_cmp a.order b.order))
    ∙ tied_then (nat_cmp a.warehouse b.warehouse)
    (ordering_then (nat_cmp a.district b.district) (nat_cmp a.order b.order))

-- fusion of maps under a sum
total-map : {X K V : Type 0} {J : Type 0} (alike : J → J → Bool) (op : V → V → V) (f : X → K × V) (g : K → J)
    (xs : List X) (c : J)
    → total alike op (map (λ e. (g e.0, e.1)) (map f xs)) c ≡ total alike op (map (λ x. (g (f x).0, (f x).1)) xs) c
total-map alike op f g [] c = refl
total-map alike op f g (x ∷ xs) c =
    ap (together op (cond (alike (g (f x).0) c) (Some (f x).1) None)) (total-map alike op f g xs c)

module _ {F V : Type 0} (h : F → V) where
  lookup-step : (b : Bool) (x : F) (r : Option F) → cond b (Some (h x)) (option_map h r)
      ≡ option_map h (cond b (Some x) r)
  lookup-step true x r = refl
  lookup-step false x r = refl

  lookup-values : {K : Type 0} (test : K → Bool) (es : List (K × F))
      → lookup test (map (λ e. (e.0, h e.1)) es) ≡ option_map h (lookup test es)
  lookup-values test [] = refl
  lookup-values {K} test (e ∷ es) =
      ap (cond (test e.0) (Some (h e.1))) (lookup-values test es) ∙ lookup-step (test e.0) e.1 (lookup test es)

  keys-values : {K : Type 0} (es : List (K × F)) → keys_of (map (λ e. (e.0, h e.1)) es) ≡ keys_of es
  keys-values [] = refl
  keys-values (e ∷ es) = ap (λ ks. e.0 ∷ ks) (keys-values es)

itself-mapped : (r : Option ℤ) → option_map (λ (z : ℤ). z) r ≡ r
itself-mapped None = refl
itself-mapped (Some z) = refl

within-amounts : (ls : List OrderLineFact) → AllByRecursion (λ (f : OrderLineFact). unsigned_abs f.amount ≤ 2 ^ 63) ls
    → AllByRecursion (λ f. unsigned_abs (delivered_amount f) ≤ 2 ^ 63) ls
within-amounts [] h = tt
within-amounts (f ∷ ls) h = (omega (arith, abs_at_most f.is_delivered f.amount, h.0), within-amounts ls h.1)

adds-wrapped : (a b : ℤ) → unsigned_abs (a +ℤ b) ≤ 2 ^ 127 - 1 → sum_in_128_bits a b ≡ a +ℤ b
adds-wrapped a b h = int_wrap_fits w128 (a +ℤ b) (fits_signed_from_abs w128 (a +ℤ b) (omega arith))

-- sums by a customer that stands with each entry, and by the order's
keyed : (os : List OrderFact) (found : List (OrderId × Delivery)) (c : CustomerId)
    → AllByRecursion (λ (q : OrderId × Delivery). customer_of os q.0 ≡ Some (customer_at q.0 q.1.customer)) found
    → total same_customer sum_in_128_bits
    (map (λ (q : OrderId × Delivery). (customer_at q.0 q.1.customer, q.1.amount)) found) c
    ≡ total same_known sum_in_128_bits (map (λ (q : OrderId × Delivery). (customer_of os q.0, q.1.amount)) found)
    (Some c)
keyed os [] c h = refl
keyed os (q ∷ found) c h =
    ap (together sum_in_128_bits (cond (same_customer (customer_at q.0 q.1.customer) c) (Some q.1.amount) None))
    (keyed os found c h.1)
    ∙ ap (λ j. together sum_in_128_bits (cond (same_known j (Some c)) (Some q.1.amount) None)
    (total same_known sum_in_128_bits (map (λ (q : OrderId × Delivery). (customer_of os q.0, q.1.amount)) found)
    (Some c)))
    (sym h.0)

module _ (os : List OrderFact) (ls : List OrderLineFact) (kept_orders : Orders) (kept_lines : OrderLines)
    (orders : KeepsOrders os kept_orders) (lines : KeepsOrderLines ls kept_lines) where
  -- the customer that stands with an order's sums is the order's
  customer-is : (k : OrderId)
      → customer_of os k ≡ option_map (customer_at k)
      (option_map (λ (s : OrderSums). s.customer) (total same_order orders_joined kept_orders.by_order k))
  customer-is k =
      ap (option_map (customer_at k))
      (sym (ap (option_map (λ (s : OrderSums). s.customer)) (orders.by_order k)
      ∙ projected same_order orders_joined max order_entry (λ (s : OrderSums). s.customer) (λ a b. refl) os k))

  amount-is : (k : OrderId)
      → option_map (λ (s : LineSums). s.amount) (total same_order lines_joined kept_lines.by_order k)
      ≡ of_key same_order (λ (f : OrderLineFact). f.order) sum_in_128_bits delivered_amount ls k
  amount-is k =
      ap (option_map (λ (s : LineSums). s.amount)) (lines.by_order k)
      ∙ projected same_order lines_joined sum_in_128_bits line_entry (λ (s : LineSums). s.amount) (λ a b. refl) ls k

  -- where an order is known, what was delivered is what its lines say
  delivery-amount : (o : Option OrderSums) (l : Option LineSums) (k : OrderId) (c : CustomerId)
      → same_known (option_map (customer_at k) (option_map (λ (s : OrderSums). s.customer) o)) (Some c) ≡ true
      → option_map (λ (d : Delivery). d.amount) (delivery o l) ≡ option_map (λ (s : LineSums). s.amount) l
  delivery-amount None l k c e = cc
  delivery-amount (Some o) None k c e = refl
  delivery-amount (Some o) (Some l) k c e = refl

  delivery-customer : (o : Option OrderSums) (l : Option LineSums) (k : OrderId) (d : Delivery) → delivery o l ≡ Some d
      → option_map (customer_at k) (option_map (λ (s : OrderSums). s.customer) o) ≡ Some (customer_at k d.customer)
  delivery-customer None l k d e = cc
  delivery-customer (Some o) None k d e = cc
  delivery-customer (Some o) (Some l) k d e =
      let same-delivery : record { amount = l.amount; customer = o.customer }
      ≡ d = some-inner (record { amount = l.amount; customer = o.customer }) d e in
      ap (λ (x : Delivery). Some (customer_at k x.customer)) same-delivery
    where
      some-inner : (x y : Delivery) → Some x ≡ Some y → x ≡ y
      some-inner x y p = cc

  module _ (found : List (OrderId × Delivery))
      (all : AreAll order_cmp same_order
      (wrong_at same_order orders_joined lines_joined delivery kept_orders.by_order kept_lines.by_order) found) where
    amounts-settled : IsSettled order_cmp (map (λ (e : OrderId × Delivery). (e.0, e.1.amount)) found)
    amounts-settled =
        subst (IsStrictlySortedBy order_cmp) (sym (keys-values (λ (d : Delivery). d.amount) found)) all.ordered

    amount-at : (c : CustomerId) (k : OrderId) → same_known (customer_of os k) (Some c) ≡ true
        → total same_order sum_in_128_bits (map (λ (e : OrderId × Delivery). (e.0, e.1.amount)) found) k
        ≡ total same_order sum_in_128_bits (map (λ (f : OrderLineFact). (f.order, delivered_amount f)) ls) k
    amount-at c k counts =
        total-found order_cmp orders_total orders_tie sum_in_128_bits
        (map (λ (e : OrderId × Delivery). (e.0, e.1.amount)) found) k amounts-settled
        ∙ lookup-values (λ (d : Delivery). d.amount) (λ x. same_order x k) found
        ∙ ap (option_map (λ (d : Delivery). d.amount)) (all.exact k)
        ∙ delivery-amount (total same_order orders_joined kept_orders.by_order k)
        (total same_order lines_joined kept_lines.by_order k) k c
        (sym (ap (λ j. same_known j (Some c)) (customer-is k)) ∙ counts)
        ∙ amount-is k

    customers-found : AllByRecursion
        (λ (q : OrderId × Delivery). customer_of os q.0 ≡ Some (customer_at q.0 q.1.customer)) found
    customers-found =
        all-found order_cmp orders_total orders_tie (λ q. customer_of os q.0 ≡ Some (customer_at q.0 q.1.customer))
        found all.ordered
        (λ k d is. customer-is k
        ∙ delivery-customer (total same_order orders_joined kept_orders.by_order k)
        (total same_order lines_joined kept_lines.by_order k) k d
        (sym (all.exact k) ∙ is))

    -- a tally of the deliveries has what was delivered to each customer
    pub delivered-kept : (tally : List (CustomerId × Takings))
        → Keeps same_customer takings_joined delivery_entry found tally
        → AreFew ls → AreAmounts (λ (f : OrderLineFact). f.amount) ls → HasDeliveries os ls tally
    delivered-kept tally kept few amounts c =
        ap (option_map (λ (s : Takings). s.amount)) (kept c)
        ∙ projected same_customer takings_joined sum_in_128_bits delivery_entry (λ (s : Takings). s.amount)
        (λ a b. refl)
        found c
        ∙ keyed os found c customers-found
        ∙ sym (total-map same_known sum_in_128_bits (λ (e : OrderId × Delivery). (e.0, e.1.amount))
        (customer_of os) found
        (Some c))
        ∙ regroup order_cmp orders_total orders_tie exact_orders same_known sum_in_128_bits wrapped_associative
        wrapped_commutative
        (customer_of os) (Some c) (map (λ (e : OrderId × Delivery). (e.0, e.1.amount)) found)
        (map (λ (f : OrderLineFact). (f.order, delivered_amount f)) ls) amounts-settled (amount-at c)
        ∙ total-map same_known sum_in_128_bits (λ (f : OrderLineFact). (f.order, delivered_amount f))
        (customer_of os) ls (Some c)
        ∙ sym (itself-mapped (total same_known sum_in_128_bits
        (map (λ (f : OrderLineFact). (customer_of os f.order, delivered_amount f)) ls) (Some c)))
        ∙ summed same_known sum_in_128_bits (λ (f : OrderLineFact). (customer_of os f.order, delivered_amount f))
        (λ z. z)
        (2 ^ 127 - 1) (2 ^ 63)
        adds-wrapped ls (Some c)
        (within-amounts ls (recursion_from_All (λ (f : OrderLineFact). unsigned_abs f.amount ≤ 2 ^ 63) ls
        amounts))
        (omega arith)
