-- The rows of a group are those whose keys lie between its first key and its last.
use Rattle.std.proofs.Common.{◌≡◌, ℕ, suc, ◌+◌, ◌≤◌, ◌<◌, ◌⊎◌, inl, inr, refl, sym, ◌∙◌, ap, Bool, true, false, cond}
use Rattle.std.proofs.Common.{Option, Some, None, arith}
use Rattle.std.proofs.lemmas.Bool.{le-leb, lt-leb}
use Rattle.std.specs.Prelude.{IsSome, is_some, not, ◌&&◌, filter, nat_le}
use Rattle.std.specs.Int.{IsInRange}
use Rattle.std.specs.Ordering.{eq_by_cmp, is_eq, is_le, is_lt, nat_cmp, ordering_then}
use Rattle.std.specs.declared.cmp.Ordering.{Ordering}
use Rattle.std.specs.declared.cmp.Ordering.TheVariants.{Less, Equal, Greater}
use Rattle.std.specs.declared.ops.Bound.TheVariants.{Included}
use Rattle.std.specs.Cmp.{IsTotalOrder, eq_by_cmp_equiv, ranked}
use Rattle.std.specs.FinMap.{FinMap, IsAntisymmetric, get, entries, entries_sorted, get-entries, retain_keys}
use Rattle.std.specs.FinMap.{get-retain_keys}
use Rattle.std.specs.FinMap.Entries.{find-where_key, is_sorted-where_key, same_entries}
use Rattle.std.specs.BTreeMap.Range.{range_contains, entries_between}
use Rattle.oe_rows.specs.Key.{warehouse_cmp, district_cmp, customer_cmp, new_order_cmp, order_cmp, order_line_cmp}
use Rattle.oe_rows.specs.declared.keys.WarehouseKey.{WarehouseKey}
use Rattle.oe_rows.specs.declared.keys.DistrictKey.{DistrictKey}
use Rattle.oe_rows.specs.declared.keys.CustomerKey.{CustomerKey}
use Rattle.oe_rows.specs.declared.keys.NewOrderKey.{NewOrderKey}
use Rattle.oe_rows.specs.declared.keys.OrderKey.{OrderKey}
use Rattle.oe_rows.specs.declared.keys.OrderLineKey.{OrderLineKey}
use Rattle.oe_rows.specs.declared.districts.District.{District}
use Rattle.oe_rows.specs.declared.customers.Customer.{Customer}
use Rattle.oe_rows.specs.declared.orders.NewOrder.{NewOrder}
use Rattle.oe_rows.specs.declared.orders.Order.{Order}
use Rattle.oe_rows.specs.declared.orders.OrderLine.{OrderLine}
use Rattle.oe_rows.proofs.KeyFacts.{warehouse_total, district_total, exact_district, customer_total, exact_customer}
use Rattle.oe_rows.proofs.KeyFacts.{new_order_total, exact_new_order, order_total, exact_order, order_line_total}
use Rattle.oe_rows.proofs.KeyFacts.{exact_order_line}
use Rattle.oe_model.specs.Keys.{warehouse_of_district, district_of_customer, district_of_new_order, district_of_order}
use Rattle.oe_model.specs.Keys.{order_of_line}
use Rattle.oe_model.specs.Queries.{is_recent, recent_lines}
use Rattle.oe_store.specs.Places.{entries_of}

module _ {K X : Type 0} {R : K → K → Ordering} (total : IsTotalOrder R) (exact : IsAntisymmetric R) where
  by_row : (b c : Bool) (o : Option X) → ((x : X) → o ≡ Some x → b ≡ c) → cond b o None ≡ cond c o None
  by_row b c (Some x) h = ap (λ t. cond t (Some x) None) (h x refl)
  by_row true true None h = refl
  by_row true false None h = refl
  by_row false true None h = refl
  by_row false false None h = refl

  -- two tests that agree at each key with a row keep the same rows
  pub kept_alike : (m : FinMap R X) (p q : K → Bool) → ((k : K) (x : X) → get m k ≡ Some x → p k ≡ q k)
      → filter (λ e. p e.0) (entries m) ≡ entries (retain_keys m q)
  kept_alike m p q agree =
      same_entries R total exact _ _ (is_sorted-where_key R p (entries m) (entries_sorted m))
      (entries_sorted (retain_keys m q)) (λ k.
      find-where_key R p k (λ x e. ap p (sym (exact k x e))) (entries m)
      ∙ ap (λ o. cond (p k) o None) (sym (get-entries m k)) ∙ by_row (p k) (q k) (get m k) (agree k)
      ∙ sym (get-retain_keys m q k (λ x e. ap q (sym (exact k x e)))) ∙ get-entries (retain_keys m q) k)

  -- a group whose first key and last enclose exactly its keys
  pub entries_of_group : {G : Type 0} {S : G → G → Ordering} → IsTotalOrder S
      → (group_of : K → G) (g : G) (first last : K) (m : FinMap R X)
      → ((k : K) → IsSome (get m k) → range_contains R (Included first) (Included last) k ≡ is_eq (S g (group_of k)))
      → entries_between R (Included first) (Included last) (entries m) ≡ entries_of S group_of g m
  entries_of_group {S = S} groups group_of g first last m enclosed =
      kept_alike m (range_contains R (Included first) (Included last)) (λ k. eq_by_cmp S (group_of k) g)
      (λ k x e. enclosed k (ap is_some e) ∙ (eq_by_cmp_equiv groups).symm g (group_of k))

pub then_assoc : (a b c : Ordering) → ordering_then a (ordering_then b c) ≡ ordering_then (ordering_then a b) c
then_assoc Less b c = refl
then_assoc Equal b c = refl
then_assoc Greater b c = refl

-- between the least and the greatest of a group, by the order of groups first
pub within : (r x y : Ordering) → is_le x ≡ true → is_lt y ≡ false
    → (is_le (ordering_then r x) && not (is_lt (ordering_then r y))) ≡ is_eq r
within Less x y low high = refl
within Equal x y low high = ap (λ b. b && not (is_lt y)) low ∙ ap not high
within Greater x y low high = refl

at_least : (n m : ℕ) → n ≤ m → (r : Ordering) → r ≡ nat_cmp n m → is_le r ≡ true
at_least n m h Less e = refl
at_least n m h Equal e = refl
at_least n m h Greater e = let no : m < n = ranked n m Greater e in absurd (let z : ⊥ = omega arith in z)

at_most : (n m : ℕ) → m ≤ n → (r : Ordering) → r ≡ nat_cmp n m → is_lt r ≡ false
at_most n m h Less e = let no : n < m = ranked n m Less e in absurd (let z : ⊥ = omega arith in z)
at_most n m h Equal e = refl
at_most n m h Greater e = refl

-- a number and then another, each at least or at most as far
both_least : (a b : Ordering) → is_le a ≡ true → is_le b ≡ true → is_le (ordering_then a b) ≡ true
both_least Less b g h = refl
both_least Equal b g h = h
both_least Greater b g h = g

both_most : (a b : Ordering) → is_lt a ≡ false → is_lt b ≡ false → is_lt (ordering_then a b) ≡ false
both_most Less b g h = g
both_most Equal b g h = h
both_most Greater b g h = refl

-- each group of a table, by the least and the greatest of its numbers
pub districts_between : (m : FinMap district_cmp District) (g : WarehouseKey) (low high : ℕ)
    → ((k : DistrictKey) → IsSome (get m k) → IsInRange low high k.district)
    → entries_between district_cmp (Included (record { warehouse = g.warehouse; district = low }))
    (Included (record { warehouse = g.warehouse; district = high })) (entries m) ≡ entries_of warehouse_cmp
    warehouse_of_district g m
districts_between m g low high h =
    entries_of_group district_total exact_district warehouse_total warehouse_of_district g
    (record { warehouse = g.warehouse; district = low }) (record { warehouse = g.warehouse; district = high }) m
    (λ k there. within (warehouse_cmp g (warehouse_of_district k)) (nat_cmp low k.district)
    (nat_cmp high k.district) (at_least low k.district (h k there).0 (nat_cmp low k.district) refl)
    (at_most high k.district (h k there).1 (nat_cmp high k.district) refl))

pub customers_between : (m : FinMap customer_cmp Customer) (g : DistrictKey) (low high : ℕ)
    → ((k : CustomerKey) → IsSome (get m k) → IsInRange low high k.customer)
    → entries_between customer_cmp
    (Included (record { warehouse = g.warehouse; district = g.district; customer = low }))
    (Included (record { warehouse = g.warehouse; district = g.district; customer = high })) (entries m) ≡ entries_of
    district_cmp district_of_customer g m
customers_between m g low high h =
    entries_of_group customer_total exact_customer district_total district_of_customer g
    (record { warehouse = g.warehouse; district = g.district; customer = low })
    (record { warehouse = g.warehouse; district = g.district; customer = high }) m
    (λ k there. rw (
      then_assoc (nat_cmp g.warehouse k.warehouse) (nat_cmp g.district k.district)
          (nat_cmp low k.customer),
      then_assoc (nat_cmp g.warehouse k.warehouse) (nat_cmp g.district k.district)
          (nat_cmp high k.customer),
    ) (within (district_cmp g (district_of_customer k)) (nat_cmp low k.customer)
    (nat_cmp high k.customer) (at_least low k.customer (h k there).0 (nat_cmp low k.customer) refl)
    (at_most high k.customer (h k there).1 (nat_cmp high k.customer) refl)))

pub orders_between : (m : FinMap order_cmp Order) (g : DistrictKey) (low high : ℕ)
    → ((k : OrderKey) → IsSome (get m k) → IsInRange low high k.order)
    → entries_between order_cmp (Included (record { warehouse = g.warehouse; district = g.district; order = low }))
    (Included (record { warehouse = g.warehouse; district = g.district; order = high })) (entries m) ≡ entries_of
    district_cmp district_of_order g m
orders_between m g low high h =
    entries_of_group order_total exact_order district_total district_of_order g
    (record { warehouse = g.warehouse; district = g.district; order = low })
    (record { warehouse = g.warehouse; district = g.district; order = high }) m
    (λ k there. rw (
      then_assoc (nat_cmp g.warehouse k.warehouse) (nat_cmp g.district k.district)
          (nat_cmp low k.order),
      then_assoc (nat_cmp g.warehouse k.warehouse) (nat_cmp g.district k.district)
          (nat_cmp high k.order),
    ) (within (district_cmp g (district_of_order k)) (nat_cmp low k.order)
    (nat_cmp high k.order) (at_least low k.order (h k there).0 (nat_cmp low k.order) refl)
    (at_most high k.order (h k there).1 (nat_cmp high k.order) refl)))

pub new_orders_between : (m : FinMap new_order_cmp NewOrder) (g : DistrictKey) (low high : ℕ)
    → ((k : NewOrderKey) → IsSome (get m k) → IsInRange low high k.order)
    → entries_between new_order_cmp (Included (record { warehouse = g.warehouse; district = g.district; order = low }))
    (Included (record { warehouse = g.warehouse; district = g.district; order = high })) (entries m) ≡ entries_of
    district_cmp district_of_new_order g m
new_orders_between m g low high h =
    entries_of_group new_order_total exact_new_order district_total district_of_new_order g
    (record { warehouse = g.warehouse; district = g.district; order = low })
    (record { warehouse = g.warehouse; district = g.district; order = high }) m
    (λ k there. rw (
      then_assoc (nat_cmp g.warehouse k.warehouse) (nat_cmp g.district k.district)
          (nat_cmp low k.order),
      then_assoc (nat_cmp g.warehouse k.warehouse) (nat_cmp g.district k.district)
          (nat_cmp high k.order),
    ) (within (district_cmp g (district_of_new_order k)) (nat_cmp low k.order)
    (nat_cmp high k.order) (at_least low k.order (h k there).0 (nat_cmp low k.order) refl)
    (at_most high k.order (h k there).1 (nat_cmp high k.order) refl)))

pub lines_between : (m : FinMap order_line_cmp OrderLine) (g : OrderKey) (low high : ℕ)
    → ((k : OrderLineKey) → IsSome (get m k) → IsInRange low high k.number)
    → entries_between order_line_cmp
    (Included (record { warehouse = g.warehouse; district = g.district; order = g.order; number = low }))
    (Included (record { warehouse = g.warehouse; district = g.district; order = g.order; number = high }))
    (entries m) ≡ entries_of order_cmp order_of_line g m
lines_between m g low high h =
    entries_of_group order_line_total exact_order_line order_total order_of_line g
    (record { warehouse = g.warehouse; district = g.district; order = g.order; number = low })
    (record { warehouse = g.warehouse; district = g.district; order = g.order; number = high }) m
    (λ k there. rw (
      then_assoc (nat_cmp g.district k.district) (nat_cmp g.order k.order) (nat_cmp low k.number),
      then_assoc (nat_cmp g.warehouse k.warehouse)
          (ordering_then (nat_cmp g.district k.district) (nat_cmp g.order k.order)) (nat_cmp low k.number),
      then_assoc
          (nat_cmp g.district k.district) (nat_cmp g.order k.order) (nat_cmp high k.number),
      then_assoc
          (nat_cmp g.warehouse k.warehouse) (ordering_then (nat_cmp g.district k.district) (nat_cmp g.order k.order))
          (nat_cmp high k.number),
    ) (within (order_cmp g (order_of_line k)) (nat_cmp low k.number) (nat_cmp high k.number)
    (at_least low k.number (h k there).0 (nat_cmp low k.number) refl)
    (at_most high k.number (h k there).1 (nat_cmp high k.number) refl)))

pub lines_of_district_between : (m : FinMap order_line_cmp OrderLine) (g : DistrictKey) (low_0 low_1 high_0 high_1 : ℕ)
    → ((k : OrderLineKey) → IsSome (get m k) → IsInRange low_0 high_0 k.order × IsInRange low_1 high_1 k.number)
    → entries_between order_line_cmp
    (Included (record { warehouse = g.warehouse; district = g.district; order = low_0; number = low_1 }))
    (Included (record { warehouse = g.warehouse; district = g.district; order = high_0; number = high_1 }))
    (entries m) ≡ entries_of district_cmp (λ j. district_of_order (order_of_line j)) g m
lines_of_district_between m g low_0 low_1 high_0 high_1 h =
    entries_of_group order_line_total exact_order_line district_total (λ j. district_of_order (order_of_line j)) g
    (record { warehouse = g.warehouse; district = g.district; order = low_0; number = low_1 })
    (record { warehouse = g.warehouse; district = g.district; order = high_0; number = high_1 }) m
    (λ k there. rw (
      then_assoc (nat_cmp g.warehouse k.warehouse) (nat_cmp g.district k.district)
          (ordering_then (nat_cmp low_0 k.order) (nat_cmp low_1 k.number)),
      then_assoc (nat_cmp g.warehouse k.warehouse)
          (nat_cmp g.district k.district) (ordering_then (nat_cmp high_0 k.order) (nat_cmp high_1 k.number)),
    ) (within
    (district_cmp g (district_of_order (order_of_line k)))
    (ordering_then (nat_cmp low_0 k.order) (nat_cmp low_1 k.number))
    (ordering_then (nat_cmp high_0 k.order) (nat_cmp high_1 k.number))
    (both_least (nat_cmp low_0 k.order) (nat_cmp low_1 k.number)
    (at_least low_0 k.order ((h k there).0).0 (nat_cmp low_0 k.order) refl)
    (at_least low_1 k.number ((h k there).1).0 (nat_cmp low_1 k.number) refl)) (both_most (nat_cmp high_0 k.order)
    (nat_cmp high_1 k.number) (at_most high_0 k.order ((h k there).0).1 (nat_cmp high_0 k.order) refl)
    (at_most high_1 k.number ((h k there).1).1 (nat_cmp high_1 k.number) refl))))

-- THE LINES OF RECENT ORDERS

-- a district's keys between two others are those whose rest is between theirs
within_too : (r x y : Ordering) → (is_le (ordering_then r x) && not (is_lt (ordering_then r y)))
    ≡ (is_eq r && is_le x && not (is_lt y))
within_too Less x y = refl
within_too Equal x y = refl
within_too Greater x y = refl

-- an order is recent from the first recent one on
from_first : (next first o : ℕ) → (first ≡ 1) ⊎ (first + 20 ≡ next) → next ≤ first + 20 → 1 ≤ o
    → (r a : Ordering) → r ≡ nat_cmp first o → is_le a ≡ true → is_le (ordering_then r a) ≡ nat_le next (o + 20)
from_first next first o least span low Less a e h =
    let less : first < o = ranked first o Less e in
    sym (le-leb next (o + 20) (omega (arith, less, span)))
from_first next first o least span low Equal a e h =
    let same : first ≡ o = ranked first o Equal e in
    h ∙ sym (le-leb next (o + 20) (omega (arith, same, span)))
from_first next first o least span low Greater a e h =
    let less : o < first = ranked first o Greater e in
    sym (lt-leb next (o + 20) (elim least [
      | inl one ↦ absurd (let z : ⊥ = omega (arith, less, one, low) in z)
      | inr far ↦ omega (arith, less, far)
    ]))

-- up to the one before the next
up_to_last : (next last o : ℕ) → suc last ≡ next → (r a : Ordering) → r ≡ nat_cmp last o → is_lt a ≡ false
    → not (is_lt (ordering_then r a)) ≡ nat_le (suc o) next
up_to_last next last o is Less a e h =
    let less : last < o = ranked last o Less e in
    sym (lt-leb (suc o) next (omega (arith, less, is)))
up_to_last next last o is Equal a e h =
    let same : last ≡ o = ranked last o Equal e in
    ap not h ∙ sym (le-leb (suc o) next (omega (arith, same, is)))
up_to_last next last o is Greater a e h =
    let less : o < last = ranked last o Greater e in
    sym (le-leb (suc o) next (omega (arith, less, is)))

pub recent_between : (m : FinMap order_line_cmp OrderLine) (g : DistrictKey) (next first last low high : ℕ)
    → (first ≡ 1) ⊎ (first + 20 ≡ next) → next ≤ first + 20 → suc last ≡ next
    → ((k : OrderLineKey) → IsSome (get m k) → (1 ≤ k.order) × IsInRange low high k.number)
    → entries_between order_line_cmp
    (Included (record { warehouse = g.warehouse; district = g.district; order = first; number = low }))
    (Included (record { warehouse = g.warehouse; district = g.district; order = last; number = high }))
    (entries m) ≡ recent_lines g next m
recent_between m g next first last low high least span is h =
    kept_alike order_line_total exact_order_line m
    (range_contains order_line_cmp
    (Included (record { warehouse = g.warehouse; district = g.district; order = first; number = low }))
    (Included (record { warehouse = g.warehouse; district = g.district; order = last; number = high })))
    (is_recent g next) agrees
    ∙ sym (kept_alike order_line_total exact_order_line m (is_recent g next) (is_recent g next) (λ k x e. refl))
  where
    agrees : (k : OrderLineKey) (x : OrderLine) → get m k ≡ Some x → range_contains order_line_cmp
        (Included (record { warehouse = g.warehouse; district = g.district; order = first; number = low }))
        (Included (record { warehouse = g.warehouse; district = g.district; order = last; number = high })) k
        ≡ is_recent g next k
    agrees k x e = rw (
      then_assoc (nat_cmp g.warehouse k.warehouse) (nat_cmp g.district k.district)
          (ordering_then (nat_cmp first k.order) (nat_cmp low k.number)),
      then_assoc (nat_cmp g.warehouse k.warehouse)
          (nat_cmp g.district k.district) (ordering_then (nat_cmp last k.order) (nat_cmp high k.number)),
    ) (
        within_too (district_cmp g (district_of_order (order_of_line k)))
        (ordering_then (nat_cmp first k.order) (nat_cmp low k.number))
        (ordering_then (nat_cmp last k.order) (nat_cmp high k.number))
        ∙ (λ i. (eq_by_cmp_equiv district_total).symm g (district_of_order (order_of_line k)) i
        && from_first next first k.order least span (h k (ap is_some e)).0 (nat_cmp first k.order)
        (nat_cmp low k.number) refl (at_least low k.number ((h k (ap is_some e)).1).0 (nat_cmp low k.number) refl) i
        && up_to_last next last k.order is (nat_cmp last k.order) (nat_cmp high k.number) refl
        (at_most high k.number ((h k (ap is_some e)).1).1 (nat_cmp high k.number) refl) i)
        )
