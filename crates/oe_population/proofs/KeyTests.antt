-- Tests of a key by its numbers say whether it is that key.
use Rattle.std.proofs.Common.{◌≡◌, ℕ, ◌+◌, ◌*◌, ◌/◌, ◌%◌, refl, sym, ◌∙◌, ap, Bool, true, false, arith}
use Rattle.std.specs.Prelude.{◌&&◌, ◌==◌}
use Rattle.std.specs.Ordering.{eq_by_cmp, is_eq, nat_cmp, ordering_then}
use Rattle.std.proofs.lemmas.Bool.Decides.{nat_tests}
use Rattle.oe_rows.specs.Key.{warehouse_cmp, district_cmp, customer_cmp, new_order_cmp, order_cmp, order_line_cmp}
use Rattle.oe_rows.specs.Key.{item_cmp, stock_cmp}
use Rattle.oe_rows.specs.declared.keys.WarehouseKey.{WarehouseKey}
use Rattle.oe_rows.specs.declared.keys.DistrictKey.{DistrictKey}
use Rattle.oe_rows.specs.declared.keys.CustomerKey.{CustomerKey}
use Rattle.oe_rows.specs.declared.keys.NewOrderKey.{NewOrderKey}
use Rattle.oe_rows.specs.declared.keys.OrderKey.{OrderKey}
use Rattle.oe_rows.specs.declared.keys.OrderLineKey.{OrderLineKey}
use Rattle.oe_rows.specs.declared.keys.ItemKey.{ItemKey}
use Rattle.oe_rows.specs.declared.keys.StockKey.{StockKey}
use Rattle.oe_model.specs.Keys.{district_of_customer, district_of_new_order, district_of_order, order_of_line}
use Rattle.oe_model.specs.Keys.{customer_in, order_in, new_order_in, line_in}
use Rattle.oe_model.specs.Population.{counts_to, lines_of}
use Rattle.oe_population.specs.Group.{is_district, is_order, district_count, is_any_district}
use Rattle.oe_population.proofs.FillFacts.{is_eq-nat_cmp, is_eq-then, same_number}

pub same_warehouse : (w : ℕ) (k : WarehouseKey)
    → (k.warehouse == w) ≡ eq_by_cmp warehouse_cmp k (record { warehouse = w })
same_warehouse w k = sym (is_eq-nat_cmp k.warehouse w)

pub same_item : (i : ℕ) (k : ItemKey) → (k.item == i) ≡ eq_by_cmp item_cmp k (record { item = i })
same_item i k = sym (is_eq-nat_cmp k.item i)

pub same_pair : (a b x y : ℕ) → ((a == x) && (b == y)) ≡ is_eq (ordering_then (nat_cmp a x) (nat_cmp b y))
same_pair a b x y = sym (is_eq-then (nat_cmp a x) (nat_cmp b y) ∙ ap (λ t. t && is_eq (nat_cmp b y)) (is_eq-nat_cmp a x)
    ∙ ap (λ t. (a == x) && t) (is_eq-nat_cmp b y))

and_assoc : (a b c : Bool) → ((a && b) && c) ≡ (a && (b && c))
and_assoc true b c = refl
and_assoc false b c = refl

pub same_triple : (a b c x y z : ℕ) → (((a == x) && (b == y)) && (c == z)) ≡ is_eq
    (ordering_then (nat_cmp a x) (ordering_then (nat_cmp b y) (nat_cmp c z)))
same_triple a b c x y z =
    and_assoc (a == x) (b == y) (c == z) ∙ ap (λ t. (a == x) && t) (same_pair b c y z)
    ∙ ap (λ t. t && is_eq (ordering_then (nat_cmp b y) (nat_cmp c z))) (sym (is_eq-nat_cmp a x))
    ∙ sym (is_eq-then (nat_cmp a x) (ordering_then (nat_cmp b y) (nat_cmp c z)))

pub same_district : (g h : DistrictKey) → is_district g h ≡ eq_by_cmp district_cmp h g
same_district g h = same_pair h.warehouse h.district g.warehouse g.district

pub same_stock : (w i : ℕ) (k : StockKey) → ((k.warehouse == w) && (k.item == i)) ≡ eq_by_cmp stock_cmp k
    (record { warehouse = w; item = i })
same_stock w i k = same_pair k.warehouse k.item w i

pub same_customer : (g : DistrictKey) (c : ℕ) (k : CustomerKey)
    → (is_district g (district_of_customer k) && (k.customer == c)) ≡ eq_by_cmp customer_cmp k (customer_in g c)
same_customer g c k = same_triple k.warehouse k.district k.customer g.warehouse g.district c

pub same_new_order : (g : DistrictKey) (o : ℕ) (k : NewOrderKey)
    → (is_district g (district_of_new_order k) && (k.order == o)) ≡ eq_by_cmp new_order_cmp k (new_order_in g o)
same_new_order g o k = same_triple k.warehouse k.district k.order g.warehouse g.district o

pub same_order : (g : DistrictKey) (o : ℕ) (k : OrderKey)
    → (is_district g (district_of_order k) && (k.order == o)) ≡ eq_by_cmp order_cmp k (order_in g o)
same_order g o k = same_triple k.warehouse k.district k.order g.warehouse g.district o

pub same_line : (o : OrderKey) (n : ℕ) (k : OrderLineKey)
    → (is_order o (order_of_line k) && (k.number == n)) ≡ eq_by_cmp order_line_cmp k (line_in o n)
same_line o n k =
    let rest : Bool = (k.district == o.district) && (k.order == o.order) in
    ap (λ t. t && (k.number == n))
    (and_assoc (k.warehouse == o.warehouse) (k.district == o.district) (k.order == o.order))
    ∙ and_assoc (k.warehouse == o.warehouse) ((k.district == o.district) && (k.order == o.order)) (k.number == n)
    ∙ ap (λ t. (k.warehouse == o.warehouse) && t) (same_triple k.district k.order k.number o.district o.order n)
    ∙ ap (λ t. t && is_eq
    (ordering_then (nat_cmp k.district o.district) (ordering_then (nat_cmp k.order o.order) (nat_cmp k.number n)))) (sym
    (is_eq-nat_cmp k.warehouse o.warehouse))
    ∙ sym (is_eq-then (nat_cmp k.warehouse o.warehouse)
    (ordering_then (nat_cmp k.district o.district) (ordering_then (nat_cmp k.order o.order) (nat_cmp k.number n))))

-- the districts by their count
pub same_ordinal : (ordinal : ℕ) (h : DistrictKey)
    → ((district_count h == ordinal + 1) && is_any_district h) ≡ is_district
    (record { warehouse = ordinal / 10 + 1; district = ordinal % 10 + 1 }) h
same_ordinal ordinal h = grind (arith, nat_tests)

pub all_districts : (w : ℕ) (h : DistrictKey)
    → (counts_to w h.warehouse && counts_to 10 h.district)
    ≡ (counts_to (10 * w) (district_count h) && is_any_district h)
all_districts w h = grind (arith, nat_tests)

by_true : (b : Bool) (x y : Bool) → (b ≡ true → x ≡ y) → (b && x) ≡ (b && y)
by_true true x y h = h refl
by_true false x y h = refl

pub second_true : (a b : Bool) → (a && b) ≡ true → b ≡ true
second_true true b e = e
second_true false b e = cc

-- the lines of an order, by its number of lines or by its key's
pub same_lines : (o : OrderKey) (k : OrderLineKey)
    → (is_order o (order_of_line k) && counts_to (lines_of k.order) k.number)
    ≡ (is_order o (order_of_line k) && counts_to (lines_of o.order) k.number)
same_lines o k =
    by_true (is_order o (order_of_line k)) (counts_to (lines_of k.order) k.number)
    (counts_to (lines_of o.order) k.number)
    (λ e. ap (λ n. counts_to (lines_of n) k.number)
    (same_number k.order o.order
    (second_true (is_district (district_of_order o) (district_of_order (order_of_line k))) (k.order == o.order) e)))
