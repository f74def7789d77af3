-- The order of each key tells any two keys apart.
use Rattle.std.proofs.Common.{◌≡◌, ℕ, ap}
use Rattle.std.specs.Ordering.{nat_cmp, ordering_then}
use Rattle.std.specs.declared.cmp.Ordering.TheVariants.{Equal}
use Rattle.std.specs.FinMap.{IsAntisymmetric}
use Rattle.std.proofs.lemmas.Map.Lookups.{exact_pairs, exact_unsigned}
use Rattle.oe_rows.specs.Key.{warehouse_cmp, district_cmp, customer_cmp, history_cmp, new_order_cmp, order_cmp}
use Rattle.oe_rows.specs.Key.{order_line_cmp, item_cmp, stock_cmp}

pair : (a b x y : ℕ) → ordering_then (nat_cmp a x) (nat_cmp b y) ≡ Equal
    → ◌≡◌ {A = ℕ × ℕ} (a, b) (x, y)
pair a b x y e = exact_pairs nat_cmp nat_cmp exact_unsigned exact_unsigned (a, b) (x, y) e

triple : (a b c x y z : ℕ)
    → ordering_then (nat_cmp a x) (ordering_then (nat_cmp b y) (nat_cmp c z)) ≡ Equal
    → ◌≡◌ {A = ℕ × (ℕ × ℕ)} (a, (b, c)) (x, (y, z))
triple a b c x y z e =
    exact_pairs nat_cmp (λ p q. ordering_then (nat_cmp p.0 q.0) (nat_cmp p.1 q.1)) exact_unsigned
    (exact_pairs nat_cmp nat_cmp exact_unsigned exact_unsigned) (a, (b, c)) (x, (y, z)) e

quadruple : (a b c d x y z w : ℕ)
    → ordering_then (nat_cmp a x)
    (ordering_then (nat_cmp b y) (ordering_then (nat_cmp c z) (nat_cmp d w))) ≡ Equal
    → ◌≡◌ {A = ℕ × (ℕ × (ℕ × ℕ))} (a, (b, (c, d))) (x, (y, (z, w)))
quadruple a b c d x y z w e =
    exact_pairs nat_cmp
    (λ p q. ordering_then (nat_cmp p.0 q.0)
    (ordering_then (nat_cmp p.1.0 q.1.0) (nat_cmp p.1.1 q.1.1))) exact_unsigned
    (λ p q. triple p.0 p.1.0 p.1.1 q.0 q.1.0 q.1.1) (a, (b, (c, d))) (x, (y, (z, w))) e

pub exact_warehouse : IsAntisymmetric warehouse_cmp
exact_warehouse a b e =
    ap (λ (n : ℕ). record { warehouse = n }) (exact_unsigned a.warehouse b.warehouse e)

pub exact_district : IsAntisymmetric district_cmp
exact_district a b e =
    ap (λ (p : ℕ × ℕ). record {
      warehouse = p.0;
      district = p.1;
    }) (pair a.warehouse a.district b.warehouse b.district e)

pub exact_customer : IsAntisymmetric customer_cmp
exact_customer a b e =
    ap (λ (p : ℕ × (ℕ × ℕ)). record { warehouse = p.0; district = p.1.0; customer = p.1.1 })
    (triple a.warehouse a.district a.customer b.warehouse b.district b.customer e)

pub exact_history : IsAntisymmetric history_cmp
exact_history a b e =
    ap (λ (p : ℕ × (ℕ × ℕ)). record { terminal = p.0; number = p.1.0; ordinal = p.1.1 })
    (triple a.terminal a.number a.ordinal b.terminal b.number b.ordinal e)

pub exact_new_order : IsAntisymmetric new_order_cmp
exact_new_order a b e =
    ap (λ (p : ℕ × (ℕ × ℕ)). record { warehouse = p.0; district = p.1.0; order = p.1.1 })
    (triple a.warehouse a.district a.order b.warehouse b.district b.order e)

pub exact_order : IsAntisymmetric order_cmp
exact_order a b e =
    ap (λ (p : ℕ × (ℕ × ℕ)). record { warehouse = p.0; district = p.1.0; order = p.1.1 })
    (triple a.warehouse a.district a.order b.warehouse b.district b.order e)

pub exact_order_line : IsAntisymmetric order_line_cmp
exact_order_line a b e =
    ap (λ (p : ℕ × (ℕ × (ℕ × ℕ))). record {
      warehouse = p.0;
      district = p.1.0;
      order = p.1.1.0;
      number = p.1.1.1;
    })
    (quadruple a.warehouse a.district a.order a.number b.warehouse b.district b.order b.number e)

pub exact_item : IsAntisymmetric item_cmp
exact_item a b e = ap (λ (n : ℕ). record { item = n }) (exact_unsigned a.item b.item e)

pub exact_stock : IsAntisymmetric stock_cmp
exact_stock a b e =
    ap (λ (p : ℕ × ℕ). record {
      warehouse = p.0;
      item = p.1;
    }) (pair a.warehouse a.item b.warehouse b.item e)
