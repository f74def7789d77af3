-- Keys of facts are one where the model's are, and what a comparison of figures says.
use Rattle.std.proofs.Common.{◌≡◌, ℕ, refl, sym, ◌∙◌, ap, subst, Bool, true, false, cond, Option, Some, None, arith, ℤ}
use Rattle.std.proofs.Common.{pos, nat_eq, is_eq, nat_cmp}
use Rattle.std.specs.Prelude.{◌↔◌, ◌&&◌, unwrap_or, option_map}
use Rattle.std.specs.Cmp.{tied_then, unsigned_ties}
use Rattle.std.specs.Ordering.{eq_by_cmp, int_eq, ordering_then}
use Rattle.std.specs.declared.cmp.Ordering.{Ordering}
use Rattle.std.specs.FinMap.{FinMap, get}
use Rattle.std.proofs.lemmas.Bool.Decides.{Decides-int_eq}
use Rattle.std.specs.Int.{int_min}
use Rattle.std.proofs.lemmas.Int.{ints, clamps}
use Rattle.oe_rows.specs.Key.{warehouse_cmp, district_cmp, customer_cmp, order_cmp, item_cmp, stock_cmp}
use Rattle.oe_rows.specs.declared.keys.WarehouseKey.{WarehouseKey}
use Rattle.oe_rows.specs.declared.keys.DistrictKey.{DistrictKey}
use Rattle.oe_rows.specs.declared.keys.CustomerKey.{CustomerKey}
use Rattle.oe_rows.specs.declared.keys.OrderKey.{OrderKey}
use Rattle.oe_rows.specs.declared.keys.ItemKey.{ItemKey}
use Rattle.oe_rows.specs.declared.keys.StockKey.{StockKey}
use Rattle.oe_ledgers.specs.Keys.{same_district, same_customer, same_order, same_stock}
use Rattle.oe_checks.specs.declared.figures.Apart.{Apart}
use Rattle.oe_checks.specs.Comparing.{unless_equal, against, even}
use Rattle.oe_fact_laws.specs.Facts.{district_id, customer_id, order_id, stock_id}
use Rattle.oe_fact_laws.specs.FactLaws.{FindsNothing}

-- two columns
two : (a b c d : ℕ) → (nat_eq a b && nat_eq c d) ≡ is_eq (ordering_then (nat_cmp a b) (nat_cmp c d))
two a b c d = (λ i. unsigned_ties a b i && unsigned_ties c d i) ∙ tied_then (nat_cmp a b) (nat_cmp c d)

-- three
three : (a b c d e f : ℕ) → (nat_eq a b && (nat_eq c d && nat_eq e f)) ≡ is_eq
    (ordering_then (nat_cmp a b) (ordering_then (nat_cmp c d) (nat_cmp e f)))
three a b c d e f =
    (λ i. unsigned_ties a b i && two c d e f i)
    ∙ tied_then (nat_cmp a b) (ordering_then (nat_cmp c d) (nat_cmp e f))

pub warehouse_tie : (a b : WarehouseKey) → nat_eq a.warehouse b.warehouse ≡ eq_by_cmp warehouse_cmp a b
warehouse_tie a b = unsigned_ties a.warehouse b.warehouse

pub district_tie : (a b : DistrictKey) → same_district (district_id a) (district_id b) ≡ eq_by_cmp district_cmp a b
district_tie a b = two a.warehouse b.warehouse a.district b.district

pub customer_tie : (a b : CustomerKey) → same_customer (customer_id a) (customer_id b) ≡ eq_by_cmp customer_cmp a b
customer_tie a b = three a.warehouse b.warehouse a.district b.district a.customer b.customer

pub order_tie : (a b : OrderKey) → same_order (order_id a) (order_id b) ≡ eq_by_cmp order_cmp a b
order_tie a b = three a.warehouse b.warehouse a.district b.district a.order b.order

pub item_tie : (a b : ItemKey) → nat_eq a.item b.item ≡ eq_by_cmp item_cmp a b
item_tie a b = unsigned_ties a.item b.item

pub stock_tie : (a b : StockKey) → same_stock (stock_id a) (stock_id b) ≡ eq_by_cmp stock_cmp a b
stock_tie a b = two a.warehouse b.warehouse a.item b.item

-- equivalences one after another
pub both_ways : {A B C : Type 0} → A ↔ B → B ↔ C → A ↔ C
both_ways f g = (λ a. g.0 (f.0 a), λ c. f.1 (g.1 c))

pub turned : {A B : Type 0} → A ↔ B → B ↔ A
turned f = (f.1, f.0)

-- two figures are one
pub equal_tied : (a b : ℤ) → (unless_equal a b ≡ None) ↔ (a ≡ b)
equal_tied a b = (forth (int_eq a b) refl, λ e. ap apart ((Decides-int_eq a b).1 e))
  where
    apart : Bool → Option Apart
    apart t = cond t None (Some (record { first = a; second = b }))

    forth : (t : Bool) → int_eq a b ≡ t → apart t ≡ None → a ≡ b
    forth true e h = (Decides-int_eq a b).0 e
    forth false e h = let no : ⊥ = cc in absurd no

pub numbers_tied : (a b : ℕ) → (pos a ≡ pos b) ↔ (a ≡ b)
numbers_tied a b = (λ e. omega (arith, ints), λ e. ap pos e)

-- a check by keys finds nothing exactly where it finds nothing at the rows' keys
pub by_rows : {K X J : Type 0} {R : K → K → Ordering} (check : J → Option Apart) (m : FinMap R X) (P : K → X → Type 0)
    (id : K → J) (back : J → K) → ((j : J) → id (back j) ≡ j)
    → ((k : K) → get m k ≡ None → check (id k) ≡ None)
    → ((k : K) (x : X) → get m k ≡ Some x → (check (id k) ≡ None) ↔ P k x)
    → FindsNothing check ↔ ((k : K) (x : X) → get m k ≡ Some x → P k x)
by_rows check m P id back each absent there = (
  λ h k x e. (there k x e).0 (h (id k)),
  λ h j. subst (λ z. check z ≡ None) (each j) (go (back j) (get m (back j)) refl h),
)
  where
    go : (k : _) (v : _) → get m k ≡ v → ((k : _) (x : _) → get m k ≡ Some x → P k x) → check (id k) ≡ None
    go k None e h = absent k e
    go k (Some x) e h = (there k x e).1 (h k x e)

-- a row's figure against a sum
pub against_tied : (v s : Option ℤ) (a b : ℤ) → v ≡ Some a → unwrap_or s (pos 0) ≡ b → (against v s ≡ None) ↔ (a ≡ b)
against_tied v s a b e f =
    subst (λ (z : Option ℤ). (against z s ≡ None) ↔ (a ≡ b)) (sym e)
    (subst (λ (z : ℤ). (unless_equal a (unwrap_or s (pos 0)) ≡ None) ↔ (a ≡ z)) f (equal_tied a (unwrap_or s (pos 0))))

pub numbers_against : (v s : Option ℤ) (a b : ℕ) → v ≡ Some (pos a) → unwrap_or s (pos 0) ≡ pos b
    → (against v s ≡ None) ↔ (a ≡ b)
numbers_against v s a b e f = both_ways (against_tied v s (pos a) (pos b) e f) (numbers_tied a b)

pub against_none : (v s : Option ℤ) → v ≡ None → against v s ≡ None
against_none v s e = ap (λ z. against z s) e

-- a number that counts for a group
pub counts_for : (b c : Bool) (n : ℕ) → b ≡ c → cond b (pos n) (pos 0) ≡ pos (cond c n 0)
counts_for b true n e = ap (λ t. cond t (pos n) (pos 0)) e
counts_for b false n e = ap (λ t. cond t (pos n) (pos 0)) e

pub itself : {A : Type 0} → A ↔ A
itself = (λ a. a, λ a. a)

-- a check of each row's number against a sum finds nothing exactly where these numbers are one, or what that comes to
pub against_sums : {K X J : Type 0} {R : K → K → Ordering} (m : FinMap R X) (P : K → X → Type 0) (id : K → J)
    (back : J → K) (each : (j : J) → id (back j) ≡ j) (row sum : J → Option ℤ) (a : K → X → ℕ) (b : K → ℕ)
    → ((k : K) → row (id k) ≡ option_map (λ x. pos (a k x)) (get m k))
    → ((k : K) → unwrap_or (sum (id k)) (pos 0) ≡ pos (b k))
    → ((k : K) (x : X) → get m k ≡ Some x → (a k x ≡ b k) ↔ P k x)
    → FindsNothing (λ j. against (row j) (sum j)) ↔ ((k : K) (x : X) → get m k ≡ Some x → P k x)
against_sums m P id back each row sum a b row_is sum_is tied =
    by_rows (λ j. against (row j) (sum j)) m P id back each
    (λ k e. against_none (row (id k)) (sum (id k)) (row_is k ∙ ap (option_map (λ x. pos (a k x))) e))
    (λ k x e. both_ways
    (numbers_against (row (id k)) (sum (id k)) (a k x) (b k)
    (row_is k ∙ ap (option_map (λ x. pos (a k x))) e) (sum_is k)) (tied k x e))

-- two sums
pub even_tied : (a b : Option ℤ) (m n : ℕ) → unwrap_or a (pos 0) ≡ pos m → unwrap_or b (pos 0) ≡ pos n
    → (even a b ≡ None) ↔ (m ≡ n)
even_tied a b m n e f =
    both_ways (equal_tied (unwrap_or a (pos 0)) (unwrap_or b (pos 0)))
    (both_ways (λ h. sym e ∙ h ∙ f, λ h. e ∙ h ∙ sym f) (numbers_tied m n))

-- the least of two numbers
pub int_min_associative : (a b c : ℤ) → int_min (int_min a b) c ≡ int_min a (int_min b c)
int_min_associative a b c = omega (arith, ints, clamps)

pub int_min_commutative : (a b : ℤ) → int_min a b ≡ int_min b a
int_min_commutative a b = omega (arith, ints, clamps)
