-- The test of names is equality, and is what their `==` answers.
use Rattle.std.proofs.Common.{◌≡◌, ℕ, ◌==◌, Bool, true, false, ◌&&◌, ◌↔◌, refl, sym, ap, ◌∙◌, eqb-true, eq-eqb}
use Rattle.std.proofs.lemmas.Bool.{and_parts, and_from, false≢true}
use Rattle.std.specs.Str.{bytes_eq}
use Rattle.std.proofs.lemmas.Slice.Eq.{bytes_eq-Decides}
use Rattle.oe_rows.specs.declared.keys.DistrictKey.{DistrictKey}
use Rattle.oe_rows.specs.declared.locks.Name.{Name}
use Rattle.oe_rows.specs.declared.locks.Name.TheVariants.{Warehouse, District, Customer, Order, Queue, Stock, Names}
use Rattle.oe_rows.specs.contracts.locks.NamePartialEq.TheImpl.{ghosts}
use Rattle.oe_locks.specs.Held.{is_name}

-- the test is what `==` answers
pub eq_is_name : (a b : Name) → ghosts.eq a b ≡ is_name a b
eq_is_name (Warehouse a) (Warehouse b) = refl
eq_is_name (District a) (District b) = refl
eq_is_name (Customer a) (Customer b) = refl
eq_is_name (Order a) (Order b) = refl
eq_is_name (Queue a) (Queue b) = refl
eq_is_name (Stock a) (Stock b) = refl
eq_is_name (Names a x) (Names b y) = refl
eq_is_name _ _ = refl

pair : (a b x y : ℕ) → ((a == x) && (b == y)) ≡ true → ◌≡◌ {A = ℕ × ℕ} (a, b) (x, y)
pair a b x y h =
    let p = and_parts (a == x) (b == y) h in
    ap (λ (n : ℕ). let r : ℕ × ℕ = (n, b) in r) (eqb-true a x p.0) ∙ ap (λ (n : ℕ). let r : ℕ × ℕ = (x, n) in r)
    (eqb-true b y p.1)

triple : (a b c x y z : ℕ) → ((a == x) && ((b == y) && (c == z))) ≡ true → ◌≡◌ {A = ℕ × (ℕ × ℕ)} (a, (b, c)) (x, (y, z))
triple a b c x y z h =
    let p = and_parts (a == x) ((b == y) && (c == z)) h in
    ap (λ (n : ℕ). let r : ℕ × (ℕ × ℕ) = (n, (b, c)) in r) (eqb-true a x p.0)
    ∙ ap (λ (q : ℕ × ℕ). let r : ℕ × (ℕ × ℕ) = (x, q) in r) (pair b c y z p.1)

-- names that pass the test are one name
pub name_true : (a b : Name) → is_name a b ≡ true → a ≡ b
name_true (Warehouse a) (Warehouse b) h = ap (λ (n : ℕ). Warehouse (record { warehouse = n }))
    (eqb-true a.warehouse b.warehouse h)
name_true (District a) (District b) h =
    ap (λ (p : ℕ × ℕ). District (record { warehouse = p.0; district = p.1 }))
    (pair a.warehouse a.district b.warehouse b.district h)
name_true (Customer a) (Customer b) h =
    ap (λ (p : ℕ × (ℕ × ℕ)). Customer (record { warehouse = p.0; district = p.1.0; customer = p.1.1 }))
    (triple a.warehouse a.district a.customer b.warehouse b.district b.customer h)
name_true (Order a) (Order b) h =
    ap (λ (p : ℕ × (ℕ × ℕ)). Order (record { warehouse = p.0; district = p.1.0; order = p.1.1 }))
    (triple a.warehouse a.district a.order b.warehouse b.district b.order h)
name_true (Queue a) (Queue b) h =
    ap (λ (p : ℕ × ℕ). Queue (record { warehouse = p.0; district = p.1 }))
    (pair a.warehouse a.district b.warehouse b.district h)
name_true (Stock a) (Stock b) h =
    ap (λ (p : ℕ × ℕ). Stock (record { warehouse = p.0; item = p.1 })) (pair a.warehouse a.item b.warehouse b.item h)
name_true (Names a x) (Names b y) h =
    let p = and_parts _ (bytes_eq x y) h in
    let key : a ≡ b = ap (λ (p : ℕ × ℕ). let r : DistrictKey = record { warehouse = p.0; district = p.1 } in r)
    (pair a.warehouse a.district b.warehouse b.district p.0) in
    λ i. Names (key i) ((bytes_eq-Decides x y).0 p.1 i)
name_true _ _ h = absurd (false≢true h)

same : (n : ℕ) → (n == n) ≡ true
same n = eq-eqb n n refl

-- a name passes the test with itself
pub name_refl : (a : Name) → is_name a a ≡ true
name_refl (Warehouse a) = same a.warehouse
name_refl (District a) = and_from _ _ (same a.warehouse) (same a.district)
name_refl (Customer a) = and_from _ _ (same a.warehouse) (and_from _ _ (same a.district) (same a.customer))
name_refl (Order a) = and_from _ _ (same a.warehouse) (and_from _ _ (same a.district) (same a.order))
name_refl (Queue a) = and_from _ _ (same a.warehouse) (same a.district)
name_refl (Stock a) = and_from _ _ (same a.warehouse) (same a.item)
name_refl (Names a x) =
    and_from _ _ (and_from _ _ (same a.warehouse) (same a.district)) ((bytes_eq-Decides x x).1 refl)

-- the order of the two does not matter
pub name_sym : (a b : Name) → is_name a b ≡ is_name b a
name_sym a b = go (is_name a b) (is_name b a) refl refl
  where
    go : (x y : Bool) → is_name a b ≡ x → is_name b a ≡ y → x ≡ y
    go true true e f = refl
    go false false e f = refl
    go true false e f = sym (name_refl b) ∙ (ap (λ z. is_name b z) (sym (name_true a b e)) ∙ f)
    go false true e f = sym e ∙ (ap (λ z. is_name a z) (name_true b a f) ∙ name_refl a)

pub same_true : (a b : Name) → ghosts.eq a b ≡ true → a ≡ b
same_true a b e = name_true a b (sym (eq_is_name a b) ∙ e)
