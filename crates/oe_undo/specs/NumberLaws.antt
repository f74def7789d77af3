-- Two keys of a shelf that have the same number are the same.
use Rattle.std.specs.Prelude.{◌≡◌, ℕ, ◌+◌, ◌*◌, ◌<◌, Bool, true, false, cond, ltb, ◌&&◌, None, Some}
use Rattle.std.proofs.Common.{refl, sym, ◌∙◌, ap, arith}
use borrow.Author.Tests.{ltb-true}
use Rattle.std.proofs.lemmas.Option.{same_Some}
use Rattle.oe_rows.specs.declared.keys.WarehouseKey.{WarehouseKey}
use Rattle.oe_rows.specs.declared.keys.DistrictKey.{DistrictKey}
use Rattle.oe_rows.specs.declared.keys.CustomerKey.{CustomerKey}
use Rattle.oe_rows.specs.declared.keys.NewOrderKey.{NewOrderKey}
use Rattle.oe_rows.specs.declared.keys.OrderKey.{OrderKey}
use Rattle.oe_rows.specs.declared.keys.OrderLineKey.{OrderLineKey}
use Rattle.oe_rows.specs.declared.keys.ItemKey.{ItemKey}
use Rattle.oe_rows.specs.declared.keys.StockKey.{StockKey}
use Rattle.oe_rows.specs.KeyShelves.{district_shelf}
use Rattle.oe_undo.specs.Numbers.{in_district, warehouse_number, district_number, customer_number, new_order_number}
use Rattle.oe_undo.specs.Numbers.{order_number, order_line_number, item_number, stock_number}

-- what a number with its bounds says
record IsBounded (low high d n m : ℕ) : Type 0 where
  pub above : low < d
  pub below : d < high
  pub same : n ≡ m

bounded : (low high d n m : ℕ) → cond (ltb low d && ltb d high) (Some n) None ≡ Some m → IsBounded low high d n m
bounded low high d n m = go (ltb low d) (ltb d high) refl refl
  where
    go : (a b : Bool) → ltb low d ≡ a → ltb d high ≡ b → cond (a && b) (Some n) None ≡ Some m → IsBounded low high d n m
    go true true p q e = record { above = ltb-true low d p; below = ltb-true d high q; same = same_Some n m e }
    go true false p q e = cc
    go false b p q e = cc

pub warehouse_numbered : (j k : WarehouseKey) (n : ℕ) → ◌≡◌ {A = ℕ} 0 0 → warehouse_number j ≡ Some n
    → warehouse_number k ≡ Some n → j ≡ k
warehouse_numbered j k n s p q = ap (λ (w : ℕ). record { warehouse = w })
    (same_Some j.warehouse k.warehouse (p ∙ sym q))

pub item_numbered : (j k : ItemKey) (n : ℕ) → ◌≡◌ {A = ℕ} 0 0 → item_number j ≡ Some n → item_number k ≡ Some n → j ≡ k
item_numbered j k n s p q = ap (λ (i : ℕ). record { item = i }) (same_Some j.item k.item (p ∙ sym q))

pub stock_numbered : (j k : StockKey) (n : ℕ) → j.warehouse ≡ k.warehouse → stock_number j ≡ Some n
    → stock_number k ≡ Some n → j ≡ k
stock_numbered j k n s p q =
    ap (λ (w : ℕ). record { warehouse = w; item = j.item }) s
    ∙ ap (λ (i : ℕ). record { warehouse = k.warehouse; item = i }) (same_Some j.item k.item (p ∙ sym q))

pub district_numbered : (j k : DistrictKey) (n : ℕ) → ◌≡◌ {A = ℕ} 0 0 → district_number j ≡ Some n
    → district_number k ≡ Some n → j ≡ k
district_numbered j k n s p q =
    let a = bounded 0 11 j.district (10 * j.warehouse + j.district) n p in
    let b = bounded 0 11 k.district (10 * k.warehouse + k.district) n q in
    let w : j.warehouse ≡ k.warehouse = omega (arith, a.above, a.below, a.same, b.above, b.below, b.same) in
    let d : j.district ≡ k.district = omega (arith, w, a.same, b.same) in
    ap (λ (x : ℕ). record { warehouse = x; district = j.district }) w
    ∙ ap (λ (x : ℕ). record { warehouse = k.warehouse; district = x }) d

-- the district of a shelf
record IsDistrict (w d v e : ℕ) : Type 0 where
  pub warehouse : w ≡ v
  pub district : d ≡ e

of_shelf : (w d v e : ℕ) → 0 < d → d < 11 → 0 < e → e < 11 → district_shelf w d ≡ district_shelf v e
    → IsDistrict w d v e
of_shelf w d v e a b c f s =
    let one : w ≡ v = omega (arith, a, b, c, f, s) in
    record { warehouse = one; district = omega (arith, a, b, c, f, s, one) }

pub customer_numbered : (j k : CustomerKey) (n : ℕ)
    → district_shelf j.warehouse j.district ≡ district_shelf k.warehouse k.district
    → customer_number j ≡ Some n → customer_number k ≡ Some n → j ≡ k
customer_numbered j k n s p q =
    let a = bounded 0 11 j.district j.customer n p in
    let b = bounded 0 11 k.district k.customer n q in
    let h = of_shelf j.warehouse j.district k.warehouse k.district a.above a.below b.above b.below s in
    ap (λ (x : ℕ). record { warehouse = x; district = j.district; customer = j.customer }) h.warehouse
    ∙ ap (λ (x : ℕ). record { warehouse = k.warehouse; district = x; customer = j.customer }) h.district
    ∙ ap (λ (x : ℕ). record { warehouse = k.warehouse; district = k.district; customer = x }) (a.same ∙ sym b.same)

pub new_order_numbered : (j k : NewOrderKey) (n : ℕ)
    → district_shelf j.warehouse j.district ≡ district_shelf k.warehouse k.district
    → new_order_number j ≡ Some n → new_order_number k ≡ Some n → j ≡ k
new_order_numbered j k n s p q =
    let a = bounded 0 11 j.district j.order n p in
    let b = bounded 0 11 k.district k.order n q in
    let h = of_shelf j.warehouse j.district k.warehouse k.district a.above a.below b.above b.below s in
    ap (λ (x : ℕ). record { warehouse = x; district = j.district; order = j.order }) h.warehouse
    ∙ ap (λ (x : ℕ). record { warehouse = k.warehouse; district = x; order = j.order }) h.district
    ∙ ap (λ (x : ℕ). record { warehouse = k.warehouse; district = k.district; order = x }) (a.same ∙ sym b.same)

pub order_numbered : (j k : OrderKey) (n : ℕ)
    → district_shelf j.warehouse j.district ≡ district_shelf k.warehouse k.district
    → order_number j ≡ Some n → order_number k ≡ Some n → j ≡ k
order_numbered j k n s p q =
    let a = bounded 0 11 j.district j.order n p in
    let b = bounded 0 11 k.district k.order n q in
    let h = of_shelf j.warehouse j.district k.warehouse k.district a.above a.below b.above b.below s in
    ap (λ (x : ℕ). record { warehouse = x; district = j.district; order = j.order }) h.warehouse
    ∙ ap (λ (x : ℕ). record { warehouse = k.warehouse; district = x; order = j.order }) h.district
    ∙ ap (λ (x : ℕ). record { warehouse = k.warehouse; district = k.district; order = x }) (a.same ∙ sym b.same)

-- an order line's number, and its order's
record IsLine (k : OrderLineKey) (n : ℕ) : Type 0 where
  pub first : 0 < k.number
  pub last : k.number < 16
  pub above : 0 < k.district
  pub below : k.district < 11
  pub same : 15 * k.order + k.number ≡ n

line_bounded : (k : OrderLineKey) (n : ℕ) → order_line_number k ≡ Some n → IsLine k n
line_bounded k n = go (ltb 0 k.number) (ltb k.number 16) refl refl
  where
    go : (a b : Bool) → ltb 0 k.number ≡ a → ltb k.number 16 ≡ b
        → cond (a && b) (in_district k.district (15 * k.order + k.number)) None ≡ Some n → IsLine k n
    go true true p q e =
        let h = bounded 0 11 k.district (15 * k.order + k.number) n e in
        record {
          first = ltb-true 0 k.number p;
          last = ltb-true k.number 16 q;
          above = h.above;
          below = h.below;
          same = h.same;
        }
    go true false p q e = cc
    go false b p q e = cc

pub order_line_numbered : (j k : OrderLineKey) (n : ℕ)
    → district_shelf j.warehouse j.district ≡ district_shelf k.warehouse k.district
    → order_line_number j ≡ Some n → order_line_number k ≡ Some n → j ≡ k
order_line_numbered j k n s p q =
    let a = line_bounded j n p in
    let b = line_bounded k n q in
    let h = of_shelf j.warehouse j.district k.warehouse k.district a.above a.below b.above b.below s in
    let o : j.order ≡ k.order = omega (arith, a.first, a.last, a.same, b.first, b.last, b.same) in
    let l : j.number ≡ k.number = omega (arith, o, a.same, b.same) in
    ap (λ (x : ℕ). record { warehouse = x; district = j.district; order = j.order; number = j.number }) h.warehouse
    ∙ ap (λ (x : ℕ). record { warehouse = k.warehouse; district = x; order = j.order; number = j.number }) h.district
    ∙ ap (λ (x : ℕ). record { warehouse = k.warehouse; district = k.district; order = x; number = j.number }) o
    ∙ ap (λ (x : ℕ). record { warehouse = k.warehouse; district = k.district; order = k.order; number = x }) l
