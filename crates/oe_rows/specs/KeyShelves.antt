-- On which shelf of its table each key lies: what is of one district, or of one warehouse or terminal, lies together.
use Rattle.std.specs.Prelude.{◌≡◌, ℕ, ◌+◌, ◌-◌, ◌*◌, ◌<◌, ◌≤◌, Bool, true, false, min}
use Rattle.std.proofs.Common.{refl, arith}
use Rattle.std.specs.declared.cmp.Ordering.{Ordering}
use Rattle.std.specs.declared.cmp.Ordering.TheVariants.{Less}
use Rattle.std.specs.Ordering.{nat_cmp, ordering_then}
use Rattle.std.specs.Cmp.{nat_cmp_total, tied_itself}
use borrow.Author.Tests.{ltb-true, ltb-false, lt-ltb}
use lib.Dec.{ltb}
use Rattle.oe_rows.specs.declared.keys.WarehouseKey.{WarehouseKey}
use Rattle.oe_rows.specs.declared.keys.DistrictKey.{DistrictKey}
use Rattle.oe_rows.specs.declared.keys.CustomerKey.{CustomerKey}
use Rattle.oe_rows.specs.declared.keys.HistoryKey.{HistoryKey}
use Rattle.oe_rows.specs.declared.keys.NewOrderKey.{NewOrderKey}
use Rattle.oe_rows.specs.declared.keys.OrderKey.{OrderKey}
use Rattle.oe_rows.specs.declared.keys.OrderLineKey.{OrderLineKey}
use Rattle.oe_rows.specs.declared.keys.ItemKey.{ItemKey}
use Rattle.oe_rows.specs.declared.keys.StockKey.{StockKey}
use Rattle.oe_rows.specs.Key.{warehouse_cmp, district_cmp, customer_cmp, history_cmp, new_order_cmp, order_cmp}
use Rattle.oe_rows.specs.Key.{order_line_cmp, item_cmp, stock_cmp}

-- ten shelves for each warehouse, one for each district
abbrev pub district_shelf : ℕ → ℕ → ℕ
district_shelf warehouse district = 10 * warehouse + min (district - 1) 9

less-then : (a b : ℕ) (rest : Ordering) → a < b → ordering_then (nat_cmp a b) rest ≡ Less
less-then a b rest h = rw (lt-ltb a b h) refl

same-then : (a b : ℕ) (rest : Ordering) → a ≡ b → ordering_then (nat_cmp a b) rest ≡ rest
same-then a b rest e = rw (e, tied_itself nat_cmp_total b) refl

by_first : (a b c d : ℕ) (rest : Ordering) (t : Bool) → ltb a c ≡ t
    → district_shelf a b < district_shelf c d
    → ordering_then (nat_cmp a c) (ordering_then (nat_cmp b d) rest) ≡ Less
by_first a b c d rest true e h = less-then a c _ (ltb-true a c e)
by_first a b c d rest false e h =
    let over : c ≤ a = ltb-false a c e in
    let same : a ≡ c = omega arith in
    let less : b < d = omega arith in
    rw (same-then a c (ordering_then (nat_cmp b d) rest) same) (less-then b d rest less)

by_district : (a b c d : ℕ) (rest : Ordering) → district_shelf a b < district_shelf c d
    → ordering_then (nat_cmp a c) (ordering_then (nat_cmp b d) rest) ≡ Less
by_district a b c d rest h = by_first a b c d rest (ltb a c) refl h

pub warehouse_ascends : (j k : WarehouseKey) → 0 < 0 → warehouse_cmp j k ≡ Less
warehouse_ascends j k h = absurd (omega arith)

pub district_ascends : (j k : DistrictKey) → 0 < 0 → district_cmp j k ≡ Less
district_ascends j k h = absurd (omega arith)

pub customer_ascends : (j k : CustomerKey)
    → district_shelf j.warehouse j.district < district_shelf k.warehouse k.district
    → customer_cmp j k ≡ Less
customer_ascends j k h = by_district j.warehouse j.district k.warehouse k.district _ h

pub history_ascends : (j k : HistoryKey) → j.terminal < k.terminal → history_cmp j k ≡ Less
history_ascends j k h = less-then j.terminal k.terminal _ h

pub new_order_ascends : (j k : NewOrderKey)
    → district_shelf j.warehouse j.district < district_shelf k.warehouse k.district
    → new_order_cmp j k ≡ Less
new_order_ascends j k h = by_district j.warehouse j.district k.warehouse k.district _ h

pub order_ascends : (j k : OrderKey)
    → district_shelf j.warehouse j.district < district_shelf k.warehouse k.district
    → order_cmp j k ≡ Less
order_ascends j k h = by_district j.warehouse j.district k.warehouse k.district _ h

pub order_line_ascends : (j k : OrderLineKey)
    → district_shelf j.warehouse j.district < district_shelf k.warehouse k.district
    → order_line_cmp j k ≡ Less
order_line_ascends j k h = by_district j.warehouse j.district k.warehouse k.district _ h

pub item_ascends : (j k : ItemKey) → 0 < 0 → item_cmp j k ≡ Less
item_ascends j k h = absurd (omega arith)

pub stock_ascends : (j k : StockKey) → j.warehouse < k.warehouse → stock_cmp j k ≡ Less
stock_ascends j k h = less-then j.warehouse k.warehouse _ h
