-- Why writes at keys without a place are refused.
use Rattle.std.proofs.Common.{◌≡◌, false, refl, ap, subst, Option, None, Some, is_some}
use Rattle.std.specs.Prelude.{◌≢◌, IsSome}
use Rattle.oe_rows.specs.declared.keys.HistoryKey.{HistoryKey}
use Rattle.oe_rows.specs.declared.keys.NewOrderKey.{NewOrderKey}
use Rattle.oe_rows.specs.declared.keys.OrderKey.{OrderKey}
use Rattle.oe_rows.specs.declared.keys.OrderLineKey.{OrderLineKey}
use Rattle.oe_rows.specs.declared.keys.Key.{Key}
use Rattle.oe_rows.specs.declared.keys.Key.TheVariants as key
use Rattle.oe_rows.proofs.KeyFacts.{warehouse_total, exact_warehouse, district_total, exact_district, customer_total}
use Rattle.oe_rows.proofs.KeyFacts.{exact_customer, history_total, exact_history, new_order_total, exact_new_order}
use Rattle.oe_rows.proofs.KeyFacts.{order_total, exact_order, order_line_total, exact_order_line, item_total}
use Rattle.oe_rows.proofs.KeyFacts.{exact_item, stock_total, exact_stock}
use Rattle.oe_requests.specs.declared.refusals.Refusal.TheVariants.{NoSuchRow}
use Rattle.oe_rows.specs.declared.histories.History.{History}
use Rattle.oe_rows.specs.declared.orders.Order.{Order}
use Rattle.oe_rows.specs.declared.orders.OrderLine.{OrderLine}
use Rattle.oe_rows.specs.declared.rows.Row.{Row}
use Rattle.oe_model.specs.Rows.{row_at}
use Rattle.oe_change.specs.declared.writes.Write.{Write}
use Rattle.oe_change.specs.declared.writes.Write.TheVariants.{WarehouseYtd, DistrictYtd, NextOrder, CustomerAccount}
use Rattle.oe_change.specs.declared.writes.Write.TheVariants.{BadCredit, CustomerNames, StockCounters, Carrier}
use Rattle.oe_change.specs.declared.writes.Write.TheVariants.{DeliveryDate}
use Rattle.oe_change.specs.declared.writes.Write.TheVariants.{InsertHistory, InsertNewOrder, InsertOrder}
use Rattle.oe_change.specs.declared.writes.Write.TheVariants.{InsertOrderLine, DeleteNewOrder}
use Rattle.oe_change.specs.Writes.{key_written, change_of}
use Rattle.oe_store.specs.Places.{Places, rows, HasPlace}
use Rattle.oe_store.proofs.PlaceFacts.{place_of_row}
use Rattle.oe_writes.specs.Made.{RefusesWrite}
use Rattle.oe_writes.specs.Kinds.{is_rename, IsPlain}
use Rattle.oe_writes.proofs.SetFacts.{row_there}

-- a key with a row has a place, so that one without a place has no row
module _ (s : Places) where
  has_place : (k : Key) → IsSome (row_at (rows s) k) → HasPlace s k
  has_place (key.Warehouse k) h = place_of_row warehouse_total exact_warehouse s.warehouses k (row_there _ _ h)
  has_place (key.District k) h = place_of_row district_total exact_district s.districts k (row_there _ _ h)
  has_place (key.Customer k) h = place_of_row customer_total exact_customer s.customers k (row_there _ _ h)
  has_place (key.History k) h = place_of_row history_total exact_history s.histories k (row_there _ _ h)
  has_place (key.NewOrder k) h = place_of_row new_order_total exact_new_order s.new_orders k (row_there _ _ h)
  has_place (key.Order k) h = place_of_row order_total exact_order s.orders k (row_there _ _ h)
  has_place (key.OrderLine k) h = place_of_row order_line_total exact_order_line s.order_lines k (row_there _ _ h)
  has_place (key.Item k) h = place_of_row item_total exact_item s.items k (row_there _ _ h)
  has_place (key.Stock k) h = place_of_row stock_total exact_stock s.stocks k (row_there _ _ h)

  no_row : (k : Key) → (HasPlace s k → ⊥) → row_at (rows s) k ≡ None
  no_row k none = go (row_at (rows s) k) refl
    where
      go : (o : Option Row) → row_at (rows s) k ≡ o → o ≡ None
      go None e = refl
      go (Some x) e = absurd (none (has_place k (ap is_some e)))

-- where a write inserts no row, it deletes one: a row to be updated has a place
pub write_unplaced : (w : Write) (s : Places) → ((k : HistoryKey) (x : History) → w ≢ InsertHistory k x)
    → ((k : NewOrderKey) → w ≢ InsertNewOrder k)
    → ((k : OrderKey) (x : Order) → w ≢ InsertOrder k x)
    → ((k : OrderLineKey) (x : OrderLine) → w ≢ InsertOrderLine k x)
    → IsSome (change_of w (rows s)) → (HasPlace s (key_written w) → ⊥) → RefusesWrite w s (NoSuchRow (key_written w))
write_unplaced (InsertHistory k x) s h n o l there none = absurd (h k x refl)
write_unplaced (InsertNewOrder k) s h n o l there none = absurd (n k refl)
write_unplaced (InsertOrder k x) s h n o l there none = absurd (o k x refl)
write_unplaced (InsertOrderLine k x) s h n o l there none = absurd (l k x refl)
write_unplaced (WarehouseYtd k y) s h n o l there none =
    absurd (none (place_of_row warehouse_total exact_warehouse s.warehouses k (row_there _ _ there)))
write_unplaced (DistrictYtd k y) s h n o l there none =
    absurd (none (place_of_row district_total exact_district s.districts k (row_there _ _ there)))
write_unplaced (NextOrder k m) s h n o l there none =
    absurd (none (place_of_row district_total exact_district s.districts k (row_there _ _ there)))
write_unplaced (CustomerAccount k a) s h n o l there none = absurd
    (none (place_of_row customer_total exact_customer s.customers k (row_there _ _ there)))
write_unplaced (BadCredit k a m) s h n o l there none =
    absurd (none (place_of_row customer_total exact_customer s.customers k (row_there _ _ there)))
write_unplaced (CustomerNames k a m) s h n o l there none =
    absurd (none (place_of_row customer_total exact_customer s.customers k (row_there _ _ there)))
write_unplaced (StockCounters k m) s h n o l there none =
    absurd (none (place_of_row stock_total exact_stock s.stocks k (row_there _ _ there)))
write_unplaced (Carrier k c) s h n o l there none =
    absurd (none (place_of_row order_total exact_order s.orders k (row_there _ _ there)))
write_unplaced (DeliveryDate k t) s h n o l there none =
    absurd (none (place_of_row order_line_total exact_order_line s.order_lines k (row_there _ _ there)))
write_unplaced (DeleteNewOrder k) s h n o l there none = ((refl, refl, no_row s (key.NewOrder k) none), tt)

-- so does a plain write, which inserts none
pub plain_unplaced : (w : Write) (s : Places) → IsPlain w → IsSome (change_of w (rows s))
    → (HasPlace s (key_written w) → ⊥) → RefusesWrite w s (NoSuchRow (key_written w))
plain_unplaced w s plain =
    write_unplaced w s
    (λ k x e. subst (λ (v : Write). IsPlain v) e plain) (λ k e. subst (λ (v : Write). IsPlain v) e plain)
    (λ k x e. subst (λ (v : Write). IsPlain v) e plain) (λ k x e. subst (λ (v : Write). IsPlain v) e plain)

-- and it leaves customers their names
pub plain_named : (w : Write) → IsPlain w → false ≡ is_rename w
plain_named (CustomerNames k a m) plain = absurd plain
plain_named (InsertHistory k x) plain = absurd plain
plain_named (InsertNewOrder k) plain = absurd plain
plain_named (InsertOrder k x) plain = absurd plain
plain_named (InsertOrderLine k x) plain = absurd plain
plain_named (WarehouseYtd k y) plain = refl
plain_named (DistrictYtd k y) plain = refl
plain_named (NextOrder k m) plain = refl
plain_named (CustomerAccount k a) plain = refl
plain_named (BadCredit k a m) plain = refl
plain_named (StockCounters k m) plain = refl
plain_named (Carrier k c) plain = refl
plain_named (DeliveryDate k t) plain = refl
plain_named (DeleteNewOrder k) plain = refl
