-- What a write's record and its change make together, and why a write is refused.
use Rattle.std.proofs.Common.{◌≡◌, ℕ, refl, sym, ap, ◌∙◌, Option, None, Some, is_some, true}
use Rattle.std.specs.Prelude.{option_map}
use Rattle.std.specs.FinMap.{get}
use Rattle.oe_theory.proofs.Sets.{some_inj}
use Rattle.oe_theory.specs.Next.{record_on}
use Rattle.oe_rows.specs.declared.layouts.Layout.{Layout}
use Rattle.oe_rows.specs.declared.keys.Key.{Key}
use Rattle.oe_model.specs.Rows.{Rows, row_at}
use Rattle.oe_model.specs.Changes.{Change, key_of, Record, record_key}
use Rattle.oe_model.specs.System.{system}
use Rattle.oe_model.proofs.RowFacts.{in_layout_key}
use Rattle.oe_change.specs.declared.writes.Write.{Write}
use Rattle.oe_change.specs.declared.writes.Write.TheVariants.{WarehouseYtd, DistrictYtd, NextOrder, CustomerAccount}
use Rattle.oe_change.specs.declared.writes.Write.TheVariants.{BadCredit, CustomerNames, StockCounters, Carrier}
use Rattle.oe_change.specs.declared.writes.Write.TheVariants.{DeliveryDate}
use Rattle.oe_change.specs.declared.writes.Write.TheVariants.{InsertHistory, InsertNewOrder, InsertOrder}
use Rattle.oe_change.specs.declared.writes.Write.TheVariants.{InsertOrderLine, DeleteNewOrder}
use Rattle.oe_change.specs.Writes.{key_written, change_of}
use Rattle.oe_store.specs.Places.{Places, rows}
use Rattle.oe_log.specs.Log.{active_at}
use Rattle.oe_undo.specs.Undo.{UndoState}
use Rattle.oe_journal.specs.Linked.{MayChange, AreLinked}
use Rattle.oe_writes.specs.Records.{record_of_write}
use Rattle.oe_writes.specs.Made.{IsApplied, IsMade}
use Rattle.oe_journal.specs.Recorded.{HasMore, HasWritten, IsRecorded, HasRecorded}
use Rattle.oe_writes.proofs.RecordFacts.{write_records}
use Rattle.oe_log.proofs.StateFacts.{some_of}
use Rattle.oe_journal.proofs.MoreFacts.{of_some, there_is, own_key, more_stands, recorded_linked}

-- ---- the record's key is the one that is written

-- of an update it is the change's
updated_key : {A : Type 0} (l : Layout) (r : Rows) (f : A → Change) (o : Option A) (b : Record) (k : Key)
    → ((x : A) → key_of (f x) ≡ k) → option_map (λ c. record_on system l c r) (option_map f o) ≡ Some b
    → record_key b ≡ k
updated_key l r f None b k same e = cc
updated_key l r f (Some x) b k same e =
    ap record_key (sym (some_inj _ _ e)) ∙ in_layout_key l (f x) (row_at r (key_of (f x))) ∙ same x

pub record_written : (l : Layout) (w : Write) (r : Rows) (b : Record) → record_of_write l w r ≡ Some b
    → record_key b ≡ key_written w
record_written l (WarehouseYtd k y) r b e = updated_key l r _ (get r.warehouses k) b _ (λ x. refl) e
record_written l (DistrictYtd k y) r b e = updated_key l r _ (get r.districts k) b _ (λ x. refl) e
record_written l (NextOrder k n) r b e = updated_key l r _ (get r.districts k) b _ (λ x. refl) e
record_written l (CustomerAccount k a) r b e = updated_key l r _ (get r.customers k) b _ (λ x. refl) e
record_written l (BadCredit k a m) r b e = updated_key l r _ (get r.customers k) b _ (λ x. refl) e
record_written l (CustomerNames k n m) r b e = updated_key l r _ (get r.customers k) b _ (λ x. refl) e
record_written l (StockCounters k n) r b e = updated_key l r _ (get r.stocks k) b _ (λ x. refl) e
record_written l (Carrier k c) r b e = updated_key l r _ (get r.orders k) b _ (λ x. refl) e
record_written l (DeliveryDate k t) r b e = updated_key l r _ (get r.order_lines k) b _ (λ x. refl) e
record_written l (InsertHistory k x) r b e = own_key _ b e
record_written l (InsertNewOrder k) r b e = own_key _ b e
record_written l (InsertOrder k x) r b e = own_key _ b e
record_written l (InsertOrderLine k x) r b e = own_key _ b e
record_written l (DeleteNewOrder k) r b e = own_key _ b e

-- it is of a table that is changed
pub writes_may : (w : Write) → MayChange (key_written w)
writes_may (WarehouseYtd k y) = tt
writes_may (DistrictYtd k y) = tt
writes_may (NextOrder k n) = tt
writes_may (CustomerAccount k a) = tt
writes_may (BadCredit k a m) = tt
writes_may (CustomerNames k n m) = tt
writes_may (StockCounters k n) = tt
writes_may (Carrier k c) = tt
writes_may (DeliveryDate k t) = tt
writes_may (InsertHistory k x) = tt
writes_may (InsertNewOrder k) = tt
writes_may (InsertOrder k x) = tt
writes_may (InsertOrderLine k x) = tt
writes_may (DeleteNewOrder k) = tt

-- ---- a record that was pushed makes the write a change

-- the record first, and then the change
pub made_recorded : (w : Write) (old new : Places) (u u' : UndoState) (t : ℕ) → is_some (active_at u.log t) ≡ true
    → HasWritten w (rows old) u u' t → IsMade w old new → HasRecorded w old new u u' t
made_recorded w old new u u' t is push made =
    let l : Layout = u.log.layout in
    let c = there_is (λ c. IsApplied c old new) (change_of w (rows old)) made in
    let b = there_is (λ b. HasMore b u u' t) (record_of_write l w (rows old)) push in
    let o = some_of (active_at u.log t) is in
    let same : b.0 ≡ record_on system l c.0 (rows old) =
    some_inj _ _ (sym b.1 ∙ write_records l w c.0 (rows old) c.1 (c.2 l).accepted) in
    of_some (λ c. IsRecorded c old new u u' t) (change_of w (rows old)) c.0 c.1
    (more_stands b.0 c.0 old new u u' t o.0 o.1 same (c.2 l) b.2)

pub made_linked : (w : Write) (old new : Places) (u u' : UndoState) (t : ℕ) → is_some (active_at u.log t) ≡ true
    → HasWritten w (rows old) u u' t → IsMade w old new → AreLinked old u.links → AreLinked new u'.links
made_linked w old new u u' t is push made linked =
    let c = there_is (λ c. IsRecorded c old new u u' t) (change_of w (rows old))
    (made_recorded w old new u u' t is push made) in
    recorded_linked c.0 old new u u' t linked c.2

-- ---- refusals
