-- Strings of the ring that are records.
use Rattle.std.proofs.Common.{◌≡◌, ℕ, zero, suc, ◌<◌, List, [], ◌∷◌, length, map, drop, get_or, set, Option, Some}
use Rattle.std.proofs.Common.{refl, sym, ap, ◌∙◌, subst, arith}
use Rattle.std.specs.List.{AllByRecursion}
use Rattle.oe_extent.specs.declared.extents.Address.{Address}
use Rattle.oe_extent.specs.Ring as ring
use Rattle.oe_model.specs.Changes.{Record}
use Rattle.oe_layout.specs.declared.links.Previous.{Previous}
use Rattle.oe_layout.specs.declared.records.OwnRecord.{OwnRecord}
use Rattle.oe_layout.specs.declared.records.OwnRecord.TheVariants as own
use Rattle.oe_layout.specs.declared.loans.LentRecord.{LentRecord}
use Rattle.oe_layout.specs.declared.loans.LentRecord.TheVariants as lent
use Rattle.oe_model.specs.Lengths.{record_length}
use Rattle.oe_layout.specs.Links.{IsPrevious}
use Rattle.oe_layout.specs.Records.{record_image, record_of_own, record_of_lent, IsInRanges}
use Rattle.oe_layout.specs.RecordFronts.{record_at}
use Rattle.oe_layout.specs.Stored.{IsStoredRecord, IsToldLinked}
use Rattle.oe_layout.proofs.LengthFacts.{record_long}
use Rattle.oe_layout.proofs.RecordFacts.{record_finds}
use Rattle.oe_log.specs.Records.{Logged, newest_of, lengths, StandElsewhere}
use Rattle.oe_log.specs.Strings.{before_others, records_in, AreRecords}

-- what is read for what was lent
abbrev Owned : LentRecord → Type 0
Owned l = (b : OwnRecord) × (record_of_own b ≡ record_of_lent l)

owned : (l : LentRecord) → Owned l
owned (lent.InsertedHistory k) = (own.InsertedHistory k, refl)
owned (lent.InsertedNewOrder k) = (own.InsertedNewOrder k, refl)
owned (lent.InsertedOrder k) = (own.InsertedOrder k, refl)
owned (lent.InsertedOrderLine k) = (own.InsertedOrderLine k, refl)
owned (lent.UpdatedWarehouse k x) = (own.UpdatedWarehouse k x.now, refl)
owned (lent.UpdatedDistrict k x) = (own.UpdatedDistrict k x.now, refl)
owned (lent.UpdatedCustomer k x) = (own.UpdatedCustomer k x.now, refl)
owned (lent.UpdatedOrder k x) = (own.UpdatedOrder k x.now, refl)
owned (lent.UpdatedOrderLine k x) = (own.UpdatedOrderLine k x.now, refl)
owned (lent.UpdatedStock k x) = (own.UpdatedStock k x.now, refl)
owned (lent.DeletedNewOrder k) = (own.DeletedNewOrder k, refl)
owned (lent.ChangedWarehouse k p) = (own.ChangedWarehouse k _, refl)
owned (lent.ChangedDistrict k p) = (own.ChangedDistrict k _, refl)
owned (lent.ChangedCustomer k p) = (own.ChangedCustomer k _, refl)
owned (lent.RenamedCustomer k p) = (own.ChangedCustomer k _, refl)
owned (lent.ChangedOrder k p) = (own.ChangedOrder k _, refl)
owned (lent.ChangedOrderLine k p) = (own.ChangedOrderLine k _, refl)
owned (lent.ChangedStock k p) = (own.ChangedStock k _, refl)

-- what was lent is a record, once it is written
pub written_is : (p : Previous) (l : LentRecord) → IsPrevious p → IsInRanges (record_of_lent l)
    → IsStoredRecord (record_image p (record_of_lent l))
written_is p l hp hb =
    let o = owned l in
    record {
      previous = p;
      before = o.0;
      link = hp;
      ranges = subst IsInRanges (sym o.1) hb;
      image = ap (record_image p) (sym o.1);
    }

-- ---- one record

abbrev pub record_of : Address → (s : List ℕ) → IsStoredRecord s → Logged
record_of a s h = record { address = a; previous = h.previous; before = record_of_own h.before }

is_read : (s : List ℕ) (h : IsStoredRecord s) → record_at s ≡ Some (h.previous, h.before)
is_read s h = record_finds (h.previous, h.before) s (h.link, h.ranges) h.image

pub seen : (s : ring.Addressed) (ss : List (ring.Addressed)) (h : IsStoredRecord s.bytes)
    → records_in (s ∷ ss) ≡ record_of s.address s.bytes h ∷ records_in ss
seen s ss h = ap (λ (r : Option (Previous × OwnRecord)). before_others s.address r (records_in ss)) (is_read s.bytes h)

long : (s : List ℕ) (h : IsStoredRecord s) → record_length (record_of_own h.before) ≡ length s
long s h = sym (ap length h.image ∙ (record_long h.previous (record_of_own h.before) h.ranges).is)

pub some_bytes : (s : List ℕ) → IsStoredRecord s → 0 < length s
some_bytes s h = omega (arith, long s h)

-- a record that was lent is seen where it was written
pub seen_lent : (a : Address) (p : Previous) (l : LentRecord) (ss : List (ring.Addressed)) → IsPrevious p
    → IsInRanges (record_of_lent l)
    → records_in (record { address = a; bytes = record_image p (record_of_lent l) } ∷ ss)
    ≡ record { address = a; previous = p; before = record_of_lent l } ∷ records_in ss
unfolding owned written_is
seen_lent a p l ss hp hb =
    let o = owned l in
    seen (record { address = a; bytes = record_image p (record_of_lent l) }) ss (written_is p l hp hb)
    ∙ ap (λ (b : Record). record { address = a; previous = p; before = b } ∷ records_in ss) o.1

-- ---- a segment's records

pub length_is : (ss : List (ring.Addressed)) → AreRecords ss → length (records_in ss) ≡ length ss
length_is [] h = refl
length_is (s ∷ ss) h = omega (arith, ap length (seen s ss h.0), length_is ss h.1)

pub older_is : (ss : List (ring.Addressed)) → AreRecords ss → records_in (drop 1 ss) ≡ drop 1 (records_in ss)
older_is [] h = refl
older_is (s ∷ ss) h = sym (ap (drop 1) (seen s ss h.0))

pub older_are : (ss : List (ring.Addressed)) → AreRecords ss → AreRecords (drop 1 ss)
older_are [] h = tt
older_are (s ∷ ss) h = h.1

pub lengths_are : (ss : List (ring.Addressed)) → AreRecords ss → lengths (records_in ss) ≡ ring.lengths_of ss
lengths_are [] h = refl
lengths_are (s ∷ ss) h =
    ap lengths (seen s ss h.0) ∙ ap (λ (n : ℕ). n ∷ lengths (records_in ss)) (long s.bytes h.0)
    ∙ ap (λ (ns : List ℕ). length s.bytes ∷ ns) (lengths_are ss h.1)

pub none_in : (ss : List (ring.Addressed)) → AreRecords ss → records_in ss ≡ [] → ss ≡ []
none_in [] h e = refl
none_in (s ∷ ss) h e = absurd (let size = ap length (sym (seen s ss h.0) ∙ e) in omega (arith, size))

-- the newest string is the newest record
pub newest_stored : (ss : List (ring.Addressed)) (bytes : List ℕ) → AreRecords ss → 0 < length ss
    → bytes ≡ ring.newest_bytes ss → IsStoredRecord bytes
newest_stored [] bytes h some e = absurd (omega (arith, some))
newest_stored (s ∷ ss) bytes h some e = subst IsStoredRecord (sym e) h.0

pub newest_is : (ss : List (ring.Addressed)) (bytes : List ℕ) (x : Previous × Record) → AreRecords ss → 0 < length ss
    → bytes ≡ ring.newest_bytes ss → IsToldLinked bytes x → Some x ≡ newest_of (records_in ss)
newest_is [] bytes x h some e told = absurd (omega (arith, some))
newest_is (s ∷ ss) bytes x h some e told =
    ap Some (told h.0.previous h.0.before h.0.link h.0.ranges (e ∙ h.0.image)) ∙ sym (ap newest_of (seen s ss h.0))

-- ---- addresses

pub elsewhere : (a : Address) (ss : List (ring.Addressed)) → AreRecords ss → ring.StandElsewhere a ss
    → StandElsewhere a (records_in ss)
elsewhere a [] h k = tt
elsewhere a (s ∷ ss) h k =
    subst (StandElsewhere a) (sym (seen s ss h.0)) (k.0, elsewhere a ss h.1 k.1)

-- ---- the segments of all terminals, or of all commits

pub at_slot : (xs : List (List (ring.Addressed))) (t : ℕ)
    → get_or (map records_in xs) t [] ≡ records_in (get_or xs t [])
at_slot [] t = refl
at_slot (x ∷ xs) zero = refl
at_slot (x ∷ xs) (suc t) = at_slot xs t

pub are_at : (xs : List (List (ring.Addressed))) (t : ℕ) → AllByRecursion AreRecords xs → AreRecords (get_or xs t [])
are_at [] t h = tt
are_at (x ∷ xs) zero h = h.0
are_at (x ∷ xs) (suc t) h = are_at xs t h.1

pub are_set : (xs : List (List (ring.Addressed))) (t : ℕ) (x : List (ring.Addressed)) → AllByRecursion AreRecords xs
    → AreRecords x → AllByRecursion AreRecords (set xs t x)
are_set [] t x h k = tt
are_set (y ∷ ys) zero x h k = (k, h.1)
are_set (y ∷ ys) (suc t) x h k = (h.0, are_set ys t x h.1 k)

pub all_elsewhere : (a : Address) (xs : List (List (ring.Addressed))) → AllByRecursion AreRecords xs
    → ((t : ℕ) → ring.StandElsewhere a (get_or xs t []))
    → (t : ℕ) → StandElsewhere a (get_or (map records_in xs) t [])
all_elsewhere a xs h k t = subst (StandElsewhere a) (sym (at_slot xs t))
    (elsewhere a (get_or xs t []) (are_at xs t h) (k t))
