-- The string of the ring at a record's address is that record.
use Rattle.std.proofs.Common.{◌≡◌, ℕ, inl, inr, List, [], ◌∷◌, map, get_or, sym, ap, ◌∙◌, subst}
use Rattle.std.specs.List.{AllByRecursion}
use Rattle.oe_extent.specs.Ring as ring
use Rattle.oe_model.specs.Changes.{Record}
use Rattle.oe_extent.specs.declared.extents.Address.{Address}
use Rattle.oe_layout.specs.declared.links.Previous.{Previous}
use Rattle.oe_layout.specs.Records.{record_of_own}
use Rattle.oe_log.specs.Records.{Logged, log_entry, IsAmong, HasAddress}
use Rattle.oe_log.specs.Strings.{records_in, AreRecords}
use Rattle.oe_layout.specs.Stored.{IsStoredRecord, IsToldLinked}
use Rattle.oe_log.proofs.RecordFacts.{seen, at_slot, are_at, record_of}

-- the string that a record is
pub record IsString (ss : List (ring.Addressed)) (a : Address) (p : Previous) (b : Record) : Type 0 where
  pub bytes : List ℕ
  pub stands : ring.StandsAt a bytes ss
  pub is : IsStoredRecord bytes
  pub previous : is.previous ≡ p
  pub before : record_of_own is.before ≡ b

module _ (a : Address) (p : Previous) (b : Record) where
  first_or_older : (s : ring.Addressed) (ss : List (ring.Addressed)) (h : IsStoredRecord s.bytes)
      → IsAmong (log_entry a p b) (record_of s.address s.bytes h ∷ records_in ss)
      → (IsAmong (log_entry a p b) (records_in ss) → IsString ss a p b) → IsString (s ∷ ss) a p b
  first_or_older s ss h (inl e) older = record {
    bytes = s.bytes;
    stands = inl (ap (λ (r : Logged). record { address = r.address; bytes = s.bytes }) e);
    is = h;
    previous = ap (λ (r : Logged). r.previous) e;
    before = ap (λ (r : Logged). r.before) e;
  }
  first_or_older s ss h (inr k) older =
      let i = older k in
      record { bytes = i.bytes; stands = inr i.stands; is = i.is; previous = i.previous; before = i.before }

  string_of : (ss : List (ring.Addressed)) → AreRecords ss → IsAmong (log_entry a p b) (records_in ss)
      → IsString ss a p b
  string_of [] h k = absurd k
  string_of (s ∷ ss) h k =
      first_or_older s ss h.0 (subst (IsAmong (log_entry a p b)) (seen s ss h.0) k) (string_of ss h.1)

  pub string_at : (xs : List (List (ring.Addressed))) (i : ℕ) → AllByRecursion AreRecords xs
      → IsAmong (log_entry a p b) (get_or (map records_in xs) i [])
      → IsString (get_or xs i []) a p b
  string_at xs i h k = string_of (get_or xs i []) (are_at xs i h) (subst (IsAmong (log_entry a p b)) (at_slot xs i) k)

pub has_string : (a : Address) (xs : List (List (ring.Addressed))) (i : ℕ) → AllByRecursion AreRecords xs
    → HasAddress (get_or (map records_in xs) i []) a
    → ring.HasAddress (get_or xs i []) a
has_string a xs i h has =
    let s = string_at a has.previous has.before xs i h has.there in
    record { bytes = s.bytes; stands = s.stands }

-- ---- where it lies

pub is_stored : (a : Address) (xs : List (List (ring.Addressed))) (i : ℕ) (bytes : List ℕ)
    → AllByRecursion AreRecords xs
    → HasAddress (get_or (map records_in xs) i []) a → ring.IsStringAt (get_or xs i []) a bytes
    → IsStoredRecord bytes
is_stored a xs i bytes h has there =
    let s = string_at a has.previous has.before xs i h has.there in
    subst IsStoredRecord (sym (there s.bytes s.stands)) s.is

pub linked_there : (a : Address) (p : Previous) (b : Record) (xs : List (List (ring.Addressed))) (i : ℕ)
    (bytes : List ℕ) (x : Previous × Record)
    → AllByRecursion AreRecords xs → IsAmong (log_entry a p b) (get_or (map records_in xs) i [])
    → ring.IsStringAt (get_or xs i []) a bytes
    → IsToldLinked bytes x → x ≡ (p, b)
linked_there a p b xs i bytes x h k there told =
    let s = string_at a p b xs i h k in
    told s.is.previous s.is.before s.is.link s.is.ranges (there s.bytes s.stands ∙ s.is.image)
    ∙ (λ j. (s.previous j, s.before j))
