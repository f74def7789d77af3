-- What the ring's calls make of the records that lie in it.
use Rattle.std.proofs.Common.{◌≡◌, ℕ, zero, suc, ◌+◌, ◌-◌, ◌<◌, ◌≤◌, List, [], ◌∷◌, length, map, drop, get_or, set}
use Rattle.std.proofs.Common.{replicate, None, refl, sym, ap, ◌∙◌, subst, arith}
use Rattle.std.specs.List.{AllByRecursion}
use Rattle.std.proofs.lemmas.List.{length-set, map-set, get_or-map, get_or-set_same, length-replicate, length-drop}
use Rattle.oe_extent.specs.declared.extents.Address.{Address}
use Rattle.oe_extent.specs.Free.{FreeExtents}
use Rattle.oe_extent.specs.Ring as ring
use Rattle.oe_log.specs.Records.{Logged, log_entry, newest_of}
use Rattle.oe_log.proofs.Lists as log
use Rattle.oe_log.specs.Strings.{records_in, AreRecords, HoldsRecords}
use Rattle.oe_log.proofs.Lists.{lists_of}
use Rattle.oe_layout.specs.declared.links.Previous.{Previous}
use Rattle.oe_layout.specs.declared.loans.LentRecord.{LentRecord}
use Rattle.oe_layout.specs.Links.{IsPrevious}
use Rattle.oe_layout.specs.Records.{record_image, record_of_lent, IsInRanges}
use Rattle.oe_log.proofs.RecordFacts.{length_is, older_is, older_are, at_slot, are_at, are_set, written_is, seen_lent}
use Rattle.oe_log.proofs.RoomFacts.{few}

-- the ring holds records, and they are these
pub record Stands (r : ring.RingStrings) (lens cls : List ℕ) (opens newest : ℕ) (v : log.RecordLists) : Type 0 where
  pub kept : HoldsRecords r lens cls opens
  pub view : lists_of r opens newest ≡ v

abbrev lens_of : List (List (ring.Addressed)) → List ℕ
lens_of xs = map (λ (ss : List (ring.Addressed)). length ss) xs

-- ---- a new log

map_none : (n : ℕ) → map records_in (replicate n []) ≡ replicate n []
map_none zero = refl
map_none (suc n) = ap (λ (l : List (List Logged)). [] ∷ l) (map_none n)

no_lengths : (n : ℕ) → map (λ (ss : List (ring.Addressed)). length ss) (replicate n []) ≡ replicate n 0
no_lengths zero = refl
no_lengths (suc n) = ap (λ (l : List ℕ). 0 ∷ l) (no_lengths n)

none_are : (n : ℕ) → AllByRecursion AreRecords (replicate n [])
none_are zero = tt
none_are (suc n) = (tt, none_are n)

pub new_at : (slots extents room : ℕ) (r : ring.RingStrings) → slots ≡ 65 → extents ≤ 4096
    → r ≡ record (ring.no_strings extents slots) { room = room }
    → Stands r (replicate slots 0) [] 0 0
    (record { extents = extents; opens = 0; active = replicate slots []; committed = []; newest = 0 })
new_at slots extents room r e most er =
    rw er
    record {
      kept = record {
        slots = length-replicate slots [] ∙ e;
        extents = most;
        lens_are = sym (no_lengths slots);
        committed_lens_are = refl;
        active_are = none_are slots;
        committed_are = tt;
        room = omega arith;
      };
      view = ap (λ (l : List (List Logged)). record {
        extents = extents;
        opens = 0;
        active = l;
        committed = [];
        newest = 0;
      }) (map_none slots);
    }

-- ---- one slot

pub none_of : (rs : List Logged) → length rs ≡ 0 → rs ≡ []
none_of [] e = refl
none_of (r ∷ rs) e = absurd (omega (arith, e))

pub none_there : (rs : List Logged) → length rs ≡ 0 → None ≡ newest_of rs
none_there rs e = sym (ap newest_of (none_of rs e))

module _ {r : ring.RingStrings} {lens cls : List ℕ} {opens : ℕ} (newest : ℕ) (k : HoldsRecords r lens cls opens) where
  pub len_at : (t n : ℕ) → t < 65 → n ≡ get_or lens t n → n ≡ length (get_or r.active t [])
  len_at t n lt e =
      let within : t < length r.active = omega (arith, lt, k.slots) in
      e ∙ ap (λ (l : List ℕ). get_or l t n) k.lens_are ∙ get_or-map (λ (ss : List (ring.Addressed)). length ss) r.active
      t [] n within

  pub len_is : (t n : ℕ) → t < 65 → n ≡ get_or lens t n → n ≡ length (log.records_at (lists_of r opens newest) t)
  len_is t n lt e =
      len_at t n lt e ∙ sym (length_is (get_or r.active t []) (are_at r.active t k.active_are))
      ∙ ap length (sym (at_slot r.active t))

  -- other records of a slot, and other free extents
  pub changed : (t n : ℕ) (r' : ring.RingStrings) (pool : FreeExtents) (lens' : List ℕ) (ss : List (ring.Addressed))
      (rs : List Logged) → AreRecords ss
      → r' ≡ record r { active = set r.active t ss; pool = pool } → lens' ≡ set lens t n → n ≡ length ss
      → records_in ss ≡ rs
      → Stands r' lens' cls opens newest (log.with_records (lists_of r opens newest) t rs)
  changed t n r' pool lens' ss rs are er el en es =
      rw er
      record {
        kept = record {
          slots = length-set r.active t ss ∙ k.slots;
          extents = k.extents;
          lens_are = el ∙ ap (λ (l : List ℕ). set l t n) k.lens_are ∙ ap (set (lens_of r.active) t) en
              ∙ sym (map-set (λ (ss : List (ring.Addressed)). length ss) r.active t ss);
          committed_lens_are = k.committed_lens_are;
          active_are = are_set r.active t ss k.active_are are;
          committed_are = k.committed_are;
          room = k.room;
        };
        view = ap (λ (l : List (List Logged)). record (lists_of r opens newest) { active = l })
            (map-set records_in r.active t ss ∙ ap (set (map records_in r.active) t) es);
      }

  pub popped : (t n : ℕ) (r' : ring.RingStrings) → t < 65 → n ≡ get_or lens t n → r' ≡ ring.without_string_at r t
      → Stands r' (set lens t (n - 1)) cls opens newest (log.without_newest_at (lists_of r opens newest) t)
  popped t n r' lt e er =
      let ss = get_or r.active t [] in
      let are = are_at r.active t k.active_are in
      let size : n - 1 ≡ length (drop 1 ss) = omega (arith, len_at t n lt e, length-drop 1 ss) in
      changed t (n - 1) r' (ring.pool_without_newest ss r.pool) (set lens t (n - 1)) (drop 1 ss)
      (drop 1 (log.records_at (lists_of r opens newest) t)) (older_are ss are) er refl size
      (older_is ss are ∙ ap (drop 1) (sym (at_slot r.active t)))

  pub pushed : (t n : ℕ) (r' : ring.RingStrings) (a : Address) (p : Previous) (l : LentRecord) → t < 65
      → n ≡ get_or lens t n
      → IsPrevious p → IsInRanges (record_of_lent l) → r'
      ≡ ring.with_string_at r t a (record_image p (record_of_lent l))
      → Stands r' (set lens t (n + 1)) cls opens newest
      (log.with_newest_at (lists_of r opens newest) t (log_entry a p (record_of_lent l)))
  pushed t n r' a p l lt e hp hb er =
      let ss = get_or r.active t [] in
      let are = are_at r.active t k.active_are in
      let s : ring.Addressed = record { address = a; bytes = record_image p (record_of_lent l) } in
      let size : n + 1 ≡ length (s ∷ ss) = omega (arith, len_at t n lt e) in
      changed t (n + 1) r' _ (set lens t (n + 1)) (s ∷ ss)
      (log_entry a p (record_of_lent l) ∷ log.records_at (lists_of r opens newest) t)
      (written_is p l hp hb, are) er refl size
      (seen_lent a p l ss hp hb
      ∙ ap (λ (rs : List Logged). log_entry a p (record_of_lent l) ∷ rs) (sym (at_slot r.active t)))

  -- which are not more than fit a word
  pub pushed_few : (t n : ℕ) (r' : ring.RingStrings) (a : Address) (p : Previous) (l : LentRecord) → t < 65
      → n ≡ get_or lens t n
      → IsPrevious p → IsInRanges (record_of_lent l) → r'
      ≡ ring.with_string_at r t a (record_image p (record_of_lent l))
      → ring.used_of r' ≤ r'.extents
      → n + 1 ≤ 16_777_216
  pushed_few t n r' a p l lt e hp hb er used =
      let ss = get_or r.active t [] in
      let s : ring.Addressed = record { address = a; bytes = record_image p (record_of_lent l) } in
      let there : get_or r'.active t [] ≡ s ∷ ss =
      ap (λ (v : ring.RingStrings). get_or v.active t []) er ∙ get_or-set_same r.active t (s ∷ ss) []
      (omega (arith, lt, k.slots)) in
      let are : AreRecords (get_or r'.active t []) = subst AreRecords (sym there)
      (written_is p l hp hb, are_at r.active t k.active_are) in
      let most : r'.extents ≤ 4096 = subst (λ (v : ring.RingStrings). v.extents ≤ 4096) (sym er) k.extents in
      omega (arith, few r' t are used most, ap length there, len_at t n lt e)
