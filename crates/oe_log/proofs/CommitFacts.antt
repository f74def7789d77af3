-- Commits that are made, given up or opened again.
use Rattle.std.proofs.Common.{◌≡◌, ℕ, zero, suc, ◌+◌, ◌-◌, ◌<◌, ◌≤◌, List, [], ◌∷◌, length, map, drop, take, get_or}
use Rattle.std.proofs.Common.{set, refl, sym, ap, ◌∙◌, subst, arith}
use Rattle.std.specs.List.{AllByRecursion}
use Rattle.std.proofs.lemmas.List.{length-map, length-set, map-set}
use Rattle.oe_extent.specs.Ring as ring
use Rattle.oe_log.specs.Records.{Logged}
use Rattle.oe_log.proofs.Lists as log
use Rattle.oe_log.specs.Strings.{records_in, AreRecords, HoldsRecords}
use Rattle.oe_log.proofs.Lists.{lists_of}
use Rattle.oe_log.proofs.RecordFacts.{at_slot, are_at, are_set, none_in}
use Rattle.oe_log.proofs.LogFacts.{Stands, len_at}

pub take_map : {X Y : Type 0} (f : X → Y) (n : ℕ) (xs : List X) → map f (take n xs) ≡ take n (map f xs)
take_map f zero xs = refl
take_map f (suc n) [] = refl
take_map {Y = Y} f (suc n) (x ∷ xs) = ap (λ (l : List Y). f x ∷ l) (take_map f n xs)

drop_map : {X Y : Type 0} (f : X → Y) (xs : List X) → map f (drop 1 xs) ≡ drop 1 (map f xs)
drop_map f [] = refl
drop_map f (x ∷ xs) = refl

are_taken : (n : ℕ) (xs : List (List (ring.Addressed))) → AllByRecursion AreRecords xs
    → AllByRecursion AreRecords (take n xs)
are_taken zero xs h = tt
are_taken (suc n) [] h = tt
are_taken (suc n) (x ∷ xs) h = (h.0, are_taken n xs h.1)

are_dropped : (xs : List (List (ring.Addressed))) → AllByRecursion AreRecords xs → AllByRecursion AreRecords (drop 1 xs)
are_dropped [] h = tt
are_dropped (x ∷ xs) h = h.1

abbrev lengths_of : List (List (ring.Addressed)) → List ℕ
lengths_of xs = map (λ (ss : List (ring.Addressed)). length ss) xs

-- the first of several
pub record IsFirst (xs : List (List (ring.Addressed))) (n : ℕ) (ns : List ℕ) : Type 0 where
  pub first : n ≡ length (get_or xs 0 [])
  pub rest : ns ≡ lengths_of (drop 1 xs)
  pub several : length xs ≡ suc (length (drop 1 xs))

first_is : (xs : List (List (ring.Addressed))) (n : ℕ) (ns : List ℕ) → n ∷ ns ≡ lengths_of xs → IsFirst xs n ns
first_is [] n ns e = absurd (let size = ap length e in omega (arith, size))
first_is (x ∷ xs) n ns e = record { first = ap (λ (l : List ℕ). get_or l 0 0) e; rest = ap (drop 1) e; several = refl }

shorter : (n : ℕ) (xs : List (List (ring.Addressed))) → length (take n xs) ≤ length xs
shorter zero xs = omega arith
shorter (suc n) [] = omega arith
shorter (suc n) (x ∷ xs) = omega (arith, shorter n xs)

module _ {r : ring.RingStrings} {lens cls : List ℕ} {opens : ℕ} (newest : ℕ) (k : HoldsRecords r lens cls opens) where
  pub sealed : (t n room' opens' newest' : ℕ) (r' : ring.RingStrings) (lens' cls' : List ℕ) → t < 65
      → n ≡ get_or lens t n → 0 < opens
      → r' ≡ record (ring.after_seal_at r t) { room = room' } → room' + 1 ≡ r.room → lens' ≡ set lens t 0 → cls' ≡ n
      ∷ cls
      → opens' ≡ opens - 1 → newest' ≡ suc newest
      → Stands r' lens' cls' opens' newest' (log.lists_after_seal (lists_of r opens newest) t)
  sealed t n room' opens' newest' r' lens' cls' lt el some er room ed ec eo en =
      let len = len_at newest k t n lt el in
      rw er
      record {
        kept = record {
          slots = length-set r.active t [] ∙ k.slots;
          extents = k.extents;
          lens_are = ed ∙ ap (λ (l : List ℕ). set l t 0) k.lens_are ∙ sym
              (map-set (λ (ss : List (ring.Addressed)). length ss) r.active t []);
          committed_lens_are = ec ∙ ap (λ (m : ℕ). m ∷ cls) len ∙ ap (λ (l : List ℕ). length (get_or r.active t []) ∷ l)
              k.committed_lens_are;
          active_are = are_set r.active t [] k.active_are tt;
          committed_are = (are_at r.active t k.active_are, k.committed_are);
          room = omega (arith, k.room, room, eo, some);
        };
        view = λ i. record {
          extents = r.extents;
          opens = eo i;
          active = map-set records_in r.active t [] i;
          committed = sym (at_slot r.active t) i ∷ map records_in r.committed;
          newest = en i;
        };
      }

  pub without_oldest : (room' : ℕ) (r' : ring.RingStrings) (cls' : List ℕ) → r' ≡ ring.without_oldest r room'
      → ring.capacity_of r' ≡ ring.capacity_of r → cls' ≡ take (length cls - 1) cls
      → Stands r' lens cls' opens newest (log.without_oldest (lists_of r opens newest))
  without_oldest room' r' cls' er eroom ec =
      let size : length cls ≡ length r.committed = ap length k.committed_lens_are
      ∙ length-map r.committed (λ (ss : List (ring.Addressed)). length ss) in
      let fewer = shorter (length r.committed - 1) r.committed in
      let kept : length cls' ≡ length (take (length r.committed - 1) r.committed) =
      ap length (ec ∙ ap (λ (n : ℕ). take (n - 1) cls) size ∙ ap (take (length r.committed - 1)) k.committed_lens_are
      ∙ sym (take_map (λ (ss : List (ring.Addressed)). length ss) (length r.committed - 1) r.committed))
      ∙ length-map (take (length r.committed - 1) r.committed) (λ (ss : List (ring.Addressed)). length ss) in
      let room : length (take (length r.committed - 1) r.committed) + room' ≡ length r.committed + r.room =
      subst (λ (v : ring.RingStrings). ring.capacity_of v ≡ ring.capacity_of r) er eroom in
      rw er
      record {
        kept = record {
          slots = k.slots;
          extents = k.extents;
          lens_are = k.lens_are;
          committed_lens_are =
              ec ∙ ap (λ (n : ℕ). take (n - 1) cls) size ∙ ap (take (length r.committed - 1)) k.committed_lens_are
              ∙ sym (take_map (λ (ss : List (ring.Addressed)). length ss) (length r.committed - 1) r.committed);
          active_are = k.active_are;
          committed_are = are_taken (length r.committed - 1) r.committed k.committed_are;
          room = omega (arith, k.room, room, fewer);
        };
        view = ap (λ (l : List (List Logged)). record (lists_of r opens newest) { committed = l })
            (take_map records_in (length r.committed - 1) r.committed
            ∙ ap (λ (n : ℕ). take (n - 1) (map records_in r.committed)) (sym (length-map r.committed records_in)));
      }

  pub empty_slot : (t : ℕ) → log.records_at (lists_of r opens newest) t ≡ [] → get_or r.active t [] ≡ []
  empty_slot t e = none_in (get_or r.active t []) (are_at r.active t k.active_are) (sym (at_slot r.active t) ∙ e)

  pub reopened : (t n room' opens' newest' : ℕ) (r' : ring.RingStrings) (lens' cls' : List ℕ) → cls ≡ n ∷ cls'
      → r' ≡ record (ring.after_reopening_at r t) { room = room' } → ring.capacity_of r' ≡ ring.capacity_of r
      → lens' ≡ set lens t n
      → opens' ≡ suc opens → newest' ≡ newest - 1
      → Stands r' lens' cls' opens' newest' (log.lists_with_reopening (lists_of r opens newest) t)
  reopened t n room' opens' newest' r' lens' cls' ec er eroom ed eo en =
      let f = first_is r.committed n cls' (sym ec ∙ k.committed_lens_are) in
      let room : length (drop 1 r.committed) + room' ≡ length r.committed + r.room =
      subst (λ (v : ring.RingStrings). ring.capacity_of v ≡ ring.capacity_of r) er eroom in
      let ss = get_or r.committed 0 [] in
      rw er
      record {
        kept = record {
          slots = length-set r.active t ss ∙ k.slots;
          extents = k.extents;
          lens_are = ed ∙ ap (λ (l : List ℕ). set l t n) k.lens_are ∙ ap (set (lengths_of r.active) t) f.first
              ∙ sym (map-set (λ (xs : List (ring.Addressed)). length xs) r.active t ss);
          committed_lens_are = f.rest;
          active_are = are_set r.active t ss k.active_are (are_at r.committed 0 k.committed_are);
          committed_are = are_dropped r.committed k.committed_are;
          room = omega (arith, k.room, room, eo, f.several);
        };
        view = λ i. record {
          extents = r.extents;
          opens = eo i;
          active = (map-set records_in r.active t ss ∙ ap (set (map records_in r.active) t)
              (sym (at_slot r.committed 0))) i;
          committed = drop_map records_in r.committed i;
          newest = en i;
        };
      }
