-- What a call of the ring knows of its slot, in the words of the lemmas.
use Rattle.std.proofs.Common.{◌≡◌, ℕ, ◌<◌, ◌≤◌, Bool, true, false, cond, List, [], ◌∷◌, length, map, get_or, set, drop}
use Rattle.std.proofs.Common.{refl, sym, ap, ◌∙◌, subst, arith}
use Rattle.std.proofs.lemmas.Bool.{le-leb}
use Rattle.std.proofs.lemmas.List.{length-map, length-set, map-set, set-get_or}
use Rattle.oe_extent.specs.declared.extents.Address.{Address}
use Rattle.oe_extent.specs.Free.{FreeExtents, AllTaken, IsNextFree, without_free_at, with_free_at}
use Rattle.oe_extent.specs.Extents.{Contents, numbers_of, newest_strings, rest_of, end_of, with_string, LosesString}
use Rattle.oe_extent.specs.Extents.{LosesExtent}
use Rattle.oe_extent.specs.Ring.{Addressed, RingStrings, rest_behind, behind, IsFull, IsNextAddress}
use Rattle.oe_extent.specs.Ring.{pool_without_newest, with_string_at, without_string_at, after_seal_at}
use Rattle.oe_extent.specs.Ring.{after_reopening_at}
use Rattle.oe_extent.specs.Kept.{addressed_of, ArePacked, IsRing}
use Rattle.oe_extent.proofs.FillFacts.{not_le, end_is, newest_kept, own_freed, More, more_here, more_new, Less}
use Rattle.oe_extent.proofs.FillFacts.{less_here, less_own, some_newest, no_extents}
use Rattle.oe_extent.proofs.ChangeFacts.{ring_view, changed_same, changed_more, changed_less, full, at_slot}
use Rattle.oe_extent.proofs.ChangeFacts.{strings_at_slot, rest_at, sealing, reopening}

-- the ring keeps its promise, and is seen so
pub record Stands (pool : FreeExtents) (os cs : List (List Contents)) (room : ℕ) (v : RingStrings) : Type 0 where
  pub ring : IsRing pool.is_free os cs
  pub view : ring_view pool os cs room ≡ v

module _ (pool : FreeExtents) (os cs : List (List Contents)) (room t : ℕ) (r : IsRing pool.is_free os cs)
    (lt : t < length (map addressed_of os)) where
  within : t < length os
  within = omega (arith, lt, length-map os addressed_of)

  -- one slot's strings are others, and the pool another
  view_set : (new p : FreeExtents) (y : List Contents) (ss : List Addressed) → addressed_of y ≡ ss
      → length new.is_free ≡ length pool.is_free → new ≡ p
      → ring_view new (set os t y) cs room ≡ record (ring_view pool os cs room)
      { active = set (map addressed_of os) t ss; pool = p }
  view_set new p y ss e q n = λ i. record {
    extents = q i;
    active = (map-set addressed_of os t y ∙ ap (set (map addressed_of os) t) e) i;
    committed = map addressed_of cs;
    room = room;
    pool = n i;
  }

  rest_is : (x : List Contents) → x ≡ get_or os t x → rest_behind (get_or (map addressed_of os) t []) ≡ rest_of x
  rest_is x e = rest_at os t within (r.active_packed t) ∙ sym (ap rest_of (at_slot os t lt x e))

  -- ---- a string more

  pub push_here : (z y : List Contents) (s : List ℕ) (a : Address) → z ≡ get_or os t z → length s ≤ rest_of z
      → 4 ≤ length s → a ≡ end_of z → y ≡ with_string s z
      → Stands pool (set os t y) cs room (with_string_at (ring_view pool os cs room) t a s)
  push_here z y s a e le long ea ey =
      let x = get_or os t [] in
      let at = at_slot os t lt z e in
      let fits : length s ≤ rest_of x = omega (arith, le, ap rest_of at) in
      let more : More x (with_string s x) (record { address = a; bytes = s }) =
      more_here s x a (r.active_packed t) fits (omega (arith, long)) (ea ∙ ap end_of at) in
      let same : y ≡ with_string s x = ey ∙ ap (with_string s) at in
      let m : More x y (record { address = a; bytes = s }) =
      subst (λ (l : List Contents). More x l (record { address = a; bytes = s })) (sym same) more in
      record {
        ring = changed_same pool.is_free os cs t y r within m.packed m.numbers m.size;
        view = view_set pool _ y _
            (m.strings ∙ ap (λ (l : List Addressed). record { address = a; bytes = s } ∷ l)
            (sym (strings_at_slot os t within))) refl
            (sym (ap (λ (b : Bool). cond b pool (without_free_at pool a.extent))
            (le-leb (length s) _ (omega (arith, le, rest_is z e)))));
      }

  -- it goes behind the newest string
  pub next_here : (x : List Contents) (a : Address) (n : ℕ) → x ≡ get_or os t x → n ≤ rest_of x → a ≡ end_of x
      → IsNextAddress (ring_view pool os cs room) t n a
  next_here x a n e le ea = record {
    fits = λ f. ea ∙ ap end_of (at_slot os t lt x e) ∙ end_is (get_or os t []) (r.active_packed t)
        ∙ ap behind (sym (strings_at_slot os t within));
    other = λ o. absurd (omega (arith, o, le, rest_is x e));
  }

  -- or in the next free extent
  pub next_other : (x : List Contents) (a : Address) (n number : ℕ) → x ≡ get_or os t x → rest_of x < n
      → IsNextFree pool.is_free pool.cursor number → a ≡ record { extent = number; offset = 0 }
      → IsNextAddress (ring_view pool os cs room) t n a
  next_other x a n number e gt next ea = rw ea record {
    fits = λ f. absurd (omega (arith, f, gt, rest_is x e));
    other = λ o. (next, refl);
  }

  pub fits_here : (x : List Contents) (size : ℕ) → x ≡ get_or os t x → size ≤ rest_of x
      → IsFull (ring_view pool os cs room) t size → ⊥
  fits_here x size e le f = omega (arith, f.0, rest_is x e, le)

  pub is_full : (x : List Contents) (size : ℕ) → x ≡ get_or os t x → rest_of x < size
      → AllTaken pool.is_free 0 (length pool.is_free) → IsFull (ring_view pool os cs room) t size
  is_full x size e gt none = (omega (arith, rest_is x e, gt), full pool os cs room r none)

  other_here : (z y : List Contents) (s : List ℕ) (e : ℕ) (new : FreeExtents) → z ≡ get_or os t z
      → rest_of z < length s → length s ≤ 4096 → get_or pool.is_free e false ≡ true → new ≡ without_free_at pool e
      → y ≡ record { number = e; strings = s ∷ [] } ∷ z
      → Stands new (set os t y) cs room (with_string_at (ring_view pool os cs room) t
      (record { extent = e; offset = 0 }) s)
  other_here z y s e new ez gt small is_free now ey =
      let x = get_or os t [] in
      let at = at_slot os t lt z ez in
      let same : y ≡ record { number = e; strings = s ∷ [] } ∷ x = ey
      ∙ ap (λ (l : List Contents). record { number = e; strings = s ∷ [] } ∷ l) at in
      let more = more_new s x e (r.active_packed t) (omega (arith, gt, ap rest_of at)) small in
      let packed : ArePacked y = subst ArePacked (sym same) more.0 in
      let ring = changed_more pool.is_free os cs t e y r within packed is_free (ap numbers_of same) (ap length same) in
      let strings = ap addressed_of same ∙ more.1
      ∙ ap (λ (l : List Addressed). record { address = record { extent = e; offset = 0 }; bytes = s } ∷ l)
      (sym (strings_at_slot os t within)) in
      let free : new.is_free ≡ set pool.is_free e false = ap (λ (f : FreeExtents). f.is_free) now in
      record {
        ring = subst (λ (f : List Bool). IsRing f (set os t y) cs) (sym free) ring;
        view = view_set new _ y _ strings (ap length free ∙ length-set pool.is_free e false)
            (now ∙ sym (ap (λ (b : Bool). cond b pool (without_free_at pool e))
            (not_le (length s) _ (omega (arith, gt, rest_is z ez)))));
      }

  -- a push that was refused left the slot as it was
  pub push_other : (x w z y : List Contents) (s : List ℕ) (e : ℕ) (a : Address) (new : FreeExtents) → x ≡ get_or os t x
      → w ≡ x → z ≡ get_or (set os t w) t z
      → rest_of x < length s → length s ≤ 4096 → get_or pool.is_free e false ≡ true → new ≡ without_free_at pool e
      → a ≡ record { extent = e; offset = 0 } → y ≡ record { number = e; strings = s ∷ [] } ∷ z
      → Stands new (set (set os t w) t y) cs room (with_string_at (ring_view pool os cs room) t a s)
  push_other x w z y s e a new ex ew ez gt small is_free now ea ey =
      let kept : set os t w ≡ os = ap (set os t) (ew ∙ ex) ∙ set-get_or os t x in
      let there : z ≡ get_or os t z = ez ∙ ap (λ (l : List (List Contents)). get_or l t z) kept in
      let less : rest_of z < length s =
      omega (arith, gt, ap rest_of (at_slot os t lt x ex), ap rest_of (at_slot os t lt z there)) in
      rw (kept, ea) (other_here z y s e new there less small is_free now ey)

  -- ---- a string less

  pub some_there : (x : List Contents) → x ≡ get_or os t x → 0 < length (get_or (map addressed_of os) t [])
      → 0 < length (newest_strings x)
  some_there x e some =
      subst (λ (l : List Contents). 0 < length (newest_strings l)) (sym (at_slot os t lt x e))
      (some_newest (get_or os t []) (r.active_packed t) (omega (arith, some, ap length (strings_at_slot os t within))))

  popped_view : (new : FreeExtents) (y : List Contents) → Less (get_or os t []) y
      → length new.is_free ≡ length pool.is_free
      → pool_without_newest (addressed_of (get_or os t [])) pool ≡ new
      → ring_view new (set os t y) cs room ≡ without_string_at (ring_view pool os cs room) t
  popped_view new y l q n =
      view_set new _ y _ (l.strings ∙ ap (drop 1) (sym (strings_at_slot os t within))) q
      (sym (ap (λ (ss : List Addressed). pool_without_newest ss pool) (strings_at_slot os t within) ∙ n))

  pub pop_here : (x y : List Contents) → x ≡ get_or os t x → LosesString x y
      → Stands pool (set os t y) cs room (without_string_at (ring_view pool os cs room) t)
  pop_here x y e loses =
      let l : LosesString (get_or os t []) y = subst (λ (z : List Contents). LosesString z y) (at_slot os t lt x e)
      loses in
      let less = less_here (get_or os t []) y (r.active_packed t) l in
      record {
        ring = changed_same pool.is_free os cs t y r within less.0.packed less.1 less.2;
        view = popped_view pool y less.0 refl (newest_kept (get_or os t []) pool (r.active_packed t) l.several);
      }

  pub pop_own : (x y : List Contents) (e : ℕ) → x ≡ get_or os t x → length (newest_strings x) ≡ 1 → LosesExtent x y e
      → Stands (with_free_at pool e) (set os t y) cs room (without_string_at (ring_view pool os cs room) t)
      × (e < length pool.is_free)
  pop_own x y e ex one loses =
      let a = at_slot os t lt x ex in
      let l : LosesExtent (get_or os t []) y e = subst (λ (z : List Contents). LosesExtent z y e) a loses in
      let alone : length (newest_strings (get_or os t [])) ≡ 1 = subst
      (λ (z : List Contents). length (newest_strings z) ≡ 1) a one in
      let less = less_own (get_or os t []) y e (r.active_packed t) alone l in
      let ring = changed_less pool.is_free os cs t e y r within less.0.packed l.numbers less.1 in
      let view = popped_view (with_free_at pool e) y less.0 (length-set pool.is_free e true)
      (own_freed (get_or os t []) y e pool alone l) in
      (record { ring = ring.0; view = view }, ring.1)

  -- ---- a commit

  pub seal_all : (ts : List (List Contents)) (more : ℕ) (x x' y : List Contents) → x ≡ get_or os t x → x' ≡ x → y ≡ []
      → ts ≡ x' ∷ cs
      → Stands pool (set os t y) ts more (record (after_seal_at (ring_view pool os cs room) t) { room = more })
  seal_all ts more x x' y e ex ey et =
      let items : ts ≡ get_or os t [] ∷ cs = et ∙ ap (λ (z : List Contents). z ∷ cs) (ex ∙ at_slot os t lt x e) in
      record {
        ring = rw (ey, items) (sealing pool.is_free os cs t r within);
        view = rw (ey, items, map-set addressed_of os t [], strings_at_slot os t within) refl;
      }

  pub reopen_all : (ts : List (List Contents)) (more : ℕ) (x y : List Contents) → get_or (map addressed_of os) t [] ≡ []
      → cs ≡ x ∷ ts → y ≡ x
      → Stands pool (set os t y) ts more (record (after_reopening_at (ring_view pool os cs room) t) { room = more })
  reopen_all ts more x y none items same =
      let empty : get_or os t [] ≡ [] = no_extents (get_or os t []) (r.active_packed t)
      (sym (strings_at_slot os t within) ∙ none) in
      let ring : IsRing pool.is_free os (x ∷ ts) = subst (λ (l : List (List Contents)). IsRing pool.is_free os l) items
      r in
      record {
        ring = subst (λ (z : List Contents). IsRing pool.is_free (set os t z) ts) (sym same)
            (reopening pool.is_free os ts t x ring within empty);
        view = rw (same, items, map-set addressed_of os t x) refl;
      }
