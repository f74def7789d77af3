-- A ring whose strings change.
use Rattle.std.proofs.Common.{◌≡◌, ℕ, suc, ◌+◌, ◌<◌, ◌≤◌, inl, inr, Bool, true, false, cond, List, [], ◌∷◌, ◌++◌}
use Rattle.std.proofs.Common.{length, map, get_or, set, replicate, zero, refl, sym, ap, ◌∙◌, subst, arith}
use Rattle.std.specs.List.{sum_by, AllByRecursion}
use Rattle.std.proofs.lemmas.Bool.{cases_eq, cases_lt}
use Rattle.std.proofs.lemmas.List.{get_or_past, get_or_default, get_or-map, get_or-set_same, get_or-set_other}
use Rattle.std.proofs.lemmas.List.{length-map, length-replicate, get_or_append_left}
use Rattle.std.proofs.lemmas.List.Sums.{sum_by-set, sum_by-cons, sum_by-append}
use Rattle.oe_extent.specs.Free.{FreeExtents, with_free, AllTaken, count_of_free}
use Rattle.oe_extent.specs.Extents.{Contents, numbers_of, rest_of}
use Rattle.oe_extent.specs.Ring.{Addressed, RingStrings, fill_of, lengths_of, used_of}
use Rattle.oe_extent.specs.Kept.{addressed_of, ArePacked, times, uses, extent_count, AreHeld, IsRing}
use Rattle.oe_extent.proofs.HeldFacts.{free_within, same_held, take_held, give_held, give_all_held}
use Rattle.oe_extent.proofs.FillFacts.{filled_packed}

-- what is stored
abbrev pub ring_view : FreeExtents → List (List Contents) → List (List Contents) → ℕ → RingStrings
ring_view pool os ss room =
    record {
      extents = length pool.is_free;
      active = map addressed_of os;
      committed = map addressed_of ss;
      room = room;
      pool = pool;
    }

pub uses-set : (os ss : List (List Contents)) (t : ℕ) (y : List Contents) (e : ℕ) → t < length os
    → uses (set os t y) ss e + times e (numbers_of (get_or os t [])) ≡ uses os ss e + times e (numbers_of y)
uses-set os ss t y e lt = let change = sum_by-set (λ s. times e (numbers_of s)) os t y [] lt in omega (arith, change)

pub extent_count-set : (os ss : List (List Contents)) (t : ℕ) (y : List Contents) → t < length os
    → extent_count (set os t y) ss + length (get_or os t []) ≡ extent_count os ss + length y
extent_count-set os ss t y lt = let change = sum_by-set length os t y [] lt in omega (arith, change)

pub changed : (free free' : List Bool) (os ss : List (List Contents)) (t : ℕ) (y : List Contents) → IsRing free os ss
    → t < length os → ArePacked y
    → AreHeld free' (uses (set os t y) ss) (extent_count (set os t y) ss) → IsRing free' (set os t y) ss
changed free free' os ss t y r lt packed held = record {
  held = held;
  active_packed = λ u. elim (cases_eq u t) [
    | inl same ↦ subst (λ (v : ℕ). ArePacked (get_or (set os t y) v [])) (sym same)
        (subst ArePacked (sym (get_or-set_same os t y [] lt)) packed)
    | inr other ↦ subst ArePacked (sym (get_or-set_other os t u y [] other)) (r.active_packed u)
  ];
  committed_packed = r.committed_packed;
}

-- the same extents
pub changed_same : (free : List Bool) (os ss : List (List Contents)) (t : ℕ) (y : List Contents) → IsRing free os ss
    → t < length os → ArePacked y
    → numbers_of y ≡ numbers_of (get_or os t []) → length y ≡ length (get_or os t []) → IsRing free (set os t y) ss
changed_same free os ss t y r lt packed numbers size =
    changed free free os ss t y r lt packed
    (same_held free (uses os ss) (uses (set os t y) ss) (extent_count os ss) (extent_count (set os t y) ss) r.held
    (λ e. omega (arith, uses-set os ss t y e lt, ap (times e) numbers))
    (omega (arith, extent_count-set os ss t y lt, size)))

-- one extent more
pub changed_more : (free : List Bool) (os ss : List (List Contents)) (t e : ℕ) (y : List Contents) → IsRing free os ss
    → t < length os
    → ArePacked y → get_or free e false ≡ true
    → numbers_of y ≡ e ∷ numbers_of (get_or os t []) → length y ≡ suc (length (get_or os t []))
    → IsRing (set free e false) (set os t y) ss
changed_more free os ss t e y r lt packed is_free numbers size =
    changed free (set free e false) os ss t y r lt packed
    (take_held free (uses os ss) (uses (set os t y) ss) (extent_count os ss) (extent_count (set os t y) ss) e r.held
    is_free
    (λ x. omega (arith, uses-set os ss t y x lt, ap (times x) numbers))
    (omega (arith, extent_count-set os ss t y lt, size)))

-- one extent less
pub changed_less : (free : List Bool) (os ss : List (List Contents)) (t e : ℕ) (y : List Contents) → IsRing free os ss
    → t < length os → ArePacked y
    → numbers_of (get_or os t []) ≡ e ∷ numbers_of y → length (get_or os t []) ≡ suc (length y)
    → IsRing (set free e true) (set os t y) ss × (e < length free)
changed_less free os ss t e y r lt packed numbers size =
    let g = give_held free (uses os ss) (uses (set os t y) ss) (extent_count os ss) (extent_count (set os t y) ss) e
    r.held
    (λ x. omega (arith, uses-set os ss t y x lt, ap (times x) numbers))
    (omega (arith, extent_count-set os ss t y lt, size)) in
    (changed free (set free e true) os ss t y r lt packed g.0, g.1)

-- ---- what is used

used_sum : (xs : List (List Contents)) → ((i : ℕ) → ArePacked (get_or xs i []))
    → sum_by (λ ps. (fill_of (lengths_of ps)).0) (map addressed_of xs) ≡ sum_by length xs
used_sum [] h = refl
used_sum (x ∷ xs) h =
    let first : (fill_of (lengths_of (addressed_of x))).0
    ≡ length x = ap (λ (f : ℕ × ℕ). f.0) (filled_packed x (h 0)) in
    let rest = used_sum xs (λ i. h (suc i)) in
    omega (
      arith,
      first,
      rest,
      sum_by-cons (λ ps. (fill_of (lengths_of ps)).0) (addressed_of x) (map addressed_of xs),
      sum_by-cons length x xs,
    )

pub used_is : (pool : FreeExtents) (os ss : List (List Contents)) (room : ℕ) → IsRing pool.is_free os ss
    → used_of (ring_view pool os ss room) ≡ extent_count os ss
used_is pool os ss room r = omega (arith, used_sum os r.active_packed, used_sum ss r.committed_packed)

none_free : (free : List Bool) → AllTaken free 0 (length free) → count_of_free free ≡ 0
none_free [] h = refl
none_free (b ∷ bs) h =
    let first : b ≡ false = h 0 (omega arith) (omega arith) in
    let rest = none_free bs (λ k lo hi. h (suc k) (omega arith) (omega arith)) in
    let value : ◌≡◌ {A = ℕ} (cond b 1 0) 0 = rw first refl in
    omega (arith, sum_by-cons (λ x. cond x 1 0) b bs, rest, value)

-- all extents are used where none is free
pub full : (pool : FreeExtents) (os ss : List (List Contents)) (room : ℕ) → IsRing pool.is_free os ss
    → AllTaken pool.is_free 0 (length pool.is_free)
    → length pool.is_free ≤ used_of (ring_view pool os ss room)
full pool os ss room r h = omega (arith, used_is pool os ss room r, none_free pool.is_free h, r.held.counted)

some_free : (free : List Bool) (e : ℕ) → get_or free e false ≡ true → 0 < count_of_free free
some_free free e h =
    let within = free_within free e h in
    let change = sum_by-set (λ b. cond b 1 0) free e false false within in
    let was : ◌≡◌ {A = ℕ} (cond (get_or free e false) 1 0) 1 = rw h refl in
    omega (arith, change, was)

-- not all are where one is
pub not_full : (pool : FreeExtents) (os ss : List (List Contents)) (room e : ℕ) → IsRing pool.is_free os ss
    → get_or pool.is_free e false ≡ true
    → length pool.is_free ≤ used_of (ring_view pool os ss room) → ⊥
not_full pool os ss room e r h le =
    omega (arith, used_is pool os ss room r, some_free pool.is_free e h, r.held.counted, le)

-- one of several lists, which was told by a default of its own
pub at_slot : (os : List (List Contents)) (t : ℕ) → t < length (map addressed_of os) → (x : List Contents)
    → x ≡ get_or os t x → x ≡ get_or os t []
at_slot os t lt x e = e ∙ get_or_default os t x [] (omega (arith, lt, length-map os addressed_of))

-- the strings of a slot
pub strings_at_slot : (os : List (List Contents)) (t : ℕ) → t < length os
    → get_or (map addressed_of os) t [] ≡ addressed_of (get_or os t [])
strings_at_slot os t lt = get_or-map addressed_of os t [] [] lt

pub rest_at : (os : List (List Contents)) (t : ℕ) → t < length os → ArePacked (get_or os t [])
    → (fill_of (lengths_of (get_or (map addressed_of os) t []))).1 ≡ rest_of (get_or os t [])
rest_at os t lt packed = ap (λ (ps : List Addressed). (fill_of (lengths_of ps)).1) (strings_at_slot os t lt)
    ∙ ap (λ (f : ℕ × ℕ). f.1) (filled_packed (get_or os t []) packed)

-- ---- a new ring, and a commit

none_used : (n : ℕ) (f : List Contents → ℕ) → f [] ≡ 0 → sum_by f (replicate n []) ≡ 0
none_used zero f e = refl
none_used (suc n) f e = omega (arith, none_used n f e, e, sum_by-cons f [] (replicate n []))

abbrev none : List Contents
none = []

none_at : (n t : ℕ) → get_or (replicate n none) t none ≡ none
none_at zero t = refl
none_at (suc n) zero = refl
none_at (suc n) (suc t) = none_at n t

map_none : (n : ℕ) → map addressed_of (replicate n []) ≡ replicate n []
map_none zero = refl
map_none (suc n) = ap (λ (l : List (List Addressed)). [] ∷ l) (map_none n)

pub new_shown : (extents slots : ℕ)
    → ◌≡◌ {A = List (List Addressed)} (map addressed_of (replicate slots [])) (replicate slots [])
    × (length (replicate extents true) ≡ extents)
new_shown extents slots = (map_none slots, length-replicate extents true)

pub sealing : (free : List Bool) (os ss : List (List Contents)) (t : ℕ) → IsRing free os ss → t < length os
    → IsRing free (set os t []) (get_or os t [] ∷ ss)
sealing free os ss t r lt = record {
  held = same_held free (uses os ss) (uses (set os t []) (get_or os t [] ∷ ss)) (extent_count os ss)
      (extent_count (set os t []) (get_or os t [] ∷ ss)) r.held
      (λ e. omega (arith, uses-set os ss t [] e lt, sum_by-cons (λ s. times e (numbers_of s)) (get_or os t []) ss))
      (omega (arith, extent_count-set os ss t [] lt, sum_by-cons length (get_or os t []) ss));
  active_packed = λ u. elim (cases_eq u t) [
    | inl same ↦ subst (λ (v : ℕ). ArePacked (get_or (set os t []) v [])) (sym same)
        (subst ArePacked (sym (get_or-set_same os t [] [] lt)) tt)
    | inr other ↦ subst ArePacked (sym (get_or-set_other os t u [] [] other)) (r.active_packed u)
  ];
  committed_packed = sealed-cons (get_or os t []) ss (r.active_packed t) r.committed_packed;
}
  where
    sealed-cons : (x : List Contents) (ss : List (List Contents)) → ArePacked x → ((i : ℕ) → ArePacked (get_or ss i []))
        → (i : ℕ)
        → ArePacked (get_or (x ∷ ss) i [])
    sealed-cons x ss h k zero = h
    sealed-cons x ss h k (suc i) = k i

pub reopening : (free : List Bool) (os ss : List (List Contents)) (t : ℕ) (x : List Contents) → IsRing free os (x ∷ ss)
    → t < length os → get_or os t [] ≡ []
    → IsRing free (set os t x) ss
reopening free os ss t x r lt none = record {
  held = same_held free (uses os (x ∷ ss)) (uses (set os t x) ss) (extent_count os (x ∷ ss))
      (extent_count (set os t x) ss) r.held
      (λ e. omega (
        arith,
        uses-set os ss t x e lt,
        ap (λ (l : List Contents). times e (numbers_of l)) none,
        sum_by-cons
            (λ s. times e (numbers_of s)) x ss,
      ))
      (omega (arith, extent_count-set os ss t x lt, ap length none, sum_by-cons length x ss));
  active_packed = λ u. elim (cases_eq u t) [
    | inl same ↦ subst (λ (v : ℕ). ArePacked (get_or (set os t x) v [])) (sym same)
        (subst ArePacked (sym (get_or-set_same os t x [] lt)) (r.committed_packed 0))
    | inr other ↦ subst ArePacked (sym (get_or-set_other os t u x [] other)) (r.active_packed u)
  ];
  committed_packed = λ i. r.committed_packed (suc i);
}

-- ---- a commit given up

last_held : (free : List Bool) (os ss : List (List Contents)) (x : List Contents) → IsRing free os (ss ++ x ∷ [])
    → AreHeld (with_free (numbers_of x) free) (uses os ss) (extent_count os ss)
    × AllByRecursion (λ e. e < length free) (numbers_of x) × (length (with_free (numbers_of x) free) ≡ length free)
last_held free os ss x r =
    give_all_held (numbers_of x) free (uses os (ss ++ x ∷ [])) (uses os ss) (extent_count os (ss ++ x ∷ []))
    (extent_count os ss) (length free) r.held
    (λ e. omega (
      arith,
      sum_by-append (λ s. times e (numbers_of s)) ss (x ∷ []),
      sum_by-cons
          (λ s. times e (numbers_of s)) x [],
    ))
    (omega (arith, sum_by-append length ss (x ∷ []), sum_by-cons length x [], length-map x (λ s. s.number)))
    refl

pub last_dropped : (free : List Bool) (os ss : List (List Contents)) (x : List Contents) → IsRing free os (ss ++ x ∷ [])
    → IsRing (with_free (numbers_of x) free) os ss × AllByRecursion (λ e. e < length free) (numbers_of x)
    × (length (with_free (numbers_of x) free) ≡ length free)
last_dropped free os ss x r =
    let h = last_held free os ss x r in (
      record {
        held = h.0;
        active_packed = r.active_packed;
        committed_packed = λ i. elim (cases_lt i (length ss)) [
          | inl lt ↦ subst ArePacked (get_or_append_left ss (x ∷ []) [] i lt) (r.committed_packed i)
          | inr ge ↦ subst ArePacked (sym (get_or_past ss i [] ge)) tt
        ];
      },
      h.1,
      h.2,
    )
