-- The address of a string that is pushed is no other string's.
use Rattle.std.proofs.Common.{◌≡◌, ◌≢◌, ℕ, zero, suc, ◌<◌, ◌≤◌, true, false, List, [], ◌∷◌, ◌++◌, length, map, get_or}
use Rattle.std.proofs.Common.{sym, ap, ◌∙◌, subst, arith}
use Rattle.std.specs.List.{sum_by}
use Rattle.std.proofs.lemmas.List.Sums.{sum_by-cons}
use Rattle.oe_extent.specs.declared.extents.Address.{Address}
use Rattle.oe_extent.specs.Strings.{bytes_of_strings}
use Rattle.oe_extent.specs.Free.{FreeExtents}
use Rattle.oe_extent.specs.Extents.{Contents, numbers_of, rest_of, end_of}
use Rattle.oe_extent.proofs.PackedFacts.{length-joined}
use Rattle.oe_extent.specs.Ring.{Addressed, StandElsewhere, IsFresh}
use Rattle.oe_extent.specs.Kept.{addressed_in, addressed_of, HaveBytes, FillsUp, ArePacked, times, uses, extent_count}
use Rattle.oe_extent.specs.Kept.{IsRing}
use Rattle.oe_extent.proofs.HeldFacts.{times-self, times-cons, free_unused}
use Rattle.oe_extent.proofs.ChangeFacts.{ring_view, at_slot}

-- ---- in one list

elsewhere_both : (a : Address) (xs ys : List Addressed) → StandElsewhere a xs → StandElsewhere a ys
    → StandElsewhere a (xs ++ ys)
elsewhere_both a [] ys h k = k
elsewhere_both a (x ∷ xs) ys h k = (h.0, elsewhere_both a xs ys h.1 k)

other_extent : (a : Address) (n : ℕ) (xs : List (List ℕ)) → n ≢ a.extent → StandElsewhere a (addressed_in n xs)
other_extent a n [] h = tt
other_extent a n (x ∷ xs) h = ((λ e. h (ap (λ (b : Address). b.extent) e)), other_extent a n xs h)

differs : (m n : ℕ) → m < n → m ≢ n
differs m n lt e = omega (arith, lt, e)

-- behind all strings of an extent
behind_all : (a : Address) (n : ℕ) (xs : List (List ℕ)) → HaveBytes xs → length (bytes_of_strings xs) ≤ a.offset
    → StandElsewhere a (addressed_in n xs)
behind_all a n [] h le = tt
behind_all a n (x ∷ xs) h le =
    let before : length (bytes_of_strings xs) < a.offset = omega (arith, length-joined x xs, h.0, le) in
    ((λ e. differs _ _ before (ap (λ (b : Address). b.offset) e)), behind_all a n xs h.1 (omega (arith, before)))

one_there : (x e : ℕ) → e ≡ x → times x (e ∷ []) ≡ 1
one_there x e same = subst (λ (m : ℕ). times x (m ∷ []) ≡ 1) (sym same) (times-self x)

other_number : (x e : ℕ) → times x (e ∷ []) ≡ 0 → e ≢ x
other_number x e none same = omega (arith, none, one_there x e same)

-- in no extent of the list
not_among : (a : Address) (cs : List Contents) → times a.extent (numbers_of cs) ≡ 0 → StandElsewhere a (addressed_of cs)
not_among a [] h = tt
not_among a (c ∷ cs) h =
    let split = times-cons a.extent c.number (numbers_of cs) in
    let first : times a.extent (c.number ∷ []) ≡ 0 = omega (arith, h, split) in
    elsewhere_both a (addressed_in c.number c.strings) (addressed_of cs)
    (other_extent a c.number c.strings (other_number a.extent c.number first))
    (not_among a cs (omega (arith, h, split)))

have_bytes : (r : ℕ) (xs : List (List ℕ)) → FillsUp r xs → HaveBytes xs
have_bytes r [] f = absurd f
have_bytes r (x ∷ xs) f = f.2

pub record IsBehind (cs : List Contents) (a : Address) : Type 0 where
  pub elsewhere : StandElsewhere a (addressed_of cs)
  pub used : 0 < times a.extent (numbers_of cs)

-- the next address of its newest extent
behind_list : (cs : List Contents) (a : Address) → ArePacked cs → 0 < rest_of cs → times a.extent (numbers_of cs) ≤ 1
    → a ≡ end_of cs → IsBehind cs a
behind_list [] a h some once e = absurd (omega (arith, some))
behind_list (c ∷ cs) a h some once e =
    let offset : a.offset ≡ length (bytes_of_strings c.strings) = ap (λ (b : Address). b.offset) e in
    let one = one_there a.extent c.number (sym (ap (λ (b : Address). b.extent) e)) in
    let split = times-cons a.extent c.number (numbers_of cs) in
    let rest : times a.extent (numbers_of cs) ≡ 0 = omega (arith, once, one, split) in
    let here = behind_all a c.number c.strings (have_bytes (rest_of cs) c.strings h.0) (omega (arith, offset)) in
    record {
      elsewhere = elsewhere_both a (addressed_in c.number c.strings) (addressed_of cs) here (not_among a cs rest);
      used = omega (arith, one, split);
    }

-- ---- in all lists

abbrev sum_of : ℕ → List (List Contents) → ℕ
sum_of e ss = sum_by (λ s. times e (numbers_of s)) ss

some_sum : (e : ℕ) (ss : List (List Contents)) (t : ℕ) → times e (numbers_of (get_or ss t [])) ≤ sum_of e ss
some_sum e [] t = omega arith
some_sum e (s ∷ ss) zero = omega (arith, sum_by-cons (λ s. times e (numbers_of s)) s ss)
some_sum e (s ∷ ss) (suc t) = omega (arith, some_sum e ss t, sum_by-cons (λ s. times e (numbers_of s)) s ss)

none_has : (a : Address) (ss : List (List Contents)) → sum_of a.extent ss ≡ 0 → (i : ℕ)
    → StandElsewhere a (get_or (map addressed_of ss) i [])
none_has a [] h i = tt
none_has a (s ∷ ss) h zero = not_among a s (omega (arith, h, sum_by-cons (λ s. times a.extent (numbers_of s)) s ss))
none_has a (s ∷ ss) h (suc i) = none_has a ss (omega (arith, h, sum_by-cons (λ s. times a.extent (numbers_of s)) s ss))
    i

-- where one list alone has the extent, and the string there is none of its strings
but_one : (a : Address) (ss : List (List Contents)) (t : ℕ) → sum_of a.extent ss ≤ 1
    → 0 < times a.extent (numbers_of (get_or ss t []))
    → StandElsewhere a (addressed_of (get_or ss t [])) → (i : ℕ) → StandElsewhere a (get_or (map addressed_of ss) i [])
but_one a [] t once some h i = tt
but_one a (s ∷ ss) zero once some h zero = h
but_one a (s ∷ ss) zero once some h (suc i) =
    none_has a ss (omega (arith, once, some, sum_by-cons (λ s. times a.extent (numbers_of s)) s ss)) i
but_one a (s ∷ ss) (suc t) once some h zero =
    not_among a s (omega (
      arith,
      once,
      some,
      some_sum a.extent ss t,
      sum_by-cons (λ s. times a.extent (numbers_of s)) s
          ss,
    ))
but_one a (s ∷ ss) (suc t) once some h (suc i) =
    but_one a ss t (omega (arith, once, sum_by-cons (λ s. times a.extent (numbers_of s)) s ss)) some h i

module _ (pool : FreeExtents) (os cs : List (List Contents)) (room t : ℕ) (r : IsRing pool.is_free os cs)
    (lt : t < length (map addressed_of os)) where
  -- behind the strings of the slot's newest extent
  pub fresh_here : (z : List Contents) (a : Address) (size : ℕ) → z ≡ get_or os t z → size ≤ rest_of z → 4 ≤ size
      → a ≡ end_of z → IsFresh (ring_view pool os cs room) a
  fresh_here z a size e le long ea =
      let x = get_or os t [] in
      let some : 0 < rest_of x = omega (arith, le, long, ap rest_of (at_slot os t lt z e)) in
      let own = some_sum a.extent os t in
      let once = r.held.once a.extent in
      let b = behind_list x a (r.active_packed t) some (omega (arith, once, own))
      (ea ∙ ap end_of (at_slot os t lt z e)) in
      record {
        active = but_one a os t (omega (arith, once)) b.used b.elsewhere;
        committed = none_has a cs (omega (arith, once, b.used, own));
      }

-- at the front of an extent that was free
pub fresh_other : (pool : FreeExtents) (os cs : List (List Contents)) (room e : ℕ) (a : Address)
    → IsRing pool.is_free os cs → get_or pool.is_free e false ≡ true → a ≡ record { extent = e; offset = 0 }
    → IsFresh (ring_view pool os cs room) a
fresh_other pool os cs room e a r is_free ea =
    let unused = free_unused pool.is_free (uses os cs) (extent_count os cs) e r.held is_free in
    rw ea record {
      active = none_has (record { extent = e; offset = 0 }) os (omega (arith, unused));
      committed = none_has (record { extent = e; offset = 0 }) cs (omega (arith, unused));
    }
