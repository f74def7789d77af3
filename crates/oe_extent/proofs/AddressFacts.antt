-- A string at an address is in the extent of that number, behind as many bytes as the offset says.
use Rattle.std.proofs.Common.{◌≡◌, ◌==◌, ℕ, ◌+◌, ◌<◌, ◌≤◌, ◌⊎◌, inl, inr, Bool, true, false, cond, List, [], ◌∷◌, ◌++◌}
use Rattle.std.proofs.Common.{length, map, get_or, refl, sym, ap, subst, arith}
use Rattle.std.specs.List.{sum_by}
use Rattle.std.proofs.lemmas.Bool.{eqb-true, eqb-false}
use Rattle.std.proofs.lemmas.List.{length-map}
use Rattle.std.proofs.lemmas.List.Sums.{get_or-le-sum_by}
use Rattle.oe_extent.specs.declared.extents.Address.{Address}
use Rattle.oe_extent.specs.Strings.{BeginsAt}
use Rattle.oe_extent.specs.Extents.{Contents, numbers_of, strings_at}
use Rattle.oe_extent.specs.Ring.{Addressed, StandsAt}
use Rattle.oe_extent.specs.Kept.{addressed_in, addressed_of, times}
use Rattle.oe_extent.proofs.ChangeFacts.{at_slot, strings_at_slot}
use Rattle.oe_extent.proofs.HeldFacts.{times-self, times-cons}

module _ (a : Address) (x : List ℕ) where
  here_or_behind : (xs ys : List Addressed) → StandsAt a x (xs ++ ys) → StandsAt a x xs ⊎ StandsAt a x ys
  here_or_behind [] ys h = inr h
  here_or_behind (s ∷ xs) ys (inl e) = inl (inl e)
  here_or_behind (s ∷ xs) ys (inr h) = elim (here_or_behind xs ys h) [ inl p ↦ inl (inr p) | inr q ↦ inr q ]

  in_extent : (n : ℕ) (xs : List (List ℕ)) → StandsAt a x (addressed_in n xs) → (a.extent ≡ n) × BeginsAt xs a.offset x
  in_extent n [] h = absurd h
  in_extent n (y ∷ ys) (inl e) = (
    sym (ap (λ (s : Addressed). s.address.extent) e),
    record {
      newer = [];
      older = ys;
      parts = ap (λ (s : Addressed). s.bytes ∷ ys) e;
      behind = ap (λ (s : Addressed). s.address.offset) e;
    },
  )
  in_extent n (y ∷ ys) (inr h) =
      let f = in_extent n ys h in (
        f.0,
        record {
          newer = y ∷ f.1.newer;
          older = f.1.older;
          parts = ap (λ (l : List (List ℕ)). y ∷ l) f.1.parts;
          behind = f.1.behind;
        },
      )

  times-here : (n : ℕ) (ns : List ℕ) → a.extent ≡ n → times a.extent (n ∷ ns) ≡ 1 + times a.extent ns
  times-here n ns e =
      let self : times a.extent (n ∷ []) ≡ 1 = subst (λ (m : ℕ). times a.extent (m ∷ []) ≡ 1) e (times-self a.extent) in
      omega (arith, self, times-cons a.extent n ns)

  -- the extent is one of the list's
  number_there : (cs : List Contents) → StandsAt a x (addressed_of cs) → 0 < times a.extent (numbers_of cs)
  number_there [] h = absurd h
  number_there (c ∷ cs) h = go (here_or_behind (addressed_in c.number c.strings) (addressed_of cs) h) (number_there cs)
    where
      go : StandsAt a x (addressed_in c.number c.strings) ⊎ StandsAt a x (addressed_of cs)
          → (StandsAt a x (addressed_of cs) → 0 < times a.extent (numbers_of cs))
          → 0 < times a.extent (c.number ∷ numbers_of cs)
      go (inl p) rest = let n = times-here c.number (numbers_of cs) (in_extent c.number c.strings p).0 in
          omega (arith, n)
      go (inr q) rest = omega (arith, rest q, times-cons a.extent c.number (numbers_of cs))

  found : (cs : List Contents) → times a.extent (numbers_of cs) ≤ 1 → StandsAt a x (addressed_of cs)
      → BeginsAt (strings_at a.extent cs) a.offset x
  found [] once h = absurd h
  found (c ∷ cs) once h =
      go (c.number == a.extent) refl (here_or_behind (addressed_in c.number c.strings) (addressed_of cs) h)
      (found cs (omega (arith, once, times-cons a.extent c.number (numbers_of cs))))
    where
      go : (b : Bool) → (c.number == a.extent) ≡ b → StandsAt a x (addressed_in c.number c.strings)
          ⊎ StandsAt a x (addressed_of cs)
          → (StandsAt a x (addressed_of cs) → BeginsAt (strings_at a.extent cs) a.offset x)
          → BeginsAt (cond b c.strings (strings_at a.extent cs)) a.offset x
      go true e (inl p) rest = (in_extent c.number c.strings p).1
      go true e (inr q) rest =
          let n = times-here c.number (numbers_of cs) (sym (eqb-true c.number a.extent e)) in
          absurd (omega (arith, once, n, number_there cs q))
      go false e (inl p) rest = absurd (eqb-false c.number a.extent e (sym (in_extent c.number c.strings p).0))
      go false e (inr q) rest = rest q

-- the same among all lists of a kind, in which each extent is used at most once
pub string_at : (xs : List (List Contents)) (i : ℕ) (x : List Contents) (a : Address) (s : List ℕ)
    → ((e : ℕ) → sum_by (λ y. times e (numbers_of y)) xs ≤ 1)
    → i < length (map addressed_of xs) → x ≡ get_or xs i x → StandsAt a s (get_or (map addressed_of xs) i [])
    → BeginsAt (strings_at a.extent x) a.offset s
string_at xs i x a s once lt e h =
    let within : i < length xs = omega (arith, lt, length-map xs addressed_of) in
    let same = at_slot xs i lt x e in
    let stands : StandsAt a s (addressed_of (get_or xs i [])) = subst (λ (l : List Addressed). StandsAt a s l)
    (strings_at_slot xs i within) h in
    let one : times a.extent (numbers_of (get_or xs i [])) ≤ 1 =
    omega (arith, once a.extent, get_or-le-sum_by (λ y. times a.extent (numbers_of y)) xs i [] within) in
    subst (λ (y : List Contents). BeginsAt (strings_at a.extent y) a.offset s) (sym same)
    (found a s (get_or xs i []) one stands)
