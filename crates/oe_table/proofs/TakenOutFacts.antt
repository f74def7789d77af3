-- What is left of a shelf whose key is taken out.
use Rattle.std.proofs.Common.{◌≡◌, refl, sym, ◌∙◌, ap, subst, Bool, true, false, cond, ℕ, suc, zero, List, [], ◌∷◌}
use Rattle.std.proofs.Common.{arith, Option, Some, None}
use Rattle.std.specs.List.{AllByRecursion, remove}
use Rattle.std.specs.List.Sorted.{IsStrictlySortedBy}
use Rattle.std.specs.Map.{keys_of, lookup}
use Rattle.std.specs.BTreeMap.{is_at}
use Rattle.std.specs.Ordering.{is_eq}
use Rattle.std.specs.Cmp.{IsTotalOrder, tied_back, eq_by_cmp_equiv}
use Rattle.std.specs.FinMap.{IsAntisymmetric}
use Rattle.std.specs.declared.cmp.Ordering.{Ordering}
use Rattle.std.specs.declared.cmp.Ordering.TheVariants.{Less}
use Rattle.oe_table.specs.Table.{place, left_of, SetsPlace, GivesUpPlace, LosesPlace}
use Rattle.oe_table.specs.Shelf.{IsAscending, StandsAt, without}
use Rattle.oe_table.proofs.TableFacts.{tied, place-set}
use Rattle.oe_table.proofs.ShelfFacts.{greater, earlier, found-later}

nothing : {X : Type 0} (b : Bool) → ◌≡◌ {A = Option X} None (cond b None None)
nothing true = refl
nothing false = refl

lost : {R : Type 0} (b : Bool) (own old mid new : Option (Option R)) → own ≡ Some None → mid ≡ cond b (Some None) old
    → new ≡ cond b (left_of own) mid → new ≡ cond b None old
lost true own old mid new is set left = left ∙ ap left_of is
lost false own old mid new is set left = left ∙ set

module _ {K X : Type 0} (cmp : K → K → Ordering) where
  skip : (b : Bool) (e : K × X) (s t : List (K × X)) → (b ≡ true → ⊥) → t ≡ s → cond b s (e ∷ t) ≡ e ∷ s
  skip true e s t apart rest = absurd (apart refl)
  skip false e s t apart rest = ap (λ l. e ∷ l) rest

  -- without a key that has no place the shelf is as before
  pub none-out : (s : List (K × X)) (key : K) → lookup (is_at (cmp key)) s ≡ None → without cmp s key ≡ s
  none-out [] key none = refl
  none-out (e ∷ s) key none =
      skip (is_eq (cmp key e.0)) e s (without cmp s key) (λ at. let h = rw at at none in cc)
      (none-out s key (found-later (is_eq (cmp key e.0)) e.1 (lookup (is_at (cmp key)) s) none))

  all-step : (P : K → Type 0) (b : Bool) (e : K × X) (s t : List (K × X)) → P e.0 → AllByRecursion P (keys_of s)
      → AllByRecursion P (keys_of t) → AllByRecursion P (keys_of (cond b s (e ∷ t)))
  all-step P true e s t p h rest = h
  all-step P false e s t p h rest = (p, rest)

  -- what is true of all keys is true of those that are left
  pub all-without : (P : K → Type 0) (s : List (K × X)) (key : K) → AllByRecursion P (keys_of s)
      → AllByRecursion P (keys_of (without cmp s key))
  all-without P [] key h = h
  all-without P (e ∷ s) key h = all-step P (is_eq (cmp key e.0)) e s (without cmp s key) h.0 h.1
      (all-without P s key h.1)

  ascending-step : (b : Bool) (e : K × X) (s t : List (K × X)) → IsAscending cmp s
      → AllByRecursion (λ y. cmp e.0 y ≡ Less) (keys_of t) → IsAscending cmp t → IsAscending cmp (cond b s (e ∷ t))
  unfolding IsStrictlySortedBy
  ascending-step true e s t up below rest = up
  ascending-step false e s t up below rest = (below, rest)

  -- the keys that are left ascend
  pub ascending-without : (s : List (K × X)) (key : K) → IsAscending cmp s → IsAscending cmp (without cmp s key)
  unfolding IsStrictlySortedBy
  ascending-without [] key up = up
  ascending-without (e ∷ s) key up =
      ascending-step (is_eq (cmp key e.0)) e s (without cmp s key) up.1 (all-without (λ y. cmp e.0 y ≡ Less) s key up.0)
      (ascending-without s key up.1)

  below : (k : K) (s : List (K × X)) → AllByRecursion (λ y. cmp k y ≡ Less) (keys_of s)
      → lookup (is_at (cmp k)) s ≡ None
  below k [] h = refl
  below k (e ∷ s) h = rw h.0 (below k s h.1)

same : {K : Type 0} (cmp : K → K → Ordering) → IsAntisymmetric cmp → (key k : K) → is_eq (cmp key k) ≡ true → key ≡ k
same cmp exact key k at = exact key k (tied (cmp key k) at)

module _ {K X : Type 0} {cmp : K → K → Ordering} (total : IsTotalOrder cmp) (exact : IsAntisymmetric cmp) where
  -- the slot at which the key stands is taken out
  pub slot-out : (s : List (K × X)) (key : K) (i : ℕ) → IsAscending cmp s → StandsAt cmp s key i
      → remove s i ≡ without cmp s key
  unfolding IsStrictlySortedBy
  slot-out [] key i up at = absurd (omega (arith, at.0))
  slot-out (e ∷ s) key zero up at = rw (tied_back total e.0 key (at.1 e)) refl
  slot-out (e ∷ s) key (suc i) up at =
      let rest : StandsAt cmp s key i = (omega (arith, at.0), at.1) in
      rw (greater cmp total e.0 key (earlier cmp total e s key i up.0 rest))
      (ap (λ l. e ∷ l) (slot-out s key i up.1 rest))

  -- the key's own slot goes
  own : (e : K × X) (s : List (K × X)) (key q : K) (b : Bool) → is_eq (cmp key q) ≡ b → is_eq (cmp key e.0) ≡ true
      → lookup (is_at (cmp e.0)) s ≡ None
      → lookup (is_at (cmp q)) s ≡ cond b None (cond (is_eq (cmp q e.0)) (Some e.1) (lookup (is_at (cmp q)) s))
  own e s key q true at here none = subst (λ y. lookup (is_at (cmp y)) s ≡ None)
      (sym (same cmp exact key e.0 here) ∙ same cmp exact key q at) none
  own e s key q false at here none =
      let apart : is_eq (cmp q e.0) ≡ false = ap (λ y. is_eq (cmp q y)) (sym (same cmp exact key e.0 here))
      ∙ (eq_by_cmp_equiv total).symm q key ∙ at in
      rw apart refl

  -- and another stays
  other : (e : K × X) (s t : List (K × X)) (key q : K) (b : Bool) → is_eq (cmp q e.0) ≡ b → is_eq (cmp key e.0) ≡ false
      → lookup (is_at (cmp q)) t ≡ cond (is_eq (cmp key q)) None (lookup (is_at (cmp q)) s)
      → cond b (Some e.1) (lookup (is_at (cmp q)) t) ≡ cond (is_eq (cmp key q)) None
      (cond b (Some e.1) (lookup (is_at (cmp q)) s))
  other e s t key q true at apart rest =
      let differs : is_eq (cmp key q) ≡ false = ap (λ y. is_eq (cmp key y)) (same cmp exact q e.0 at) ∙ apart in
      rw differs refl
  other e s t key q false at apart rest = rest

  either : (e : K × X) (s t : List (K × X)) (key q : K) (b : Bool) → is_eq (cmp key e.0) ≡ b
      → lookup (is_at (cmp e.0)) s ≡ None
      → lookup (is_at (cmp q)) t ≡ cond (is_eq (cmp key q)) None (lookup (is_at (cmp q)) s)
      → lookup (is_at (cmp q)) (cond b s (e ∷ t)) ≡ cond (is_eq (cmp key q)) None (lookup (is_at (cmp q)) (e ∷ s))
  either e s t key q true at none rest = own e s key q (is_eq (cmp key q)) refl at none
  either e s t key q false at none rest = other e s t key q (is_eq (cmp q e.0)) refl at rest

  -- what stands at each key that is left
  pub lookup-without : (s : List (K × X)) (key : K) → IsAscending cmp s → (q : K)
      → lookup (is_at (cmp q)) (without cmp s key) ≡ cond (is_eq (cmp key q)) None (lookup (is_at (cmp q)) s)
  unfolding IsStrictlySortedBy
  lookup-without [] key up q = nothing (is_eq (cmp key q))
  lookup-without (e ∷ s) key up q =
      either e s (without cmp s key) key q (is_eq (cmp key e.0)) refl (below cmp e.0 s up.0)
      (lookup-without s key up.1 q)

module _ {K R : Type 0} {cmp : K → K → Ordering} (total : IsTotalOrder cmp) where
  -- a key that is blanked and then gives up its place has none any more
  pub blanked-out : (old mid new : List (K × Option R)) (key : K) → SetsPlace cmp old mid key None
      → GivesUpPlace cmp mid new key → LosesPlace cmp old new key
  blanked-out old mid new key set gives q =
      lost (is_eq (cmp key q)) (place cmp mid key) (place cmp old q) (place cmp mid q) (place cmp new q)
      (place-set total old mid key None set) (set q) (gives q)
