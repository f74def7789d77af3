-- Keys of one group, in their order, have rising numbers.
use Rattle.std.proofs.Common.{◌≡◌, ℕ, ◌-◌, ◌<◌, ◌≤◌, Bool, true, false, List, [], ◌∷◌, sym, arith}
use Rattle.std.specs.Prelude.{T, ◌&&◌}
use Rattle.std.specs.Ordering.{nat_cmp, is_lt}
use Rattle.std.specs.declared.cmp.Ordering.{Ordering}
use Rattle.std.specs.declared.cmp.Ordering.TheVariants.{Less, Equal, Greater}
use Rattle.std.specs.Cmp.{ranked, nat_cmp_is}
use Rattle.std.specs.FinMap.Entries.{is_sorted, below_all}
use Rattle.oe_model.proofs.EntryFacts.{EachOf}

-- numbers rise, from more than so many on
abbrev pub Climb : {K X : Type 0} → (K → ℕ) → ℕ → List (K × X) → Type 0
Climb number n [] = Unit {0}
Climb number n (e ∷ es) = (n ≤ number e.0 - 1) × Climb number (number e.0) es

pub left : (a b : Bool) → T (a && b) → T a
left true b p = tt
left false b p = p

pub right : (a b : Bool) → T (a && b) → T b
right true b p = p
right false b p = absurd p

pub lower : (x y : ℕ) (r : Ordering) → r ≡ nat_cmp x y → T (is_lt r) → x < y
lower x y Less e h = ranked x y Less e
lower x y Equal e h = absurd h
lower x y Greater e h = absurd h

pub same_number : (n m : ℕ) → n ≡ m → nat_cmp n m ≡ Equal
same_number n m e = sym (nat_cmp_is n m Equal e)

module _ {K X : Type 0} (R : K → K → Ordering) (number : K → ℕ) (IsOwn : K → Type 0)
    (less : (a b : K) → IsOwn a → IsOwn b → T (is_lt (R a b)) → number a < number b) where
  climb_from : (e : K × X) (es : List (K × X)) → T (below_all R e.0 es) → T (is_sorted R es) → IsOwn e.0
      → EachOf (λ f. IsOwn f.0) es → Climb number (number e.0) es
  climb_from e [] b s d ds = tt
  climb_from e (f ∷ es) b s d ds =
      let rises : number e.0 < number f.0 = less e.0 f.0 d ds.0 (left (is_lt (R e.0 f.0)) (below_all R e.0 es) b) in (
        omega (arith, rises),
        climb_from f es (left (below_all R f.0 es) (is_sorted R es) s) (right (below_all R f.0 es) (is_sorted R es) s)
            ds.0 ds.1,
      )

  pub climb : (es : List (K × X)) → T (is_sorted R es) → EachOf (λ f. IsOwn f.0) es → Climb number 0 es
  climb [] s ds = tt
  climb (e ∷ es) s ds = (
    omega arith,
    climb_from e es (left (below_all R e.0 es) (is_sorted R es) s) (right (below_all R e.0 es) (is_sorted R es) s) ds.0
        ds.1,
  )
