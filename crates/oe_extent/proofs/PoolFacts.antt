-- Which extents of a pool are free, and how many.
use Rattle.std.proofs.Common.{◌≡◌, ℕ, suc, ◌+◌, ◌-◌, ◌<◌, inl, inr, Bool, true, false, cond, List, length, map, get_or}
use Rattle.std.proofs.Common.{set, Option, None, Some, is_some, IfSome, refl, sym, ap, subst, ◌∙◌, arith}
use Rattle.std.proofs.lemmas.List.{get_or-map, get_or_default, get_or-set_same, get_or-set_other, length-map}
use Rattle.std.proofs.lemmas.List.{length-set}
use Rattle.std.proofs.lemmas.List.{map-set}
use Rattle.std.proofs.lemmas.List.Sums.{sum_by-set}
use Rattle.std.proofs.lemmas.Bool.{cases_eq}
use Rattle.std.specs.Global.{Box}
use Rattle.oe_extent.specs.declared.extents.Extent.{Extent}
use Rattle.oe_extent.specs.Free.{AllTaken, IsPool}
use Rattle.oe_extent.specs.Extents.{number_of, LieAtNumbers}

pub some_at : {X : Type 0} (xs : List (Option X)) (i : ℕ) → i < length xs
    → get_or (map is_some xs) i false ≡ is_some (get_or xs i None)
some_at xs i lt = get_or-map is_some xs i None false lt

pub as_many : {X : Type 0} (xs : List (Option X)) → length (map is_some xs) ≡ length xs
as_many xs = length-map xs is_some

pub taken_more : (free : List Bool) (i j : ℕ) → AllTaken free i j → get_or free j false ≡ false
    → AllTaken free i (suc j)
taken_more free i j h e k lo hi = elim (cases_eq k j) [
  | inl q ↦ subst (λ (n : ℕ). get_or free n false ≡ false) (sym q) e
  | inr n ↦ h k lo (omega (arith, n))
]

-- a free one is taken
pub IsPool-take : (free : List Bool) (count cursor n : ℕ) → IsPool free count cursor → n < length free
    → get_or free n false ≡ true
    → IsPool (set free n false) (count - 1) (n + 1)
IsPool-take free count cursor n p lt is_free =
    let change = sum_by-set (λ x. cond x 1 0) free n false false lt in
    let was : ◌≡◌ {A = ℕ} (cond (get_or free n false) 1 0) 1 = rw is_free refl in
    record { within = omega (arith, lt, length-set free n false); counted = omega (arith, change, was, p.counted) }

-- one is given back, which was free or was not
pub IsPool-give : (free : List Bool) (count cursor n : ℕ) (was : Bool) → IsPool free count cursor → n < length free
    → get_or free n false ≡ was
    → IsPool (set free n true) (cond was count (count + 1)) cursor
IsPool-give free count cursor n true p lt e = record {
  within = omega (arith, p.within, length-set free n true);
  counted =
      let change = sum_by-set (λ x. cond x 1 0) free n true false lt in
      let was : ◌≡◌ {A = ℕ} (cond (get_or free n false) 1 0) 1 = rw e refl in
      omega (arith, change, was, p.counted);
}
IsPool-give free count cursor n false p lt e = record {
  within = omega (arith, p.within, length-set free n true);
  counted =
      let change = sum_by-set (λ x. cond x 1 0) free n true false lt in
      let was : ◌≡◌ {A = ℕ} (cond (get_or free n false) 1 0) 0 = rw e refl in
      omega (arith, change, was, p.counted);
}

-- an extent is no longer at its number
pub IsPool-taken : {X : Type 0} (xs ys : List (Option X)) (count cursor n : ℕ) (o : Option X)
    → IsPool (map is_some xs) count cursor → ys ≡ xs
    → n < length ys → get_or (map is_some ys) n false ≡ true → is_some o ≡ false
    → IsPool (map is_some (set xs n o)) (count - 1) (n + 1)
IsPool-taken xs ys count cursor n o p same lt is_free after =
    rw (map-set is_some xs n o, after)
    (IsPool-take (map is_some xs) count cursor n p (omega (arith, lt, ap length same, length-map xs is_some))
    (ap (λ (l : List (Option _)). get_or (map is_some l) n false) (sym same) ∙ is_free))

-- an extent lies at its number again
pub IsPool-given : {X : Type 0} (xs : List (Option X)) (count cursor n : ℕ) (x o : Option X) (was : Bool)
    → IsPool (map is_some xs) count cursor
    → n < length (map is_some xs) → x ≡ get_or xs n x → is_some x ≡ was → is_some o ≡ true
    → IsPool (map is_some (set xs n o)) (cond was count (count + 1)) cursor
IsPool-given xs count cursor n x o was p lt at before after =
    let within : n < length xs = omega (arith, lt, length-map xs is_some) in
    let here : x ≡ get_or xs n None = at ∙ get_or_default xs n x None within in
    rw (map-set is_some xs n o, after)
    (IsPool-give (map is_some xs) count cursor n was p lt (some_at xs n within ∙ ap is_some (sym here) ∙ before))

pub free_given : {X : Type 0} (xs : List (Option X)) (n m : ℕ) (o : Option X) → n ≡ m → is_some o ≡ true
    → map is_some (set xs n o) ≡ set (map is_some xs) m true
free_given xs n m o e after = rw (map-set is_some xs n o, after, e) refl

-- where one extent more lies at its number, or one less
pub LieAtNumbers-set : (es : List (Option (Box Extent))) (n : ℕ) (o : Option (Box Extent)) → LieAtNumbers es
    → n < length es → IfSome o (λ e. number_of e.value ≡ n) → LieAtNumbers (set es n o)
LieAtNumbers-set es n o h lt here i = elim (cases_eq i n) [
  | inl same ↦ subst (λ (k : ℕ). IfSome (get_or (set es n o) k None) (λ e. number_of e.value ≡ k)) (sym same)
      (subst (λ p. IfSome p (λ e. number_of e.value ≡ n)) (sym (get_or-set_same es n o None lt)) here)
  | inr other ↦ subst (λ p. IfSome p (λ e. number_of e.value ≡ i)) (sym (get_or-set_other es n i o None other)) (h i)
]

-- what lies at a number has it
pub number_there : (es : List (Option (Box Extent))) (n : ℕ) (o : Option (Box Extent)) (b : Box Extent)
    → LieAtNumbers es → n < length es → o ≡ get_or es n o → Some b ≡ o → number_of b.value ≡ n
number_there es n o b h lt at is =
    subst (λ p. IfSome p (λ e. number_of e.value ≡ n)) (sym (is ∙ at ∙ get_or_default es n o None lt)) (h n)

pub LieAtNumbers-given : (es : List (Option (Box Extent))) (n : ℕ) (b : Box Extent) (o : Option (Box Extent))
    → LieAtNumbers es → n < length (map is_some es) → n ≡ number_of b.value → o ≡ Some b → LieAtNumbers (set es n o)
LieAtNumbers-given es n b o h lt e is =
    LieAtNumbers-set es n o h (omega (arith, lt, length-map es is_some))
    (subst (λ p. IfSome p (λ x. number_of x.value ≡ n)) (sym is) (sym e))
