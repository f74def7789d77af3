-- What two slots of a shelf tell of a key that would stand between them.
use Rattle.std.proofs.Common.{◌≡◌, refl, sym, ◌∙◌, ap, subst, true, cond, ℕ, suc, zero, ◌<◌, ◌-◌, List, [], ◌∷◌}
use Rattle.std.proofs.Common.{length, get_or, None, arith}
use Rattle.std.specs.Prelude.{Err}
use Rattle.std.specs.List.{AllByRecursion, HoldsAt}
use Rattle.std.specs.List.Sorted.{IsStrictlySortedBy}
use Rattle.std.specs.Map.{keys_of, lookup}
use Rattle.std.specs.BTreeMap.{is_at}
use Rattle.std.specs.Ordering.{is_lt, is_gt}
use Rattle.std.specs.Cmp.{IsTotalOrder}
use Rattle.std.specs.declared.cmp.Ordering.{Ordering}
use Rattle.std.specs.declared.cmp.Ordering.TheVariants.{Less, Equal, Greater}
use Rattle.oe_table.specs.Shelf.{lower, IsAscending, IsFound}
use Rattle.oe_table.proofs.ShelfFacts.{greater, less, lesser, all-less}

-- where a front begins, the first passes
begins : (r : Ordering) (n : ℕ) → 0 < cond (is_lt r) (suc n) 0 → r ≡ Less
begins Less n h = refl
begins Equal n h = absurd (omega arith)
begins Greater n h = absurd (omega arith)

exceeds : (r : Ordering) → is_gt r ≡ true → r ≡ Greater
exceeds Less e = cc
exceeds Equal e = cc
exceeds Greater e = refl

module _ {K X : Type 0} (cmp : K → K → Ordering) (total : IsTotalOrder cmp) where
  none-below : (s : List (K × X)) (key : K) → AllByRecursion (λ y. cmp key y ≡ Less) (keys_of s)
      → lookup (is_at (cmp key)) s ≡ None
  none-below [] key h = refl
  none-below (e ∷ s) key h = rw h.0 (none-below s key h.1)

  one-before : (e : K × X) (s : List (K × X)) (key : K) (i : ℕ) → IsAscending cmp (e ∷ s) → 0 < i
      → IsFound cmp s key (Err i) → IsFound cmp (e ∷ s) key (Err (suc i))
  unfolding IsStrictlySortedBy
  one-before e [] key i up some h = absurd (omega (arith, h.1))
  one-before e (f ∷ s) key i up some h =
      let next : cmp f.0 key ≡ Less = begins (cmp f.0 key) (lower cmp s key) (omega (arith, h.1)) in
      let first : cmp e.0 key ≡ Less = total.trans e.0 f.0 key up.0.0 next in
      (omega (arith, h.0), rw first (ap suc h.1), rw (greater cmp total e.0 key first) h.2)

  -- a key less than the first stands before it
  falls-first : (s : List (K × X)) (d : K × X) (key : K) → IsAscending cmp s → 0 < length s
      → cmp (get_or s 0 d).0 key ≡ Greater → IsFound cmp s key (Err 0)
  unfolding IsStrictlySortedBy
  falls-first [] d key up some more = absurd (omega (arith, some))
  falls-first (e ∷ s) d key up some more =
      let there : cmp e.0 key ≡ Greater = more in
      let below : cmp key e.0 ≡ Less = less cmp total e.0 key there in
      (omega arith, rw there refl, rw below (none-below s key (all-less cmp total key e.0 (keys_of s) below up.0)))

  -- and one between two slots stands between them
  falls-between : (s : List (K × X)) (b d : K × X) (key : K) (i : ℕ) → IsAscending cmp s → suc i < length s
      → cmp (get_or s i b).0 key ≡ Less → cmp (get_or s (suc i) d).0 key ≡ Greater → IsFound cmp s key (Err (suc i))
  unfolding IsStrictlySortedBy
  falls-between [] b d key i up within fewer more = absurd (omega (arith, within))
  falls-between (e ∷ s) b d key zero up within fewer more =
      let there : cmp e.0 key ≡ Less = fewer in
      let rest : IsFound cmp s key (Err 0) = falls-first s d key up.1 (omega (arith, within)) more in
      (omega (arith, rest.0), rw there (ap suc rest.1), rw (greater cmp total e.0 key there) rest.2)
  falls-between (e ∷ s) b d key (suc i) up within fewer more =
      one-before e s key (suc i) up (omega arith)
      (falls-between s b d key i up.1 (omega (arith, within)) fewer more)

  pub first-answer : (s : List (K × X)) (e : K × X) (key : K) (i : ℕ) → IsAscending cmp s → i < length s
      → HoldsAt (λ y. e ≡ y) s i → is_gt (cmp e.0 key) ≡ true → i ≡ 0 → IsFound cmp s key (Err i)
  first-answer s e key i up within there t is =
      let more : cmp (get_or s 0 e).0 key ≡ Greater =
      ap (λ (y : K × X). cmp y.0 key) (ap (λ j. get_or s j e) (sym is) ∙ sym (there e)) ∙ exceeds (cmp e.0 key) t in
      subst (λ j. IsFound cmp s key (Err j)) (sym is) (falls-first s e key up (omega (arith, within, is)) more)

  pub between-answer : (s : List (K × X)) (b e : K × X) (key : K) (i : ℕ) → IsAscending cmp s → i < length s
      → (i ≡ 0 → ⊥) → b ≡ get_or s (i - 1) b → is_lt (cmp b.0 key) ≡ true → HoldsAt (λ y. e ≡ y) s i
      → is_gt (cmp e.0 key) ≡ true → IsFound cmp s key (Err i)
  between-answer s b e key i up within some before f there t =
      let is : suc (i - 1) ≡ i = omega arith in
      let fewer : cmp (get_or s (i - 1) b).0 key ≡ Less =
      ap (λ (y : K × X). cmp y.0 key) (sym before) ∙ lesser (cmp b.0 key) f in
      let more : cmp (get_or s (suc (i - 1)) e).0 key ≡ Greater =
      ap (λ (y : K × X). cmp y.0 key) (ap (λ j. get_or s j e) is ∙ sym (there e)) ∙ exceeds (cmp e.0 key) t in
      subst (λ j. IsFound cmp s key (Err j)) is
      (falls-between s b e key (i - 1) up (omega (arith, within, is)) fewer more)
