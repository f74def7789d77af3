-- Keys that stand twice: one row more, and rows among which none does.
use Rattle.std.proofs.Common.{◌≡◌, ℕ, zero, suc, ◌+◌, ◌-◌, ◌<◌, ◌≤◌, Bool, true, false, List, [], ◌∷◌}
use Rattle.std.proofs.Common.{true≢false, append_assoc, ◌++◌, length, map, Bor, take, get_or, sym, ap, subst, ◌∙◌}
use Rattle.std.proofs.Common.{refl, arith, if◌then◌else◌}
use Rattle.std.specs.Cmp.{IsTotalOrder}
use Rattle.std.specs.Ordering.{is_eq, is_lt, ordering_reverse, eq_by_cmp}
use Rattle.std.specs.List.Sorted.{IsSortedByKey, IsSortedByClosure, IsStrictlySortedBy}
use Rattle.std.specs.declared.cmp.Ordering.{Ordering}
use Rattle.std.specs.declared.cmp.Ordering.TheVariants.{Less, Equal, Greater}
use Rattle.std.specs.Fn.{Mut}
use Rattle.std.specs.Fn.{Called}
use Rattle.std.proofs.lemmas.Fn.{always_returns_same}
use Rattle.std.proofs.lemmas.List.MinMax.{ranks_by}
use Rattle.std.proofs.lemmas.Map.Keys.{sorted_from_all_adjacent}
use Rattle.std.proofs.lemmas.List.{append-nil, length-map, get_or-map}
use Rattle.oe_rows.specs.declared.keys.Key.{Key}
use Rattle.oe_rows.specs.declared.keys.Table.{Table}
use Rattle.oe_file_tables.specs.declared.faults.TableFault.{TableFault}
use Rattle.oe_file_tables.specs.declared.lines.Numbered.{Numbered}
use Rattle.oe_file_tables.specs.Fault.{Told, in_64_bits, with_fault, with_each_fault}
use Rattle.oe_file_tables.specs.Twice.{twice_at, twice_behind, twice_in}

-- ---- faults one after another

each_append : {T : Type 0} (fs gs : List T) (t : Told T) → with_each_fault (fs ++ gs) t
    ≡ with_each_fault gs (with_each_fault fs t)
each_append [] gs t = refl
each_append (f ∷ fs) gs t = each_append fs gs (with_fault f t)

one_told : (n : ℕ) → in_64_bits (n + 1) ≡ 0 → ⊥
one_told n e = omega (arith, e)

pub none_each : {T : Type 0} (fs : List T) (t : Told T) → (with_each_fault fs t).count ≡ 0 → (fs ≡ []) × (t.count ≡ 0)
none_each [] t e = (refl, e)
none_each (f ∷ fs) t e = absurd (one_told t.count (none_each fs (with_fault f t) e).1)

-- ---- one row more

both_empty : {A : Type 0} (xs ys : List A) → xs ++ ys ≡ [] → (xs ≡ []) × (ys ≡ [])
both_empty [] ys e = (refl, e)
both_empty (x ∷ xs) ys e = absurd (omega (arith, ap length e))

not_same : {A : Type 0} (b : Bool) (x : A) → (if b then x ∷ [] else []) ≡ [] → b ≡ false
not_same true x e = absurd (omega (arith, ap length e))
not_same false x e = refl

module _ {K X : Type 0} (cmp : K → K → Ordering) (table : Table) (key_of : K → Key) where
  behind_more : (p : Numbered K X) (ns : List (Numbered K X)) (i : ℕ) (d e : Numbered K X) → i < length ns
      → twice_behind cmp table key_of p (take (suc i) ns)
      ≡ twice_behind cmp table key_of p (take i ns)
      ++ twice_at cmp table key_of (get_or (p ∷ ns) i d) (get_or ns i e)
  behind_more p [] i d e h = absurd (omega (arith, h))
  behind_more p (n ∷ ns) zero d e h = append-nil (twice_at cmp table key_of p n)
  behind_more p (n ∷ ns) (suc i) d e h =
      ap (λ t. twice_at cmp table key_of p n ++ t) (behind_more n ns i d e (omega (arith, h)))
      ∙ sym (append_assoc (twice_at cmp table key_of p n) (twice_behind cmp table key_of n (take i ns))
      (twice_at cmp table key_of (get_or (n ∷ ns) i d) (get_or ns i e)))

  twice_more : (ns : List (Numbered K X)) (i : ℕ) (d e : Numbered K X) → suc i < length ns
      → twice_in cmp table key_of (take (suc (suc i)) ns)
      ≡ twice_in cmp table key_of (take (suc i) ns)
      ++ twice_at cmp table key_of (get_or ns i d) (get_or ns (suc i) e)
  twice_more [] i d e h = absurd (omega (arith, h))
  twice_more (n ∷ ns) i d e h = behind_more n ns i d e (omega (arith, h))

  -- the faults with the row behind the first i ones
  told_more : (ns : List (Numbered K X)) (i : ℕ) (p n : Numbered K X) (start now : Told TableFault) → suc i < length ns
      → p ≡ get_or ns i p → n ≡ get_or ns (suc i) n
      → now ≡ with_each_fault (twice_in cmp table key_of (take (suc i) ns)) start
      → with_each_fault (twice_at cmp table key_of p n) now
      ≡ with_each_fault (twice_in cmp table key_of (take (suc (suc i)) ns)) start
  told_more ns i p n start now h is-p is-n told =
      let front = twice_in cmp table key_of (take (suc i) ns) in
      ap (with_each_fault (twice_at cmp table key_of p n)) told
      ∙ sym (each_append front (twice_at cmp table key_of p n) start)
      ∙ ap (λ fs. with_each_fault fs start)
      ((λ j. front ++ twice_at cmp table key_of (is-p j) (is-n j)) ∙ sym (twice_more ns i p n h))

  pub told_next : (ns : List (Numbered K X)) (at : ℕ) (p n : Numbered K X) (start now : Told TableFault) → 1 ≤ at
      → at < length ns → p ≡ get_or ns (at - 1) p → n ≡ get_or ns at n
      → now ≡ with_each_fault (twice_in cmp table key_of (take at ns)) start
      → with_each_fault (twice_at cmp table key_of p n) now
      ≡ with_each_fault (twice_in cmp table key_of (take (at + 1) ns)) start
  told_next ns zero p n start now low high is-p is-n told = absurd (omega (arith, low))
  told_next ns (suc i) p n start now low high is-p is-n told =
      let next : suc (suc i) ≡ suc i + 1 = omega arith in
      let less : suc i - 1 ≡ i = omega arith in
      subst (λ (m : ℕ). with_each_fault (twice_at cmp table key_of p n) now
      ≡ with_each_fault (twice_in cmp table key_of (take m ns)) start) next
      (told_more ns i p n start now high (subst (λ (m : ℕ). p ≡ get_or ns m p) less is-p) is-n told)

  -- ---- no key stands twice

  behind_other : (p : Numbered K X) (ns : List (Numbered K X)) (i : ℕ) (d : Numbered K X)
      → twice_behind cmp table key_of p ns ≡ [] → i < length ns
      → eq_by_cmp cmp (get_or (p ∷ ns) i d).key (get_or ns i d).key ≡ false
  behind_other p [] i d e h = absurd (omega (arith, h))
  behind_other p (n ∷ ns) zero d e h =
      not_same (eq_by_cmp cmp p.key n.key) _
      (both_empty (twice_at cmp table key_of p n) (twice_behind cmp table key_of n ns) e).0
  behind_other p (n ∷ ns) (suc i) d e h =
      behind_other n ns i d (both_empty (twice_at cmp table key_of p n) (twice_behind cmp table key_of n ns) e).1
      (omega (arith, h))

  pub others : (ns : List (Numbered K X)) (i : ℕ) (d : Numbered K X) → twice_in cmp table key_of ns ≡ []
      → suc i < length ns → eq_by_cmp cmp (get_or ns i d).key (get_or ns (suc i) d).key ≡ false
  others [] i d e h = absurd (omega (arith, h))
  others (n ∷ ns) i d e h = behind_other n ns i d e (omega (arith, h))

-- ---- rows in order

module _ {K X : Type 0} (cmp : K → K → Ordering) (total : IsTotalOrder cmp) {F : Type 0} where
  -- from what a sort by their keys ensures
  pub now_sorted : {g : Mut F (Bor (Numbered K X) × (Bor (Numbered K X) × Unit {0})) Ordering} {f : F}
      (ns : List (Numbered K X)) → IsSortedByClosure g f ns
      → ((a : Bor (Numbered K X) × (Bor (Numbered K X) × Unit {0})) (r : Ordering) (f' : F) → Called g f a r f'
      → (r ≡ cmp a.0.now.key a.1.0.now.key) × (f' ≡ f))
      → IsSortedByKey (λ n. n.key) cmp ns
  now_sorted {g = g} {f = f} ns sorts calls =
      let key : Numbered K X → K = λ n. n.key in
      sorts (λ x y. is_lt (cmp x.key y.key)) (ranks_by total key)
      (always_returns_same g (λ a r. is_lt r ≡ is_lt (cmp a.0.now.key a.1.0.now.key)) f
      (λ a r f' k. (ap is_lt (calls a r f' k).0, (calls a r f' k).1)))

less_by : (r s : Ordering) → r ≡ ordering_reverse s → is_lt s ≡ false → is_eq r ≡ false → r ≡ Less
less_by Less s e l q = refl
less_by Equal s e l q = absurd (true≢false q)
less_by Greater Less e l q = absurd (true≢false l)
less_by Greater Equal e l q = absurd (true≢false (sym (ap is_eq e)))
less_by Greater Greater e l q = e

module _ {K X : Type 0} (cmp : K → K → Ordering) (total : IsTotalOrder cmp) (table : Table) (key_of : K → Key) where
  adjacent : (ns : List (Numbered K X)) → IsSortedByKey (λ n. n.key) cmp ns → twice_in cmp table key_of ns ≡ []
      → (k : ℕ) (d : Numbered K X) → k + 1 < length ns
      → cmp (get_or ns k d).key (get_or ns (k + 1) d).key ≡ Less
  adjacent ns sorted none k d h =
      let next : suc k ≡ k + 1 = omega arith in
      less_by (cmp (get_or ns k d).key (get_or ns (k + 1) d).key) (cmp (get_or ns (k + 1) d).key (get_or ns k d).key)
      (total.antisymm (get_or ns k d).key (get_or ns (k + 1) d).key) (sorted k d (omega arith) h)
      (subst (λ (j : ℕ). eq_by_cmp cmp (get_or ns k d).key (get_or ns j d).key ≡ false) next
      (others cmp table key_of ns k d none (omega (arith, h))))

  pub once : (ns : List (Numbered K X)) → IsSortedByKey (λ n. n.key) cmp ns → twice_in cmp table key_of ns ≡ []
      → IsStrictlySortedBy cmp (map (λ n. n.key) ns)
  unfolding IsStrictlySortedBy
  once [] sorted none = tt
  once (n ∷ ns) sorted none =
      let key : Numbered K X → K = λ m. m.key in
      sorted_from_all_adjacent total (map key (n ∷ ns)) n.key
      (λ k h.
      let long : length (map key (n ∷ ns)) ≡ length (n ∷ ns) = length-map (n ∷ ns) key in
      let low : k < length (n ∷ ns) = omega (arith, h, long) in
      let high : k + 1 < length (n ∷ ns) = omega (arith, h, long) in
      (λ i. cmp (get_or-map key (n ∷ ns) k n n.key low i) (get_or-map key (n ∷ ns) (k + 1) n n.key high i))
      ∙ adjacent (n ∷ ns) sorted none k n high)
