-- The first row of a map that fails a test, and the greatest and least numbers of a list.
use Rattle.std.proofs.Common.{◌≡◌, ℕ, suc, ◌≤◌, ◌↔◌, refl, sym, ◌∙◌, ap, subst, Bool, true, false, cond, List, [], ◌∷◌}
use Rattle.std.proofs.Common.{Option, Some, None, inl, inr, arith}
use Rattle.std.specs.Prelude.{T, ◌⊎◌, ◌&&◌, not, find, nat_le, option_map}
use Rattle.std.specs.declared.cmp.Ordering.{Ordering}
use Rattle.std.specs.declared.cmp.Ordering.TheVariants.{Less, Equal, Greater}
use Rattle.std.specs.Cmp.{IsTotalOrder}
use Rattle.std.specs.Ordering.{is_lt, ordering_reverse}
use Rattle.std.specs.FinMap.{FinMap, IsAntisymmetric, get, entries, entries_sorted}
use Rattle.std.specs.FinMap.Entries.{is_sorted, below_all}
use Rattle.std.proofs.lemmas.Bool.{leb-false, true_from_ne_false, not_from_false, not-true}
use Rattle.oe_model.specs.Audits.{first_failing, greatest, least}
use Rattle.oe_model.specs.Conditions.{IsGreatest, IsLeast}
use Rattle.oe_model.specs.Verdicts.{IsFirstFailing}
use Rattle.oe_model.specs.Lists.{IsAmong}
use Rattle.oe_model.proofs.EntryFacts.{EachOf, each_of, entries_at, row_among}
use Rattle.oe_model.proofs.ListFacts.{each_among, none_is, found_passes, none_passes, unbeaten, not_above, top}

pub left : (a b : Bool) → T (a && b) → T a
left true b p = tt
left false b p = p

pub right : (a b : Bool) → T (a && b) → T b
right true b p = p
right false b p = absurd p

pub less : (r : Ordering) → T (is_lt r) → r ≡ Less
less Less p = refl
less Equal p = absurd p
less Greater p = absurd p

-- of two keys not each is below the other
pub not_both : {K : Type 0} {R : K → K → Ordering} → IsTotalOrder R → (j k : K) → R j k ≡ Less → R k j ≡ Less → ⊥
not_both o j k a b = let z : Less ≡ ordering_reverse Less = sym a ∙ o.antisymm j k ∙ ap ordering_reverse b in
    let no : ⊥ = cc in no

module _ {K X : Type 0} {R : K → K → Ordering} (o : IsTotalOrder R) where
  below_each : (k : K) (es : List (K × X)) (e : K × X) → T (below_all R k es) → IsAmong e es → R k e.0 ≡ Less
  below_each k [] e h i = absurd i
  below_each k (f ∷ es) e h (inl same) = ap (λ (g : K × X). R k g.0) (sym same) ∙ less (R k f.0) (left _ _ h)
  below_each k (f ∷ es) e h (inr i) = below_each k es e (right (is_lt (R k f.0)) _ h) i

  -- what stands below the first entry that passes does not pass
  before : (test : K × X → Bool) (es : List (K × X)) (e f : K × X) → T (is_sorted R es) → find test es ≡ Some e
      → IsAmong f es → R f.0 e.0 ≡ Less → test f ≡ false
  before test [] e f h s i l = absurd i
  before test (d ∷ es) e f h s i l = by_test (test d) refl s i
      (λ s i. before test es e f (right (below_all R d.0 es) _ h) s i l)
    where
      by_test : (b : Bool) → test d ≡ b → cond b (Some d) (find test es) ≡ Some e → (d ≡ f) ⊎ IsAmong f es
          → (find test es ≡ Some e → IsAmong f es → test f ≡ false) → test f ≡ false
      by_test true t s (inl same) rest =
          let d_is : d ≡ e = cc in
          let z : R e.0 e.0 ≡ Less = ap (λ (g : K × X). R g.0 e.0) (sym d_is ∙ same) ∙ l in
          absurd (not_both o e.0 e.0 z z)
      by_test true t s (inr i) rest =
          let d_is : d ≡ e = cc in
          absurd (not_both o f.0 e.0 l (ap (λ (g : K × X). R g.0 f.0) (sym d_is) ∙ below_each d.0 es f (left _ _ h) i))
      by_test false t s (inl same) rest = ap test (sym same) ∙ t
      by_test false t s (inr i) rest = rest s i

module _ {K X : Type 0} {R : K → K → Ordering} (o : IsTotalOrder R) (exact : IsAntisymmetric R)
    (test : K → X → Bool) (P : K → X → Type 0) (is : (k : K) (x : X) → (test k x ≡ true) ↔ P k x) (m : FinMap R X) where
  abbrev failing : K × X → Bool
  failing e = not (test e.0 e.1)

  -- no row fails
  pub none_fails : (first_failing test m ≡ None) ↔ ((k : K) (x : X) → get m k ≡ Some x → P k x)
  none_fails = (
    λ e k x row. passes e k x row,
    λ h. ap (option_map (λ (e : K × X). e.0))
        (find_nothing (entries m)
        (each_of (λ e. get m e.0 ≡ Some e.1) (λ e. test e.0 e.1 ≡ true) (λ e row. (is e.0 e.1).1 (h e.0 e.1 row))
        (entries m) (entries_at o m))),
  )
    where
      find_nothing : (es : List (K × X)) → EachOf (λ e. test e.0 e.1 ≡ true) es → find failing es ≡ None
      find_nothing [] h = refl
      find_nothing (e ∷ es) h = ap (λ b. cond (not b) (Some e) (find failing es)) h.0 ∙ find_nothing es h.1

      nothing : (v : Option (K × X)) → option_map (λ (e : K × X). e.0) v ≡ None → v ≡ None
      nothing None e = refl
      nothing (Some x) e = let no : ⊥ = cc in absurd no

      passes : first_failing test m ≡ None → (k : K) (x : X) → get m k ≡ Some x → P k x
      passes e k x row =
          (is k x).0 (true_from_ne_false (test k x)
          (λ t. none_passes failing (entries m) (k, x) (nothing _ e) (row_among o exact m k x row)
          (not_from_false (test k x) t)))

  first_is : (k : K) → first_failing test m ≡ Some k → IsFirstFailing P m k
  first_is k e = by_found (find failing (entries m)) refl e
    where
      by_found : (v : Option (K × X)) → find failing (entries m) ≡ v → option_map (λ (e : K × X). e.0) v ≡ Some k
          → IsFirstFailing P m k
      by_found None found e = let no : ⊥ = cc in absurd no
      by_found (Some d) found e =
          let f = found_passes failing (entries m) d found in
          let key : d.0 ≡ k = cc in
          record {
            row = d.1;
            is_row = ap (get m) (sym key) ∙ each_among (λ e. get m e.0 ≡ Some e.1) (entries m) d (entries_at o m) f.1;
            fails = λ p. let z : false ≡ true = sym (not-true _ f.0) ∙ (is d.0 d.1).1
                (subst (λ j. P j d.1) (sym key) p) in let no : ⊥ = cc in no;
            none_before = λ j y row l.
                (is j y).0 (true_from_ne_false (test j y) (λ t.
                let z : true ≡ false = sym (not_from_false (test j y) t) ∙ before o failing (entries m) d (j, y)
                (entries_sorted m) found (row_among o exact m j y row) (ap (R j) key ∙ l) in
                let no : ⊥ = cc in no));
          }

  -- the first row that fails is found
  pub one_fails : (k : K) → (first_failing test m ≡ Some k) ↔ IsFirstFailing P m k
  one_fails k = (first_is k, λ f. by_found f (first_failing test m) refl)
    where
      by_order : (f : IsFirstFailing P m k) (j : K) (g : IsFirstFailing P m j) (r : Ordering) → R j k ≡ r → j ≡ k
      by_order f j g Less l = absurd (g.fails (f.none_before j g.row g.is_row l))
      by_order f j g Equal l = exact j k l
      by_order f j g Greater l =
          absurd (f.fails (g.none_before k f.row f.is_row (o.antisymm k j ∙ ap ordering_reverse l)))

      by_found : IsFirstFailing P m k → (v : Option K) → first_failing test m ≡ v → first_failing test m ≡ Some k
      by_found f None e = absurd (f.fails (none_fails.0 e k f.row f.is_row))
      by_found f (Some j) e = e ∙ ap Some (by_order f j (first_is j e) (R j k) refl)

-- a list of exactly the numbers with P
module _ (P : ℕ → Type 0) (ns : List ℕ) (each : EachOf P ns) (all : (i : ℕ) → P i → IsAmong i ns) where
  pub greatest_is : (n : ℕ) → greatest ns ≡ Some n → IsGreatest P n
  greatest_is n e = (
    each_among P ns n each (found_passes _ ns n e).1,
    λ i p. let below = leb-false (suc n) i (unbeaten (λ n m. nat_le (suc n) m) ns n i e (all i p)) in
        (let z : i ≤ n = omega arith in z),
  )

  pub least_is : (n : ℕ) → least ns ≡ Some n → IsLeast P n
  least_is n e = (
    each_among P ns n each (found_passes _ ns n e).1,
    λ i p. let below = leb-false (suc i) n (unbeaten (λ n m. nat_le (suc m) n) ns n i e (all i p)) in
        (let z : n ≤ i = omega arith in z),
  )

  pub greatest_found : (n : ℕ) → IsGreatest P n → greatest ns ≡ Some n
  greatest_found n g = by_found (greatest ns) refl
    where
      by_found : (v : Option ℕ) → greatest ns ≡ v → v ≡ Some n
      by_found None e =
          absurd (none_passes _ ns n e (all n g.0)
          (ap not (none_is (λ i. nat_le (suc n) i) ns (λ i k. not_above n i (g.1 i (each_among P ns i each k))))))
      by_found (Some k) e =
          let a = greatest_is k e in
          let b = g.1 k a.0 in
          let c = a.1 n g.0 in
          ap Some (let same : k ≡ n = omega arith in same)

  pub least_found : (n : ℕ) → IsLeast P n → least ns ≡ Some n
  least_found n g = by_found (least ns) refl
    where
      by_found : (v : Option ℕ) → least ns ≡ v → v ≡ Some n
      by_found None e =
          absurd (none_passes _ ns n e (all n g.0)
          (ap not (none_is (λ i. nat_le (suc i) n) ns (λ i k. not_above i n (g.1 i (each_among P ns i each k))))))
      by_found (Some k) e =
          let a = least_is k e in
          let b = g.1 k a.0 in
          let c = a.1 n g.0 in
          ap Some (let same : k ≡ n = omega arith in same)

  -- a list with a number has a greatest one
  pub none_is_empty : (i : ℕ) → greatest ns ≡ None → P i → ⊥
  none_is_empty i e p =
      let t = highest ns (all i p) in
      let z : None ≡ Some t.0 = sym e ∙ greatest_found t.0 (each_among P ns t.0 each t.1, λ j q. t.2 j (all j q)) in
      let no : ⊥ = cc in no
    where
      highest : (xs : List ℕ) → IsAmong i xs → (y : ℕ) × IsAmong y xs × ((z : ℕ) → IsAmong z xs → z ≤ y)
      highest [] k = absurd k
      highest (x ∷ xs) k = top (λ n. n) x xs
