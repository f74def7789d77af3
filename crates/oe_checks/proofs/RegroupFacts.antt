-- A sum by a coarser key is the same, whether of rows or of their sums by the finer key.
use Rattle.std.proofs.Common.{◌≡◌, refl, sym, ◌∙◌, ap, Bool, true, false, cond, List, [], ◌∷◌, map, Option}
use Rattle.std.proofs.Common.{Some, None}
use Rattle.std.specs.Cmp.{IsTotalOrder, tied_itself}
use Rattle.std.specs.List.{AllByRecursion}
use Rattle.std.specs.List.Sorted.{IsStrictlySortedBy}
use Rattle.std.specs.Map.{lookup}
use Rattle.std.specs.Ordering.{eq_by_cmp, is_eq}
use Rattle.std.specs.declared.cmp.Ordering.{Ordering}
use Rattle.std.specs.declared.cmp.Ordering.TheVariants.{Less, Equal, Greater}
use Rattle.oe_tally.specs.Tallies.{together, total, IsSettled}
use Rattle.oe_tally.proofs.TotalFacts.{together-assoc, together-turn}
use Rattle.oe_tally.proofs.OrderFacts.{behind}

equal-from : (r : Ordering) → is_eq r ≡ true → r ≡ Equal
equal-from Less e = cc
equal-from Equal e = refl
equal-from Greater e = cc

module _ {K V : Type 0} (cmp : K → K → Ordering) (order : IsTotalOrder cmp) {same : K → K → Bool}
    (ties : (x y : K) → same x y ≡ eq_by_cmp cmp x y) (op : V → V → V) where
  tie-of : (x y : K) → same x y ≡ true → cmp x y ≡ Equal
  tie-of x y e = equal-from (cmp x y) (sym (ties x y) ∙ e)

  -- behind the first entry its key has nothing
  pub none-behind : (e : K × V) (es : List (K × V)) (k : K) → IsSettled cmp (e ∷ es) → same e.0 k ≡ true
      → total same op es k ≡ None
  unfolding IsStrictlySortedBy
  none-behind e es k up tie = behind cmp order ties op es e.0 k up.0 (tie-of e.0 k tie)

  found-step : (b : Bool) (e : K × V) (es : List (K × V)) (k : K) → same e.0 k ≡ b → IsSettled cmp (e ∷ es)
      → total same op es k ≡ lookup (λ x. same x k) es → total same op (e ∷ es) k ≡ lookup (λ x. same x k) (e ∷ es)
  found-step true e es k tie up h =
      let none : total same op es k ≡ None = none-behind e es k up tie in
      rw (tie, none) refl
  found-step false e es k tie up h = rw tie h

  -- in a settled list a key's sum is its entry's value
  pub total-found : (es : List (K × V)) (k : K) → IsSettled cmp es → total same op es k ≡ lookup (λ x. same x k) es
  unfolding IsStrictlySortedBy
  total-found [] k up = refl
  total-found (e ∷ es) k up = found-step (same e.0 k) e es k refl up (total-found es k up.1)

module _ {K J V : Type 0} (cmp : K → K → Ordering) (order : IsTotalOrder cmp) {same : K → K → Bool}
    (ties : (x y : K) → same x y ≡ eq_by_cmp cmp x y) (exact : (a b : K) → same a b ≡ true → a ≡ b)
    (alike : J → J → Bool) (op : V → V → V) (assoc : (a b c : V) → op (op a b) c ≡ op a (op b c))
    (comm : (a b : V) → op a b ≡ op b a) (g : K → J) (c : J) where
  itself : (a : K) → same a a ≡ true
  itself a = ties a a ∙ ap is_eq (tied_itself order a)

  -- the sum by the coarser key
  abbrev pub coarse : List (K × V) → Option V
  coarse es = total alike op (map (λ e. (g e.0, e.1)) es) c

  -- what a sum by the finer key brings to it
  abbrev part : K → Option V → Option V
  part k r = cond (alike (g k) c) r None

  abbrev without : K → List (K × V) → List (K × V)
  without k [] = []
  without k (e ∷ es) = cond (same e.0 k) (without k es) (e ∷ without k es)

  part-more : (b : Bool) (x : V) (t r : Option V)
      → together op (cond b (Some x) None) (together op (cond b t None) r)
      ≡ together op (cond b (together op (Some x) t) None) r
  part-more true x None r = refl
  part-more true x (Some t) r = sym (together-assoc op assoc comm (Some x) (Some t) r)
  part-more false x t r = refl

  part-none : (b : Bool) → None ≡ together op (cond b None None) None
  part-none true = refl
  part-none false = refl

  taken-step : (b : Bool) (k : K) (e : K × V) (es : List (K × V)) → same e.0 k ≡ b
      → coarse es ≡ together op (part k (total same op es k)) (coarse (without k es))
      → coarse (e ∷ es) ≡ together op (part k (total same op (e ∷ es) k)) (coarse (without k (e ∷ es)))
  taken-step true k e es tie h =
      rw tie (
      ap (together op (cond (alike (g e.0) c) (Some e.1) None)) h
      ∙ ap (λ j. together op (cond (alike (g j) c) (Some e.1) None)
      (together op (part k (total same op es k)) (coarse (without k es)))) (exact e.0 k tie)
      ∙ part-more (alike (g k) c) e.1 (total same op es k) (coarse (without k es)))
  taken-step false k e es tie h =
      rw tie (
      ap (together op (cond (alike (g e.0) c) (Some e.1) None)) h
      ∙ together-turn op assoc comm (cond (alike (g e.0) c) (Some e.1) None) (part k (total same op es k))
      (coarse (without k es)))

  -- a key taken out
  taken-out : (k : K) (es : List (K × V)) → coarse es
      ≡ together op (part k (total same op es k)) (coarse (without k es))
  taken-out k [] = part-none (alike (g k) c)
  taken-out k (e ∷ es) = taken-step (same e.0 k) k e es refl (taken-out k es)

  without-step : (b d : Bool) (k q : K) (e : K × V) (es : List (K × V)) → same e.0 k ≡ b → same k q ≡ d
      → total same op (without k es) q ≡ cond (same k q) None (total same op es q)
      → total same op (without k (e ∷ es)) q ≡ cond (same k q) None (total same op (e ∷ es) q)
  without-step true true k q e es tie same-key h = rw (tie, same-key)
      (h ∙ ap (λ b. cond b None (total same op es q)) same-key)
  without-step true false k q e es tie other h =
      let there : same e.0 q ≡ false = ap (λ x. same x q) (exact e.0 k tie) ∙ other in
      rw (tie, other, there) (h ∙ ap (λ b. cond b None (total same op es q)) other)
  without-step false true k q e es tie same-key h =
      let there : same e.0 q ≡ false = ap (same e.0) (sym (exact k q same-key)) ∙ tie in
      rw (tie, same-key, there) (h ∙ ap (λ b. cond b None (total same op es q)) same-key)
  without-step false false k q e es tie other h =
      rw (tie, other) (ap (together op (cond (same e.0 q) (Some e.1) None))
      (h ∙ ap (λ b. cond b None (total same op es q)) other))

  nothing-left : (b : Bool) → ◌≡◌ {A = Option V} None (cond b None None)
  nothing-left true = refl
  nothing-left false = refl

  total-without : (k q : K) (es : List (K × V))
      → total same op (without k es) q ≡ cond (same k q) None (total same op es q)
  total-without k q [] = nothing-left (same k q)
  total-without k q (e ∷ es) = without-step (same e.0 k) (same k q) k q e es refl refl (total-without k q es)

  some-together : (x : V) (r : Option V) → together op (Some x) r ≡ None → ⊥
  some-together x None e = cc
  some-together x (Some y) e = cc

  other-key : (b : Bool) (e : K × V) (es : List (K × V)) (k : K) → same e.0 k ≡ b → alike (g e.0) c ≡ false
      → alike (g k) c ≡ true → total same op (e ∷ es) k ≡ None → total same op es k ≡ None
  other-key true e es k tie not-so counts h =
      let untrue : false ≡ true = sym not-so ∙ ap (λ x. alike (g x) c) (exact e.0 k tie) ∙ counts in cc
  other-key false e es k tie not-so counts h = rw tie at h

  none-step : (b : Bool) (e : K × V) (es : List (K × V)) → alike (g e.0) c ≡ b
      → ((k : K) → alike (g k) c ≡ true → total same op (e ∷ es) k ≡ None)
      → (((k : K) → alike (g k) c ≡ true → total same op es k ≡ None) → coarse es ≡ None) → coarse (e ∷ es) ≡ None
  none-step true e es counts h more =
      let here : total same op (e ∷ es) e.0 ≡ None = h e.0 counts in
      absurd (some-together e.1 (total same op es e.0)
      (sym (ap (λ b. together op (cond b (Some e.1) None) (total same op es e.0)) (itself e.0)) ∙ here))
  none-step false e es not-so h more = rw not-so
      (more (λ k counts. other-key (same e.0 k) e es k refl not-so counts (h k counts)))

  none-left : (es : List (K × V)) → ((k : K) → alike (g k) c ≡ true → total same op es k ≡ None) → coarse es ≡ None
  none-left [] h = refl
  none-left (e ∷ es) h = none-step (alike (g e.0) c) e es refl h (none-left es)

  head-part : (b : Bool) (f : K × V) (fs es : List (K × V)) → alike (g f.0) c ≡ b → IsSettled cmp (f ∷ fs)
      → (alike (g f.0) c ≡ true → total same op (f ∷ fs) f.0 ≡ total same op es f.0)
      → cond (alike (g f.0) c) (Some f.1) None ≡ part f.0 (total same op es f.0)
  head-part true f fs es counts up h =
      let none : total same op fs f.0 ≡ None = none-behind cmp order ties op f fs f.0 up (itself f.0) in
      let here : total same op (f ∷ fs) f.0 ≡ Some f.1 =
      ap (λ b. together op (cond b (Some f.1) None) (total same op fs f.0)) (itself f.0)
      ∙ ap (together op (Some f.1)) none in
      ap (λ r. cond (alike (g f.0) c) r None) (sym here ∙ h counts)
  head-part false f fs es not-so up h = rw not-so refl

  rest-total : (b : Bool) (f : K × V) (fs es : List (K × V)) (k : K) → same f.0 k ≡ b → IsSettled cmp (f ∷ fs)
      → total same op (f ∷ fs) k ≡ total same op es k → total same op fs k ≡ total same op (without f.0 es) k
  rest-total true f fs es k tie up h =
      none-behind cmp order ties op f fs k up tie
      ∙ sym (total-without f.0 k es ∙ ap (λ b. cond b None (total same op es k)) tie)
  rest-total false f fs es k tie up h =
      sym (ap (λ b. together op (cond b (Some f.1) None) (total same op fs k)) tie) ∙ h
      ∙ sym (total-without f.0 k es ∙ ap (λ b. cond b None (total same op es k)) tie)

  -- a settled list and any list of rows, of which the finer sums are the same wherever they count
  pub regroup : (fs es : List (K × V)) → IsSettled cmp fs
      → ((k : K) → alike (g k) c ≡ true → total same op fs k ≡ total same op es k) → coarse fs ≡ coarse es
  unfolding IsStrictlySortedBy
  regroup [] es up h = sym (none-left es (λ k counts. sym (h k counts)))
  regroup (f ∷ fs) es up h =
      ap (together op (cond (alike (g f.0) c) (Some f.1) None))
      (regroup fs (without f.0 es) up.1 (λ k counts. rest-total (same f.0 k) f fs es k refl up (h k counts)))
      ∙ ap (λ r. together op r (coarse (without f.0 es))) (head-part (alike (g f.0) c) f fs es refl up (h f.0))
      ∙ sym (taken-out f.0 es)

module _ {K F : Type 0} (cmp : K → K → Ordering) (order : IsTotalOrder cmp) {same : K → K → Bool}
    (ties : (x y : K) → same x y ≡ eq_by_cmp cmp x y) where
  later : (b : Bool) (e : K × F) (es : List (K × F)) (k : K) (x : F) → same e.0 k ≡ b → IsSettled cmp (e ∷ es)
      → total same (λ p q. p) es k ≡ lookup (λ y. same y k) es → lookup (λ y. same y k) es ≡ Some x
      → lookup (λ y. same y k) (e ∷ es) ≡ Some x
  later true e es k x tie up same-sum is =
      let none : None ≡ Some x = sym (none-behind cmp order ties (λ p q. p) e es k up tie) ∙ same-sum ∙ is in cc
  later false e es k x tie up same-sum is = rw tie is

  -- what holds of each value that a key has holds of each entry
  pub all-found : (P : K × F → Type 0) (es : List (K × F)) → IsSettled cmp es
      → ((k : K) (x : F) → lookup (λ y. same y k) es ≡ Some x → P (k, x)) → AllByRecursion P es
  unfolding IsStrictlySortedBy
  all-found P [] up h = tt
  all-found P (e ∷ es) up h = (
    h e.0 e.1 (ap (λ b. cond b (Some e.1) (lookup (λ y. same y e.0) es))
        (ties e.0 e.0 ∙ ap is_eq (tied_itself order e.0))),
    all-found P es up.1 (λ k x is. h k x
        (later (same e.0 k) e es k x refl up (total-found cmp order ties (λ p q. p) es k up.1) is)),
  )
