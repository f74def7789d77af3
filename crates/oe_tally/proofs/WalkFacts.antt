-- What a test finds on a walk over two settled tallies: at each key what it finds of the key's sums.
use Rattle.std.proofs.Common.{◌≡◌, refl, sym, ◌∙◌, ap, Bool, true, false, List, [], ◌∷◌, Option, Some, None}
use Rattle.std.specs.Cmp.{IsTotalOrder}
use Rattle.std.specs.List.{AllByRecursion, cons_option}
use Rattle.std.specs.List.Sorted.{IsStrictlySortedBy}
use Rattle.std.specs.Map.{keys_of, lookup}
use Rattle.std.specs.Option.{option_map}
use Rattle.std.specs.Ordering.{eq_by_cmp, is_eq, match_ordering}
use Rattle.std.specs.declared.cmp.Ordering.{Ordering}
use Rattle.std.specs.declared.cmp.Ordering.TheVariants.{Less, Equal, Greater}
use Rattle.oe_tally.specs.declared.pairs.Pair.{Pair}
use Rattle.oe_tally.specs.Tallies.{total, IsSettled}
use Rattle.oe_tally.specs.Walks.{of_left, of_right, of_both, entry_among, pairs_of_both, findings_of, wrong_at, AreAll}
use Rattle.oe_tally.proofs.OrderFacts.{behind, less}

equal-from : (r : Ordering) → is_eq r ≡ true → r ≡ Equal
equal-from Less e = cc
equal-from Equal e = refl
equal-from Greater e = cc

module _ {K : Type 0} {cmp : K → K → Ordering} (order : IsTotalOrder cmp) where
  all-less : (a b : K) (ks : List K) → cmp a b ≡ Less → AllByRecursion (λ y. cmp b y ≡ Less) ks
      → AllByRecursion (λ y. cmp a y ≡ Less) ks
  all-less a b [] e h = tt
  all-less a b (k ∷ ks) e h = (order.trans a b k e h.0, all-less a b ks e h.1)

  all-tied : (a b : K) (ks : List K) → cmp a b ≡ Equal → AllByRecursion (λ y. cmp b y ≡ Less) ks
      → AllByRecursion (λ y. cmp a y ≡ Less) ks
  all-tied a b [] e h = tt
  all-tied a b (k ∷ ks) e h = (order.congr a b k e ∙ h.0, all-tied a b ks e h.1)

  -- all keys of a settled list are greater than one that is less than the first
  pub all-greater : {V : Type 0} (key : K) (e : K × V) (es : List (K × V)) → cmp key e.0 ≡ Less → IsSettled cmp (e ∷ es)
      → AllByRecursion (λ y. cmp key y ≡ Less) (keys_of (e ∷ es))
  unfolding IsStrictlySortedBy
  all-greater key e es less up = (less, all-less key e.0 (keys_of es) less up.0)

module _ {K A B F : Type 0} (cmp : K → K → Ordering) (order : IsTotalOrder cmp)
    (judge : Option A → Option B → Option F) where
  abbrev Above : K → List (K × F) → Type 0
  Above key found = AllByRecursion (λ y. cmp key y ≡ Less) (keys_of found)

  abbrev judged : List (Pair K A B) → List (K × F)
  judged ps = findings_of judge ps

  above-cons : (key : K) (k : K) (r : Option F) (found : List (K × F)) → cmp key k ≡ Less → Above key found
      → Above key (cons_option (option_map (λ f. (k, f)) r) found)
  above-cons key k None found e h = h
  above-cons key k (Some f) found e h = (e, h)

  above-map : (key : K) (fs : List (K × B)) → AllByRecursion (λ y. cmp key y ≡ Less) (keys_of fs)
      → Above key (judged (pairs_of_both cmp [] fs))
  above-map key [] h = tt
  above-map key (f ∷ fs) h = above-cons key f.0 (judge None (Some f.1)) _ h.0 (above-map key fs h.1)

  above-order : (r : Ordering) (key : K) (e : K × A) (rest : List (K × B) → List (Pair K A B)) (f : K × B)
      (fs : List (K × B))
      → cmp key e.0 ≡ Less → cmp key f.0 ≡ Less → Above key (judged (rest (f ∷ fs))) → Above key (judged (rest fs))
      → Above key (judged (entry_among cmp e rest fs))
      → Above key (judged (match_ordering r (of_left e ∷ rest (f ∷ fs)) (of_both e f ∷ rest fs)
      (of_right f ∷ entry_among cmp e rest fs)))
  above-order Less key e rest f fs p q x y z = above-cons key e.0 (judge (Some e.1) None) _ p x
  above-order Equal key e rest f fs p q x y z = above-cons key e.0 (judge (Some e.1) (Some f.1)) _ p y
  above-order Greater key e rest f fs p q x y z = above-cons key f.0 (judge None (Some f.1)) _ q z

  above-placed : (key : K) (e : K × A) (rest : List (K × B) → List (Pair K A B)) (fs : List (K × B)) → cmp key e.0
      ≡ Less
      → AllByRecursion (λ y. cmp key y ≡ Less) (keys_of fs)
      → ((gs : List (K × B)) → AllByRecursion (λ y. cmp key y ≡ Less) (keys_of gs) → Above key (judged (rest gs)))
      → Above key (judged (entry_among cmp e rest fs))
  above-placed key e rest [] p h more = above-cons key e.0 (judge (Some e.1) None) _ p (more [] tt)
  above-placed key e rest (f ∷ fs) p h more =
      above-order (cmp e.0 f.0) key e rest f fs p h.0 (more (f ∷ fs) h) (more fs h.1)
      (above-placed key e rest fs p h.1 more)

  above-merged : (key : K) (es : List (K × A)) (fs : List (K × B)) → AllByRecursion (λ y. cmp key y ≡ Less) (keys_of es)
      → AllByRecursion (λ y. cmp key y ≡ Less) (keys_of fs) → Above key (judged (pairs_of_both cmp es fs))
  above-merged key [] fs p h = above-map key fs h
  above-merged key (e ∷ es) fs p h =
      above-placed key e (pairs_of_both cmp es) fs p.0 h (λ gs g. above-merged key es gs p.1 g)

  ordered-cons : (k : K) (r : Option F) (found : List (K × F)) → Above k found → IsSettled cmp found
      → IsSettled cmp (cons_option (option_map (λ f. (k, f)) r) found)
  unfolding IsStrictlySortedBy
  ordered-cons k None found h up = up
  ordered-cons k (Some f) found h up = (h, up)

  ordered-map : (fs : List (K × B)) → IsSettled cmp fs → IsSettled cmp (judged (pairs_of_both cmp [] fs))
  unfolding IsStrictlySortedBy
  ordered-map [] up = tt
  ordered-map (f ∷ fs) up = ordered-cons f.0 (judge None (Some f.1)) _ (above-map f.0 fs up.0) (ordered-map fs up.1)

  ordered-order : (r : Ordering) (e : K × A) (es : List (K × A)) (f : K × B) (fs : List (K × B)) → cmp e.0 f.0 ≡ r
      → IsSettled cmp (e ∷ es) → IsSettled cmp (f ∷ fs)
      → ((gs : List (K × B)) → IsSettled cmp gs → IsSettled cmp (judged (pairs_of_both cmp es gs)))
      → IsSettled cmp (judged (entry_among cmp e (pairs_of_both cmp es) fs))
      → IsSettled cmp (judged
      (match_ordering r (of_left e ∷ pairs_of_both cmp es (f ∷ fs)) (of_both e f ∷ pairs_of_both cmp es fs)
      (of_right f ∷ entry_among cmp e (pairs_of_both cmp es) fs)))
  unfolding IsStrictlySortedBy
  ordered-order Less e es f fs is up ups more rest =
      ordered-cons e.0 (judge (Some e.1) None) _
      (above-merged e.0 es (f ∷ fs) up.0 (is, all-less order e.0 f.0 (keys_of fs) is ups.0)) (more (f ∷ fs) ups)
  ordered-order Equal e es f fs is up ups more rest =
      ordered-cons e.0 (judge (Some e.1) (Some f.1)) _
      (above-merged e.0 es fs up.0 (all-tied order e.0 f.0 (keys_of fs) is ups.0)) (more fs ups.1)
  ordered-order Greater e es f fs is up ups more rest =
      let first : cmp f.0 e.0 ≡ Less = less order e.0 f.0 is in
      ordered-cons f.0 (judge None (Some f.1)) _
      (above-placed f.0 e (pairs_of_both cmp es) fs first ups.0
      (λ gs g. above-merged f.0 es gs (all-less order f.0 e.0 (keys_of es) first up.0) g)) rest

  ordered-placed : (e : K × A) (es : List (K × A)) (fs : List (K × B)) → IsSettled cmp (e ∷ es) → IsSettled cmp fs
      → ((gs : List (K × B)) → IsSettled cmp gs → IsSettled cmp (judged (pairs_of_both cmp es gs)))
      → IsSettled cmp (judged (entry_among cmp e (pairs_of_both cmp es) fs))
  unfolding IsStrictlySortedBy
  ordered-placed e es [] up ups more =
      ordered-cons e.0 (judge (Some e.1) None) _ (above-merged e.0 es [] up.0 tt) (more [] tt)
  ordered-placed e es (f ∷ fs) up ups more =
      ordered-order (cmp e.0 f.0) e es f fs refl up ups more (ordered-placed e es fs up ups.1 more)

  -- what is found comes in the order of keys
  pub ordered-merged : (es : List (K × A)) (fs : List (K × B)) → IsSettled cmp es → IsSettled cmp fs
      → IsSettled cmp (judged (pairs_of_both cmp es fs))
  unfolding IsStrictlySortedBy
  ordered-merged [] fs up ups = ordered-map fs ups
  ordered-merged (e ∷ es) fs up ups = ordered-placed e es fs up ups (λ gs g. ordered-merged es gs up.1 g)

module _ {K A B F : Type 0} (cmp : K → K → Ordering) (order : IsTotalOrder cmp) {same : K → K → Bool}
    (ties : (x y : K) → same x y ≡ eq_by_cmp cmp x y) (add : A → A → A) (join : B → B → B)
    (judge : Option A → Option B → Option F) (nothing : judge None None ≡ None) (k : K) where
  tie-of : (x y : K) → same x y ≡ true → cmp x y ≡ Equal
  tie-of x y e = equal-from (cmp x y) (sym (ties x y) ∙ e)

  -- what stands among the findings at the key, and what the test finds of its sums
  abbrev at : List (K × F) → Option F
  at found = lookup (λ x. same x k) found

  abbrev of : List (K × A) → List (K × B) → Option F
  of es fs = judge (total same add es k) (total same join fs k)

  none : {V : Type 0} (op : V → V → V) (key : K) (es : List (K × V)) → same key k ≡ true
      → AllByRecursion (λ y. cmp key y ≡ Less) (keys_of es) → total same op es k ≡ None
  none op key es tie h = behind cmp order ties op es key k h (tie-of key k tie)

  -- a finding of the key itself, behind which there is none; and of another key
  at-here : (key : K) (r : Option F) (found : List (K × F)) → same key k ≡ true → at found ≡ None
      → at (cons_option (option_map (λ f. (key, f)) r) found) ≡ r
  at-here key None found tie h = h
  at-here key (Some f) found tie h = rw tie refl

  at-other : (key : K) (r : Option F) (found : List (K × F)) → same key k ≡ false
      → at (cons_option (option_map (λ f. (key, f)) r) found) ≡ at found
  at-other key None found tie = refl
  at-other key (Some f) found tie = rw tie refl

  nothing-of : (p : Option A) (q : Option B) → p ≡ None → q ≡ None → judge p q ≡ None
  nothing-of p q e f = ap (λ x. judge x q) e ∙ ap (judge None) f ∙ nothing

  left-step : (b : Bool) (e : K × A) (es : List (K × A)) (fs : List (K × B)) (found : List (K × F)) → same e.0 k ≡ b
      → AllByRecursion (λ y. cmp e.0 y ≡ Less) (keys_of es) → AllByRecursion (λ y. cmp e.0 y ≡ Less) (keys_of fs)
      → at found ≡ of es fs
      → at (cons_option (option_map (λ f. (e.0, f)) (judge (Some e.1) None)) found) ≡ of (e ∷ es) fs
  left-step true e es fs found tie h g rest =
      let p : total same add es k ≡ None = none add e.0 es tie h in
      let q : total same join fs k ≡ None = none join e.0 fs tie g in
      let here : total same add (e ∷ es) k ≡ Some e.1 = rw (tie, p) refl in
      at-here e.0 (judge (Some e.1) None) found tie (rest ∙ nothing-of _ _ p q)
      ∙ ap (judge (Some e.1)) (sym q) ∙ ap (λ x. judge x (total same join fs k)) (sym here)
  left-step false e es fs found tie h g rest =
      let there : total same add (e ∷ es) k ≡ total same add es k = rw tie refl in
      at-other e.0 (judge (Some e.1) None) found tie ∙ rest ∙ ap (λ x. judge x (total same join fs k)) (sym there)

  right-step : (b : Bool) (f : K × B) (es : List (K × A)) (fs : List (K × B)) (found : List (K × F)) → same f.0 k ≡ b
      → AllByRecursion (λ y. cmp f.0 y ≡ Less) (keys_of es) → AllByRecursion (λ y. cmp f.0 y ≡ Less) (keys_of fs)
      → at found ≡ of es fs
      → at (cons_option (option_map (λ x. (f.0, x)) (judge None (Some f.1))) found) ≡ of es (f ∷ fs)
  right-step true f es fs found tie h g rest =
      let p : total same add es k ≡ None = none add f.0 es tie h in
      let q : total same join fs k ≡ None = none join f.0 fs tie g in
      let here : total same join (f ∷ fs) k ≡ Some f.1 = rw (tie, q) refl in
      at-here f.0 (judge None (Some f.1)) found tie (rest ∙ nothing-of _ _ p q)
      ∙ ap (λ x. judge x (Some f.1)) (sym p) ∙ ap (judge (total same add es k)) (sym here)
  right-step false f es fs found tie h g rest =
      let there : total same join (f ∷ fs) k ≡ total same join fs k = rw tie refl in
      at-other f.0 (judge None (Some f.1)) found tie ∙ rest ∙ ap (judge (total same add es k)) (sym there)

  both-step : (b : Bool) (e : K × A) (f : K × B) (es : List (K × A)) (fs : List (K × B)) (found : List (K × F))
      → same e.0 k ≡ b → same f.0 k ≡ b
      → AllByRecursion (λ y. cmp e.0 y ≡ Less) (keys_of es) → AllByRecursion (λ y. cmp f.0 y ≡ Less) (keys_of fs)
      → at found ≡ of es fs
      → at (cons_option (option_map (λ x. (e.0, x)) (judge (Some e.1) (Some f.1))) found) ≡ of (e ∷ es) (f ∷ fs)
  both-step true e f es fs found tie also h g rest =
      let p : total same add es k ≡ None = none add e.0 es tie h in
      let q : total same join fs k ≡ None = none join f.0 fs also g in
      let left : total same add (e ∷ es) k ≡ Some e.1 = rw (tie, p) refl in
      let right : total same join (f ∷ fs) k ≡ Some f.1 = rw (also, q) refl in
      at-here e.0 (judge (Some e.1) (Some f.1)) found tie (rest ∙ nothing-of _ _ p q)
      ∙ ap (judge (Some e.1)) (sym right) ∙ ap (λ x. judge x (total same join (f ∷ fs) k)) (sym left)
  both-step false e f es fs found tie also h g rest =
      let left : total same add (e ∷ es) k ≡ total same add es k = rw tie refl in
      let right : total same join (f ∷ fs) k ≡ total same join fs k = rw also refl in
      at-other e.0 (judge (Some e.1) (Some f.1)) found tie ∙ rest
      ∙ ap (judge (total same add es k)) (sym right) ∙ ap (λ x. judge x (total same join (f ∷ fs) k)) (sym left)

  at-map : (fs : List (K × B)) → IsSettled cmp fs → at (findings_of judge (pairs_of_both cmp [] fs)) ≡ of [] fs
  unfolding IsStrictlySortedBy
  at-map [] up = sym nothing
  at-map (f ∷ fs) up = right-step (same f.0 k) f [] fs _ refl tt up.0 (at-map fs up.1)

  at-order : (r : Ordering) (e : K × A) (es : List (K × A)) (f : K × B) (fs : List (K × B)) → cmp e.0 f.0 ≡ r
      → IsSettled cmp (e ∷ es) → IsSettled cmp (f ∷ fs)
      → ((gs : List (K × B)) → IsSettled cmp gs → at (findings_of judge (pairs_of_both cmp es gs)) ≡ of es gs)
      → at (findings_of judge (entry_among cmp e (pairs_of_both cmp es) fs)) ≡ of (e ∷ es) fs
      → at (findings_of judge
      (match_ordering r (of_left e ∷ pairs_of_both cmp es (f ∷ fs)) (of_both e f ∷ pairs_of_both cmp es fs)
      (of_right f ∷ entry_among cmp e (pairs_of_both cmp es) fs))) ≡ of (e ∷ es) (f ∷ fs)
  unfolding IsStrictlySortedBy
  at-order Less e es f fs is up ups more rest =
      left-step (same e.0 k) e es (f ∷ fs) _ refl up.0 (is, all-less order e.0 f.0 (keys_of fs) is ups.0)
      (more (f ∷ fs) ups)
  at-order Equal e es f fs is up ups more rest =
      both-step (same e.0 k) e f es fs _ refl
      (ties f.0 k ∙ ap is_eq (sym (order.congr e.0 f.0 k is)) ∙ sym (ties e.0 k)) up.0 ups.0 (more fs ups.1)
  at-order Greater e es f fs is up ups more rest =
      let first : cmp f.0 e.0 ≡ Less = less order e.0 f.0 is in
      right-step (same f.0 k) f (e ∷ es) fs _ refl (first, all-less order f.0 e.0 (keys_of es) first up.0) ups.0 rest

  at-placed : (e : K × A) (es : List (K × A)) (fs : List (K × B)) → IsSettled cmp (e ∷ es) → IsSettled cmp fs
      → ((gs : List (K × B)) → IsSettled cmp gs → at (findings_of judge (pairs_of_both cmp es gs)) ≡ of es gs)
      → at (findings_of judge (entry_among cmp e (pairs_of_both cmp es) fs)) ≡ of (e ∷ es) fs
  unfolding IsStrictlySortedBy
  at-placed e es [] up ups more = left-step (same e.0 k) e es [] _ refl up.0 tt (more [] tt)
  at-placed e es (f ∷ fs) up ups more =
      at-order (cmp e.0 f.0) e es f fs refl up ups more (at-placed e es fs up ups.1 more)

  -- what is found at the key is what the test finds of its sums
  pub at-merged : (es : List (K × A)) (fs : List (K × B)) → IsSettled cmp es → IsSettled cmp fs
      → at (findings_of judge (pairs_of_both cmp es fs)) ≡ of es fs
  unfolding IsStrictlySortedBy
  at-merged [] fs up ups = at-map fs ups
  at-merged (e ∷ es) fs up ups = at-placed e es fs up ups (λ gs g. at-merged es gs up.1 g)

-- so the findings are all that the test finds
pub are_all : {K A B F : Type 0} (cmp : K → K → Ordering) (order : IsTotalOrder cmp) {same : K → K → Bool}
    (ties : (x y : K) → same x y ≡ eq_by_cmp cmp x y) (add : A → A → A) (join : B → B → B)
    (judge : Option A → Option B → Option F) (nothing : judge None None ≡ None)
    (es : List (K × A)) (fs : List (K × B)) → IsSettled cmp es → IsSettled cmp fs
    → AreAll cmp same (wrong_at same add join judge es fs) (findings_of judge (pairs_of_both cmp es fs))
are_all cmp order ties add join judge nothing es fs up ups = record {
  ordered = ordered-merged cmp order judge es fs up ups;
  exact = λ k. at-merged cmp order ties add join judge nothing k es fs up ups;
}
