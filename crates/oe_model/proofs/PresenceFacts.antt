-- Which rows are there after a change of one row of a finite map.
use Rattle.std.proofs.Common.{◌≡◌, refl, sym, ◌∙◌, ap, subst, Bool, true, false, cond, Option, Some, None, inl, inr}
use Rattle.std.specs.Prelude.{◌⊎◌, option_map, IsSome, is_some}
use Rattle.std.specs.declared.cmp.Ordering.{Ordering}
use Rattle.std.specs.Cmp.{IsTotalOrder, eq_by_cmp_equiv}
use Rattle.std.specs.Ordering.{eq_by_cmp}
use Rattle.std.specs.FinMap.{FinMap, IsAntisymmetric, get, insert, remove, get-insert, get-remove}
use Rattle.oe_model.specs.Maps.{each}
use Rattle.oe_model.proofs.MapFacts.{is_same, is_self, get_own, get-each}

pub some_present : {A : Type 0} (o : Option A) (x : A) → o ≡ Some x → IsSome o
some_present o x e = ap is_some e

pub present_some : {A : Type 0} (o : Option A) → IsSome o → (x : A) × (o ≡ Some x)
present_some None h = let no : ⊥ = cc in absurd no
present_some (Some x) h = (x, refl)

pub missing : {A : Type 0} (o : Option A) → IsSome o → o ≡ None → ⊥
missing {A = A} o h e = let no : is_some {T = A} None ≡ true = ap is_some (sym e) ∙ h in let z : ⊥ = cc in z

pub present_or_absent : {A : Type 0} (o : Option A) → IsSome o ⊎ (o ≡ None)
present_or_absent None = inr refl
present_or_absent (Some x) = inl refl

pub some-map : {A B : Type 0} (c : A → B) (o : Option A) → is_some (option_map c o) ≡ is_some o
some-map c None = refl
some-map c (Some x) = refl

pub mapped_absent : {A B : Type 0} (c : A → B) (o : Option A) → option_map c o ≡ None → o ≡ None
mapped_absent c None e = refl
mapped_absent c (Some x) e = let no : ⊥ = cc in absurd no

module _ {K : Type 0} {R : K → K → Ordering} (o : IsTotalOrder R) (exact : IsAntisymmetric R) where
  pub key_cases : (q k : K) → (q ≡ k) ⊎ (eq_by_cmp R q k ≡ false)
  key_cases q k = by_test (eq_by_cmp R q k) refl
    where
      by_test : (b : Bool) → eq_by_cmp R q k ≡ b → (q ≡ k) ⊎ (eq_by_cmp R q k ≡ false)
      by_test true e = inl (is_same o exact q k e)
      by_test false e = inr e

  pub not_turned : (q k : K) → eq_by_cmp R q k ≡ false → eq_by_cmp R k q ≡ false
  not_turned q k e = sym ((eq_by_cmp_equiv o).symm q k) ∙ e

module _ {K X : Type 0} {R : K → K → Ordering} (o : IsTotalOrder R) (exact : IsAntisymmetric R) where
  pub get_other : (m : FinMap R X) (k : K) (v : X) (q : K) → eq_by_cmp R q k ≡ false → get (insert m k v) q ≡ get m q
  get_other m k v q e = get-insert o m k v q ∙ ap (λ b. cond b (Some v) (get m q)) e

  pub gone_other : (m : FinMap R X) (k : K) (q : K) → eq_by_cmp R q k ≡ false → get (remove m k) q ≡ get m q
  gone_other m k q e = get-remove o m k q ∙ ap (λ b. cond b None (get m q)) e

  pub gone_own : (m : FinMap R X) (k : K) → get (remove m k) k ≡ None
  gone_own m k = get-remove o m k k ∙ ap (λ b. cond b None (get m k)) (is_self o exact k)

  -- what is left after a removal was there before, at another key
  pub gone_before : (m : FinMap R X) (k q : K) → IsSome (get (remove m k) q)
      → (eq_by_cmp R q k ≡ false) × IsSome (get m q)
  gone_before m k q p = go (key_cases o exact q k)
    where
      go : (q ≡ k) ⊎ (eq_by_cmp R q k ≡ false) → (eq_by_cmp R q k ≡ false) × IsSome (get m q)
      go (inl s) = absurd (missing (get (remove m k) q) p (ap (get (remove m k)) s ∙ gone_own m k))
      go (inr t) = (t, subst (λ (v : Option X). IsSome v) (gone_other m k q t) p)

  -- a row is the one that was put, or stood there before
  pub own_or_old : (m : FinMap R X) (k : K) (v : X) (q : K) (x : X) → get (insert m k v) q ≡ Some x
      → ((q ≡ k) × (v ≡ x)) ⊎ ((eq_by_cmp R q k ≡ false) × (get m q ≡ Some x))
  own_or_old m k v q x e = by_key (key_cases o exact q k)
    where
      by_key : (q ≡ k) ⊎ (eq_by_cmp R q k ≡ false) → ((q ≡ k) × (v ≡ x))
          ⊎ ((eq_by_cmp R q k ≡ false) × (get m q ≡ Some x))
      by_key (inl s) =
          let h : Some v ≡ Some x = sym (get_own o exact m k v) ∙ ap (get (insert m k v)) (sym s) ∙ e in
          inl (s, (let z : v ≡ x = cc in z))
      by_key (inr t) = inr (t, sym (get_other m k v q t) ∙ e)

  -- what holds of the row that was put, and of each row before, holds of each row
  pub each_row : (P : K → X → Type 0) (m : FinMap R X) (k : K) (v : X) → P k v
      → ((q : K) (x : X) → get m q ≡ Some x → P q x) → (q : K) (x : X) → get (insert m k v) q ≡ Some x → P q x
  each_row P m k v own old q x e = go (own_or_old m k v q x e)
    where
      go : ((q ≡ k) × (v ≡ x)) ⊎ ((eq_by_cmp R q k ≡ false) × (get m q ≡ Some x)) → P q x
      go (inl h) = subst (λ (j : K). P j x) (sym h.0) (subst (λ (y : X). P k y) h.1 own)
      go (inr h) = old q x h.1

  -- and what holds of each row holds of each that is left
  pub each_left : (P : K → X → Type 0) (m : FinMap R X) (k : K) → ((q : K) (x : X) → get m q ≡ Some x → P q x)
      → (q : K) (x : X) → get (remove m k) q ≡ Some x → P q x
  each_left P m k old q x e =
      let t = gone_before m k q (some_present (get (remove m k) q) x e) in
      old q x (sym (gone_other m k q t.0) ∙ e)

  pub present_insert : (m : FinMap R X) (k : K) (v : X) (q : K) → IsSome (get m q) → IsSome (get (insert m k v) q)
  present_insert m k v q h = subst (λ (u : Option X). IsSome u) (sym (get-insert o m k v q)) (by_test (eq_by_cmp R q k))
    where
      by_test : (b : Bool) → IsSome (cond b (Some v) (get m q))
      by_test true = refl
      by_test false = h

  pub present_own : (m : FinMap R X) (k : K) (v : X) → IsSome (get (insert m k v) k)
  present_own m k v = ap is_some (get_own o exact m k v)

  -- a row that takes another's place leaves no new key
  pub present_before : (m : FinMap R X) (k : K) (v : X) (q : K) → IsSome (get m k) → IsSome (get (insert m k v) q)
      → IsSome (get m q)
  present_before m k v q here h = go (key_cases o exact q k)
    where
      go : (q ≡ k) ⊎ (eq_by_cmp R q k ≡ false) → IsSome (get m q)
      go (inl s) = subst (λ (j : K). IsSome (get m j)) (sym s) here
      go (inr t) = subst (λ (u : Option X). IsSome u) (get_other m k v q t) h

  -- a row of a map of each row
  pub row_of_each : (f : K → X → X) (m : FinMap R X) (q : K) (x : X) → get (each f m) q ≡ Some x
      → (y : X) × (get m q ≡ Some y) × (f q y ≡ x)
  row_of_each f m q x e = by_row (get m q) refl (sym (get-each R f exact m q) ∙ e)
    where
      by_row : (v : Option X) → get m q ≡ v → option_map (f q) v ≡ Some x → (y : X) × (get m q ≡ Some y) × (f q y ≡ x)
      by_row None t h = let no : ⊥ = cc in absurd no
      by_row (Some y) t h = (y, t, (let z : f q y ≡ x = cc in z))

  pub present_each : (f : K → X → X) (m : FinMap R X) (q : K) → IsSome (get m q) → IsSome (get (each f m) q)
  present_each f m q h = subst (λ (v : Option X). IsSome v) (sym (get-each R f exact m q)) (by_row (get m q) h)
    where
      by_row : (v : Option X) → IsSome v → IsSome (option_map (f q) v)
      by_row None h = h
      by_row (Some x) h = refl
