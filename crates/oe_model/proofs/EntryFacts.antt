-- The entries of a finite map, each at its key, and maps of which a part is kept.
use Rattle.std.proofs.Common.{◌≡◌, refl, sym, ◌∙◌, ap, Bool, true, false, cond, List, [], ◌∷◌, Option, Some, None, inl}
use Rattle.std.proofs.Common.{inr}
use Rattle.std.specs.Prelude.{T, ◌⊎◌, ◌&&◌, option_map, is_some}
use Rattle.std.specs.List.{list_any}
use Rattle.std.specs.declared.cmp.Ordering.{Ordering}
use Rattle.std.specs.declared.cmp.Ordering.TheVariants.{Less, Equal, Greater}
use Rattle.std.specs.Cmp.{IsTotalOrder, eq_by_cmp_equiv}
use Rattle.std.specs.Ordering.{eq_by_cmp, is_lt, is_eq, ordering_reverse}
use Rattle.std.specs.FinMap.{FinMap, IsAntisymmetric, get, entries, entries_sorted, get-entries, retain_keys}
use Rattle.std.specs.FinMap.{get-retain_keys, contains_key-keys, keys}
use Rattle.std.specs.FinMap.Entries.{find, is_sorted, below_all}
use Rattle.oe_model.specs.Lists.{IsAmong}
use Rattle.oe_model.specs.Maps.{each}
use Rattle.oe_model.proofs.MapFacts.{get-each, same, is_same}

abbrev pub EachOf : {A : Type 0} → (A → Type 0) → List A → Type 0
EachOf P [] = Unit {0}
EachOf P (x ∷ xs) = P x × EachOf P xs

pub each_of : {A : Type 0} (P Q : A → Type 0) → ((x : A) → P x → Q x) → (xs : List A) → EachOf P xs → EachOf Q xs
each_of P Q f [] h = tt
each_of P Q f (x ∷ xs) h = (f x h.0, each_of P Q f xs h.1)

left : (a b : Bool) → T (a && b) → T a
left true b p = tt
left false b p = p

right : (a b : Bool) → T (a && b) → T b
right true b p = p
right false b p = absurd p

-- a key below others is none of them
not_above : (r : Ordering) → T (is_lt r) → is_eq (ordering_reverse r) ≡ false
not_above Less h = refl
not_above Equal h = absurd h
not_above Greater h = absurd h

module _ {K X : Type 0} {R : K → K → Ordering} (o : IsTotalOrder R) where
  pub later : (e : K × X) (es : List (K × X)) → T (below_all R e.0 es) → EachOf (λ f. eq_by_cmp R f.0 e.0 ≡ false) es
  later e [] h = tt
  later e (f ∷ es) h = (ap is_eq (o.antisymm f.0 e.0) ∙ not_above (R e.0 f.0) (left _ _ h), later e es (right _ _ h))

  both : (e : K × X) (es fs : List (K × X)) → EachOf (λ f. eq_by_cmp R f.0 e.0 ≡ false) es
      → EachOf (λ f. find R f.0 fs ≡ Some f.1) es → EachOf (λ f. find R f.0 (e ∷ fs) ≡ Some f.1) es
  both e [] fs h g = tt
  both e (f ∷ es) fs h g = (ap (λ b. cond b (Some e.1) (find R f.0 fs)) h.0 ∙ g.0, both e es fs h.1 g.1)

  each_found : (es : List (K × X)) → T (is_sorted R es) → EachOf (λ e. find R e.0 es ≡ Some e.1) es
  each_found [] h = tt
  each_found (e ∷ es) h = (
    ap (λ b. cond b (Some e.1) (find R e.0 es)) ((eq_by_cmp_equiv o).refl e.0),
    both e es es
        (later e es (left _ _ h)) (each_found es (right _ _ h)),
  )

  pub entries_at : (m : FinMap R X) → EachOf (λ e. get m e.0 ≡ Some e.1) (entries m)
  entries_at m = each_of (λ e. find R e.0 (entries m) ≡ Some e.1) (λ e. get m e.0 ≡ Some e.1)
      (λ e h. get-entries m e.0 ∙ h) (entries m) (each_found (entries m) (entries_sorted m))

module _ {K X : Type 0} {R : K → K → Ordering} (o : IsTotalOrder R) (exact : IsAntisymmetric R) where
  pub get_kept : (m : FinMap R X) (p : K → Bool) (q : K) → get (retain_keys m p) q ≡ cond (p q) (get m q) None
  get_kept m p q = get-retain_keys m p q (λ x e. ap p (sym (exact q x e)))

  -- a part that is kept depends on that part alone
  pub same_kept : (p : K → Bool) (m n : FinMap R X) → ((k : K) → p k ≡ true → get m k ≡ get n k)
      → retain_keys m p ≡ retain_keys n p
  same_kept p m n h = same o exact _ _ (λ k. get_kept m p k ∙ by_test k (p k) refl ∙ sym (get_kept n p k))
    where
      by_test : (k : K) (b : Bool) → p k ≡ b → cond b (get m k) None ≡ cond b (get n k) None
      by_test k true e = h k e
      by_test k false e = refl

  -- maps of each row that agree at each row
  pub same_each : (f g : K → X → X) (m : FinMap R X) → ((k : K) (x : X) → get m k ≡ Some x → f k x ≡ g k x)
      → each f m ≡ each g m
  same_each f g m h = same o exact _ _ (λ k. get-each R f exact m k ∙ by_row k (get m k) refl
      ∙ sym (get-each R g exact m k))
    where
      by_row : (k : K) (v : Option X) → get m k ≡ v → option_map (f k) v ≡ option_map (g k) v
      by_row k None e = refl
      by_row k (Some x) e = ap Some (h k x e)

  -- the entries of a part pass its test, and stand in the whole
  pub kept_at : (m : FinMap R X) (p : K → Bool)
      → EachOf (λ e. (p e.0 ≡ true) × (get m e.0 ≡ Some e.1)) (entries (retain_keys m p))
  kept_at m p =
      each_of (λ e. get (retain_keys m p) e.0 ≡ Some e.1) (λ e. (p e.0 ≡ true) × (get m e.0 ≡ Some e.1))
      (λ e h. by_test e (p e.0) refl (sym (get_kept m p e.0) ∙ h)) (entries (retain_keys m p))
      (entries_at o (retain_keys m p))
    where
      by_test : (e : K × X) (b : Bool) → p e.0 ≡ b → cond b (get m e.0) None ≡ Some e.1
          → (p e.0 ≡ true) × (get m e.0 ≡ Some e.1)
      by_test e true t h = (t, h)
      by_test e false t h = let no : ⊥ = cc in absurd no

  -- a row's key is among a part's exactly if it passes
  pub among_kept : (m : FinMap R X) (p : K → Bool) (k : K) (x : X) → get m k ≡ Some x
      → list_any (eq_by_cmp R k) (keys (retain_keys m p)) ≡ p k
  among_kept m p k x e = sym (contains_key-keys (retain_keys m p) k)
      ∙ ap is_some (get_kept m p k ∙ ap (λ v. cond (p k) v None) e) ∙ by_test (p k)
    where
      by_test : (b : Bool) → is_some (cond b (Some x) None) ≡ b
      by_test true = refl
      by_test false = refl

  -- a row stands among the entries
  pub row_among : (m : FinMap R X) (k : K) (x : X) → get m k ≡ Some x → IsAmong (k, x) (entries m)
  row_among m k x e = among (entries m) (sym (get-entries m k) ∙ e)
    where
      among : (es : List (K × X)) → find R k es ≡ Some x → IsAmong (k, x) es
      among [] e = let no : ⊥ = cc in absurd no
      among (f ∷ es) e = by_test (eq_by_cmp R k f.0) refl e (among es)
        where
          by_test : (b : Bool) → eq_by_cmp R k f.0 ≡ b → cond b (Some f.1) (find R k es) ≡ Some x
              → (find R k es ≡ Some x → IsAmong (k, x) es) → (f ≡ (k, x)) ⊎ IsAmong (k, x) es
          by_test true t e rest = let s : k ≡ f.0 = is_same o exact k f.0 t in let v : f.1 ≡ x = cc in
              inl (λ i. (sym s i, v i))
          by_test false t e rest = inr (rest e)
