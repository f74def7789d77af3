-- Lists of keys, of which one is given a key, or loses one.
use Rattle.std.proofs.Common.{◌≡◌, refl, sym, ◌∙◌, ap, subst, Bool, true, false, cond, ℕ, suc, zero, ◌<◌, List, [], ◌∷◌}
use Rattle.std.proofs.Common.{◌++◌, length, get_or, set, take, replicate, arith, Option, Some, None, Result, Ok, Err}
use Rattle.std.proofs.Common.{inl, inr}
use Rattle.std.specs.Prelude.{◌↔◌, ◌⊎◌, ◌≤◌, IsSome}
use Rattle.std.specs.Result.{OnOk, OnErr, is_ok}
use Rattle.std.specs.List.Sorted.{IsStrictlySortedBy}
use Rattle.std.specs.Ordering.{is_eq}
use Rattle.std.specs.declared.cmp.Ordering.{Ordering}
use Rattle.std.specs.Cmp.{IsTotalOrder, eq_by_cmp_equiv}
use Rattle.std.specs.FinMap.{IsAntisymmetric}
use Rattle.std.proofs.lemmas.List.{get_or-set_same, get_or-set_other, set-get_or, take_at}
use borrow.Author.Tests.{eqb-true, eqb-false}
use lib.Dec.{eqb}
use Rattle.oe_table.specs.Table.{place}
use Rattle.oe_table.specs.Shelf.{IsAscending, IsFound, put_at, without}
use Rattle.oe_table.proofs.ShelfFacts.{lookup-put, ascending-put, place-at}
use Rattle.oe_table.proofs.ShelvesFacts.{get_or-padded}
use Rattle.oe_table.proofs.TableFacts.{tied}
use Rattle.oe_table.proofs.TakenOutFacts.{lookup-without, ascending-without}
use Rattle.oe_index.specs.Listed.{Keys, IsListed, ListsAtMost, Unlists, AreLists}

some-cond : {X : Type 0} (b : Bool) (w : X) (o : Option X) → IsSome o → IsSome (cond b (Some w) o)
some-cond true w o h = refl
some-cond false w o h = h

none-there : {P : Type 0} → false ≡ true → P
none-there h = absurd (let no : ⊥ = cc in no)

cond-some : {X P : Type 0} (b : Bool) → (b ≡ true → P) → (w : X) (o : Option X) → IsSome (cond b (Some w) o)
    → IsSome o ⊎ P
cond-some true own w o h = inr (own refl)
cond-some false own w o h = inl h

module _ {K : Type 0} (cmp : K → K → Ordering) where
  pub lists-none : (ls : List (Keys K)) → ls ≡ [] → AreLists cmp ls
  lists-none [] e = tt
  lists-none (l ∷ ls) e = cc

  pub none-ascends : (s : Keys K) → s ≡ [] → IsAscending cmp s
  unfolding IsStrictlySortedBy
  none-ascends [] e = tt
  none-ascends (x ∷ s) e = cc

  pub alone-ascends : (s t : Keys K) (k : K) → s ≡ [] → t ≡ put_at cmp s k (Some tt) → IsAscending cmp t
  unfolding IsStrictlySortedBy
  alone-ascends [] t k e is = subst (λ (l : Keys K). IsAscending cmp l) (sym is) (tt, tt)
  alone-ascends (x ∷ s) t k e is = cc

  lists-more : (ls : List (Keys K)) (n : ℕ) → AreLists cmp ls → AreLists cmp (ls ++ replicate n [])
  unfolding IsStrictlySortedBy
  lists-more [] zero h = tt
  lists-more [] (suc n) h = (tt, lists-more [] n tt)
  lists-more (l ∷ ls) n h = (h.0, lists-more ls n h.1)

  -- empty lists at the end
  pub lists-padded : (old new : List (Keys K)) (n : ℕ) → new ≡ old ++ replicate n [] → AreLists cmp old
      → AreLists cmp new
  lists-padded old new n is h = rw is (lists-more old n h)

  pub listed-padded : (old new : List (Keys K)) (n : ℕ) → new ≡ old ++ replicate n [] → (i : ℕ) (k : K)
      → IsListed cmp old i k → IsListed cmp new i k
  listed-padded old new n is i k h = subst (λ (l : Keys K). IsSome (place cmp l k))
      (sym (ap (λ ls. get_or ls i []) is ∙ get_or-padded old n i)) h

  pub only-padded : (old new : List (Keys K)) (n : ℕ) → new ≡ old ++ replicate n [] → (i : ℕ) (k : K)
      → IsListed cmp new i k → IsListed cmp old i k
  only-padded old new n is i k h = subst (λ (l : Keys K). IsSome (place cmp l k))
      (ap (λ ls. get_or ls i []) is ∙ get_or-padded old n i) h

  -- where all lists are as before, each key is listed as before
  pub lists-same : (old new : List (Keys K)) (number : ℕ) (key : K) → new ≡ old → ListsAtMost cmp old new number key
  lists-same old new number key same = record {
    kept = λ n k h. subst (λ ls. IsListed cmp ls n k) (sym same) h;
    only = λ n k h. inl (subst (λ ls. IsListed cmp ls n k) same h);
  }

  -- what was listed before lists were put at the end
  pub less-before : (old new : List (Keys K)) (n : ℕ) → new ≡ old ++ replicate n [] → (number : ℕ) (key : K) (i : ℕ)
      (k : K) → IsListed cmp new i k ⊎ ((i ≡ number) × (k ≡ key)) → IsListed cmp old i k ⊎ ((i ≡ number) × (k ≡ key))
  less-before old new n is number key i k (inl h) = inl (only-padded old new n is i k h)
  less-before old new n is number key i k (inr own) = inr own

  pub list-ascends : (ls : List (Keys K)) (i : ℕ) → AreLists cmp ls → IsAscending cmp (get_or ls i [])
  unfolding IsStrictlySortedBy
  list-ascends [] i h = tt
  list-ascends (l ∷ ls) zero h = h.0
  list-ascends (l ∷ ls) (suc i) h = list-ascends ls i h.1

  lists-set : (ls : List (Keys K)) (i : ℕ) (l : Keys K) → AreLists cmp ls → IsAscending cmp l
      → AreLists cmp (set ls i l)
  lists-set [] i l h up = tt
  lists-set (l_0 ∷ ls) zero l h up = (up, h.1)
  lists-set (l_0 ∷ ls) (suc i) l h up = (h.0, lists-set ls i l h.1 up)

  module _ (total : IsTotalOrder cmp) {A E : Type 0} (r : Result A E) (ls : List (Keys K)) (s new : Keys K) (i : ℕ)
      (key : K) (w : Option (Unit {0}))
      (there : (d : Keys K) → s ≡ get_or ls i d) (ok : OnOk r (new ≡ put_at cmp s key w))
      (err : OnErr r (new ≡ s)) where
    ascends : AreLists cmp ls → IsAscending cmp new
    ascends h = by (rw (there []) (list-ascends ls i h)) r ok err
      where
        by : IsAscending cmp s → (q : Result A E) → OnOk q (new ≡ put_at cmp s key w) → OnErr q (new ≡ s)
            → IsAscending cmp new
        by up (Ok x) e f = rw e (ascending-put cmp total s key w up)
        by up (Err x) e f = rw f up

    pub lists-put : AreLists cmp ls → AreLists cmp (set ls i new)
    lists-put h = lists-set ls i new h (ascends h)

    in_new : (k : K) → IsSome (place cmp s k) → IsSome (place cmp new k)
    in_new k h = by r ok err
      where
        by : (q : Result A E) → OnOk q (new ≡ put_at cmp s key w) → OnErr q (new ≡ s) → IsSome (place cmp new k)
        by (Ok x) e f = subst IsSome (sym (ap (λ (l : Keys K). place cmp l k) e ∙ lookup-put cmp total s key w k))
            (some-cond (is_eq (cmp key k)) w (place cmp s k) h)
        by (Err x) e f = subst (λ (l : Keys K). IsSome (place cmp l k)) (sym f) h

    pub listed-put : i < length ls → (n : ℕ) (k : K) → IsListed cmp ls n k → IsListed cmp (set ls i new) n k
    listed-put within n k h = by (eqb i n) refl
      where
        by : (b : Bool) → eqb i n ≡ b → IsListed cmp (set ls i new) n k
        by true e =
            let same : i ≡ n = eqb-true i n e in
            let here : IsSome (place cmp s k) = subst (λ (l : Keys K). IsSome (place cmp l k))
            (ap (λ j. get_or ls j []) (sym same) ∙ sym (there [])) h in
            subst (λ (l : Keys K). IsSome (place cmp l k))
            (sym (ap (λ j. get_or (set ls i new) j []) (sym same) ∙ get_or-set_same ls i new [] within))
            (in_new k here)
        by false e =
            let other : n ≡ i → ⊥ = λ same. eqb-false i n e (sym same) in
            subst (λ (l : Keys K). IsSome (place cmp l k)) (sym (get_or-set_other ls i n new [] other)) h

    in_old : IsAntisymmetric cmp → (k : K) → IsSome (place cmp new k) → IsSome (place cmp s k) ⊎ (k ≡ key)
    in_old exact k h = by r ok err
      where
        by : (q : Result A E) → OnOk q (new ≡ put_at cmp s key w) → OnErr q (new ≡ s)
            → IsSome (place cmp s k) ⊎ (k ≡ key)
        by (Ok x) e f = cond-some (is_eq (cmp key k)) (λ at. sym (exact key k (tied (cmp key k) at))) w (place cmp s k)
            (subst IsSome (ap (λ (l : Keys K). place cmp l k) e ∙ lookup-put cmp total s key w k) h)
        by (Err x) e f = inl (subst (λ (l : Keys K). IsSome (place cmp l k)) f h)

    pub only-put : IsAntisymmetric cmp → i < length ls → (n : ℕ) (k : K) → IsListed cmp (set ls i new) n k
        → IsListed cmp ls n k ⊎ ((n ≡ i) × (k ≡ key))
    only-put exact within n k h = by (eqb n i) refl
      where
        go : n ≡ i → IsSome (place cmp s k) ⊎ (k ≡ key) → IsListed cmp ls n k ⊎ ((n ≡ i) × (k ≡ key))
        go same (inl was) = inl (subst (λ (l : Keys K). IsSome (place cmp l k))
            (there [] ∙ ap (λ j. get_or ls j []) (sym same)) was)
        go same (inr own) = inr (same, own)

        by : (b : Bool) → eqb n i ≡ b → IsListed cmp ls n k ⊎ ((n ≡ i) × (k ≡ key))
        by true e =
            let same : n ≡ i = eqb-true n i e in
            go same (in_old exact k (subst (λ (l : Keys K). IsSome (place cmp l k))
            (ap (λ j. get_or (set ls i new) j []) same ∙ get_or-set_same ls i new [] within) h))
        by false e =
            let other : n ≡ i → ⊥ = eqb-false n i e in
            inl (subst (λ (l : Keys K). IsSome (place cmp l k)) (get_or-set_other ls i n new [] other) h)

    pub listed-own : i < length ls → OnOk r (IsListed cmp (set ls i new) i key)
    listed-own within = by r ok
      where
        by : (q : Result A E) → OnOk q (new ≡ put_at cmp s key w) → OnOk q (IsListed cmp (set ls i new) i key)
        by (Ok x) e =
            subst IsSome (sym (ap (λ (l : Keys K). place cmp l key) (get_or-set_same ls i new [] within ∙ e)
            ∙ lookup-put cmp total s key w key))
            (rw ((eq_by_cmp_equiv total).refl key) refl)
        by (Err x) e = e

-- a search for a key finds it where it is listed
pub is-found : {K : Type 0} (cmp : K → K → Ordering) → IsTotalOrder cmp → (s : Keys K) (key : K) (r : Result ℕ ℕ)
    → IsAscending cmp s → IsFound cmp s key r → (is_ok r ≡ true) ↔ IsSome (place cmp s key)
is-found cmp total [] key (Ok i) up at = absurd (omega (arith, at.0))
is-found cmp total (e ∷ s) key (Ok i) up at =
    ((λ t. subst IsSome (sym (place-at cmp total (e ∷ s) key i up at e)) refl), (λ h. refl))
is-found cmp total s key (Err i) up at = ((λ t. none-there t), (λ h. none-there (subst IsSome at.2 h)))

-- a key that has no place in the list under i was not listed there
pub not-listed : {K A E : Type 0} (cmp : K → K → Ordering) (r : Result A E) (old ls : List (Keys K)) (s : Keys K)
    (i : ℕ) (key : K) → ((d : Keys K) → s ≡ get_or ls i d) → OnErr r (place cmp s key ≡ None)
    → (IsListed cmp old i key → IsListed cmp ls i key) → OnErr r (IsListed cmp old i key → ⊥)
not-listed cmp (Ok x) old ls s i key there e more = e
not-listed cmp (Err x) old ls s i key there e more = λ h.
    none-there (subst IsSome e (subst (λ (l : Keys _). IsSome (place cmp l key)) (sym (there [])) (more h)))

-- what was put behind others is cut off again
pub cut-padded : {A : Type 0} (old mid new : List A) (more : List A) (count : ℕ) → mid ≡ old ++ more
    → length old ≡ count → new ≡ take count mid → new ≡ old
cut-padded old mid new more count is long cut = cut ∙ ap (take count) is ∙ take_at old more count long

-- where the list under i is as it was, there are but empty lists more
pub padded-still : {K A E : Type 0} (r : Result A E) (old ls : List (Keys K)) (s new : Keys K) (i n : ℕ)
    → ls ≡ old ++ replicate n [] → ((d : Keys K) → s ≡ get_or ls i d) → OnErr r (new ≡ s)
    → OnErr r ((m : ℕ) × (set ls i new ≡ old ++ replicate m []))
padded-still (Ok x) old ls s new i n is there e = e
padded-still (Err x) old ls s new i n is there e =
    (n, ap (set ls i) (e ∙ there []) ∙ set-get_or ls i [] ∙ is)

-- the list under i, where s is what stood there, loses the key
module _ {K : Type 0} {cmp : K → K → Ordering} (total : IsTotalOrder cmp) (exact : IsAntisymmetric cmp) (i : ℕ)
    (key : K) where
  less-here : {X : Type 0} (n : ℕ) (k : K) (old new : Option X) (b : Bool) → is_eq (cmp key k) ≡ b → n ≡ i
      → new ≡ cond b None old
      → IsSome new ↔ (IsSome old × ((n ≡ i) × (k ≡ key) → ⊥))
  less-here n k old new true at here is =
      ((λ h. none-there (subst IsSome is h)), (λ h. absurd (h.1 (here, sym (exact key k (tied (cmp key k) at))))))
  less-here n k old new false at here is =
      let apart : k ≡ key → ⊥ =
      λ e. let own : is_eq (cmp key k) ≡ true = ap (λ (y : K). is_eq (cmp key y)) e
      ∙ (eq_by_cmp_equiv total).refl key in (let no : ⊥ = cc in no) in
      ((λ h. (subst IsSome is h, λ e. apart e.1)), (λ h. subst IsSome (sym is) h.0))

  module _ (ls : List (Keys K)) (s new : Keys K) (there : (d : Keys K) → s ≡ get_or ls i d) (up : AreLists cmp ls)
      (is : new ≡ without cmp s key) where
    ascends-there : IsAscending cmp s
    ascends-there = rw (there []) (list-ascends cmp ls i up)

    pub lists-without : AreLists cmp (set ls i new)
    lists-without = lists-set cmp ls i new up (rw is (ascending-without cmp s key ascends-there))

    pub unlists-there : i < length ls → Unlists cmp ls (set ls i new) i key
    unlists-there within n k = by (eqb n i) refl
      where
        by : (b : Bool) → eqb n i ≡ b → IsListed cmp (set ls i new) n k
            ↔ (IsListed cmp ls n k × ((n ≡ i) × (k ≡ key) → ⊥))
        by true e =
            let here : n ≡ i = eqb-true n i e in
            less-here n k (place cmp (get_or ls n []) k) (place cmp (get_or (set ls i new) n []) k) (is_eq (cmp key k))
            refl here
            (ap (λ (l : Keys K). place cmp l k) (ap (λ j. get_or (set ls i new) j []) here
            ∙ get_or-set_same ls i new [] within ∙ is)
            ∙ lookup-without total exact s key ascends-there k
            ∙ ap (λ (l : Keys K). cond (is_eq (cmp key k)) None (place cmp l k))
            (there [] ∙ ap (λ j. get_or ls j []) (sym here)))
        by false e =
            let other : n ≡ i → ⊥ = eqb-false n i e in
            let same : get_or (set ls i new) n [] ≡ get_or ls n [] = get_or-set_other ls i n new [] other in (
              (λ h. (subst (λ (l : Keys K). IsSome (place cmp l k)) same h, λ e. other e.0)),
              (λ h. subst (λ (l : Keys K). IsSome (place cmp l k)) (sym same) h.0),
            )
