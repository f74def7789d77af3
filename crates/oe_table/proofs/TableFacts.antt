-- A table as a finite map and as its places, for keys whose order is total and, where it says so, tells them apart.
use Rattle.std.proofs.Common.{◌≡◌, refl, sym, ◌∙◌, ap, subst, Bool, true, false, cond, List, [], ◌∷◌, Option, Some}
use Rattle.std.proofs.Common.{None}
use Rattle.std.specs.Option.{IsSome}
use Rattle.std.specs.Ordering.{eq_by_cmp, is_eq}
use Rattle.std.specs.declared.cmp.Ordering.{Ordering}
use Rattle.std.specs.declared.cmp.Ordering.TheVariants.{Less, Equal, Greater}
use Rattle.std.specs.Cmp.{IsTotalOrder, eq_by_cmp_equiv}
use Rattle.std.specs.FinMap.{FinMap, IsAntisymmetric, get, get-empty, get-insert, get-remove, get_tied, same_map}
use Rattle.oe_table.specs.Table.{place, SetsPlace, put, rows_of}

-- the row of a place
abbrev pub row_in : {R : Type 0} → Option (Option R) → Option R
row_in None = None
row_in (Some p) = p

pub tied : (r : Ordering) → is_eq r ≡ true → r ≡ Equal
tied Less e = cc
tied Equal e = refl
tied Greater e = cc

module _ {R : Type 0} where
  row_in-cond : (b : Bool) (p : Option R) (rest : Option (Option R)) (m : Option R) → m ≡ row_in rest
      → cond b p m ≡ row_in (cond b (Some p) rest)
  row_in-cond true p rest m e = refl
  row_in-cond false p rest m e = e

  again : (b : Bool) (row own m : Option R) → (b ≡ true → m ≡ own) → cond b own (cond b row m) ≡ m
  again true row own m h = sym (h refl)
  again false row own m h = refl

  replaced : (b : Bool) (p own : Option R) (old mid new : Option (Option R)) → (b ≡ true → old ≡ Some own)
      → mid ≡ cond b (Some p) old → new ≡ cond b (Some own) mid → new ≡ old
  replaced true p own old mid new here set back = back ∙ sym (here refl)
  replaced false p own old mid new here set back = back ∙ set

  still : (b : Bool) (p : Option R) (old new : Option (Option R)) → new ≡ cond b (Some p) old
      → (q : Option R) × (old ≡ Some q) → (q : Option R) × (new ≡ Some q)
  still true p old new set had = (p, set)
  still false p old new set had = (had.0, set ∙ had.1)

module _ {K R : Type 0} {cmp : K → K → Ordering} (total : IsTotalOrder cmp) where
  -- a place that was set is the one at its key
  pub place-set : (old new : List (K × Option R)) (key : K) (p : Option R) → SetsPlace cmp old new key p
      → place cmp new key ≡ Some p
  place-set old new key p set = set key ∙ rw ((eq_by_cmp_equiv total).refl key) refl

  pub get-put : (m : FinMap cmp R) (key : K) (row : Option R) (q : K)
      → get (put m key row) q ≡ cond (eq_by_cmp cmp q key) row (get m q)
  get-put m key None q = get-remove total m key q
  get-put m key (Some row) q = get-insert total m key row q

  pub get-rows_of : (t : List (K × Option R)) (q : K) → get (rows_of cmp t) q ≡ row_in (place cmp t q)
  get-rows_of [] q = get-empty cmp q
  get-rows_of (e ∷ t) q = get-put (rows_of cmp t) e.0 e.1 q ∙ row_in-cond (eq_by_cmp cmp q e.0) e.1 (place cmp t q)
      (get (rows_of cmp t) q) (get-rows_of t q)

  -- a key with a row, a blanked key, and a key with a place and no row
  pub has_row : (t : List (K × Option R)) (q : K) → IsSome (get (rows_of cmp t) q) → IsSome (row_in (place cmp t q))
  has_row t q h = subst IsSome (get-rows_of t q) h

  module _ (exact : IsAntisymmetric cmp) where
    -- tables with the same row at each key have the same rows
    pub same_rows : (old new : List (K × Option R)) → ((q : K) → row_in (place cmp new q) ≡ row_in (place cmp old q))
        → rows_of cmp new ≡ rows_of cmp old
    same_rows old new h = same_map total exact _ _ (λ q. get-rows_of new q ∙ h q ∙ sym (get-rows_of old q))

    -- a table whose one place was set
    pub rows_of-set_place : (old new : List (K × Option R)) (key : K) (p : Option R) → SetsPlace cmp old new key p
        → rows_of cmp new ≡ put (rows_of cmp old) key p
    rows_of-set_place old new key p set = same_map total exact _ _ (λ q.
        get-rows_of new q ∙ ap row_in (set q)
        ∙ sym (row_in-cond (eq_by_cmp cmp key q) p (place cmp old q) (get (rows_of cmp old) q) (get-rows_of old q))
        ∙ ap (λ b. cond b p (get (rows_of cmp old) q)) ((eq_by_cmp_equiv total).symm key q)
        ∙ sym (get-put (rows_of cmp old) key p q))

    -- to put back what was there undoes a change, of the rows
    pub put_back : (m : FinMap cmp R) (key : K) (row : Option R) → put (put m key row) key (get m key) ≡ m
    put_back m key row = same_map total exact _ _ (λ q.
        get-put (put m key row) key (get m key) q
        ∙ ap (cond (eq_by_cmp cmp q key) (get m key)) (get-put m key row q)
        ∙ again (eq_by_cmp cmp q key) row (get m key) (get m q)
        (λ e. sym (get_tied total m q key (tied (cmp q key) e))))

-- what stands at a key, by the finite map
pub ruleset at_keys = (has_row, get-rows_of)
