-- Rows that are gathered, and rows whose keys ascend.
use Rattle.std.proofs.Common.{◌≡◌, ℕ, zero, suc, ◌+◌, ◌-◌, Bool, true, List, [], ◌∷◌, ◌++◌, length, get_or}
use Rattle.std.proofs.Common.{append_assoc, sym, ap, subst, ◌∙◌, refl, arith, if◌then◌else◌}
use Rattle.std.specs.Cmp.{IsTotalOrder}
use Rattle.std.specs.List.{flat_map}
use Rattle.std.specs.Ordering.{is_eq, is_lt}
use Rattle.std.specs.declared.cmp.Ordering.{Ordering}
use Rattle.std.specs.declared.cmp.Ordering.TheVariants.{Less}
use Rattle.std.proofs.lemmas.List.{append-nil, length_push}
use Rattle.std.proofs.lemmas.List.Concat.{flat_map-append}
use Rattle.std.proofs.lemmas.List.MinMax.{ranks_by}
use Rattle.std.proofs.lemmas.List.Sorted.{IsPermutation-refl}
use Rattle.oe_rows.specs.declared.keys.Key.{Key}
use Rattle.oe_rows.specs.declared.keys.Table.{Table}
use Rattle.oe_file_tables.specs.declared.faults.TableFault.{TableFault}
use Rattle.oe_file_tables.specs.declared.faults.Wrong.TheVariants as wrong
use Rattle.oe_file_tables.specs.declared.lines.Numbered.{Numbered}
use Rattle.oe_file_tables.specs.Batches.{Ascend, EndBelow, AreGathered, AreOrdered}
use Rattle.oe_file_tables.specs.Fault.{Told, with_each_fault}
use Rattle.oe_file_tables.specs.Twice.{twice_behind, twice_in}

-- ---- batches

-- one batch more
pub joined_push : {V A : Type 0} (f : V → List A) (vs : List V) (v : V)
    → flat_map f (vs ++ v ∷ []) ≡ flat_map f vs ++ f v
joined_push f vs v = flat_map-append f vs (v ∷ []) ∙ ap (λ z. flat_map f vs ++ z) (append-nil (f v))

-- the last one is put behind the full ones, and the next has no row yet
pub joined_next : {V A : Type 0} (f : V → List A) (vs vs' : List V) (v : V) (last : List A) → vs' ≡ vs ++ v ∷ []
    → last ≡ [] → flat_map f vs' ++ last ≡ flat_map f vs ++ f v
joined_next f vs vs' v last e none =
    ap (λ z. flat_map f vs' ++ z) none ∙ append-nil (flat_map f vs') ∙ ap (flat_map f) e ∙ joined_push f vs v

-- one row more
pub joined_more : {V A : Type 0} (f : V → List A) (vs vs' : List V) (last last' last'' now : List A) (x : A)
    → flat_map f vs' ++ last' ≡ flat_map f vs ++ last → flat_map f vs ++ last ≡ now → last'' ≡ last' ++ x ∷ []
    → flat_map f vs' ++ last'' ≡ now ++ x ∷ []
joined_more f vs vs' last last' last'' now x kept is e =
    ap (λ z. flat_map f vs' ++ z) e ∙ sym (append_assoc (flat_map f vs') last' (x ∷ []))
    ∙ ap (λ z. z ++ x ∷ []) (kept ∙ is)

module _ {K X : Type 0} (cmp : K → K → Ordering) where
  -- ---- rows are gathered

  ascend_behind : (n : Numbered K X) (ns : List (Numbered K X)) → Ascend cmp (n ∷ ns) → Ascend cmp ns
  ascend_behind n ns up k d h =
      let next : suc k + 1 ≡ suc (k + 1) = omega arith in
      subst (λ (j : ℕ). cmp (get_or ns k d).key (get_or (n ∷ ns) j d).key ≡ Less) next (up (suc k) d (omega (arith, h)))

  below_behind : (n m : Numbered K X) (ns : List (Numbered K X)) (key : K) → EndBelow cmp (n ∷ m ∷ ns) key
      → EndBelow cmp (m ∷ ns) key
  below_behind n m ns key below d h =
      let next : length (n ∷ m ∷ ns) - 1 ≡ suc (length (m ∷ ns) - 1) = omega arith in
      subst (λ (j : ℕ). cmp (get_or (n ∷ m ∷ ns) j d).key key ≡ Less) next (below d (omega arith))

  -- the next pair, of rows that have one more in front
  ascend_more : (n : Numbered K X) (ns : List (Numbered K X)) (k : ℕ) (d : Numbered K X)
      → cmp (get_or ns k d).key (get_or ns (k + 1) d).key ≡ Less
      → cmp (get_or (n ∷ ns) (suc k) d).key (get_or (n ∷ ns) (suc k + 1) d).key ≡ Less
  ascend_more n ns k d e =
      let next : suc (k + 1) ≡ suc k + 1 = omega arith in
      subst (λ (j : ℕ). cmp (get_or ns k d).key (get_or (n ∷ ns) j d).key ≡ Less) next e

  ascend_push : (ns : List (Numbered K X)) (n : Numbered K X) → Ascend cmp ns → EndBelow cmp ns n.key
      → Ascend cmp (ns ++ n ∷ [])
  ascend_push [] n up below k d h = absurd (omega (arith, h))
  ascend_push (m ∷ []) n up below zero d h = below d (omega arith)
  ascend_push (m ∷ []) n up below (suc k) d h = absurd (omega (arith, h))
  ascend_push (m ∷ p ∷ ns) n up below zero d h = up 0 d (omega arith)
  ascend_push (m ∷ p ∷ ns) n up below (suc k) d h =
      ascend_more m ((p ∷ ns) ++ n ∷ []) k d
      (ascend_push (p ∷ ns) n (ascend_behind m (p ∷ ns) up) (below_behind m p ns n.key below) k d (omega (arith, h)))

  pub gathered_as : (count : ℕ) (b : Bool) (rows rows' : List (Numbered K X)) → rows' ≡ rows
      → AreGathered cmp count b rows → AreGathered cmp count b rows'
  gathered_as count b rows rows' e g = subst (AreGathered cmp count b) (sym e) g

  pub gathered_more : (count count' : ℕ) (b b' : Bool) (rows rows' : List (Numbered K X)) (n : Numbered K X)
      → AreGathered cmp count b rows → rows' ≡ rows ++ n ∷ [] → count' ≡ count + 1
      → (b' ≡ true → Ascend cmp rows × EndBelow cmp rows n.key) → AreGathered cmp count' b' rows'
  gathered_more count count' b b' rows rows' n g e next up = record {
    counted = next ∙ ap (λ (m : ℕ). m + 1) g.counted ∙ sym (length_push rows n) ∙ ap length (sym e);
    ascend = λ is. subst (Ascend cmp) (sym e) (ascend_push rows n (up is).0 (up is).1);
  }

  -- ---- rows that ascend

  none_behind : (table : Table) (key_of : K → Key) (n : Numbered K X) (ns : List (Numbered K X)) → Ascend cmp (n ∷ ns)
      → twice_behind cmp table key_of n ns ≡ []
  none_behind table key_of n [] up = refl
  none_behind table key_of n (m ∷ ns) up =
      let told : TableFault = record { table = table; line = m.line; wrong = wrong.Twice (key_of m.key) } in
      ap (λ (o : Ordering). (if is_eq o then told ∷ [] else []) ++ twice_behind cmp table key_of m ns)
      (up 0 n (omega arith)) ∙ none_behind table key_of m ns (ascend_behind n (m ∷ ns) up)

  none_twice : (table : Table) (key_of : K → Key) (ns : List (Numbered K X)) → Ascend cmp ns
      → twice_in cmp table key_of ns ≡ []
  none_twice table key_of [] up = refl
  none_twice table key_of (n ∷ ns) up = none_behind table key_of n ns up

  -- rows that ascend are in order as they are
  pub ascending_ordered : IsTotalOrder cmp → (table : Table) (key_of : K → Key) (rows rows' : List (Numbered K X))
      (told : Told TableFault) → rows' ≡ rows → Ascend cmp rows → AreOrdered cmp table key_of rows rows' told told
  ascending_ordered total table key_of rows rows' told e up =
      subst (λ rs. AreOrdered cmp table key_of rows rs told told) (sym e)
      (record {
        moved = IsPermutation-refl rows;
        sorted = λ k d low h.
            (ranks_by total (λ (n : Numbered K X). n.key)).one_way (get_or rows k d) (get_or rows (k + 1) d)
            (ap is_lt (up k d h));
        twice = ap (λ fs. with_each_fault fs told) (sym (none_twice table key_of rows up));
      })
