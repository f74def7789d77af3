-- What is missing of all pairs of a warehouse and an item: each pair without a STOCK row, in the order of keys.
use Rattle.std.proofs.Common.{◌≡◌, refl, sym, ◌∙◌, ap, subst, arith, length, Bool, true, false, cond, ℕ, List, []}
use Rattle.std.proofs.Common.{◌∷◌, ◌++◌, Option, Some, None, eqb-true}
use Rattle.std.specs.Prelude.{nat_eq, ◌&&◌, is_some}
use Rattle.std.specs.Cmp.{IsTotalOrder, nat_cmp_total, unsigned_ties, tied_itself, tied_then}
use Rattle.std.proofs.lemmas.Cmp.{on_total, then_total}
use Rattle.std.specs.List.{AllByRecursion}
use Rattle.std.specs.List.Sorted.{IsStrictlySortedBy}
use Rattle.std.specs.Map.{keys_of, lookup}
use Rattle.std.specs.Option.{option_map}
use Rattle.std.specs.Ordering.{eq_by_cmp, is_eq, nat_cmp, ordering_then}
use Rattle.std.specs.declared.cmp.Ordering.TheVariants.{Less}
use Rattle.oe_tally.specs.Tallies.{together, total, IsSettled, EntriesAreTotals}
use Rattle.oe_tally.specs.Walks.{AreAll}
use Rattle.oe_tally.specs.Counting.{counts_joined}
use Rattle.oe_tally.specs.declared.count.Count.{Count}
use Rattle.oe_tally.proofs.OrderFacts.{behind}
use Rattle.oe_tally.proofs.WalkFacts.{all-greater}
use Rattle.oe_facts.specs.declared.keys.DistrictId.{DistrictId}
use Rattle.oe_facts.specs.declared.keys.StockId.{StockId}
use Rattle.oe_ledgers.specs.declared.warehouses.WarehouseSums.{WarehouseSums}
use Rattle.oe_ledgers.specs.declared.stocks.StockSums.{StockSums}
use Rattle.oe_ledgers.specs.Keys.{same_district, district_cmp, same_stock, stock_cmp}
use Rattle.oe_ledgers.specs.Sums.{stocks_joined, warehouses_joined}
use Rattle.oe_checks.specs.declared.figures.Apart.{Apart}
use Rattle.oe_checks.specs.Sizes.{missing_stock, one_missing, stock_at, missing_of, all_missing}
use Rattle.oe_checks.proofs.RegroupFacts.{none-behind}

pub mapped-twice : {V A B : Type 0} (f : V → A) (g : A → B) (r : Option V) → option_map (λ s. g (f s)) r
    ≡ option_map g (option_map f r)
mapped-twice f g None = refl
mapped-twice f g (Some x) = refl

pub none-there : {X : Type 0} (xs : List X) → length xs ≡ 0 → xs ≡ []
none-there [] e = refl
none-there (x ∷ xs) e = absurd (omega arith)

-- the first entry has its key's sum
pub first-total : {K V : Type 0} (same : K → K → Bool) (join : V → V → V) (es : List (K × V)) (first : K × V)
    (rest : List (K × V))
    → es ≡ first ∷ rest → EntriesAreTotals same join es → total same join es first.0 ≡ Some first.1
first-total same join es first rest is h =
    subst (λ l. total same join l first.0 ≡ Some first.1) (sym is)
    (subst (EntriesAreTotals same join) is h 0 first (omega arith))

districts_total : IsTotalOrder district_cmp
districts_total =
    then_total (on_total (λ (k : DistrictId). k.warehouse) nat_cmp_total)
    (on_total (λ (k : DistrictId). k.district) nat_cmp_total)

districts_tie : (a b : DistrictId) → same_district a b ≡ eq_by_cmp district_cmp a b
districts_tie a b =
    ap (λ x. x && nat_eq a.district b.district) (unsigned_ties a.warehouse b.warehouse)
    ∙ ap (λ x. is_eq (nat_cmp a.warehouse b.warehouse) && x) (unsigned_ties a.district b.district)
    ∙ tied_then (nat_cmp a.warehouse b.warehouse) (nat_cmp a.district b.district)

-- no district before the first entry's has a sum
pub none-before : {V : Type 0} (join : V → V → V) (es : List (DistrictId × V)) (first : DistrictId × V)
    (rest : List (DistrictId × V)) → es ≡ first ∷ rest → IsSettled district_cmp es → (d : DistrictId)
    → district_cmp d first.0 ≡ Less → total same_district join es d ≡ None
none-before join es first rest is up d less =
    ap (λ l. total same_district join l d) is
    ∙ behind district_cmp districts_total districts_tie join (first ∷ rest) d d
    (all-greater districts_total d first rest less (subst (IsSettled district_cmp) is up))
    (tied_itself districts_total d)

-- only whether there are rows counts
pub unstocked-mapped : {A B C D E F : Type 0} (f : A → D) (g : B → E) (h : C → F) (w : Option A) (i : Option B)
    (s : Option C)
    → missing_stock w i s ≡ missing_stock (option_map f w) (option_map g i) (option_map h s)
unstocked-mapped f g h None i s = refl
unstocked-mapped f g h (Some w) None s = refl
unstocked-mapped f g h (Some w) (Some i) None = refl
unstocked-mapped f g h (Some w) (Some i) (Some s) = refl

abbrev first_of : {A : Type 0} → Option A → Option A → Option A
first_of None r = r
first_of (Some x) r = Some x

first-none : {A : Type 0} (r : Option A) → first_of r None ≡ r
first-none None = refl
first-none (Some x) = refl

module _ (stocks : List (StockId × StockSums)) (k : StockId) where
  abbrev at : List (StockId × Apart) → Option Apart
  at found = lookup (λ x. same_stock x k) found

  append-step : (b : Bool) (x : Apart) (r s t : Option Apart) → r ≡ first_of s t → cond b (Some x) r
      ≡ first_of (cond b (Some x) s) t
  append-step true x r s t h = refl
  append-step false x r s t h = h

  at-append : (xs ys : List (StockId × Apart)) → at (xs ++ ys) ≡ first_of (at xs) (at ys)
  at-append [] ys = refl
  at-append (x ∷ xs) ys = append-step (same_stock x.0 k) x.1 (at (xs ++ ys)) (at xs) (at ys) (at-append xs ys)

  skipped : (b : Bool) (key : StockId) (rest : List (StockId × Apart)) → same_stock key k ≡ false
      → at (cond b rest ((key, one_missing) ∷ rest)) ≡ at rest
  skipped true key rest other = refl
  skipped false key rest other = ap (λ t. cond t (Some one_missing) (at rest)) other

  here-step : (w : ℕ) (i : Count) (s : Option StockSums) (key : StockId) (rest : List (StockId × Apart))
      → same_stock key k ≡ true
      → at rest ≡ None → at (cond (is_some s) rest ((key, one_missing) ∷ rest)) ≡ missing_stock (Some w) (Some i) s
  here-step w i None key rest tie none = ap (λ t. cond t (Some one_missing) (at rest)) tie
  here-step w i (Some s) key rest tie none = none

  missing-other : (w : ℕ) → nat_eq w k.warehouse ≡ false → (items : List (ℕ × Count))
      → at (missing_of stocks w items) ≡ None
  missing-other w other [] = refl
  missing-other w other (e ∷ items) =
      skipped (is_some (total same_stock stocks_joined stocks (stock_at w e.0))) (stock_at w e.0)
      (missing_of stocks w items)
      (ap (λ x. x && nat_eq e.0 k.item) other)
      ∙ missing-other w other items

  item-step : (b : Bool) (w : ℕ) (e : ℕ × Count) (items : List (ℕ × Count)) → nat_eq w k.warehouse ≡ true
      → nat_eq e.0 k.item ≡ b
      → IsSettled nat_cmp (e ∷ items)
      → at (missing_of stocks w items)
      ≡ missing_stock (Some w) (total nat_eq counts_joined items k.item) (total same_stock stocks_joined stocks k)
      → at (missing_of stocks w (e ∷ items))
      ≡ missing_stock (Some w) (total nat_eq counts_joined (e ∷ items) k.item) (total same_stock stocks_joined stocks k)
  item-step true w e items here tie up h =
      let none : total nat_eq counts_joined items k.item ≡ None =
      none-behind nat_cmp nat_cmp_total unsigned_ties counts_joined e items k.item up tie in
      let key : stock_at w e.0 ≡ k =
      λ i. record { warehouse = eqb-true w k.warehouse here i; item = eqb-true e.0 k.item tie i } in
      let whole : total nat_eq counts_joined (e ∷ items) k.item ≡ Some e.1 =
      ap (λ b. together counts_joined (cond b (Some e.1) None) (total nat_eq counts_joined items k.item)) tie
      ∙ ap (together counts_joined (Some e.1)) none in
      here-step w e.1 (total same_stock stocks_joined stocks (stock_at w e.0)) (stock_at w e.0)
      (missing_of stocks w items)
      (ap (λ x. x && nat_eq e.0 k.item) here ∙ tie)
      (h ∙ ap (λ i. missing_stock (Some w) i (total same_stock stocks_joined stocks k)) none)
      ∙ ap (λ x. missing_stock (Some w) (Some e.1) (total same_stock stocks_joined stocks x)) key
      ∙ ap (λ i. missing_stock (Some w) i (total same_stock stocks_joined stocks k)) (sym whole)
  item-step false w e items here other up h =
      skipped (is_some (total same_stock stocks_joined stocks (stock_at w e.0))) (stock_at w e.0)
      (missing_of stocks w items)
      (ap (λ x. x && nat_eq e.0 k.item) here ∙ other)
      ∙ h
      ∙ ap (λ b. missing_stock (Some w)
      (together counts_joined (cond b (Some e.1) None) (total nat_eq counts_joined items k.item))
      (total same_stock stocks_joined stocks k)) (sym other)

  missing-here : (w : ℕ) → nat_eq w k.warehouse ≡ true → (items : List (ℕ × Count)) → IsSettled nat_cmp items
      → at (missing_of stocks w items)
      ≡ missing_stock (Some w) (total nat_eq counts_joined items k.item) (total same_stock stocks_joined stocks k)
  unfolding IsStrictlySortedBy
  missing-here w here [] up = refl
  missing-here w here (e ∷ items) up = item-step (nat_eq e.0 k.item) w e items here refl up
      (missing-here w here items up.1)

  same-there : {A B C D : Type 0} (a : A) (b : B) (i : Option C) (s : Option D) → missing_stock (Some a) i s
      ≡ missing_stock (Some b) i s
  same-there a b None s = refl
  same-there a b (Some i) None = refl
  same-there a b (Some i) (Some s) = refl

  warehouse-step : (b : Bool) (items : List (ℕ × Count)) (w : ℕ × WarehouseSums) (ws : List (ℕ × WarehouseSums))
      → nat_eq w.0 k.warehouse ≡ b → IsSettled nat_cmp items → IsSettled nat_cmp (w ∷ ws)
      → at (all_missing stocks items ws)
      ≡ missing_stock (total nat_eq warehouses_joined ws k.warehouse) (total nat_eq counts_joined items k.item)
      (total same_stock stocks_joined stocks k)
      → at (all_missing stocks items (w ∷ ws))
      ≡ missing_stock (total nat_eq warehouses_joined (w ∷ ws) k.warehouse) (total nat_eq counts_joined items k.item)
      (total same_stock stocks_joined stocks k)
  warehouse-step true items w ws tie up ups h =
      let none : total nat_eq warehouses_joined ws k.warehouse ≡ None =
      none-behind nat_cmp nat_cmp_total unsigned_ties warehouses_joined w ws k.warehouse ups tie in
      let whole : total nat_eq warehouses_joined (w ∷ ws) k.warehouse ≡ Some w.1 =
      ap (λ b. together warehouses_joined (cond b (Some w.1) None) (total nat_eq warehouses_joined ws k.warehouse)) tie
      ∙ ap (together warehouses_joined (Some w.1)) none in
      at-append (missing_of stocks w.0 items) (all_missing stocks items ws)
      ∙ ap (first_of (at (missing_of stocks w.0 items)))
      (h ∙ ap (λ x. missing_stock x (total nat_eq counts_joined items k.item) (total same_stock stocks_joined stocks k))
      none)
      ∙ first-none (at (missing_of stocks w.0 items))
      ∙ missing-here w.0 tie items up
      ∙ same-there w.0 w.1 (total nat_eq counts_joined items k.item) (total same_stock stocks_joined stocks k)
      ∙ ap (λ x. missing_stock x (total nat_eq counts_joined items k.item) (total same_stock stocks_joined stocks k))
      (sym whole)
  warehouse-step false items w ws other up ups h =
      at-append (missing_of stocks w.0 items) (all_missing stocks items ws)
      ∙ ap (λ x. first_of x (at (all_missing stocks items ws))) (missing-other w.0 other items)
      ∙ h
      ∙ ap (λ b. missing_stock (together warehouses_joined (cond b (Some w.1) None)
      (total nat_eq warehouses_joined ws k.warehouse)) (total nat_eq counts_joined items k.item)
      (total same_stock stocks_joined stocks k)) (sym other)

  -- what is missing at a key
  missing-at : (items : List (ℕ × Count)) (ws : List (ℕ × WarehouseSums)) → IsSettled nat_cmp items
      → IsSettled nat_cmp ws
      → at (all_missing stocks items ws)
      ≡ missing_stock (total nat_eq warehouses_joined ws k.warehouse) (total nat_eq counts_joined items k.item)
      (total same_stock stocks_joined stocks k)
  unfolding IsStrictlySortedBy
  missing-at items [] up ups = refl
  missing-at items (w ∷ ws) up ups =
      warehouse-step (nat_eq w.0 k.warehouse) items w ws refl up ups (missing-at items ws up ups.1)

module _ (stocks : List (StockId × StockSums)) where
  abbrev Above : StockId → List (StockId × Apart) → Type 0
  Above key found = AllByRecursion (λ y. stock_cmp key y ≡ Less) (keys_of found)

  kept-above : (b : Bool) (key x : StockId) (rest : List (StockId × Apart)) → stock_cmp key x ≡ Less → Above key rest
      → Above key (cond b rest ((x, one_missing) ∷ rest))
  kept-above true key x rest e h = h
  kept-above false key x rest e h = (e, h)

  later-item : (w i j : ℕ) → nat_cmp i j ≡ Less → stock_cmp (stock_at w i) (stock_at w j) ≡ Less
  later-item w i j e = ap (λ o. ordering_then o (nat_cmp i j)) (tied_itself nat_cmp_total w) ∙ e

  later-warehouse : (v w i j : ℕ) → nat_cmp v w ≡ Less → stock_cmp (stock_at v i) (stock_at w j) ≡ Less
  later-warehouse v w i j e = ap (λ o. ordering_then o (nat_cmp i j)) e

  above-items : (w i : ℕ) (items : List (ℕ × Count)) → AllByRecursion (λ y. nat_cmp i y ≡ Less) (keys_of items)
      → Above (stock_at w i) (missing_of stocks w items)
  above-items w i [] h = tt
  above-items w i (e ∷ items) h =
      kept-above (is_some (total same_stock stocks_joined stocks (stock_at w e.0))) (stock_at w i) (stock_at w e.0)
      (missing_of stocks w items) (later-item w i e.0 h.0) (above-items w i items h.1)

  above-other : (v w i : ℕ) (items : List (ℕ × Count)) → nat_cmp v w ≡ Less
      → Above (stock_at v i) (missing_of stocks w items)
  above-other v w i [] e = tt
  above-other v w i (f ∷ items) e =
      kept-above (is_some (total same_stock stocks_joined stocks (stock_at w f.0))) (stock_at v i) (stock_at w f.0)
      (missing_of stocks w items) (later-warehouse v w i f.0 e) (above-other v w i items e)

  above-append : (key : StockId) (xs ys : List (StockId × Apart)) → Above key xs → Above key ys → Above key (xs ++ ys)
  above-append key [] ys h g = g
  above-append key (x ∷ xs) ys h g = (h.0, above-append key xs ys h.1 g)

  above-all : (v i : ℕ) (items : List (ℕ × Count)) (ws : List (ℕ × WarehouseSums))
      → AllByRecursion (λ y. nat_cmp v y ≡ Less) (keys_of ws)
      → Above (stock_at v i) (all_missing stocks items ws)
  above-all v i items [] h = tt
  above-all v i items (w ∷ ws) h =
      above-append (stock_at v i) (missing_of stocks w.0 items) (all_missing stocks items ws)
      (above-other v w.0 i items h.0)
      (above-all v i items ws h.1)

  kept-ordered : (b : Bool) (x : StockId) (rest : List (StockId × Apart)) → Above x rest → IsSettled stock_cmp rest
      → IsSettled stock_cmp (cond b rest ((x, one_missing) ∷ rest))
  unfolding IsStrictlySortedBy
  kept-ordered true x rest h up = up
  kept-ordered false x rest h up = (h, up)

  ordered-missing : (w : ℕ) (items : List (ℕ × Count)) → IsSettled nat_cmp items
      → IsSettled stock_cmp (missing_of stocks w items)
  unfolding IsStrictlySortedBy
  ordered-missing w [] up = tt
  ordered-missing w (e ∷ items) up =
      kept-ordered (is_some (total same_stock stocks_joined stocks (stock_at w e.0))) (stock_at w e.0)
      (missing_of stocks w items)
      (above-items w e.0 items up.0) (ordered-missing w items up.1)

  -- each key of a list is less than all of another
  abbrev AreBelow : List (StockId × Apart) → List (StockId × Apart) → Type 0
  AreBelow xs ys = AllByRecursion (λ x. Above x ys) (keys_of xs)

  kept-below : (b : Bool) (x : StockId) (rest ys : List (StockId × Apart)) → Above x ys → AreBelow rest ys
      → AreBelow (cond b rest ((x, one_missing) ∷ rest)) ys
  kept-below true x rest ys h g = g
  kept-below false x rest ys h g = (h, g)

  below-all : (v : ℕ) (some items : List (ℕ × Count)) (ws : List (ℕ × WarehouseSums))
      → AllByRecursion (λ y. nat_cmp v y ≡ Less) (keys_of ws)
      → AreBelow (missing_of stocks v some) (all_missing stocks items ws)
  below-all v [] items ws h = tt
  below-all v (e ∷ some) items ws h =
      kept-below (is_some (total same_stock stocks_joined stocks (stock_at v e.0))) (stock_at v e.0)
      (missing_of stocks v some)
      (all_missing stocks items ws) (above-all v e.0 items ws h) (below-all v some items ws h)

  ordered-append : (xs ys : List (StockId × Apart)) → IsSettled stock_cmp xs → IsSettled stock_cmp ys → AreBelow xs ys
      → IsSettled stock_cmp (xs ++ ys)
  unfolding IsStrictlySortedBy
  ordered-append [] ys up ups h = ups
  ordered-append (x ∷ xs) ys up ups h = (above-append x.0 xs ys up.0 h.0, ordered-append xs ys up.1 ups h.1)

  ordered-all : (items : List (ℕ × Count)) (ws : List (ℕ × WarehouseSums)) → IsSettled nat_cmp items
      → IsSettled nat_cmp ws
      → IsSettled stock_cmp (all_missing stocks items ws)
  unfolding IsStrictlySortedBy
  ordered-all items [] up ups = tt
  ordered-all items (w ∷ ws) up ups =
      ordered-append (missing_of stocks w.0 items) (all_missing stocks items ws) (ordered-missing w.0 items up)
      (ordered-all items ws up ups.1) (below-all w.0 items items ws ups.0)

  -- all of them and no others, in their order
  pub all-missing : (items : List (ℕ × Count)) (ws : List (ℕ × WarehouseSums)) → IsSettled nat_cmp items
      → IsSettled nat_cmp ws
      → AreAll stock_cmp same_stock
      (λ k. missing_stock (total nat_eq warehouses_joined ws k.warehouse) (total nat_eq counts_joined items k.item)
      (total same_stock stocks_joined stocks k))
      (all_missing stocks items ws)
  all-missing items ws up ups = record {
    ordered = ordered-all items ws up ups;
    exact = λ k. missing-at stocks k items ws up ups;
  }
