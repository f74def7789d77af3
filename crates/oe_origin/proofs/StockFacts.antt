-- What walks of warehouses and items find is the first STOCK row that is not there.
use Rattle.std.proofs.Common.{◌≡◌, ◌⊎◌, inl, inr, List, [], ◌∷◌, Option, Some, None, ⊎_elim, refl}
use Rattle.std.proofs.Common.{sym, ap, subst, ◌∙◌}
use Rattle.std.specs.Prelude.{T, ◌&&◌, IsSome, MatchOption}
use Rattle.std.specs.declared.cmp.Ordering.{Ordering}
use Rattle.std.specs.declared.cmp.Ordering.TheVariants.{Less, Equal, Greater}
use Rattle.std.specs.Cmp.{nat_cmp_total}
use Rattle.std.specs.Ordering.{is_lt, nat_cmp, ordering_then, ordering_reverse}
use Rattle.std.specs.FinMap.{get, entries, entries_sorted}
use Rattle.std.specs.FinMap.Entries.{is_sorted, below_all}
use Rattle.oe_rows.specs.Key.{warehouse_cmp, item_cmp, stock_cmp}
use Rattle.oe_rows.proofs.KeyFacts.{warehouse_total, exact_warehouse, item_total, exact_item, stock_total}
use Rattle.oe_rows.specs.declared.items.Item.{Item}
use Rattle.oe_rows.specs.declared.items.Stock.{Stock}
use Rattle.oe_rows.specs.declared.keys.ItemKey.{ItemKey}
use Rattle.oe_rows.specs.declared.keys.StockKey.{StockKey}
use Rattle.oe_rows.specs.declared.keys.WarehouseKey.{WarehouseKey}
use Rattle.oe_rows.specs.declared.warehouses.Warehouse.{Warehouse}
use Rattle.oe_model.specs.Conditions.{IsStocked}
use Rattle.oe_model.specs.Keys.{warehouse_of_stock, item_of_stock}
use Rattle.oe_model.specs.Lists.{IsAmong}
use Rattle.oe_model.specs.Rows.{Rows}
use Rattle.oe_model.proofs.EntryFacts.{EachOf, entries_at, row_among}
use Rattle.oe_model.proofs.PresenceFacts.{missing, present_some, some_present}
use Rattle.oe_model.proofs.FirstFacts.{left, right, less, not_both}
use Rattle.oe_origin.specs.Lacks.{LacksStock, IsFirstAbsent}
use Rattle.oe_origin.specs.Walks.{where_none, stock_in, absent, or_else, first_absent, first_unstocked}

none_there : (k : StockKey) (o : Option Stock) → where_none k o ≡ None → IsSome o
none_there k None e = absurd (let z : ⊥ = cc in z)
none_there k (Some x) e = refl

not_there : (k q : StockKey) (o : Option Stock) → where_none k o ≡ Some q → (k ≡ q) × (o ≡ None)
not_there k q None e = (cc, refl)
not_there k q (Some x) e = absurd (let z : ⊥ = cc in z)

neither : (a b : Option StockKey) → or_else a b ≡ None → (a ≡ None) × (b ≡ None)
neither None b e = (refl, e)
neither (Some k) b e = absurd (let z : ⊥ = cc in z)

either : (a b : Option StockKey) (k : StockKey) → or_else a b ≡ Some k
    → (a ≡ Some k) ⊎ ((a ≡ None) × (b ≡ Some k))
either None b k e = inr (refl, e)
either (Some q) b k e = inl e

-- ---- the order of keys

-- a key is tied with itself
tied : (r : Ordering) → r ≡ ordering_reverse r → r ≡ Equal
tied Less e = let no : ⊥ = cc in absurd no
tied Equal e = refl
tied Greater e = let no : ⊥ = cc in absurd no

-- a key is below those of later entries
below_each : {K X : Type 0} (R : K → K → Ordering) (k : K) (es : List (K × X)) (e : K × X) → T (below_all R k es)
    → IsAmong e es → R k e.0 ≡ Less
below_each R k [] e h i = absurd i
below_each R k (f ∷ es) e h (inl same) =
    ap (λ g. R k g.0) (sym same) ∙ less (R k f.0) (left _ _ h)
below_each R k (f ∷ es) e h (inr i) = below_each R k es e (right (is_lt (R k f.0)) _ h) i

-- STOCK keys are in the order of their warehouses, and in one warehouse in that of their items
by_warehouse : (w v : WarehouseKey) (i j : ItemKey) → warehouse_cmp w v ≡ Less
    → stock_cmp (stock_in w i) (stock_in v j) ≡ Less
by_warehouse w v i j l = ap (λ o. ordering_then o (nat_cmp i.item j.item)) l

by_item : (w : WarehouseKey) (i j : ItemKey) → item_cmp i j ≡ Less
    → stock_cmp (stock_in w i) (stock_in w j) ≡ Less
by_item w i j l =
    ap (λ o. ordering_then o (nat_cmp i.item j.item))
    (tied (nat_cmp w.warehouse w.warehouse) (nat_cmp_total.antisymm w.warehouse w.warehouse)) ∙ l

module _ (r : Rows) where
  module _ (w : WarehouseKey) where
    all_stocked : (es : List (ItemKey × Item)) → first_absent r w es ≡ None → (e : ItemKey × Item) → IsAmong e es
        → IsSome (get r.stocks (stock_in w e.0))
    all_stocked [] none e h = absurd h
    all_stocked (d ∷ es) none e (inl is) =
        subst (λ (e : ItemKey × Item). IsSome (get r.stocks (stock_in w e.0))) is
        (none_there (stock_in w d.0) (get r.stocks (stock_in w d.0)) (neither (absent r w d.0) (first_absent r w es)
        none).0)
    all_stocked (d ∷ es) none e (inr h) =
        all_stocked es (neither (absent r w d.0) (first_absent r w es) none).1 e h

    one_absent : (es : List (ItemKey × Item)) → EachOf (λ e. get r.items e.0 ≡ Some e.1) es → (k : StockKey)
        → first_absent r w es ≡ Some k
        → IsSome (get r.items (item_of_stock k)) × (warehouse_of_stock k ≡ w) × (get r.stocks k ≡ None)
    one_absent [] are k e = absurd (let z : ⊥ = cc in z)
    one_absent (d ∷ es) are k e =
        ⊎_elim
        (λ here.
        let n = not_there (stock_in w d.0) k (get r.stocks (stock_in w d.0)) here in (
          subst (λ (k : StockKey). IsSome (get r.items (item_of_stock k))) n.0
              (some_present (get r.items d.0) d.1 are.0),
          ap warehouse_of_stock (sym n.0),
          subst (λ (k : StockKey). get r.stocks k ≡ None) n.0 n.1,
        ))
        (λ later. one_absent es are.1 k later.1) (either (absent r w d.0) (first_absent r w es) k e)

    -- no item before is absent
    none_nearer : (es : List (ItemKey × Item)) → T (is_sorted item_cmp es) → (k : StockKey)
        → first_absent r w es ≡ Some k → (e : ItemKey × Item) → IsAmong e es → get r.stocks (stock_in w e.0) ≡ None
        → stock_cmp (stock_in w e.0) k ≡ Less → ⊥
    none_nearer [] s k found e i gone l = absurd i
    none_nearer (d ∷ es) s k found e (inl same) gone l =
        let e_is : stock_in w d.0 ≡ stock_in w e.0 = ap (λ (e : ItemKey × Item). stock_in w e.0) same in
        ⊎_elim
        (λ here.
        let n = not_there (stock_in w d.0) k (get r.stocks (stock_in w d.0)) here in
        let z : stock_cmp k k ≡ Less = ap (λ q. stock_cmp q k) (sym n.0 ∙ e_is) ∙ l in
        not_both stock_total k k z z)
        (λ later.
        missing (get r.stocks (stock_in w d.0))
        (none_there (stock_in w d.0) (get r.stocks (stock_in w d.0)) later.0) (ap (get r.stocks) e_is ∙ gone))
        (either (absent r w d.0) (first_absent r w es) k found)
    none_nearer (d ∷ es) s k found e (inr i) gone l =
        ⊎_elim
        (λ here.
        let n = not_there (stock_in w d.0) k (get r.stocks (stock_in w d.0)) here in
        not_both stock_total (stock_in w e.0) k l
        (ap (λ q. stock_cmp q (stock_in w e.0)) (sym n.0)
        ∙ by_item w d.0 e.0
        (below_each item_cmp d.0 es e (left (below_all item_cmp d.0 es) (is_sorted item_cmp es) s) i)))
        (λ later. none_nearer es (right (below_all item_cmp d.0 es) (is_sorted item_cmp es) s) k later.1 e i gone l)
        (either (absent r w d.0) (first_absent r w es) k found)

    -- what is found is of this warehouse
    of_warehouse : (es : List (ItemKey × Item)) (k : StockKey) → first_absent r w es ≡ Some k
        → (i : ItemKey) × (stock_in w i ≡ k)
    of_warehouse [] k e = absurd (let z : ⊥ = cc in z)
    of_warehouse (d ∷ es) k e =
        ⊎_elim (λ here. (d.0, (not_there (stock_in w d.0) k (get r.stocks (stock_in w d.0)) here).0))
        (λ later. of_warehouse es k later.1) (either (absent r w d.0) (first_absent r w es) k e)

  each_stocked : (es : List (WarehouseKey × Warehouse)) → first_unstocked r es ≡ None → (e : WarehouseKey × Warehouse)
      → IsAmong e es → first_absent r e.0 (entries r.items) ≡ None
  each_stocked [] none e h = absurd h
  each_stocked (d ∷ es) none e (inl is) =
      subst (λ (e : WarehouseKey × Warehouse). first_absent r e.0 (entries r.items) ≡ None) is
      (neither (first_absent r d.0 (entries r.items)) (first_unstocked r es) none).0
  each_stocked (d ∷ es) none e (inr h) =
      each_stocked es (neither (first_absent r d.0 (entries r.items)) (first_unstocked r es) none).1 e h

  one_unstocked : (es : List (WarehouseKey × Warehouse)) → EachOf (λ e. get r.warehouses e.0 ≡ Some e.1) es
      → (k : StockKey) → first_unstocked r es ≡ Some k → LacksStock r k
  one_unstocked [] are k e = absurd (let z : ⊥ = cc in z)
  one_unstocked (d ∷ es) are k e =
      ⊎_elim
      (λ here.
      let n = one_absent d.0 (entries r.items) (entries_at item_total r.items) k here in (
        subst (λ w. IsSome (get r.warehouses w)) (sym n.1) (some_present (get r.warehouses d.0) d.1 are.0),
        n.0,
        n.2,
      ))
      (λ later. one_unstocked es are.1 k later.1)
      (either (first_absent r d.0 (entries r.items)) (first_unstocked r es) k e)

  -- and nothing is absent before it
  none_earlier : (es : List (WarehouseKey × Warehouse)) → T (is_sorted warehouse_cmp es) → (k : StockKey)
      → first_unstocked r es ≡ Some k → (e : WarehouseKey × Warehouse) → IsAmong e es → (i : ItemKey × Item)
      → IsAmong i (entries r.items) → get r.stocks (stock_in e.0 i.0) ≡ None → stock_cmp (stock_in e.0 i.0) k ≡ Less
      → ⊥
  none_earlier [] s k found e a i among gone l = absurd a
  none_earlier (d ∷ es) s k found e (inl same) i among gone l =
      let e_is : stock_in d.0 i.0 ≡ stock_in e.0 i.0 = ap (λ (e : WarehouseKey × Warehouse). stock_in e.0 i.0) same in
      ⊎_elim
      (λ here.
      none_nearer d.0 (entries r.items) (entries_sorted r.items) k here i among (ap (get r.stocks) e_is ∙ gone)
      (ap (λ q. stock_cmp q k) e_is ∙ l))
      (λ later.
      missing (get r.stocks (stock_in d.0 i.0)) (all_stocked d.0 (entries r.items) later.0 i among)
      (ap (get r.stocks) e_is ∙ gone))
      (either (first_absent r d.0 (entries r.items)) (first_unstocked r es) k found)
  none_earlier (d ∷ es) s k found e (inr a) i among gone l =
      ⊎_elim
      (λ here.
      let q = of_warehouse d.0 (entries r.items) k here in
      not_both stock_total (stock_in e.0 i.0) k l
      (ap (λ q. stock_cmp q (stock_in e.0 i.0)) (sym q.1)
      ∙ by_warehouse d.0 e.0 q.0 i.0
      (below_each warehouse_cmp d.0 es e
      (left (below_all warehouse_cmp d.0 es) (is_sorted warehouse_cmp es) s) a)))
      (λ later.
      none_earlier es (right (below_all warehouse_cmp d.0 es) (is_sorted warehouse_cmp es) s) k later.1 e a i among
      gone l)
      (either (first_absent r d.0 (entries r.items)) (first_unstocked r es) k found)

  stocked : first_unstocked r (entries r.warehouses) ≡ None → IsStocked r
  stocked none k w i =
      let warehouse = present_some (get r.warehouses (warehouse_of_stock k)) w in
      let item = present_some (get r.items (item_of_stock k)) i in
      all_stocked (warehouse_of_stock k) (entries r.items)
      (each_stocked (entries r.warehouses) none (warehouse_of_stock k, warehouse.0)
      (row_among warehouse_total exact_warehouse r.warehouses (warehouse_of_stock k) warehouse.0 warehouse.1))
      (item_of_stock k, item.0) (row_among item_total exact_item r.items (item_of_stock k) item.0 item.1)

  -- the first STOCK row that is not there
  first : (k : StockKey) → first_unstocked r (entries r.warehouses) ≡ Some k → IsFirstAbsent r k
  first k e = record {
    lacks = one_unstocked (entries r.warehouses) (entries_at warehouse_total r.warehouses) k e;
    none_before = λ q lacks l.
        let warehouse = present_some (get r.warehouses (warehouse_of_stock q)) lacks.0 in
        let item = present_some (get r.items (item_of_stock q)) lacks.1 in
        none_earlier (entries r.warehouses) (entries_sorted r.warehouses) k e (warehouse_of_stock q, warehouse.0)
        (row_among warehouse_total exact_warehouse r.warehouses (warehouse_of_stock q) warehouse.0 warehouse.1)
        (item_of_stock q, item.0)
        (row_among item_total exact_item r.items (item_of_stock q) item.0 item.1) lacks.2 l;
  }

  -- the walk of all warehouses decides whether each has all stocks
  pub unstocked_is : (o : Option StockKey) → o ≡ first_unstocked r (entries r.warehouses)
      → MatchOption o (IsStocked r) (IsFirstAbsent r)
  unstocked_is None e = stocked (sym e)
  unstocked_is (Some k) e = first k (sym e)
