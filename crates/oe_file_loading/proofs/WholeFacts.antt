-- Tables of files from which no row is set apart, and the first row that is.
use Rattle.std.proofs.Common.{◌≡◌, ℕ, zero, suc, ◌+◌, ◌<◌, ◌≤◌, ◌⊎◌, inl, inr, Bool, true, false, cond, List, [], ◌∷◌}
use Rattle.std.proofs.Common.{◌++◌, map, Some, None, ⊎_elim, sym, ap, subst, ◌∙◌, refl, arith, length, get_or}
use Rattle.std.specs.Prelude.{IsSome, is_some, option_map}
use Rattle.std.specs.List.{AllByRecursion}
use Rattle.std.specs.List.Sorted.{IsStrictlySortedBy}
use Rattle.std.specs.Ordering.{eq_by_cmp}
use Rattle.std.specs.declared.cmp.Ordering.{Ordering}
use Rattle.std.specs.declared.cmp.Ordering.TheVariants.{Less}
use Rattle.std.specs.Cmp.{IsTotalOrder, eq_by_cmp_equiv}
use Rattle.std.specs.FinMap.{FinMap, IsAntisymmetric, get, insert, empty, get-insert}
use Rattle.oe_table.proofs.TableFacts.{tied}
use Rattle.oe_rows.proofs.KeyFacts.{warehouse_total, exact_warehouse, district_total, exact_district}
use Rattle.oe_rows.proofs.KeyFacts.{customer_total, exact_customer, history_total, exact_history, new_order_total}
use Rattle.oe_rows.proofs.KeyFacts.{exact_new_order, order_total, exact_order, order_line_total, exact_order_line}
use Rattle.oe_rows.proofs.KeyFacts.{item_total, exact_item, stock_total, exact_stock}
use Rattle.oe_rows.specs.declared.keys.WarehouseKey.{WarehouseKey}
use Rattle.oe_rows.specs.declared.keys.DistrictKey.{DistrictKey}
use Rattle.oe_rows.specs.declared.keys.CustomerKey.{CustomerKey}
use Rattle.oe_rows.specs.declared.keys.HistoryKey.{HistoryKey}
use Rattle.oe_rows.specs.declared.keys.NewOrderKey.{NewOrderKey}
use Rattle.oe_rows.specs.declared.keys.OrderKey.{OrderKey}
use Rattle.oe_rows.specs.declared.keys.OrderLineKey.{OrderLineKey}
use Rattle.oe_rows.specs.declared.keys.ItemKey.{ItemKey}
use Rattle.oe_rows.specs.declared.keys.StockKey.{StockKey}
use Rattle.oe_rows.specs.declared.keys.Key.{Key}
use Rattle.oe_rows.specs.declared.keys.Key.TheVariants as key
use Rattle.oe_rows.specs.declared.districts.District.{District}
use Rattle.oe_rows.specs.declared.customers.Customer.{Customer}
use Rattle.oe_rows.specs.declared.histories.History.{History}
use Rattle.oe_rows.specs.declared.orders.NewOrder.{NewOrder}
use Rattle.oe_rows.specs.declared.orders.Order.{Order}
use Rattle.oe_rows.specs.declared.orders.OrderLine.{OrderLine}
use Rattle.oe_rows.specs.declared.items.Item.{Item}
use Rattle.oe_rows.specs.declared.items.Stock.{Stock}
use Rattle.oe_rows.specs.declared.rows.Row.{Row}
use Rattle.oe_rows.specs.declared.rows.Row.TheVariants as row
use Rattle.oe_model.specs.Keys.{warehouse_of_district, district_of_customer, order_of_new_order, customer_of_order}
use Rattle.oe_model.specs.Keys.{order_of_line, supply_of_line, warehouse_of_stock, item_of_stock}
use Rattle.oe_model.specs.Rows.{Rows, row_at}
use Rattle.oe_model.specs.Changes.{rows_after, InsertHistory, InsertNewOrder, InsertOrder, InsertOrderLine}
use Rattle.oe_model.proofs.PresenceFacts.{some-map}
use Rattle.oe_store.specs.Places.{no_rows}
use Rattle.oe_file_tables.specs.declared.formats.Format.{Format}
use Rattle.oe_file_tables.specs.declared.lines.Numbered.{Numbered}
use Rattle.oe_file_loading.specs.declared.loading.Apart as apart
use Rattle.oe_file_loading.specs.declared.counts.RowCounts.{RowCounts}
use Rattle.oe_file_loading.specs.Homes.{districts_from, AreDistricts}
use Rattle.oe_file_loading.specs.Loading.{Nine}
use Rattle.oe_file_loading.specs.Loaded.{NineRows, FilesRead, HomesPut, BasePut, DeedsPut, FilesPut, AreLoaded}
use Rattle.oe_file_loading.specs.Loaded.{PutsWarehouses, PutsDistricts, PutsCustomers, PutsItems, PutsStocks}
use Rattle.oe_file_loading.specs.Loaded.{PutsOrders}
use Rattle.oe_file_loading.specs.Loaded.{PutsLines, PutsNewOrders, PutsHistories}
use Rattle.oe_file_loading.specs.Placing.{HasRow, missing_of, IsRowOf, IsKeyOf, Put, Starts, Keeps, SetsApart, Puts}
use Rattle.oe_file_loading.specs.Whole.{HasRowsOf, HaveRowsOf, AreWhole, HasLine, RefersTo, LacksIn, LacksRow}
use Rattle.oe_file_loading.proofs.BaseFacts.{only_value, no_such, present}
use Rattle.oe_file_loading.proofs.HomeFacts.{same_missing, same_by_warehouses}
use Rattle.oe_file_loading.proofs.PlaceFacts.{none_missing, met_next, lacks_first, not_less, row_before, row_last}
use Rattle.oe_file_loading.proofs.PlaceFacts.{row_cases}
use Rattle.oe_file_loading.proofs.PlaceFacts.{put_keeps}

-- ---- lists

both_empty : {A : Type 0} (xs ys : List A) → xs ++ ys ≡ [] → (xs ≡ []) × (ys ≡ [])
both_empty [] ys e = (refl, e)
both_empty (x ∷ xs) ys e = absurd (let z : ⊥ = cc in z)

no_last : {A : Type 0} (xs : List A) (x : A) → xs ++ x ∷ [] ≡ [] → ⊥
no_last [] x e = cc
no_last (y ∷ ys) x e = cc

-- the first element of two lists, one behind the other, is the first of one of them
first_of : {A : Type 0} (xs ys : List A) (a : A) (us : List A) → xs ++ ys ≡ a ∷ us
    → ((xs ≡ []) × ((bs : List A) × (ys ≡ a ∷ bs))) ⊎ ((bs : List A) × (xs ≡ a ∷ bs))
first_of [] ys a us e = inl (refl, (us, e))
first_of (x ∷ xs) ys a us e = let same : x ≡ a = cc in inr (xs, ap (λ z. z ∷ xs) same)

pub none_of : {A : Type 0} (xs : List A) → length xs ≤ 0 → xs ≡ []
none_of [] h = refl
none_of (x ∷ xs) h = absurd (omega (arith, h))

pub starts_with : {A : Type 0} (xs : List A) (a : A) → 0 < length xs → a ≡ get_or xs 0 a → (us : List A) × (xs ≡ a ∷ us)
starts_with [] a h e = absurd (omega (arith, h))
starts_with (x ∷ xs) a h e = (xs, ap (λ z. z ∷ xs) (sym e))

-- ---- lines whose keys ascend

abbrev Unique : {K X : Type 0} → List (Numbered K X) → Type 0
Unique {K} {X} ns = (k : K) (x y : X) → IsRowOf ns k x → IsRowOf ns k y → x ≡ y

module _ {K X : Type 0} {R : K → K → Ordering} (total : IsTotalOrder R) where
  above : (m : Numbered K X) (ns : List (Numbered K X))
      → AllByRecursion (λ k. R m.key k ≡ Less) (map (λ n. n.key) ns) → (k : K) (x : X) → IsRowOf ns k x
      → R m.key k ≡ Less
  unfolding IsRowOf
  above m [] all k x h = absurd h
  above m (n ∷ ns) all k x (inl is) = subst (λ k. R m.key k ≡ Less) is.0 all.0
  above m (n ∷ ns) all k x (inr h) = above m ns all.1 k x h

  not_above : (n : Numbered K X) (k : K) → n.key ≡ k → R n.key k ≡ Less → ⊥
  not_above n k is e = not_less total k (subst (λ z. R z k ≡ Less) is e)

  unique : (ns : List (Numbered K X)) → IsStrictlySortedBy R (map (λ n. n.key) ns) → Unique ns
  unfolding IsRowOf IsStrictlySortedBy
  unique [] sorted k x y h g = absurd h
  unique (n ∷ ns) sorted k x y (inl h) (inl g) = sym h.1 ∙ g.1
  unique (n ∷ ns) sorted k x y (inl h) (inr g) = absurd (not_above n k h.0 (above n ns sorted.0 k y g))
  unique (n ∷ ns) sorted k x y (inr h) (inl g) = absurd (not_above n k g.0 (above n ns sorted.0 k x h))
  unique (n ∷ ns) sorted k x y (inr h) (inr g) = unique ns sorted.1 k x y h g

-- ---- all rows are kept

module _ {K X : Type 0} {R : K → K → Ordering} (total : IsTotalOrder R) (exact : IsAntisymmetric R) where
  kept_value : (m : FinMap R X) (n : Numbered K X) (k : K) (x : X) → (k ≡ n.key → n.row ≡ x)
      → ((k ≡ n.key → ⊥) → get m k ≡ Some x) → get (insert m n.key n.row) k ≡ Some x
  kept_value m n k x own other = get-insert total m n.key n.row k ∙ by (eq_by_cmp R k n.key) refl
    where
      by : (b : Bool) → eq_by_cmp R k n.key ≡ b → cond b (Some n.row) (get m k) ≡ Some x
      by true e = ap (λ x. Some x) (own (exact k n.key (tied (R k n.key) e)))
      by false e =
          other
          (λ is. let no : true ≡ false = sym ((eq_by_cmp_equiv total).refl k) ∙ ap (eq_by_cmp R k) is ∙ e in
          let z : ⊥ = cc in z)

module _ {K X : Type 0} {R : K → K → Ordering} (total : IsTotalOrder R) (exact : IsAntisymmetric R) (key_of : K → Key)
    (refers : K → X → List Key) (with : K → X → Rows → Rows) (table : Rows → FinMap R X)
    (grows : (k : K) (x : X) (r : Rows) → table (with k x r) ≡ insert (table r) k x) where
  row_found : (ns : List (Numbered K X)) (r s : Rows) (a : List apart.Apart) → Put key_of refers with ns r s a
      → table r ≡ empty → (k : K) (x : X) → get (table s) k ≡ Some x → IsRowOf ns k x
  row_found _ r _ _ Starts none k x e = no_such (table r) k none (present _ x e)
  row_found _ r _ _ (Keeps {ns = ns} {s = s} {aparts = a} n h there) none k x e =
      ⊎_elim (λ old. row_before ns n k x (row_found ns r s a h none k x old))
      (λ is. row_last ns n k x (sym is.0, sym is.1))
      (only_value total exact (table s) n.key n.row k x (ap (λ m. get m k) (sym (grows n.key n.row s)) ∙ e))
  row_found _ r _ _ (SetsApart {ns = ns} {s = s} {aparts = a} n m h lacks) none k x e =
      row_before ns n k x (row_found ns r s a h none k x e)

  row_kept : (ns : List (Numbered K X)) (r s : Rows) (a : List apart.Apart) → Put key_of refers with ns r s a
      → a ≡ [] → Unique ns → (k : K) (x : X) → IsRowOf ns k x → get (table s) k ≡ Some x
  unfolding IsRowOf
  row_kept _ r _ _ Starts none one k x h = absurd h
  row_kept _ r _ _ (Keeps {ns = ns} {s = s} {aparts = a} n h there) none one k x is =
      ap (λ m. get m k) (grows n.key n.row s)
      ∙ kept_value total exact (table s) n k x
      (λ same. one k n.row x (row_last ns n k n.row (sym same, refl)) is)
      (λ other.
      ⊎_elim
      (λ old.
      row_kept ns r s a h none (λ q y z h g. one q y z (row_before ns n q y h) (row_before ns n q z g)) k x old)
      (λ own. absurd (other (sym own.0))) (row_cases ns n k x is))
  row_kept _ r _ _ (SetsApart {aparts = a} n m h lacks) none one k x is = absurd (no_last a _ none)

  puts_rows : (ns : List (Numbered K X)) (r s : Rows) (a b : List apart.Apart) → Puts key_of refers with ns r s a b
      → b ≡ [] → table r ≡ empty → IsStrictlySortedBy R (map (λ n. n.key) ns) → HasRowsOf ns (table s)
  puts_rows ns r s a b p none start sorted k x =
      let nothing = (both_empty a p.0 (sym p.2 ∙ none)).1 in (
        row_found ns r s p.0 p.1 start k x,
        row_kept ns r s p.0 p.1 nothing (unique total ns sorted) k x,
      )

module _ {K X : Type 0} (key_of : K → Key) (refers : K → X → List Key) (with : K → X → Rows → Rows) where
  puts_keep : {Z : Type 0} (f : Rows → Z) → ((k : K) (x : X) (r : Rows) → f (with k x r) ≡ f r)
      → (ns : List (Numbered K X)) (r s : Rows) (a b : List apart.Apart) → Puts key_of refers with ns r s a b
      → f s ≡ f r
  puts_keep f still ns r s a b p = put_keeps key_of refers with f still ns r s p.0 p.1

  nothing_before : (ns : List (Numbered K X)) (r s : Rows) (a b : List apart.Apart)
      → Puts key_of refers with ns r s a b → b ≡ [] → a ≡ []
  nothing_before ns r s a b p none = (both_empty a p.0 (sym p.2 ∙ none)).0

  -- the first row that is set apart, and what it lacks
  first_lacks : ((q : K) (y : X) (k : K) (x : X) (r : Rows)
      → missing_of (refers q y) (with k x r) ≡ missing_of (refers q y) r)
      → (ns : List (Numbered K X)) (r s : Rows) (us : List apart.Apart) → Put key_of refers with ns r s us
      → (a : apart.Apart) (bs : List apart.Apart) → us ≡ a ∷ bs
      → (k : K) × (x : X) × IsRowOf ns k x × (a.key ≡ key_of k) × (missing_of (refers k x) r ≡ Some a.missing)
  first_lacks same _ r _ _ Starts a bs e = absurd (let z : ⊥ = cc in z)
  first_lacks same _ r _ _ (Keeps {ns = ns} {s = s} {aparts = us} n h there) a bs e =
      let f = first_lacks same ns r s us h a bs e in (f.0, f.1, row_before ns n f.0 f.1 f.2, f.3, f.4)
  first_lacks same _ r _ _ (SetsApart {ns = ns} {s = s} {aparts = us} n m h lacks) a bs e =
      ⊎_elim
      (λ own.
      let is : record { key = key_of n.key; missing = m } ≡ a = head own.1.1 in (
        n.key,
        n.row,
        row_last ns n n.key n.row (refl, refl),
        ap (λ (a : apart.Apart). a.key) (sym is),
        sym (put_keeps key_of refers with (missing_of (refers n.key n.row)) (same n.key n.row) ns r s us h) ∙ lacks
            ∙ ap (λ (a : apart.Apart). Some a.missing) is,
      ))
      (λ before.
      let f = first_lacks same ns r s us h a before.0 before.1 in (f.0, f.1, row_before ns n f.0 f.1 f.2, f.3, f.4))
      (first_of us (record { key = key_of n.key; missing = m } ∷ []) a bs e)
    where
      head : {b : apart.Apart} {cs : List apart.Apart} → b ∷ [] ≡ a ∷ cs → b ≡ a
      head e = cc

-- ---- what is missing

missing_cases : (k : Key) (ks : List Key) (r : Rows) (m : Key) → missing_of (k ∷ ks) r ≡ Some m
    → ((m ≡ k) × (HasRow r k → ⊥)) ⊎ (missing_of ks r ≡ Some m)
missing_cases k ks r m e =
    elim (is_some (row_at r k)) as
    (λ b. is_some (row_at r k) ≡ b → ((m ≡ k) × (HasRow r k → ⊥)) ⊎ (missing_of ks r ≡ Some m)) [
      | true ↦ λ t. inr (sym (met_next k ks r t) ∙ e)
      | false ↦ λ t.
          let both : Some k ≡ Some m = sym (lacks_first k ks r t) ∙ e in
          let same : m ≡ k = cc in inl (same, λ h. let no : true ≡ false = sym h ∙ t in let z : ⊥ = cc in z)
    ] refl

no_missing : {P : Type 0} (r : Rows) (m : Key) → missing_of [] r ≡ Some m → P
no_missing r m e = let no : None ≡ Some m = sym (none_missing r) ∙ e in absurd (let z : ⊥ = cc in z)

missing_one : (k : Key) (r : Rows) (m : Key) → missing_of (k ∷ []) r ≡ Some m → (m ≡ k) × (HasRow r k → ⊥)
missing_one k r m e = ⊎_elim (λ h. h) (λ more. no_missing r m more) (missing_cases k [] r m e)

missing_two : (k j : Key) (r : Rows) (m : Key) → missing_of (k ∷ j ∷ []) r ≡ Some m
    → ((m ≡ k) × (HasRow r k → ⊥)) ⊎ ((m ≡ j) × (HasRow r j → ⊥))
missing_two k j r m e = ⊎_elim (λ h. inl h) (λ more. inr (missing_one j r m more)) (missing_cases k (j ∷ []) r m e)

module _ (w : WarehouseKey) where
  abbrev numbered : ℕ → DistrictKey
  numbered n = record { warehouse = w.warehouse; district = n }

  missing_ten : (n count : ℕ) (r : Rows) (m : Key) → missing_of (districts_from w n count) r ≡ Some m
      → (d : ℕ) × (m ≡ key.District (numbered d)) × (n ≤ d) × (d < n + count)
      × (HasRow r (key.District (numbered d)) → ⊥)
  unfolding districts_from
  missing_ten n zero r m e = no_missing r m e
  missing_ten n (suc count) r m e =
      ⊎_elim (λ h. (n, h.0, omega arith, omega arith, h.1))
      (λ more.
      let t = missing_ten (n + 1) count r m more in (t.0, t.1, omega (arith, t.2), omega (arith, t.3), t.4))
      (missing_cases (key.District (numbered n)) (districts_from w (n + 1) count) r m e)

-- ---- a row of the files lacks one

lacks_by : (f : NineRows) (a : apart.Apart) (k m : Key) → a.key ≡ k → a.missing ≡ m → RefersTo f k m
    → (HasLine f m → ⊥) → LacksIn f a
lacks_by f a k m e g refers none = record {
  refers = subst (λ (z : Key). RefersTo f z a.missing) (sym e) (subst (λ (z : Key). RefersTo f k z) (sym g) refers);
  missing = λ h. none (subst (λ (z : Key). HasLine f z) g h);
}

-- a key without a row is that of no line
no_line : {K X : Type 0} {R : K → K → Ordering} (ns : List (Numbered K X)) (m : FinMap R X) → HasRowsOf ns m
    → (c : X → Row) (k : K) → (IsSome (option_map c (get m k)) → ⊥) → IsKeyOf ns k → ⊥
no_line ns m have c k none (x, h) = none (ap (λ o. is_some (option_map c o)) ((have k x).1 h))

-- the same of another table with these rows
same_rows : {K X : Type 0} {R : K → K → Ordering} (ns : List (Numbered K X)) (m n : FinMap R X) → n ≡ m → HasRowsOf ns m
    → HasRowsOf ns n
same_rows ns m n e have = subst (HasRowsOf ns) (sym e) have

-- what a row of a table refers to does not change as rows of the table are put
same_customers : (q : CustomerKey) (y : Customer) (k : CustomerKey) (x : Customer) (r : Rows)
    → missing_of (key.District (district_of_customer q) ∷ []) (record r { customers = insert r.customers k x })
    ≡ missing_of (key.District (district_of_customer q) ∷ []) r
unfolding missing_of
same_customers q y k x r = refl

same_items : (q : ItemKey) (y : Item) (k : ItemKey) (x : Item) (r : Rows)
    → missing_of [] (record r { items = insert r.items k x }) ≡ missing_of [] r
unfolding missing_of
same_items q y k x r = refl

same_stocks : (q : StockKey) (y : Stock) (k : StockKey) (x : Stock) (r : Rows)
    → missing_of (key.Warehouse (warehouse_of_stock q) ∷ key.Item (item_of_stock q) ∷ [])
    (record r { stocks = insert r.stocks k x })
    ≡ missing_of (key.Warehouse (warehouse_of_stock q) ∷ key.Item (item_of_stock q) ∷ []) r
unfolding missing_of
same_stocks q y k x r = refl

same_orders : (q : OrderKey) (y : Order) (k : OrderKey) (x : Order) (r : Rows)
    → missing_of (key.Customer (customer_of_order q y) ∷ []) (rows_after (InsertOrder k x) r)
    ≡ missing_of (key.Customer (customer_of_order q y) ∷ []) r
unfolding missing_of
same_orders q y k x r = refl

same_lines : (q : OrderLineKey) (y : OrderLine) (k : OrderLineKey) (x : OrderLine) (r : Rows)
    → missing_of (key.Order (order_of_line q) ∷ key.Stock (supply_of_line y) ∷ []) (rows_after (InsertOrderLine k x) r)
    ≡ missing_of (key.Order (order_of_line q) ∷ key.Stock (supply_of_line y) ∷ []) r
unfolding missing_of
same_lines q y k x r = refl

same_new_orders : (q : NewOrderKey) (y : NewOrder) (k : NewOrderKey) (x : NewOrder) (r : Rows)
    → missing_of (key.Order (order_of_new_order q) ∷ []) (rows_after (InsertNewOrder k x) r)
    ≡ missing_of (key.Order (order_of_new_order q) ∷ []) r
unfolding missing_of
same_new_orders q y k x r = refl

same_histories : (q : HistoryKey) (y : History) (k : HistoryKey) (x : History) (r : Rows)
    → missing_of (key.Customer y.customer ∷ key.District y.district ∷ []) (rows_after (InsertHistory k x) r)
    ≡ missing_of (key.Customer y.customer ∷ key.District y.district ∷ []) r
unfolding missing_of
same_histories q y k x r = refl

-- the first row of a table that is set apart, where the tables that it refers to are whole
module _ (f : NineRows) (r s : Rows) (start end : List apart.Apart) (a : apart.Apart) (bs : List apart.Apart) where
  warehouses_lack : (p : PutsWarehouses f.warehouses r s start end) → p.0 ≡ a ∷ bs
      → AreDistricts f.districts r.districts → LacksIn f a
  warehouses_lack p first are =
      let l = first_lacks (λ k. key.Warehouse k) (λ k x. districts_from k 1 10)
      (λ k x r. record r { warehouses = insert r.warehouses k x })
      (λ q y k x r. same_missing q 1 10 r (record r { warehouses = insert r.warehouses k x }) refl) f.warehouses r s
      p.0 p.1 a bs first in
      let t = missing_ten l.0 1 10 r a.missing l.4 in
      lacks_by f a (key.Warehouse l.0) (key.District (numbered l.0 t.0)) l.3 t.1
      ((l.1, l.2), (numbered l.0 t.0, refl, refl, (t.2, omega (arith, t.3))))
      (λ h. t.4 (some-map row.District (get r.districts (numbered l.0 t.0)) ∙ are.whole (numbered l.0 t.0) h.0 h.1))

  districts_lack : (p : PutsDistricts f.districts r s start end) → p.0 ≡ a ∷ bs
      → HasRowsOf f.warehouses r.warehouses → LacksIn f a
  districts_lack p first have =
      let l = first_lacks (λ k. key.District k) (λ k x. key.Warehouse (warehouse_of_district k) ∷ [])
      (λ k x r. record r { districts = insert r.districts k x })
      (λ q y k x r. same_by_warehouses q r (record r { districts = insert r.districts k x }) refl) f.districts r s p.0
      p.1 a bs first in
      let m = missing_one _ r a.missing l.4 in
      lacks_by f a (key.District l.0) (key.Warehouse (warehouse_of_district l.0)) l.3 m.0 ((l.1, l.2), refl)
      (no_line f.warehouses r.warehouses have row.Warehouse (warehouse_of_district l.0) m.1)

  customers_lack : (p : PutsCustomers f.customers r s start end) → p.0 ≡ a ∷ bs
      → HasRowsOf f.districts r.districts → LacksIn f a
  customers_lack p first have =
      let l = first_lacks _ _ _ same_customers f.customers r s p.0 p.1 a bs first in
      let m = missing_one _ r a.missing l.4 in
      lacks_by f a (key.Customer l.0) (key.District (district_of_customer l.0)) l.3 m.0 ((l.1, l.2), refl)
      (no_line f.districts r.districts have row.District (district_of_customer l.0) m.1)

  items_lack : (p : PutsItems f.items r s start end) → p.0 ≡ a ∷ bs → LacksIn f a
  items_lack p first =
      let l = first_lacks _ _ _ same_items f.items r s p.0 p.1 a bs first in no_missing r a.missing l.4

  stocks_lack : (p : PutsStocks f.stocks r s start end) → p.0 ≡ a ∷ bs
      → HasRowsOf f.warehouses r.warehouses → HasRowsOf f.items r.items → LacksIn f a
  stocks_lack p first warehouses items =
      let l = first_lacks _ _ _ same_stocks f.stocks r s p.0 p.1 a bs first in
      ⊎_elim
      (λ m.
      lacks_by f a (key.Stock l.0) (key.Warehouse (warehouse_of_stock l.0)) l.3 m.0 ((l.1, l.2), inl refl)
      (no_line f.warehouses r.warehouses warehouses row.Warehouse (warehouse_of_stock l.0) m.1))
      (λ m.
      lacks_by f a (key.Stock l.0) (key.Item (item_of_stock l.0)) l.3 m.0 ((l.1, l.2), inr refl)
      (no_line f.items r.items items row.Item (item_of_stock l.0) m.1))
      (missing_two _ _ r a.missing l.4)

  orders_lack : (p : PutsOrders f.orders r s start end) → p.0 ≡ a ∷ bs
      → HasRowsOf f.customers r.customers → LacksIn f a
  orders_lack p first have =
      let l = first_lacks _ _ _ same_orders f.orders r s p.0 p.1 a bs first in
      let m = missing_one _ r a.missing l.4 in
      lacks_by f a (key.Order l.0) (key.Customer (customer_of_order l.0 l.1)) l.3 m.0 (l.1, l.2, refl)
      (no_line f.customers r.customers have row.Customer (customer_of_order l.0 l.1) m.1)

  lines_lack : (p : PutsLines f.order_lines r s start end) → p.0 ≡ a ∷ bs
      → HasRowsOf f.orders r.orders → HasRowsOf f.stocks r.stocks → LacksIn f a
  lines_lack p first orders stocks =
      let l = first_lacks _ _ _ same_lines f.order_lines r s p.0 p.1 a bs first in
      ⊎_elim
      (λ m.
      lacks_by f a (key.OrderLine l.0) (key.Order (order_of_line l.0)) l.3 m.0 (l.1, l.2, inl refl)
      (no_line f.orders r.orders orders row.Order (order_of_line l.0) m.1))
      (λ m.
      lacks_by f a (key.OrderLine l.0) (key.Stock (supply_of_line l.1)) l.3 m.0 (l.1, l.2, inr refl)
      (no_line f.stocks r.stocks stocks row.Stock (supply_of_line l.1) m.1))
      (missing_two _ _ r a.missing l.4)

  new_orders_lack : (p : PutsNewOrders f.new_orders r s start end) → p.0 ≡ a ∷ bs
      → HasRowsOf f.orders r.orders → LacksIn f a
  new_orders_lack p first have =
      let l = first_lacks _ _ _ same_new_orders f.new_orders r s p.0 p.1 a bs first in
      let m = missing_one _ r a.missing l.4 in
      lacks_by f a (key.NewOrder l.0) (key.Order (order_of_new_order l.0)) l.3 m.0 ((l.1, l.2), refl)
      (no_line f.orders r.orders have row.Order (order_of_new_order l.0) m.1)

  histories_lack : (p : PutsHistories f.histories r s start end) → p.0 ≡ a ∷ bs
      → HasRowsOf f.customers r.customers → HasRowsOf f.districts r.districts → LacksIn f a
  histories_lack p first customers districts =
      let l = first_lacks _ _ _ same_histories f.histories r s p.0 p.1 a bs first in
      ⊎_elim
      (λ m.
      lacks_by f a (key.History l.0) (key.Customer l.1.customer) l.3 m.0 (l.1, l.2, inl refl)
      (no_line f.customers r.customers customers row.Customer l.1.customer m.1))
      (λ m.
      lacks_by f a (key.History l.0) (key.District l.1.district) l.3 m.0 (l.1, l.2, inr refl)
      (no_line f.districts r.districts districts row.District l.1.district m.1))
      (missing_two _ _ r a.missing l.4)

-- ---- table after table

module _ (format : Format) (old new : Nine) (f : NineRows) (read : FilesRead format old new f) where
  module _ (end : Rows) (start parted : List apart.Apart)
      (h : HomesPut f.warehouses f.districts end start parted) where
    abbrev house : Rows
    house = record no_rows { warehouses = h.with_warehouses.warehouses }

    warehouses_whole : h.parted_warehouses ≡ [] → HasRowsOf f.warehouses h.with_warehouses.warehouses
    warehouses_whole none =
        puts_rows warehouse_total exact_warehouse _ _ _ (λ (r : Rows). r.warehouses) (λ k x r. refl) f.warehouses
        (record no_rows { districts = h.all }) h.with_warehouses start h.parted_warehouses h.warehouses none refl
        read.warehouses.1

    homes_nothing : parted ≡ [] → h.parted_warehouses ≡ []
    homes_nothing = nothing_before _ _ _ f.districts house end h.parted_warehouses parted h.districts

    homes_keep : {Z : Type 0} (g : Rows → Z)
        → ((k : DistrictKey) (x : District) (r : Rows)
        → g (record r { districts = insert r.districts k x }) ≡ g r)
        → g end ≡ g house
    homes_keep g still = puts_keep _ _ _ g still f.districts house end h.parted_warehouses parted h.districts

    homes_whole : parted ≡ [] → HasRowsOf f.warehouses end.warehouses × HasRowsOf f.districts end.districts
    homes_whole none = (
      same_rows f.warehouses h.with_warehouses.warehouses end.warehouses
          (homes_keep (λ (r : Rows). r.warehouses) (λ k x r. refl)) (warehouses_whole (homes_nothing none)),
      puts_rows district_total exact_district _ _ _ (λ (r : Rows). r.districts) (λ k x r. refl) f.districts house end
          h.parted_warehouses parted h.districts none refl read.districts.1,
    )

    homes_lack : start ≡ [] → (a : apart.Apart) (us : List apart.Apart) → parted ≡ a ∷ us → LacksIn f a
    homes_lack none a us e =
        ⊎_elim
        (λ g.
        districts_lack f house end h.parted_warehouses parted a g.1.0 h.districts g.1.1 (warehouses_whole g.0))
        (λ g.
        warehouses_lack f (record no_rows { districts = h.all }) h.with_warehouses start h.parted_warehouses a g.0
        h.warehouses (ap (λ z. z ++ h.warehouses.0) (sym none) ∙ sym h.warehouses.2 ∙ g.1) h.are_all)
        (first_of h.parted_warehouses h.districts.0 a us (sym h.districts.2 ∙ e))

  record BaseWhole (r : Rows) : Type 0 where
    warehouses : HasRowsOf f.warehouses r.warehouses
    districts : HasRowsOf f.districts r.districts
    customers : HasRowsOf f.customers r.customers
    items : HasRowsOf f.items r.items
    stocks : HasRowsOf f.stocks r.stocks

  module _ (end : Rows) (start parted : List apart.Apart)
      (b : BasePut f.warehouses f.districts f.customers f.items f.stocks end start parted) where
    abbrev home : Rows
    home = house b.homes start b.parted_homes b.homes_put

    customers_keep : {Z : Type 0} (g : Rows → Z)
        → ((k : CustomerKey) (x : Customer) (r : Rows) → g (record r { customers = insert r.customers k x }) ≡ g r)
        → g b.with_customers ≡ g b.homes
    customers_keep g still =
        puts_keep _ _ _ g still f.customers b.homes b.with_customers b.parted_homes b.parted_customers b.customers

    items_keep : {Z : Type 0} (g : Rows → Z)
        → ((k : ItemKey) (x : Item) (r : Rows) → g (record r { items = insert r.items k x }) ≡ g r)
        → g b.with_items ≡ g b.with_customers
    items_keep g still =
        puts_keep _ _ _ g still f.items b.with_customers b.with_items b.parted_customers b.parted_items b.items

    stocks_keep : {Z : Type 0} (g : Rows → Z)
        → ((k : StockKey) (x : Stock) (r : Rows) → g (record r { stocks = insert r.stocks k x }) ≡ g r)
        → g end ≡ g b.with_items
    stocks_keep g still = puts_keep _ _ _ g still f.stocks b.with_items end b.parted_items parted b.stocks

    items_nothing : parted ≡ [] → b.parted_items ≡ []
    items_nothing = nothing_before _ _ _ f.stocks b.with_items end b.parted_items parted b.stocks

    customers_nothing : b.parted_items ≡ [] → b.parted_customers ≡ []
    customers_nothing =
        nothing_before _ _ _ f.items b.with_customers b.with_items b.parted_customers b.parted_items b.items

    home_nothing : b.parted_customers ≡ [] → b.parted_homes ≡ []
    home_nothing =
        nothing_before _ _ _ f.customers b.homes b.with_customers b.parted_homes b.parted_customers b.customers

    home_whole : b.parted_homes ≡ []
        → HasRowsOf f.warehouses b.homes.warehouses × HasRowsOf f.districts b.homes.districts
    home_whole = homes_whole b.homes start b.parted_homes b.homes_put

    no_customers : b.homes.customers ≡ empty
    no_customers = homes_keep b.homes start b.parted_homes b.homes_put (λ (r : Rows). r.customers) (λ k x r. refl)

    no_items : b.with_customers.items ≡ empty
    no_items =
        customers_keep (λ (r : Rows). r.items) (λ k x r. refl)
        ∙ homes_keep b.homes start b.parted_homes b.homes_put (λ (r : Rows). r.items) (λ k x r. refl)

    no_stocks : b.with_items.stocks ≡ empty
    no_stocks =
        items_keep (λ (r : Rows). r.stocks) (λ k x r. refl) ∙ customers_keep (λ (r : Rows). r.stocks) (λ k x r. refl)
        ∙ homes_keep b.homes start b.parted_homes b.homes_put (λ (r : Rows). r.stocks) (λ k x r. refl)

    customers_whole : b.parted_customers ≡ [] → HasRowsOf f.customers b.with_customers.customers
    customers_whole none =
        puts_rows customer_total exact_customer _ _ _ (λ (r : Rows). r.customers) (λ k x r. refl) f.customers b.homes
        b.with_customers b.parted_homes b.parted_customers b.customers none no_customers read.customers.1

    items_whole : b.parted_items ≡ [] → HasRowsOf f.items b.with_items.items
    items_whole none =
        puts_rows item_total exact_item _ _ _ (λ (r : Rows). r.items) (λ k x r. refl) f.items b.with_customers
        b.with_items b.parted_customers b.parted_items b.items none no_items read.items.1

    stocks_whole : parted ≡ [] → HasRowsOf f.stocks end.stocks
    stocks_whole none =
        puts_rows stock_total exact_stock _ _ _ (λ (r : Rows). r.stocks) (λ k x r. refl) f.stocks b.with_items end
        b.parted_items parted b.stocks none no_stocks read.stocks.1

    base_whole : parted ≡ [] → BaseWhole end
    base_whole none =
        let no_stock = items_nothing none in
        let no_item = customers_nothing no_stock in
        let homes = home_whole (home_nothing no_item) in
        record {
          warehouses =
              same_rows f.warehouses b.homes.warehouses end.warehouses
              (stocks_keep (λ (r : Rows). r.warehouses) (λ k x r. refl)
              ∙ items_keep (λ (r : Rows). r.warehouses) (λ k x r. refl)
              ∙ customers_keep (λ (r : Rows). r.warehouses) (λ k x r. refl)) homes.0;
          districts =
              same_rows f.districts b.homes.districts end.districts
              (stocks_keep (λ (r : Rows). r.districts) (λ k x r. refl)
              ∙ items_keep (λ (r : Rows). r.districts) (λ k x r. refl)
              ∙ customers_keep (λ (r : Rows). r.districts) (λ k x r. refl)) homes.1;
          customers =
              same_rows f.customers b.with_customers.customers end.customers
              (stocks_keep (λ (r : Rows). r.customers) (λ k x r. refl)
              ∙ items_keep (λ (r : Rows). r.customers) (λ k x r. refl)) (customers_whole no_item);
          items =
              same_rows f.items b.with_items.items end.items (stocks_keep (λ (r : Rows). r.items) (λ k x r. refl))
              (items_whole no_stock);
          stocks = stocks_whole none;
        }

    base_lack : start ≡ [] → (a : apart.Apart) (us : List apart.Apart) → parted ≡ a ∷ us → LacksIn f a
    base_lack none a us e =
        ⊎_elim
        (λ g.
        stocks_lack f b.with_items end b.parted_items parted a g.1.0 b.stocks g.1.1
        (same_rows f.warehouses b.homes.warehouses b.with_items.warehouses
        (items_keep (λ (r : Rows). r.warehouses) (λ k x r. refl)
        ∙ customers_keep (λ (r : Rows). r.warehouses) (λ k x r. refl))
        (home_whole (home_nothing (customers_nothing g.0))).0)
        (items_whole g.0))
        (λ g.
        ⊎_elim (λ i. items_lack f b.with_customers b.with_items b.parted_customers b.parted_items a i.1.0 b.items i.1.1)
        (λ i.
        ⊎_elim
        (λ c.
        customers_lack f b.homes b.with_customers b.parted_homes b.parted_customers a c.1.0 b.customers c.1.1
        (home_whole c.0).1)
        (λ c. homes_lack b.homes start b.parted_homes b.homes_put none a c.0 c.1)
        (first_of b.parted_homes b.customers.0 a i.0 (sym b.customers.2 ∙ i.1)))
        (first_of b.parted_customers b.items.0 a g.0 (sym b.items.2 ∙ g.1)))
        (first_of b.parted_items b.stocks.0 a us (sym b.stocks.2 ∙ e))

    -- no row of orders, or of what refers to orders, was put
    base_keeps : {Z : Type 0} (g : Rows → Z)
        → ((k : DistrictKey) (x : District) (r : Rows)
        → g (record r { districts = insert r.districts k x }) ≡ g r)
        → ((k : CustomerKey) (x : Customer) (r : Rows) → g (record r { customers = insert r.customers k x }) ≡ g r)
        → ((k : ItemKey) (x : Item) (r : Rows) → g (record r { items = insert r.items k x }) ≡ g r)
        → ((k : StockKey) (x : Stock) (r : Rows) → g (record r { stocks = insert r.stocks k x }) ≡ g r)
        → g end ≡ g home
    base_keeps g district customer item stock =
        stocks_keep g stock ∙ items_keep g item ∙ customers_keep g customer
        ∙ homes_keep b.homes start b.parted_homes b.homes_put g district

  module _ (end : Rows) (parted : List apart.Apart) (p : FilesPut f end parted) where
    abbrev d : DeedsPut f.orders f.order_lines f.new_orders f.histories p.middle end p.parted_middle parted
    d = p.deeds

    orders_keep : {Z : Type 0} (g : Rows → Z)
        → ((k : OrderKey) (x : Order) (r : Rows) → g (rows_after (InsertOrder k x) r) ≡ g r)
        → g d.with_orders ≡ g p.middle
    orders_keep g still =
        puts_keep _ _ _ g still f.orders p.middle d.with_orders p.parted_middle d.parted_orders d.orders

    lines_keep : {Z : Type 0} (g : Rows → Z)
        → ((k : OrderLineKey) (x : OrderLine) (r : Rows) → g (rows_after (InsertOrderLine k x) r) ≡ g r)
        → g d.with_lines ≡ g d.with_orders
    lines_keep g still =
        puts_keep _ _ _ g still f.order_lines d.with_orders d.with_lines d.parted_orders d.parted_lines d.lines

    new_orders_keep : {Z : Type 0} (g : Rows → Z)
        → ((k : NewOrderKey) (x : NewOrder) (r : Rows) → g (rows_after (InsertNewOrder k x) r) ≡ g r)
        → g d.with_new_orders ≡ g d.with_lines
    new_orders_keep g still =
        puts_keep _ _ _ g still f.new_orders d.with_lines d.with_new_orders d.parted_lines d.parted_new_orders
        d.new_orders

    histories_keep : {Z : Type 0} (g : Rows → Z)
        → ((k : HistoryKey) (x : History) (r : Rows) → g (rows_after (InsertHistory k x) r) ≡ g r)
        → g end ≡ g d.with_new_orders
    histories_keep g still =
        puts_keep _ _ _ g still f.histories d.with_new_orders end d.parted_new_orders parted d.histories

    new_orders_nothing : parted ≡ [] → d.parted_new_orders ≡ []
    new_orders_nothing = nothing_before _ _ _ f.histories d.with_new_orders end d.parted_new_orders parted d.histories

    lines_nothing : d.parted_new_orders ≡ [] → d.parted_lines ≡ []
    lines_nothing =
        nothing_before _ _ _ f.new_orders d.with_lines d.with_new_orders d.parted_lines d.parted_new_orders d.new_orders

    orders_nothing : d.parted_lines ≡ [] → d.parted_orders ≡ []
    orders_nothing =
        nothing_before _ _ _ f.order_lines d.with_orders d.with_lines d.parted_orders d.parted_lines d.lines

    base_nothing : d.parted_orders ≡ [] → p.parted_middle ≡ []
    base_nothing = nothing_before _ _ _ f.orders p.middle d.with_orders p.parted_middle d.parted_orders d.orders

    middle_whole : p.parted_middle ≡ [] → BaseWhole p.middle
    middle_whole = base_whole p.middle [] p.parted_middle p.base

    no_orders : p.middle.orders ≡ empty
    no_orders =
        base_keeps p.middle [] p.parted_middle p.base (λ (r : Rows). r.orders) (λ k x r. refl) (λ k x r. refl)
        (λ k x r. refl) (λ k x r. refl)

    no_lines : d.with_orders.order_lines ≡ empty
    no_lines =
        orders_keep (λ (r : Rows). r.order_lines) (λ k x r. refl)
        ∙ base_keeps p.middle [] p.parted_middle p.base (λ (r : Rows). r.order_lines) (λ k x r. refl) (λ k x r. refl)
        (λ k x r. refl) (λ k x r. refl)

    no_new_orders : d.with_lines.new_orders ≡ empty
    no_new_orders =
        lines_keep (λ (r : Rows). r.new_orders) (λ k x r. refl)
        ∙ orders_keep (λ (r : Rows). r.new_orders) (λ k x r. refl)
        ∙ base_keeps p.middle [] p.parted_middle p.base (λ (r : Rows). r.new_orders) (λ k x r. refl) (λ k x r. refl)
        (λ k x r. refl) (λ k x r. refl)

    no_histories : d.with_new_orders.histories ≡ empty
    no_histories =
        new_orders_keep (λ (r : Rows). r.histories) (λ k x r. refl)
        ∙ lines_keep (λ (r : Rows). r.histories) (λ k x r. refl)
        ∙ orders_keep (λ (r : Rows). r.histories) (λ k x r. refl)
        ∙ base_keeps p.middle [] p.parted_middle p.base (λ (r : Rows). r.histories) (λ k x r. refl) (λ k x r. refl)
        (λ k x r. refl) (λ k x r. refl)

    orders_whole : d.parted_orders ≡ [] → HasRowsOf f.orders d.with_orders.orders
    orders_whole none =
        puts_rows order_total exact_order _ _ _ (λ (r : Rows). r.orders) (λ k x r. refl) f.orders p.middle d.with_orders
        p.parted_middle d.parted_orders d.orders none no_orders read.orders.1

    lines_whole : d.parted_lines ≡ [] → HasRowsOf f.order_lines d.with_lines.order_lines
    lines_whole none =
        puts_rows order_line_total exact_order_line _ _ _ (λ (r : Rows). r.order_lines) (λ k x r. refl) f.order_lines
        d.with_orders d.with_lines d.parted_orders d.parted_lines d.lines none no_lines read.order_lines.1

    new_orders_whole : d.parted_new_orders ≡ [] → HasRowsOf f.new_orders d.with_new_orders.new_orders
    new_orders_whole none =
        puts_rows new_order_total exact_new_order _ _ _ (λ (r : Rows). r.new_orders) (λ k x r. refl) f.new_orders
        d.with_lines d.with_new_orders d.parted_lines d.parted_new_orders d.new_orders none no_new_orders
        read.new_orders.1

    histories_whole : parted ≡ [] → HasRowsOf f.histories end.histories
    histories_whole none =
        puts_rows history_total exact_history _ _ _ (λ (r : Rows). r.histories) (λ k x r. refl) f.histories
        d.with_new_orders end d.parted_new_orders parted d.histories none no_histories read.histories.1

    -- the tables of what orders refer to stay
    base_stays : {Z : Type 0} (g : Rows → Z)
        → ((k : OrderKey) (x : Order) (r : Rows) → g (rows_after (InsertOrder k x) r) ≡ g r)
        → ((k : OrderLineKey) (x : OrderLine) (r : Rows) → g (rows_after (InsertOrderLine k x) r) ≡ g r)
        → ((k : NewOrderKey) (x : NewOrder) (r : Rows) → g (rows_after (InsertNewOrder k x) r) ≡ g r)
        → g d.with_new_orders ≡ g p.middle
    base_stays g order line new_order = new_orders_keep g new_order ∙ lines_keep g line ∙ orders_keep g order

    all_whole : parted ≡ [] → HaveRowsOf f end
    all_whole none =
        let no_new_order = new_orders_nothing none in
        let no_line = lines_nothing no_new_order in
        let no_order = orders_nothing no_line in
        let b = middle_whole (base_nothing no_order) in
        record {
          warehouses =
              same_rows f.warehouses p.middle.warehouses end.warehouses
              (histories_keep (λ (r : Rows). r.warehouses) (λ k x r. refl)
              ∙ base_stays (λ (r : Rows). r.warehouses) (λ k x r. refl) (λ k x r. refl) (λ k x r. refl)) b.warehouses;
          districts =
              same_rows f.districts p.middle.districts end.districts
              (histories_keep (λ (r : Rows). r.districts) (λ k x r. refl)
              ∙ base_stays (λ (r : Rows). r.districts) (λ k x r. refl) (λ k x r. refl) (λ k x r. refl)) b.districts;
          customers =
              same_rows f.customers p.middle.customers end.customers
              (histories_keep (λ (r : Rows). r.customers) (λ k x r. refl)
              ∙ base_stays (λ (r : Rows). r.customers) (λ k x r. refl) (λ k x r. refl) (λ k x r. refl)) b.customers;
          histories = histories_whole none;
          new_orders =
              same_rows f.new_orders d.with_new_orders.new_orders end.new_orders
              (histories_keep (λ (r : Rows). r.new_orders) (λ k x r. refl)) (new_orders_whole no_new_order);
          orders =
              same_rows f.orders d.with_orders.orders end.orders
              (histories_keep (λ (r : Rows). r.orders) (λ k x r. refl)
              ∙ new_orders_keep (λ (r : Rows). r.orders) (λ k x r. refl)
              ∙ lines_keep (λ (r : Rows). r.orders) (λ k x r. refl)) (orders_whole no_order);
          order_lines =
              same_rows f.order_lines d.with_lines.order_lines end.order_lines
              (histories_keep (λ (r : Rows). r.order_lines) (λ k x r. refl)
              ∙ new_orders_keep (λ (r : Rows). r.order_lines) (λ k x r. refl)) (lines_whole no_line);
          items =
              same_rows f.items p.middle.items end.items
              (histories_keep (λ (r : Rows). r.items) (λ k x r. refl)
              ∙ base_stays (λ (r : Rows). r.items) (λ k x r. refl) (λ k x r. refl) (λ k x r. refl)) b.items;
          stocks =
              same_rows f.stocks p.middle.stocks end.stocks
              (histories_keep (λ (r : Rows). r.stocks) (λ k x r. refl)
              ∙ base_stays (λ (r : Rows). r.stocks) (λ k x r. refl) (λ k x r. refl) (λ k x r. refl)) b.stocks;
        }

    all_lack : (a : apart.Apart) (us : List apart.Apart) → parted ≡ a ∷ us → LacksIn f a
    all_lack a us e =
        ⊎_elim
        (λ g.
        let b = middle_whole (base_nothing (orders_nothing (lines_nothing g.0))) in
        histories_lack f d.with_new_orders end d.parted_new_orders parted a g.1.0 d.histories g.1.1
        (same_rows f.customers p.middle.customers d.with_new_orders.customers
        (base_stays (λ (r : Rows). r.customers) (λ k x r. refl) (λ k x r. refl) (λ k x r. refl)) b.customers)
        (same_rows f.districts p.middle.districts d.with_new_orders.districts
        (base_stays (λ (r : Rows). r.districts) (λ k x r. refl) (λ k x r. refl) (λ k x r. refl)) b.districts))
        (λ g.
        ⊎_elim
        (λ n.
        new_orders_lack f d.with_lines d.with_new_orders d.parted_lines d.parted_new_orders a n.1.0 d.new_orders n.1.1
        (same_rows f.orders d.with_orders.orders d.with_lines.orders
        (lines_keep (λ (r : Rows). r.orders) (λ k x r. refl)) (orders_whole (orders_nothing n.0))))
        (λ n.
        ⊎_elim
        (λ l.
        lines_lack f d.with_orders d.with_lines d.parted_orders d.parted_lines a l.1.0 d.lines l.1.1
        (orders_whole l.0)
        (same_rows f.stocks p.middle.stocks d.with_orders.stocks
        (orders_keep (λ (r : Rows). r.stocks) (λ k x r. refl)) (middle_whole (base_nothing l.0)).stocks))
        (λ l.
        ⊎_elim
        (λ o.
        orders_lack f p.middle d.with_orders p.parted_middle d.parted_orders a o.1.0 d.orders o.1.1
        (middle_whole o.0).customers)
        (λ o. base_lack p.middle [] p.parted_middle p.base refl a o.0 o.1)
        (first_of p.parted_middle d.orders.0 a l.0 (sym d.orders.2 ∙ l.1)))
        (first_of d.parted_orders d.lines.0 a n.0 (sym d.lines.2 ∙ n.1)))
        (first_of d.parted_lines d.new_orders.0 a g.0 (sym d.new_orders.2 ∙ g.1)))
        (first_of d.parted_new_orders d.histories.0 a us (sym d.histories.2 ∙ e))

module _ (format : Format) (old new : Nine) (end : Rows) (parted : List apart.Apart) (counts : RowCounts)
    (l : AreLoaded format old new end parted counts) where
  pub whole_is : parted ≡ [] → AreWhole format old new end
  whole_is none = record {
    files = l.files;
    read = l.read;
    rows = all_whole format old new l.files l.read end parted l.put none;
  }

  pub whole_lacks : (a : apart.Apart) (us : List apart.Apart) → parted ≡ a ∷ us → LacksRow format old new a
  whole_lacks a us e = (
    l.files,
    l.read,
    all_lack format old new l.files l.read end parted l.put a us e,
    (end, us, subst (FilesPut l.files end) e l.put),
  )
