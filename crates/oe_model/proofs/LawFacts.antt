-- What a program's stage may read and write: lemmas that serve each program.
use Rattle.std.proofs.Common.{cond, ◌≡◌, ℕ, refl, sym, ◌∙◌, ap, subst, Bool, true, false, List, [], ◌∷◌, ◌++◌, Option}
use Rattle.std.proofs.Common.{Some, None, inl, inr}
use Rattle.std.specs.Prelude.{◌⊎◌, option_map, is_some, IsSome, option_and_then}
use Rattle.std.specs.FinMap.{get}
use Rattle.std.specs.Ordering.{eq_by_cmp, nat_cmp}
use Rattle.std.specs.Cmp.Lexicographic.{slice_cmp}
use Rattle.oe_theory.specs.Machine.{Mode, Shared, Exclusive, Guard, Free, Under, Own, Ask, Take, Go, Tx, Hold}
use Rattle.oe_theory.specs.World.{IsEnough}
use Rattle.oe_theory.specs.Laws.{IsAsked, all_held, Holds, with_asked, MayRead, MayWrite, Alike, IsSameEver, after}
use Rattle.oe_rows.specs.declared.keys.WarehouseKey.{WarehouseKey}
use Rattle.oe_rows.specs.declared.keys.DistrictKey.{DistrictKey}
use Rattle.oe_rows.specs.declared.keys.CustomerKey.{CustomerKey}
use Rattle.oe_rows.specs.declared.keys.HistoryKey.{HistoryKey}
use Rattle.oe_rows.specs.declared.keys.NewOrderKey.{NewOrderKey}
use Rattle.oe_rows.specs.declared.keys.OrderKey.{OrderKey}
use Rattle.oe_rows.specs.declared.keys.OrderLineKey.{OrderLineKey}
use Rattle.oe_rows.specs.declared.keys.ItemKey.{ItemKey}
use Rattle.oe_rows.specs.declared.keys.StockKey.{StockKey}
use Rattle.oe_rows.specs.declared.keys.Key.{Key}
use Rattle.oe_rows.specs.declared.keys.Key.TheVariants as key
use Rattle.oe_rows.specs.declared.warehouses.Warehouse.{Warehouse}
use Rattle.oe_rows.specs.declared.districts.District.{District}
use Rattle.oe_rows.specs.declared.customers.Customer.{Customer}
use Rattle.oe_rows.specs.declared.orders.Order.{Order}
use Rattle.oe_rows.specs.declared.items.Stock.{Stock}
use Rattle.oe_rows.specs.declared.rows.Row.{Row}
use Rattle.oe_rows.specs.declared.rows.Row.TheVariants as row
use Rattle.oe_rows.specs.declared.locks.Name.{Name}
use Rattle.oe_rows.specs.declared.locks.Name.TheVariants as name
use Rattle.oe_requests.specs.declared.requests.CustomerChoice.{CustomerChoice}
use Rattle.oe_requests.specs.declared.requests.CustomerChoice.TheVariants.{Number, LastName}
use Rattle.oe_requests.specs.declared.requests.Request.{Request}
use Rattle.oe_requests.specs.declared.requests.Query.{Query}
use Rattle.oe_requests.specs.declared.requests.Query.TheVariants.{Status, Level}
use Rattle.oe_requests.specs.declared.refusals.Column.{Column}
use Rattle.oe_requests.specs.declared.refusals.Refusal.{Refusal}
use Rattle.oe_requests.specs.declared.refusals.Refusal.TheVariants.{NoSuchRow}
use Rattle.oe_model.specs.Keys.{customer_in, district_of_customer, customer_of_order, order_of_new_order, order_of_line}
use Rattle.oe_model.specs.Keys.{supply_of_line}
use Rattle.oe_model.specs.Rows.{Rows, row_at, as_customer}
use Rattle.oe_model.specs.Changes.{Change, InsertHistory, InsertNewOrder, InsertOrder, InsertOrderLine, UpdateWarehouse}
use Rattle.oe_model.specs.Changes.{UpdateDistrict, UpdateCustomer, UpdateOrder, UpdateOrderLine, UpdateStock}
use Rattle.oe_model.specs.Changes.{DeleteNewOrder, key_of, row_of}
use Rattle.oe_model.specs.Meets.{Accepts}
use Rattle.oe_model.specs.Locks.{governs, governs_part, Facet, WarehouseThere, DistrictThere, CustomerThere}
use Rattle.oe_model.specs.Locks.{CustomerNamed}
use Rattle.oe_model.specs.Locks.{StockThere, WholeItem, There, First, Whole, facet_key, part, first_if_named}
use Rattle.oe_model.specs.Positions.{Position, InRename, RenameOld, RenameNew}
use Rattle.oe_model.specs.Rename.{HasLast}
use Rattle.oe_model.specs.Effects.{Doing, with_value, within}
use Rattle.oe_model.specs.Choice.{middle, customer_meant}
use Rattle.oe_model.specs.NewOrder.{item_at}
use Rattle.oe_model.specs.Requests.{warehouses_of, warehouse_no, first_absent, rejection, query_rejection}
use Rattle.oe_model.specs.System.{system, ask, locks_before}
use Rattle.oe_model.proofs.EntryFacts.{EachOf}
use Rattle.oe_model.proofs.NamesFacts.{same_namesakes}
use Rattle.oe_model.proofs.PresenceFacts.{some-map}
use Rattle.oe_model.proofs.RowFacts.{out-map, un_warehouse, un_district, un_customer, un_history, un_new_order}
use Rattle.oe_model.proofs.RowFacts.{un_order, un_order_line, un_item, un_stock}

abbrev pub IsAskedNow : Tx Request → Position → Rows → Type 0
IsAskedNow x p r = IsAsked system (all_held system) (ask x p r)

-- the names that are held in a stage of a program
abbrev pub held_then : Tx Request → Position → Rows → List (Hold Name)
held_then x p r = with_asked system (ask x p r) (locks_before x p)

abbrev pub HeldThen : Tx Request → Position → Rows → Name → Mode → Type 0
HeldThen x p r = Holds system (held_then x p r)

pub holds_asked : (a : Ask Name Refusal) (hs : List (Hold Name)) (n : Name) (m w : Mode) → a ≡ Take n m
    → IsEnough (Some m) w → Holds system (with_asked system a hs) n w
holds_asked a hs n m w e h = subst (λ (b : Ask Name Refusal). Holds system (with_asked system b hs) n w) (sym e)
    (inl (refl, h))

pub holds_more : (xs ys : List (Hold Name)) (n : Name) (w : Mode) → Holds system ys n w → Holds system (xs ++ ys) n w
holds_more [] ys n w h = h
holds_more (x ∷ xs) ys n w h = inr (holds_more xs ys n w h)

-- one more hold at the end of the first part is one more hold
pub holds_last : (xs ys : List (Hold Name)) (y : Hold Name) (n : Name) (w : Mode)
    → Holds system ((xs ++ y ∷ []) ++ ys) n w → Holds system (y ∷ (xs ++ ys)) n w
holds_last [] ys y n w h = h
holds_last (x ∷ xs) ys y n w (inl h) = inr (inl h)
holds_last (x ∷ xs) ys y n w (inr h) = swap (holds_last xs ys y n w h)
  where
    swap : Holds system (y ∷ (xs ++ ys)) n w → Holds system (y ∷ x ∷ (xs ++ ys)) n w
    swap (inl h) = inl h
    swap (inr h) = inr (inr h)

-- who may write may read
enough : (m : Mode) → IsEnough (Some m) Exclusive → IsEnough (Some m) Shared
enough Shared h = absurd h
enough Exclusive h = tt

holds_weaker : (hs : List (Hold Name)) (n : Name) → Holds system hs n Exclusive → Holds system hs n Shared
holds_weaker [] n h = h
holds_weaker (y ∷ hs) n (inl h) = inl (h.0, enough y.mode h.1)
holds_weaker (y ∷ hs) n (inr h) = inr (holds_weaker hs n h)

may_read : (hs : List (Hold Name)) (x : Tx Request) (g : Guard Name) → MayWrite system (Holds system hs) x g
    → MayRead system (Holds system hs) x g
may_read hs x Free h = h
may_read hs x (Under n) h = holds_weaker hs n h
may_read hs x (Own t k) h = h

-- rows that need a value, or a row within its ranges
pub given_same : {A : Type 0} (e : Refusal) (a b : Option A) (f : A → Doing) → a ≡ b → with_value e a f
    ≡ with_value e b f
given_same e a b f h = ap (λ o. with_value e o f) h

pub given_goes : {A : Type 0} (e : Refusal) (o : Option A) (f : A → Doing) (c : Option Change) (q : Position)
    → with_value e o f ≡ Go c q → (a : A) × (o ≡ Some a) × (f a ≡ Go c q)
given_goes e None f c q h = let no : ⊥ = cc in absurd no
given_goes e (Some a) f c q h = (a, refl, h)

pub within_goes : (o : Option Column) (d : Doing) (c : Option Change) (q : Position) → within o d ≡ Go c q → d ≡ Go c q
within_goes None d c q h = h
within_goes (Some k) d c q h = let no : ⊥ = cc in absurd no

-- a change leaves each facet of its row as it was
abbrev pub Keeps : Change → Option Row → Type 0
Keeps d before = (f : Facet) → facet_key f ≡ key_of d → part f (row_of d) ≡ part f before

-- a change of the queue knows of its order by the order's lock
abbrev pub Knows : (Name → Mode → Type 0) → Change → Type 0
Knows P (InsertNewOrder k x) = P (name.Order (order_of_new_order k)) Shared
Knows P _ = Unit {0}

-- what a position has read of a row that its program holds, and that still stands there
abbrev pub Recalls : Position → Rows → Type 0
Recalls (InRename q (RenameOld last)) r = HasLast q.customer last r
Recalls (InRename q (RenameNew last)) r = HasLast q.customer last r
Recalls _ r = Unit {0}

-- a facet stands, or who holds these names may write it
abbrev pub MayTurn : Tx Request → List (Hold Name) → Change → Option Row → Type 0
MayTurn x hs d before = (f : Facet) → facet_key f ≡ key_of d
    → (part f (row_of d) ≡ part f before) ⊎ MayWrite system (Holds system hs) x (governs_part f)

-- what a row may do that holds these names: it holds what comes next, writes where it may, and changes only what may
-- change, where what it has read still stands; and what the next position has read stands then
pub record IsLawfulBy (x : Tx Request) (hs : List (Hold Name)) (r : Rows) (Before : Type 0) (c : Option Change)
    (q : Position) : Type 0 where
  pub takes : (n : Name) (m : Mode) → Holds system (locks_before x q) n m → Holds system hs n m
  pub writes : (d : Change) → c ≡ Some d → MayWrite system (Holds system hs) x (governs (key_of d))
  pub knows : (d : Change) → c ≡ Some d → Knows (Holds system hs) d
  pub turns : (d : Change) → c ≡ Some d → Before → MayTurn x hs d (row_at r (key_of d))
  pub recalls : Before → Recalls q (after system c r)

abbrev pub IsLawful : Tx Request → Position → Rows → Option Change → Position → Type 0
IsLawful x p r c q = IsLawfulBy x (held_then x p r) r (Recalls p r) c q

module _ (x : Tx Request) (hs : List (Hold Name)) (r : Rows) (Before : Type 0) where
  pub lawful_as : (c d : Option Change) (q z : Position) → (let a : Doing = Go d z in a) ≡ Go c q
      → IsLawfulBy x hs r Before d z → IsLawfulBy x hs r Before c q
  lawful_as c d q z e h =
      let one : d ≡ c = cc in
      let two : z ≡ q = cc in
      subst (λ (v : Option Change). IsLawfulBy x hs r Before v q) one
      (subst (λ (v : Position). IsLawfulBy x hs r Before d v) two h)

  -- a row that makes no change
  pub changes_none : (q : Position)
      → ((n : Name) (m : Mode) → Holds system (locks_before x q) n m → Holds system hs n m)
      → (Before → Recalls q r) → IsLawfulBy x hs r Before None q
  changes_none q h j = record {
    takes = h;
    writes = λ d e. let no : ⊥ = cc in absurd no;
    knows = λ d e. let no : ⊥ = cc in absurd no;
    turns = λ d e. let no : ⊥ = cc in absurd no;
    recalls = j;
  }

  -- a row that makes one change
  pub changes_one : (d : Change) (q : Position)
      → ((n : Name) (m : Mode) → Holds system (locks_before x q) n m → Holds system hs n m)
      → MayWrite system (Holds system hs) x (governs (key_of d)) → Knows (Holds system hs) d
      → (Before → MayTurn x hs d (row_at r (key_of d))) → (Before → Recalls q (after system (Some d) r))
      → IsLawfulBy x hs r Before (Some d) q
  changes_one d q h w j k m = record {
    takes = h;
    writes = λ c e. let one : d ≡ c = cc in
        subst (λ (v : Change). MayWrite system (Holds system hs) x (governs (key_of v))) one w;
    knows = λ c e. let one : d ≡ c = cc in subst (λ (v : Change). Knows (Holds system hs) v) one j;
    turns = λ c e b. let one : d ≡ c = cc in
        subst (λ (v : Change). MayTurn x hs v (row_at r (key_of v))) one (k b);
    recalls = m;
  }

  -- one that leaves each facet as it was
  pub changes_plain : (d : Change) (q : Position)
      → ((n : Name) (m : Mode) → Holds system (locks_before x q) n m → Holds system hs n m)
      → MayWrite system (Holds system hs) x (governs (key_of d)) → Knows (Holds system hs) d
      → Keeps d (row_at r (key_of d)) → (Before → Recalls q (after system (Some d) r))
      → IsLawfulBy x hs r Before (Some d) q
  changes_plain d q h w j k m = changes_one d q h w j (λ b f e. inl (k f e)) m

-- the same, by the position
pub lawful_at : (x : Tx Request) (p : Position) (r : Rows) (c d : Option Change) (q z : Position)
    → (let a : Doing = Go d z in a) ≡ Go c q → IsLawful x p r d z → IsLawful x p r c q
lawful_at x p r c d q z e h = lawful_as x (held_then x p r) r (Recalls p r) c d q z e h

pub lawful_none : (x : Tx Request) (p : Position) (r : Rows) (q : Position)
    → ((n : Name) (m : Mode) → Holds system (locks_before x q) n m → HeldThen x p r n m) → (Recalls p r → Recalls q r)
    → IsLawful x p r None q
lawful_none x p r q h j = changes_none x (held_then x p r) r (Recalls p r) q h j

pub lawful_one : (x : Tx Request) (p : Position) (r : Rows) (d : Change) (q : Position)
    → ((n : Name) (m : Mode) → Holds system (locks_before x q) n m → HeldThen x p r n m)
    → MayWrite system (HeldThen x p r) x (governs (key_of d)) → Knows (HeldThen x p r) d → Keeps d (row_at r (key_of d))
    → (Recalls p r → Recalls q (after system (Some d) r)) → IsLawful x p r (Some d) q
lawful_one x p r d q h w j k m = changes_plain x (held_then x p r) r (Recalls p r) d q h w j k m

-- keys with a facet
is_faceted : Key → Bool
is_faceted (key.Warehouse k) = true
is_faceted (key.District k) = true
is_faceted (key.Customer k) = true
is_faceted (key.Item k) = true
is_faceted (key.Stock k) = true
is_faceted _ = false

faceted : (f : Facet) → is_faceted (facet_key f) ≡ true
unfolding is_faceted
faceted (WarehouseThere k) = refl
faceted (DistrictThere k) = refl
faceted (CustomerThere k) = refl
faceted (CustomerNamed k last) = refl
faceted (StockThere k) = refl
faceted (WholeItem k) = refl

no_facet : (d : Change) (before : Option Row) → is_faceted (key_of d) ≡ false → Keeps d before
no_facet d before e f h = let z : true ≡ false = sym (faceted f) ∙ ap is_faceted h ∙ e in let no : ⊥ = cc in absurd no

module _ (before : Option Row) where
  pub keeps_history : (k : HistoryKey) (x : Rattle.oe_rows.specs.declared.histories.History.History)
      → Keeps (InsertHistory k x) before
  unfolding is_faceted
  keeps_history k x = no_facet (InsertHistory k x) before refl

  pub keeps_new_order : (k : NewOrderKey) (x : Rattle.oe_rows.specs.declared.orders.NewOrder.NewOrder)
      → Keeps (InsertNewOrder k x) before
  unfolding is_faceted
  keeps_new_order k x = no_facet (InsertNewOrder k x) before refl

  pub keeps_delete : (k : NewOrderKey) → Keeps (DeleteNewOrder k) before
  unfolding is_faceted
  keeps_delete k = no_facet (DeleteNewOrder k) before refl

  pub keeps_order : (k : OrderKey) (x : Order) → Keeps (InsertOrder k x) before
  unfolding is_faceted
  keeps_order k x = no_facet (InsertOrder k x) before refl

  pub keeps_carrier : (k : OrderKey) (x : Order) → Keeps (UpdateOrder k x) before
  unfolding is_faceted
  keeps_carrier k x = no_facet (UpdateOrder k x) before refl

  pub keeps_line : (k : OrderLineKey) (x : Rattle.oe_rows.specs.declared.orders.OrderLine.OrderLine)
      → Keeps (InsertOrderLine k x) before
  unfolding is_faceted
  keeps_line k x = no_facet (InsertOrderLine k x) before refl

  pub keeps_date : (k : OrderLineKey) (x : Rattle.oe_rows.specs.declared.orders.OrderLine.OrderLine)
      → Keeps (UpdateOrderLine k x) before
  unfolding is_faceted
  keeps_date k x = no_facet (UpdateOrderLine k x) before refl

-- a row that was there is still there
pub keeps_warehouse : (r : Rows) (k : WarehouseKey) (x y : Warehouse) → get r.warehouses k ≡ Some x
    → Keeps (UpdateWarehouse k y) (row_at r (key.Warehouse k))
keeps_warehouse r k x y e (WarehouseThere j) h =
    ap (λ (v : Option Warehouse). There (is_some (option_map row.Warehouse v))) (sym e)
keeps_warehouse r k x y e (DistrictThere j) h = let no : ⊥ = cc in absurd no
keeps_warehouse r k x y e (CustomerThere j) h = let no : ⊥ = cc in absurd no
keeps_warehouse r k x y e (CustomerNamed j last) h = let no : ⊥ = cc in absurd no
keeps_warehouse r k x y e (StockThere j) h = let no : ⊥ = cc in absurd no
keeps_warehouse r k x y e (WholeItem j) h = let no : ⊥ = cc in absurd no

pub keeps_district : (r : Rows) (k : DistrictKey) (x y : District) → get r.districts k ≡ Some x
    → Keeps (UpdateDistrict k y) (row_at r (key.District k))
keeps_district r k x y e (WarehouseThere j) h = let no : ⊥ = cc in absurd no
keeps_district r k x y e (DistrictThere j) h = ap (λ (v : Option District). There (is_some (option_map row.District v)))
    (sym e)
keeps_district r k x y e (CustomerThere j) h = let no : ⊥ = cc in absurd no
keeps_district r k x y e (CustomerNamed j last) h = let no : ⊥ = cc in absurd no
keeps_district r k x y e (StockThere j) h = let no : ⊥ = cc in absurd no
keeps_district r k x y e (WholeItem j) h = let no : ⊥ = cc in absurd no

pub keeps_stock : (r : Rows) (k : StockKey) (x y : Stock) → get r.stocks k ≡ Some x
    → Keeps (UpdateStock k y) (row_at r (key.Stock k))
keeps_stock r k x y e (WarehouseThere j) h = let no : ⊥ = cc in absurd no
keeps_stock r k x y e (DistrictThere j) h = let no : ⊥ = cc in absurd no
keeps_stock r k x y e (CustomerThere j) h = let no : ⊥ = cc in absurd no
keeps_stock r k x y e (CustomerNamed j last) h = let no : ⊥ = cc in absurd no
keeps_stock r k x y e (StockThere j) h = ap (λ (v : Option Stock). There (is_some (option_map row.Stock v))) (sym e)
keeps_stock r k x y e (WholeItem j) h = let no : ⊥ = cc in absurd no

-- a customer keeps its names too
pub keeps_customer : (r : Rows) (k : CustomerKey) (x y : Customer) → get r.customers k ≡ Some x
    → y.name.last ≡ x.name.last → y.name.first ≡ x.name.first
    → Keeps (UpdateCustomer k y) (row_at r (key.Customer k))
keeps_customer r k x y e a b (WarehouseThere j) h = let no : ⊥ = cc in absurd no
keeps_customer r k x y e a b (DistrictThere j) h = let no : ⊥ = cc in absurd no
keeps_customer r k x y e a b (CustomerThere j) h =
    ap (λ (v : Option Customer). There (is_some (option_map row.Customer v))) (sym e)
keeps_customer r k x y e a b (CustomerNamed j last) h =
    (λ i. First (cond (eq_by_cmp (slice_cmp nat_cmp) (a i) last) (Some (b i)) None))
    ∙ ap (λ (v : Option Customer). First
    (first_if_named last (option_and_then as_customer (option_map row.Customer v)))) (sym e)
keeps_customer r k x y e a b (StockThere j) h = let no : ⊥ = cc in absurd no
keeps_customer r k x y e a b (WholeItem j) h = let no : ⊥ = cc in absurd no

-- who looks a customer up by name holds the name
abbrev pub HoldsNames : (Name → Mode → Type 0) → DistrictKey → CustomerChoice → Type 0
HoldsNames P h (Number c) = Unit {0}
HoldsNames P h (LastName last) = P (name.Names h last) Shared

-- what maps tell that are alike
module _ (P : Name → Mode → Type 0) (x : Tx Request) (r s : Rows) (alike : Alike system P x r s) where
  same_there : {A : Type 0} (c : A → Row) (f : Facet) (a b : Option A)
      → There (is_some (option_map c a)) ≡ There (is_some (option_map c b)) → is_some a ≡ is_some b
  same_there c f a b h =
      let e : is_some (option_map c a) ≡ is_some (option_map c b) = cc in
      sym (some-map c a) ∙ e ∙ some-map c b

  pub alike_customer : (k : CustomerKey) → is_some (get r.customers k) ≡ is_some (get s.customers k)
  alike_customer k = same_there row.Customer (CustomerThere k) (get r.customers k) (get s.customers k)
      (alike.parts (CustomerThere k) tt)

  pub alike_district : (k : DistrictKey) → is_some (get r.districts k) ≡ is_some (get s.districts k)
  alike_district k = same_there row.District (DistrictThere k) (get r.districts k) (get s.districts k)
      (alike.parts (DistrictThere k) tt)

  pub alike_stock : (k : StockKey) → is_some (get r.stocks k) ≡ is_some (get s.stocks k)
  alike_stock k = same_there row.Stock (StockThere k) (get r.stocks k) (get s.stocks k) (alike.parts (StockThere k) tt)

  alike_named : (k : CustomerKey) (last : List ℕ) → P (name.Names (district_of_customer k) last) Shared
      → first_if_named last (get r.customers k) ≡ first_if_named last (get s.customers k)
  alike_named k last held =
      let u : Option (List ℕ) = first_if_named last (option_and_then as_customer (row_at r (key.Customer k))) in
      let v : Option (List ℕ) = first_if_named last (option_and_then as_customer (row_at s (key.Customer k))) in
      let h : First u ≡ First v = alike.parts (CustomerNamed k last) held in
      let e : u ≡ v = cc in
      ap (first_if_named last) (sym (out-map row.Customer as_customer (λ _. refl) (get r.customers k))) ∙ e
      ∙ ap (first_if_named last) (out-map row.Customer as_customer (λ _. refl) (get s.customers k))

  alike_item : (k : ItemKey) → get r.items k ≡ get s.items k
  alike_item k =
      let e : row_at r (key.Item k) ≡ row_at s (key.Item k) =
      let h : Whole (row_at r (key.Item k)) ≡ Whole (row_at s (key.Item k)) = alike.parts (WholeItem k) tt in cc in
      un_item (get r.items k) (get s.items k) e

  pub alike_item_at : (n : ℕ) → item_at n r.items ≡ item_at n s.items
  alike_item_at n = ap (λ v. cond (Rattle.std.specs.Prelude.nat_le n 100000) v None) (alike_item (record { item = n }))

  number_if : (c : ℕ) (o : Option Customer) → option_map (λ x. c) o ≡ cond (is_some o) (Some c) None
  number_if c None = refl
  number_if c (Some x) = refl

  pub alike_chosen : (h : DistrictKey) (who : CustomerChoice) → HoldsNames P h who
      → customer_meant h who r.customers ≡ customer_meant h who s.customers
  alike_chosen h (Number c) held =
      number_if c (get r.customers (customer_in h c)) ∙ ap (λ (b : Bool). cond b (Some c) None)
      (alike_customer (customer_in h c)) ∙ sym (number_if c (get s.customers (customer_in h c)))
  alike_chosen h (LastName last) held = ap middle
      (same_namesakes h last r.customers s.customers alike_customer
      (λ k e. alike_named k last (subst (λ (d : DistrictKey). P (name.Names d last) Shared) (sym e) held)))

-- the tables accept a change of a row that may be written on both, or on neither
module _ (hs : List (Hold Name)) (x : Tx Request) (r s : Rows) (alike : Alike system (Holds system hs) x r s) where
  abbrev P : Name → Mode → Type 0
  P = Holds system hs

  present : {A : Type 0} (a b : Option A) → is_some a ≡ is_some b → IsSome a → IsSome b
  present a b e h = sym e ∙ h

  own_row : (c : Change) → MayWrite system P x (governs (key_of c)) → row_at r (key_of c) ≡ row_at s (key_of c)
  own_row c w = alike.rows (key_of c) (may_read hs x (governs (key_of c)) w)

  pub accepts_alike : (c : Change) → MayWrite system P x (governs (key_of c)) → Knows P c → Accepts c r → Accepts c s
  accepts_alike (InsertHistory k y) w j a = (
    sym (un_history (get r.histories k) (get s.histories k) (own_row (InsertHistory k y) w)) ∙ a.0,
    present (get r.customers y.customer) (get s.customers y.customer) (alike_customer P x r s alike y.customer) a.1,
    present (get r.districts y.district) (get s.districts y.district) (alike_district P x r s alike y.district) a.2,
  )
  accepts_alike (InsertNewOrder k y) w j a = (
    sym (un_new_order (get r.new_orders k) (get s.new_orders k) (own_row (InsertNewOrder k y) w)) ∙ a.0,
    subst (λ v. IsSome v)
        (un_order (get r.orders (order_of_new_order k)) (get s.orders (order_of_new_order k))
        (alike.rows (key.Order (order_of_new_order k)) j)) a.1,
  )
  accepts_alike (InsertOrder k y) w j a = (
    sym (un_order (get r.orders k) (get s.orders k) (own_row (InsertOrder k y) w)) ∙ a.0,
    present (get r.customers (customer_of_order k y)) (get s.customers (customer_of_order k y))
        (alike_customer P x r s alike (customer_of_order k y)) a.1,
  )
  accepts_alike (InsertOrderLine k y) w j a = (
    sym (un_order_line (get r.order_lines k) (get s.order_lines k) (own_row (InsertOrderLine k y) w)) ∙ a.0,
    subst (λ v. IsSome v)
        (un_order (get r.orders (order_of_line k)) (get s.orders (order_of_line k))
        (alike.rows (key.Order (order_of_line k)) (may_read hs x (governs (key.OrderLine k)) w))) a.1,
    present (get r.stocks (supply_of_line y)) (get s.stocks (supply_of_line y))
        (alike_stock P x r s alike (supply_of_line y)) a.2,
  )
  accepts_alike (UpdateWarehouse k y) w j a = subst (λ v. IsSome v)
      (un_warehouse (get r.warehouses k) (get s.warehouses k) (own_row (UpdateWarehouse k y) w)) a
  accepts_alike (UpdateDistrict k y) w j a =
      subst (λ v. IsSome v) (un_district (get r.districts k) (get s.districts k) (own_row (UpdateDistrict k y) w)) a
  accepts_alike (UpdateCustomer k y) w j a =
      subst (λ v. IsSome v) (un_customer (get r.customers k) (get s.customers k) (own_row (UpdateCustomer k y) w)) a
  accepts_alike (UpdateOrder k y) w j a =
      (a.0, sym (un_order (get r.orders k) (get s.orders k) (own_row (UpdateOrder k y) w)) ∙ a.1, a.2)
  accepts_alike (UpdateOrderLine k y) w j a = (
    subst (λ v. IsSome v) (un_order_line (get r.order_lines k) (get s.order_lines k) (own_row (UpdateOrderLine k y) w))
        a.0,
    present (get r.stocks (supply_of_line y)) (get s.stocks (supply_of_line y))
        (alike_stock P x r s alike (supply_of_line y)) a.1,
  )
  accepts_alike (UpdateStock k y) w j a = subst (λ v. IsSome v)
      (un_stock (get r.stocks k) (get s.stocks k) (own_row (UpdateStock k y) w)) a
  accepts_alike (DeleteNewOrder k) w j a = subst (λ v. IsSome v)
      (un_new_order (get r.new_orders k) (get s.new_orders k) (own_row (DeleteNewOrder k) w)) a

-- what turns a request away reads what never changes
absent_same : (ws : List ℕ) (r s : Rows) → IsSameEver system r s → first_absent ws r ≡ first_absent ws s
absent_same [] r s h = refl
absent_same (w ∷ ws) r s h =
    let k : Key = key.Warehouse (warehouse_no w) in
    let g : There (is_some (row_at r k)) ≡ There (is_some (row_at s k)) = h (WarehouseThere (warehouse_no w)) refl in
    let e : is_some (row_at r k) ≡ is_some (row_at s k) = cc in
    λ i. cond (e i) (absent_same ws r s h i) (Some (NoSuchRow k))

pub rejection_same : (q : Request) (r s : Rows) → IsSameEver system r s → rejection q r ≡ rejection q s
rejection_same q r s h = absent_same (warehouses_of q) r s h

pub query_rejection_same : (q : Query) (r s : Rows) → IsSameEver system r s → query_rejection q r ≡ query_rejection q s
query_rejection_same (Status q) r s h = absent_same (q.district.warehouse ∷ []) r s h
query_rejection_same (Level q) r s h = absent_same (q.district.warehouse ∷ []) r s h

-- and where none is absent each is there
pub all_there : (ws : List ℕ) (r : Rows) → first_absent ws r ≡ None
    → EachOf (λ w. IsSome (get r.warehouses (warehouse_no w))) ws
all_there [] r h = tt
all_there (w ∷ ws) r h = by_test (is_some (row_at r (key.Warehouse (warehouse_no w)))) refl h (all_there ws r)
  where
    k : Key
    k = key.Warehouse (warehouse_no w)

    by_test : (b : Bool) → is_some (row_at r k) ≡ b → cond b (first_absent ws r) (Some (NoSuchRow k)) ≡ None
        → (first_absent ws r ≡ None → EachOf (λ v. IsSome (get r.warehouses (warehouse_no v))) ws)
        → EachOf (λ v. IsSome (get r.warehouses (warehouse_no v))) (w ∷ ws)
    by_test true e g rest = (sym (some-map row.Warehouse (get r.warehouses (warehouse_no w))) ∙ e, rest g)
    by_test false e g rest = let no : ⊥ = cc in absurd no
