-- What a change in one table makes of the links at each key.
use Rattle.std.proofs.Common.{ℕ, [], ◌≡◌, refl, sym, ◌∙◌, ap, subst, cond, Bool, true, false, Option, Some, None}
use Rattle.std.proofs.Common.{is_some}
use Rattle.std.specs.Option.{OnSome}
use Rattle.std.specs.Borrow.{MutBor}
use Rattle.std.specs.Ordering.{eq_by_cmp}
use Rattle.std.specs.Cmp.{eq_by_cmp_equiv}
use Rattle.std.specs.FinMap.{FinMap, get, insert, remove, get-empty, get-insert, get-remove}
use Rattle.std.specs.Prelude.{IsSome}
use Rattle.oe_rows.specs.Key.{warehouse_cmp, district_cmp, customer_cmp, history_cmp, new_order_cmp, order_cmp}
use Rattle.oe_rows.specs.Key.{order_line_cmp, item_cmp, stock_cmp}
use Rattle.oe_rows.specs.KeyShelves.{district_shelf}
use Rattle.oe_rows.specs.declared.keys.WarehouseKey.{WarehouseKey}
use Rattle.oe_rows.specs.declared.keys.DistrictKey.{DistrictKey}
use Rattle.oe_rows.specs.declared.keys.CustomerKey.{CustomerKey}
use Rattle.oe_rows.specs.declared.keys.HistoryKey.{HistoryKey}
use Rattle.oe_rows.specs.declared.keys.NewOrderKey.{NewOrderKey}
use Rattle.oe_rows.specs.declared.keys.OrderKey.{OrderKey}
use Rattle.oe_rows.specs.declared.keys.OrderLineKey.{OrderLineKey}
use Rattle.oe_rows.specs.declared.keys.ItemKey.{ItemKey}
use Rattle.oe_rows.specs.declared.keys.StockKey.{StockKey}
use Rattle.oe_rows.specs.declared.keys.Key.{Key}
use Rattle.oe_rows.specs.declared.keys.Key.TheVariants as key
use Rattle.oe_rows.proofs.KeyFacts.{warehouse_total, district_total, customer_total, history_total, new_order_total}
use Rattle.oe_rows.proofs.KeyFacts.{order_total, order_line_total, item_total, stock_total, exact_warehouse}
use Rattle.oe_rows.proofs.KeyFacts.{exact_district, exact_customer, exact_history, exact_new_order, exact_order}
use Rattle.oe_rows.proofs.KeyFacts.{exact_order_line, exact_item, exact_stock}
use Rattle.oe_model.proofs.MapFacts.{is_same, is_self, same}
use Rattle.oe_table.specs.Table.{left_of}
use Rattle.oe_undo.specs.declared.links.OwnedLink.{OwnedLink}
use Rattle.oe_undo.specs.Numbers.{warehouse_number, district_number, customer_number, new_order_number, order_number}
use Rattle.oe_undo.specs.Numbers.{order_line_number, item_number, stock_number}
use Rattle.oe_undo.specs.NumberLaws.{warehouse_numbered, district_numbered, customer_numbered, new_order_numbered}
use Rattle.oe_undo.specs.NumberLaws.{order_numbered, order_line_numbered, item_numbered, stock_numbered}
use Rattle.oe_undo.specs.Tables.{LinkTable, link_in, link_by_number, with_number, SetsNumber, GivesNumbers}
use Rattle.oe_undo.specs.Tables.{InsertsNumber}
use Rattle.oe_undo.specs.Links.{LinkMaps, HasPlace, place_of, with_link, links_of, no_links, comes_with, SetsLink}
use Rattle.oe_undo.specs.Links.{GivesPlaces, InsertsLink}
use Rattle.oe_undo.proofs.NumberFacts.{sets_number, number_same, not_above_placed}

-- what holds whether or not something was lent
pub on_some_always : {R P : Type 0} (lent : Option R) → P → OnSome lent P
on_some_always None h = tt
on_some_always (Some r) h = h

module _ {R : Type 0} (lent : Option (MutBor R)) (row : MutBor R) (is : lent ≡ Some row) where
  -- what holds where a row was lent holds of the row
  pub on_row : {P : Type 0} → OnSome lent P → P
  on_row {P} h = subst (λ (o : Option (MutBor R)). OnSome o P) is h

-- and what follows from it
pub on_some_weaker : {R P Q : Type 0} (lent : Option R) → (P → Q) → OnSome lent P → OnSome lent Q
on_some_weaker None f h = h
on_some_weaker (Some r) f h = f h

-- HISTORY's keys: at this one stands this, and at each other what stood there
abbrev SetsHistory : FinMap history_cmp (Option OwnedLink) → FinMap history_cmp (Option OwnedLink) → HistoryKey
    → Option OwnedLink → Type 0
SetsHistory old new own l = (k : HistoryKey) → get new k ≡ cond (eq_by_cmp history_cmp own k) (Some l) (get old k)

abbrev GivesHistory : FinMap history_cmp (Option OwnedLink) → FinMap history_cmp (Option OwnedLink) → HistoryKey
    → Type 0
GivesHistory old new own = (k : HistoryKey)
    → get new k ≡ cond (eq_by_cmp history_cmp own k) (Some (link_in (get old k))) (get old k)

pub history_inserted : (old : FinMap history_cmp (Option OwnedLink)) (k : HistoryKey) (l : Option OwnedLink)
    → SetsHistory old (insert old k l) k l
history_inserted old k l q = get-insert history_total old k l q ∙ ap (λ b. cond b (Some l) (get old q))
    ((eq_by_cmp_equiv history_total).symm q k)

pub history_put : (old new : FinMap history_cmp (Option OwnedLink)) (k : HistoryKey) (l : Option OwnedLink)
    → new ≡ insert old k l → SetsHistory old new k l
history_put old new k l e q = ap (λ m. get m q) e ∙ history_inserted old k l q

-- where the key has no place, it is given one
pub history_given : (old : FinMap history_cmp (Option OwnedLink)) (own : HistoryKey) → get old own ≡ None
    → GivesHistory old (insert old own None) own
history_given old own none k = history_inserted old own None k ∙ by (eq_by_cmp history_cmp own k) refl
  where
    by : (b : Bool) → eq_by_cmp history_cmp own k ≡ b
        → cond b (Some None) (get old k) ≡ cond b (Some (link_in (get old k))) (get old k)
    by true e = ap (λ o. Some (link_in o)) (sym none ∙ ap (get old) (is_same history_total exact_history own k e))
    by false e = refl

-- and that key has a place
pub history_own : (old : FinMap history_cmp (Option OwnedLink)) (own : HistoryKey)
    → IsSome (get (insert old own None) own)
history_own old own =
    ap is_some (get-insert history_total old own None own ∙ ap (λ b. cond b (Some None) (get old own))
    (is_self history_total exact_history own))

-- at this one the place is gone where it was empty, and at each other stands what stood there
abbrev GivesUpHistory : FinMap history_cmp (Option OwnedLink) → FinMap history_cmp (Option OwnedLink) → HistoryKey
    → Type 0
GivesUpHistory old new own = (k : HistoryKey)
    → get new k ≡ cond (eq_by_cmp history_cmp own k) (left_of (get old k)) (get old k)

pub history_given_up : (old : FinMap history_cmp (Option OwnedLink)) (own : HistoryKey) → get old own ≡ Some None
    → GivesUpHistory old (remove old own) own
history_given_up old own empty k =
    get-remove history_total old own k ∙ ap (λ b. cond b None (get old k)) ((eq_by_cmp_equiv history_total).symm k own)
    ∙ by (eq_by_cmp history_cmp own k) refl
  where
    by : (b : Bool) → eq_by_cmp history_cmp own k ≡ b
        → cond b None (get old k) ≡ cond b (left_of (get old k)) (get old k)
    by true e = ap left_of (sym empty ∙ ap (get old) (is_same history_total exact_history own k e))
    by false e = refl

twice : {A : Type 0} (b : Bool) (x y z : A) → cond b x z ≡ cond b x (cond b y z)
twice true x y z = refl
twice false x y z = refl

-- a link is set in one table
pub set_warehouses : (m : LinkMaps) (new : LinkTable) (own : WarehouseKey) (l : Option OwnedLink)
    → SetsNumber warehouse_cmp (λ (k : WarehouseKey). 0) warehouse_number m.warehouses new own l
    → SetsLink m (record m { warehouses = new }) (key.Warehouse own) l
set_warehouses m new own l set (key.Warehouse k) = set k
set_warehouses m new own l set _ = refl

pub set_districts : (m : LinkMaps) (new : LinkTable) (own : DistrictKey) (l : Option OwnedLink)
    → SetsNumber district_cmp (λ (k : DistrictKey). 0) district_number m.districts new own l
    → SetsLink m (record m { districts = new }) (key.District own) l
set_districts m new own l set (key.District k) = set k
set_districts m new own l set _ = refl

pub set_customers : (m : LinkMaps) (new : LinkTable) (own : CustomerKey) (l : Option OwnedLink)
    → SetsNumber customer_cmp (λ (k : CustomerKey). district_shelf k.warehouse k.district) customer_number m.customers
    new own l → SetsLink m (record m { customers = new }) (key.Customer own) l
set_customers m new own l set (key.Customer k) = set k
set_customers m new own l set _ = refl

pub set_histories : (m : LinkMaps) (new : FinMap history_cmp (Option OwnedLink)) (own : HistoryKey)
    (l : Option OwnedLink) → SetsHistory m.histories new own l
    → SetsLink m (record m { histories = new }) (key.History own) l
set_histories m new own l set (key.History k) = set k
set_histories m new own l set _ = refl

pub set_new_orders : (m : LinkMaps) (new : LinkTable) (own : NewOrderKey) (l : Option OwnedLink)
    → SetsNumber new_order_cmp (λ (k : NewOrderKey). district_shelf k.warehouse k.district) new_order_number
    m.new_orders new own l → SetsLink m (record m { new_orders = new }) (key.NewOrder own) l
set_new_orders m new own l set (key.NewOrder k) = set k
set_new_orders m new own l set _ = refl

pub set_orders : (m : LinkMaps) (new : LinkTable) (own : OrderKey) (l : Option OwnedLink)
    → SetsNumber order_cmp (λ (k : OrderKey). district_shelf k.warehouse k.district) order_number m.orders new own l
    → SetsLink m (record m { orders = new }) (key.Order own) l
set_orders m new own l set (key.Order k) = set k
set_orders m new own l set _ = refl

pub set_order_lines : (m : LinkMaps) (new : LinkTable) (own : OrderLineKey) (l : Option OwnedLink)
    → SetsNumber order_line_cmp (λ (k : OrderLineKey). district_shelf k.warehouse k.district) order_line_number
    m.order_lines new own l → SetsLink m (record m { order_lines = new }) (key.OrderLine own) l
set_order_lines m new own l set (key.OrderLine k) = set k
set_order_lines m new own l set _ = refl

pub set_items : (m : LinkMaps) (new : LinkTable) (own : ItemKey) (l : Option OwnedLink)
    → SetsNumber item_cmp (λ (k : ItemKey). 0) item_number m.items new own l
    → SetsLink m (record m { items = new }) (key.Item own) l
set_items m new own l set (key.Item k) = set k
set_items m new own l set _ = refl

pub set_stocks : (m : LinkMaps) (new : LinkTable) (own : StockKey) (l : Option OwnedLink)
    → SetsNumber stock_cmp (λ (k : StockKey). k.warehouse) stock_number m.stocks new own l
    → SetsLink m (record m { stocks = new }) (key.Stock own) l
set_stocks m new own l set (key.Stock k) = set k
set_stocks m new own l set _ = refl

-- places are given in one table
pub give_warehouses : (m : LinkMaps) (new : LinkTable) (own : WarehouseKey)
    → GivesNumbers (λ (k : WarehouseKey). 0) warehouse_number m.warehouses new own
    → GivesPlaces m (record m { warehouses = new }) (key.Warehouse own)
give_warehouses m new own given (key.Warehouse k) = given k
give_warehouses m new own given _ = refl

pub give_districts : (m : LinkMaps) (new : LinkTable) (own : DistrictKey)
    → GivesNumbers (λ (k : DistrictKey). 0) district_number m.districts new own
    → GivesPlaces m (record m { districts = new }) (key.District own)
give_districts m new own given (key.District k) = given k
give_districts m new own given _ = refl

pub give_customers : (m : LinkMaps) (new : LinkTable) (own : CustomerKey)
    → GivesNumbers (λ (k : CustomerKey). district_shelf k.warehouse k.district) customer_number m.customers new own
    → GivesPlaces m (record m { customers = new }) (key.Customer own)
give_customers m new own given (key.Customer k) = given k
give_customers m new own given _ = refl

pub give_histories : (m : LinkMaps) (new : FinMap history_cmp (Option OwnedLink)) (own : HistoryKey)
    → GivesHistory m.histories new own → GivesPlaces m (record m { histories = new }) (key.History own)
give_histories m new own given (key.History k) = given k
give_histories m new own given _ = refl

pub give_new_orders : (m : LinkMaps) (new : LinkTable) (own : NewOrderKey)
    → GivesNumbers (λ (k : NewOrderKey). district_shelf k.warehouse k.district) new_order_number m.new_orders new own
    → GivesPlaces m (record m { new_orders = new }) (key.NewOrder own)
give_new_orders m new own given (key.NewOrder k) = given k
give_new_orders m new own given _ = refl

pub give_orders : (m : LinkMaps) (new : LinkTable) (own : OrderKey)
    → GivesNumbers (λ (k : OrderKey). district_shelf k.warehouse k.district) order_number m.orders new own
    → GivesPlaces m (record m { orders = new }) (key.Order own)
give_orders m new own given (key.Order k) = given k
give_orders m new own given _ = refl

pub give_order_lines : (m : LinkMaps) (new : LinkTable) (own : OrderLineKey)
    → GivesNumbers (λ (k : OrderLineKey). district_shelf k.warehouse k.district) order_line_number m.order_lines new own
    → GivesPlaces m (record m { order_lines = new }) (key.OrderLine own)
give_order_lines m new own given (key.OrderLine k) = given k
give_order_lines m new own given _ = refl

pub give_items : (m : LinkMaps) (new : LinkTable) (own : ItemKey)
    → GivesNumbers (λ (k : ItemKey). 0) item_number m.items new own
    → GivesPlaces m (record m { items = new }) (key.Item own)
give_items m new own given (key.Item k) = given k
give_items m new own given _ = refl

pub give_stocks : (m : LinkMaps) (new : LinkTable) (own : StockKey)
    → GivesNumbers (λ (k : StockKey). k.warehouse) stock_number m.stocks new own
    → GivesPlaces m (record m { stocks = new }) (key.Stock own)
give_stocks m new own given (key.Stock k) = given k
give_stocks m new own given _ = refl

-- a link is inserted in one table
pub insert_warehouses : (m : LinkMaps) (new : LinkTable) (own : WarehouseKey) (l : Option OwnedLink)
    → InsertsNumber warehouse_cmp (λ (k : WarehouseKey). 0) warehouse_number m.warehouses new own l
    → InsertsLink m (record m { warehouses = new }) (key.Warehouse own) l
insert_warehouses m new own l set (key.Warehouse k) = set k
insert_warehouses m new own l set _ = refl

pub insert_districts : (m : LinkMaps) (new : LinkTable) (own : DistrictKey) (l : Option OwnedLink)
    → InsertsNumber district_cmp (λ (k : DistrictKey). 0) district_number m.districts new own l
    → InsertsLink m (record m { districts = new }) (key.District own) l
insert_districts m new own l set (key.District k) = set k
insert_districts m new own l set _ = refl

pub insert_customers : (m : LinkMaps) (new : LinkTable) (own : CustomerKey) (l : Option OwnedLink)
    → InsertsNumber customer_cmp (λ (k : CustomerKey). district_shelf k.warehouse k.district) customer_number
    m.customers new own l → InsertsLink m (record m { customers = new }) (key.Customer own) l
insert_customers m new own l set (key.Customer k) = set k
insert_customers m new own l set _ = refl

pub insert_histories : (m : LinkMaps) (new : FinMap history_cmp (Option OwnedLink)) (own : HistoryKey)
    (l : Option OwnedLink) → SetsHistory m.histories new own l
    → InsertsLink m (record m { histories = new }) (key.History own) l
insert_histories m new own l set (key.History k) =
    set k ∙ twice (eq_by_cmp history_cmp own k) (Some l) (Some (link_in (get m.histories k))) (get m.histories k)
insert_histories m new own l set _ = refl

pub insert_new_orders : (m : LinkMaps) (new : LinkTable) (own : NewOrderKey) (l : Option OwnedLink)
    → InsertsNumber new_order_cmp (λ (k : NewOrderKey). district_shelf k.warehouse k.district) new_order_number
    m.new_orders new own l → InsertsLink m (record m { new_orders = new }) (key.NewOrder own) l
insert_new_orders m new own l set (key.NewOrder k) = set k
insert_new_orders m new own l set _ = refl

pub insert_orders : (m : LinkMaps) (new : LinkTable) (own : OrderKey) (l : Option OwnedLink)
    → InsertsNumber order_cmp (λ (k : OrderKey). district_shelf k.warehouse k.district) order_number m.orders new own l
    → InsertsLink m (record m { orders = new }) (key.Order own) l
insert_orders m new own l set (key.Order k) = set k
insert_orders m new own l set _ = refl

pub insert_order_lines : (m : LinkMaps) (new : LinkTable) (own : OrderLineKey) (l : Option OwnedLink)
    → InsertsNumber order_line_cmp (λ (k : OrderLineKey). district_shelf k.warehouse k.district) order_line_number
    m.order_lines new own l → InsertsLink m (record m { order_lines = new }) (key.OrderLine own) l
insert_order_lines m new own l set (key.OrderLine k) = set k
insert_order_lines m new own l set _ = refl

pub insert_items : (m : LinkMaps) (new : LinkTable) (own : ItemKey) (l : Option OwnedLink)
    → InsertsNumber item_cmp (λ (k : ItemKey). 0) item_number m.items new own l
    → InsertsLink m (record m { items = new }) (key.Item own) l
insert_items m new own l set (key.Item k) = set k
insert_items m new own l set _ = refl

pub insert_stocks : (m : LinkMaps) (new : LinkTable) (own : StockKey) (l : Option OwnedLink)
    → InsertsNumber stock_cmp (λ (k : StockKey). k.warehouse) stock_number m.stocks new own l
    → InsertsLink m (record m { stocks = new }) (key.Stock own) l
insert_stocks m new own l set (key.Stock k) = set k
insert_stocks m new own l set _ = refl

-- a link put in a key's place is set there
pub sets_with : (m : LinkMaps) (k : Key) (l : Option OwnedLink) → HasPlace m k → SetsLink m (with_link m k l) k l
sets_with m (key.Warehouse k) l had = set_warehouses m (with_number m.warehouses 0 (warehouse_number k) l) k l
    (sets_number warehouse_total exact_warehouse (λ (k : WarehouseKey). 0) warehouse_number warehouse_numbered
    m.warehouses k l had)
sets_with m (key.District k) l had = set_districts m (with_number m.districts 0 (district_number k) l) k l
    (sets_number district_total exact_district (λ (k : DistrictKey). 0) district_number district_numbered m.districts k
    l had)
sets_with m (key.Customer k) l had = set_customers m
    (with_number m.customers (district_shelf k.warehouse k.district) (customer_number k) l) k l
    (sets_number customer_total exact_customer (λ (k : CustomerKey). district_shelf k.warehouse k.district)
    customer_number customer_numbered m.customers k l had)
sets_with m (key.History k) l had = set_histories m (insert m.histories k l) k l (history_inserted m.histories k l)
sets_with m (key.NewOrder k) l had = set_new_orders m
    (with_number m.new_orders (district_shelf k.warehouse k.district) (new_order_number k) l) k l
    (sets_number new_order_total exact_new_order (λ (k : NewOrderKey). district_shelf k.warehouse k.district)
    new_order_number new_order_numbered m.new_orders k l had)
sets_with m (key.Order k) l had = set_orders m
    (with_number m.orders (district_shelf k.warehouse k.district) (order_number k) l) k l
    (sets_number order_total exact_order (λ (k : OrderKey). district_shelf k.warehouse k.district) order_number
    order_numbered m.orders k l had)
sets_with m (key.OrderLine k) l had = set_order_lines m
    (with_number m.order_lines (district_shelf k.warehouse k.district) (order_line_number k) l) k l
    (sets_number order_line_total exact_order_line (λ (k : OrderLineKey). district_shelf k.warehouse k.district)
    order_line_number order_line_numbered m.order_lines k l had)
sets_with m (key.Item k) l had = set_items m (with_number m.items 0 (item_number k) l) k l
    (sets_number item_total exact_item (λ (k : ItemKey). 0) item_number item_numbered m.items k l had)
sets_with m (key.Stock k) l had = set_stocks m (with_number m.stocks k.warehouse (stock_number k) l) k l
    (sets_number stock_total exact_stock (λ (k : StockKey). k.warehouse) stock_number stock_numbered m.stocks k l had)

history_same : (m : FinMap history_cmp (Option OwnedLink)) (k : HistoryKey) (l : Option OwnedLink) → get m k ≡ Some l
    → insert m k l ≡ m
history_same m k l e = same history_total exact_history _ _
    (λ q. get-insert history_total m k l q ∙ by_key q (eq_by_cmp history_cmp q k) refl)
  where
    by_key : (q : HistoryKey) (b : Bool) → eq_by_cmp history_cmp q k ≡ b → cond b (Some l) (get m q) ≡ get m q
    by_key q true t = sym e ∙ ap (get m) (sym (is_same history_total exact_history q k t))
    by_key q false t = refl

-- and changes nothing where it stands there
pub with_same : (m : LinkMaps) (k : Key) (l : Option OwnedLink) → place_of m k ≡ Some l → with_link m k l ≡ m
with_same m (key.Warehouse k) l e = ap (λ t. record m { warehouses = t })
    (number_same m.warehouses 0 (warehouse_number k) l e)
with_same m (key.District k) l e = ap (λ t. record m { districts = t })
    (number_same m.districts 0 (district_number k) l e)
with_same m (key.Customer k) l e = ap (λ t. record m { customers = t })
    (number_same m.customers (district_shelf k.warehouse k.district) (customer_number k) l e)
with_same m (key.History k) l e = ap (λ t. record m { histories = t }) (history_same m.histories k l e)
with_same m (key.NewOrder k) l e = ap (λ t. record m { new_orders = t })
    (number_same m.new_orders (district_shelf k.warehouse k.district) (new_order_number k) l e)
with_same m (key.Order k) l e = ap (λ t. record m { orders = t })
    (number_same m.orders (district_shelf k.warehouse k.district) (order_number k) l e)
with_same m (key.OrderLine k) l e = ap (λ t. record m { order_lines = t })
    (number_same m.order_lines (district_shelf k.warehouse k.district) (order_line_number k) l e)
with_same m (key.Item k) l e = ap (λ t. record m { items = t }) (number_same m.items 0 (item_number k) l e)
with_same m (key.Stock k) l e = ap (λ t. record m { stocks = t })
    (number_same m.stocks k.warehouse (stock_number k) l e)

-- a key that comes with one that has a place has one too
pub comes_placed : (m : LinkMaps) (own k : Key) → comes_with own k ≡ true → HasPlace m own → HasPlace m k
comes_placed m (key.Warehouse j) (key.Warehouse k) h had = not_above_placed m.warehouses 0 (warehouse_number j) 0
    (warehouse_number k) h had
comes_placed m (key.District j) (key.District k) h had = not_above_placed m.districts 0 (district_number j) 0
    (district_number k) h had
comes_placed m (key.Customer j) (key.Customer k) h had = not_above_placed m.customers
    (district_shelf j.warehouse j.district) (customer_number j) (district_shelf k.warehouse k.district)
    (customer_number k) h had
comes_placed m (key.History j) (key.History k) h had = subst (λ q. IsSome (get m.histories q))
    (is_same history_total exact_history j k h) had
comes_placed m (key.NewOrder j) (key.NewOrder k) h had = not_above_placed m.new_orders
    (district_shelf j.warehouse j.district) (new_order_number j) (district_shelf k.warehouse k.district)
    (new_order_number k) h had
comes_placed m (key.Order j) (key.Order k) h had = not_above_placed m.orders (district_shelf j.warehouse j.district)
    (order_number j) (district_shelf k.warehouse k.district) (order_number k) h had
comes_placed m (key.OrderLine j) (key.OrderLine k) h had = not_above_placed m.order_lines
    (district_shelf j.warehouse j.district) (order_line_number j) (district_shelf k.warehouse k.district)
    (order_line_number k) h had
comes_placed m (key.Item j) (key.Item k) h had = not_above_placed m.items 0 (item_number j) 0 (item_number k) h had
comes_placed m (key.Stock j) (key.Stock k) h had = not_above_placed m.stocks j.warehouse (stock_number j) k.warehouse
    (stock_number k) h had
comes_placed m _ _ h had = cc

none_numbered : (s : ℕ) (o : Option ℕ) → link_in (link_by_number [] s o) ≡ None
none_numbered s None = refl
none_numbered s (Some n) = refl

-- where no key has a place none has a link
pub no_link : (k : Key) → links_of no_links k ≡ None
no_link (key.Warehouse k) = none_numbered 0 (warehouse_number k)
no_link (key.District k) = none_numbered 0 (district_number k)
no_link (key.Customer k) = none_numbered (district_shelf k.warehouse k.district) (customer_number k)
no_link (key.History k) = ap link_in (get-empty history_cmp k)
no_link (key.NewOrder k) = none_numbered (district_shelf k.warehouse k.district) (new_order_number k)
no_link (key.Order k) = none_numbered (district_shelf k.warehouse k.district) (order_number k)
no_link (key.OrderLine k) = none_numbered (district_shelf k.warehouse k.district) (order_line_number k)
no_link (key.Item k) = none_numbered 0 (item_number k)
no_link (key.Stock k) = none_numbered k.warehouse (stock_number k)
