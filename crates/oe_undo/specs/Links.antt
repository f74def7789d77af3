-- Links, and the places that keep them. A key without a link may have a place for one. HISTORY's keys have theirs in a
-- finite map, and the keys of the other tables by their numbers.
use Rattle.std.specs.Prelude.{◌≡◌, ◌↔◌, ◌⊎◌, Bool, true, false, [], cond, Option, Some, IsSome}
use Rattle.std.specs.Ordering.{eq_by_cmp}
use Rattle.std.specs.FinMap.{FinMap, empty, get, insert}
use Rattle.oe_rows.specs.Key.{history_cmp}
use Rattle.oe_rows.specs.KeyShelves.{district_shelf}
use Rattle.oe_rows.specs.declared.keys.Key.{Key}
use Rattle.oe_rows.specs.declared.keys.Key.TheVariants as key
use Rattle.oe_table.specs.Table.{left_of}
use Rattle.oe_model.specs.Rows.{is_key}
use Rattle.oe_undo.specs.declared.links.OwnedLink.{OwnedLink}
use Rattle.oe_undo.specs.Numbers.{warehouse_number, district_number, customer_number, new_order_number, order_number}
use Rattle.oe_undo.specs.Numbers.{order_line_number, item_number, stock_number}
pub use Rattle.oe_undo.specs.Tables.{link_in}
use Rattle.oe_undo.specs.Tables.{LinkTable, link_by_number, with_number, is_not_above}

-- the links by table: of each key that has a place, its link, if it has one
pub record LinkMaps : Type 0 where
  pub warehouses : LinkTable
  pub districts : LinkTable
  pub customers : LinkTable
  pub histories : FinMap history_cmp (Option OwnedLink)
  pub new_orders : LinkTable
  pub orders : LinkTable
  pub order_lines : LinkTable
  pub items : LinkTable
  pub stocks : LinkTable

-- what stands at a key: nothing, an empty place, or a link
abbrev pub place_of : LinkMaps → Key → Option (Option OwnedLink)
place_of m (key.Warehouse k) = link_by_number m.warehouses 0 (warehouse_number k)
place_of m (key.District k) = link_by_number m.districts 0 (district_number k)
place_of m (key.Customer k) = link_by_number m.customers (district_shelf k.warehouse k.district) (customer_number k)
place_of m (key.History k) = get m.histories k
place_of m (key.NewOrder k) = link_by_number m.new_orders (district_shelf k.warehouse k.district) (new_order_number k)
place_of m (key.Order k) = link_by_number m.orders (district_shelf k.warehouse k.district) (order_number k)
place_of m (key.OrderLine k) = link_by_number m.order_lines (district_shelf k.warehouse k.district)
    (order_line_number k)
place_of m (key.Item k) = link_by_number m.items 0 (item_number k)
place_of m (key.Stock k) = link_by_number m.stocks k.warehouse (stock_number k)

-- the key has a place for a link
abbrev pub HasPlace : LinkMaps → Key → Type 0
HasPlace m k = IsSome (place_of m k)

-- the link of a key, if it has one
abbrev pub links_of : LinkMaps → Key → Option OwnedLink
links_of m k = link_in (place_of m k)

-- a key's place has this link, or is empty
abbrev pub with_link : LinkMaps → Key → Option OwnedLink → LinkMaps
with_link m (key.Warehouse k) l = record m { warehouses = with_number m.warehouses 0 (warehouse_number k) l }
with_link m (key.District k) l = record m { districts = with_number m.districts 0 (district_number k) l }
with_link m (key.Customer k) l =
    record m { customers = with_number m.customers (district_shelf k.warehouse k.district) (customer_number k) l }
with_link m (key.History k) l = record m { histories = insert m.histories k l }
with_link m (key.NewOrder k) l =
    record m { new_orders = with_number m.new_orders (district_shelf k.warehouse k.district) (new_order_number k) l }
with_link m (key.Order k) l =
    record m { orders = with_number m.orders (district_shelf k.warehouse k.district) (order_number k) l }
with_link m (key.OrderLine k) l = record m
    { order_lines = with_number m.order_lines (district_shelf k.warehouse k.district) (order_line_number k) l }
with_link m (key.Item k) l = record m { items = with_number m.items 0 (item_number k) l }
with_link m (key.Stock k) l = record m { stocks = with_number m.stocks k.warehouse (stock_number k) l }

-- no key has a place
abbrev pub no_links : LinkMaps
no_links = record {
  warehouses = [];
  districts = [];
  customers = [];
  histories = empty;
  new_orders = [];
  orders = [];
  order_lines = [];
  items = [];
  stocks = [];
}

-- the second key gets a place with the first: it is that key, or one before it on its shelf
abbrev pub comes_with : Key → Key → Bool
comes_with (key.Warehouse j) (key.Warehouse k) = is_not_above 0 (warehouse_number j) 0 (warehouse_number k)
comes_with (key.District j) (key.District k) = is_not_above 0 (district_number j) 0 (district_number k)
comes_with (key.Customer j) (key.Customer k) = is_not_above (district_shelf j.warehouse j.district) (customer_number j)
    (district_shelf k.warehouse k.district) (customer_number k)
comes_with (key.History j) (key.History k) = eq_by_cmp history_cmp j k
comes_with (key.NewOrder j) (key.NewOrder k) = is_not_above (district_shelf j.warehouse j.district) (new_order_number j)
    (district_shelf k.warehouse k.district) (new_order_number k)
comes_with (key.Order j) (key.Order k) = is_not_above (district_shelf j.warehouse j.district) (order_number j)
    (district_shelf k.warehouse k.district) (order_number k)
comes_with (key.OrderLine j) (key.OrderLine k) = is_not_above (district_shelf j.warehouse j.district)
    (order_line_number j) (district_shelf k.warehouse k.district) (order_line_number k)
comes_with (key.Item j) (key.Item k) = is_not_above 0 (item_number j) 0 (item_number k)
comes_with (key.Stock j) (key.Stock k) = is_not_above j.warehouse (stock_number j) k.warehouse (stock_number k)
comes_with _ _ = false

-- the key has this link, or an empty place, and at each other key stands what stood there
abbrev pub SetsLink : LinkMaps → LinkMaps → Key → Option OwnedLink → Type 0
SetsLink old new own l = (k : Key) → place_of new k ≡ cond (is_key own k) (Some l) (place_of old k)

-- the key has a place, and those that get one with it; their links are as they were
abbrev pub GivesPlaces : LinkMaps → LinkMaps → Key → Type 0
GivesPlaces old new own = (k : Key) → place_of new k ≡ cond (comes_with own k) (Some (links_of old k)) (place_of old k)

-- the key has a place, and those that get one with it, and the key has this link
abbrev pub InsertsLink : LinkMaps → LinkMaps → Key → Option OwnedLink → Type 0
InsertsLink old new own l =
    (k : Key) → place_of new k ≡ cond (is_key own k) (Some l)
    (cond (comes_with own k) (Some (links_of old k)) (place_of old k))

-- the key's place is gone where it was empty, and at each other key stands what stood there
abbrev pub GivesUpLink : LinkMaps → LinkMaps → Key → Type 0
GivesUpLink old new own = (k : Key) → place_of new k ≡ cond (is_key own k) (left_of (place_of old k)) (place_of old k)

-- the same keys have places
abbrev pub SamePlaces : LinkMaps → LinkMaps → Type 0
SamePlaces old new = (k : Key) → HasPlace new k ↔ HasPlace old k

-- each key that had a place has it still
abbrev pub KeepsPlaces : LinkMaps → LinkMaps → Type 0
KeepsPlaces old new = (k : Key) → HasPlace old k → HasPlace new k

-- the second key is the first, or gets a place with it
abbrev pub Comes : Key → Key → Type 0
Comes own k = (k ≡ own) ⊎ (comes_with own k ≡ true)

-- no key has a place more but this one, and those that come with it
abbrev pub GivesAtMost : LinkMaps → LinkMaps → Key → Type 0
GivesAtMost old new own = (k : Key) → HasPlace new k → HasPlace old k ⊎ Comes own k

-- the key has this link, whether or not it had a place; all other links are as they were, no place is lost, and none is
-- given where the key had one
pub record LeadsTo (old new : LinkMaps) (own : Key) (l : Option OwnedLink) : Type 0 where
  pub links : (k : Key) → links_of new k ≡ cond (is_key own k) l (links_of old k)
  pub kept : KeepsPlaces old new
  pub placed : HasPlace new own
  pub same : HasPlace old own → SamePlaces old new
  pub given : GivesAtMost old new own
