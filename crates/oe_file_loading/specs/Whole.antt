-- Nine tables that have exactly the rows of nine files, and files whose rows lack one.
use Rattle.std.specs.Prelude.{◌≡◌, ◌↔◌, ◌⊎◌, List, ◌∷◌, Some}
use Rattle.std.specs.Int.{IsInRange}
use Rattle.std.specs.declared.cmp.Ordering.{Ordering}
use Rattle.std.specs.FinMap.{FinMap, get}
use Rattle.oe_rows.specs.declared.keys.DistrictKey.{DistrictKey}
use Rattle.oe_rows.specs.declared.keys.Key.{Key}
use Rattle.oe_rows.specs.declared.keys.Key.TheVariants as key
use Rattle.oe_rows.specs.declared.histories.History.{History}
use Rattle.oe_rows.specs.declared.orders.Order.{Order}
use Rattle.oe_rows.specs.declared.orders.OrderLine.{OrderLine}
use Rattle.oe_model.specs.Keys.{warehouse_of_district, district_of_customer, order_of_new_order, customer_of_order}
use Rattle.oe_model.specs.Keys.{order_of_line, supply_of_line, warehouse_of_stock, item_of_stock}
use Rattle.oe_model.specs.Rows.{Rows}
use Rattle.oe_file_tables.specs.declared.formats.Format.{Format}
use Rattle.oe_file_tables.specs.declared.lines.Numbered.{Numbered}
use Rattle.oe_file_loading.specs.declared.loading.Apart.{Apart}
use Rattle.oe_file_loading.specs.declared.whole.NotWhole.{NotWhole}
use Rattle.oe_file_loading.specs.declared.whole.NotWhole.TheVariants as error
use Rattle.oe_file_loading.specs.Loaded.{NineRows, FilesRead, FilesPut, IsNotLoaded}
use Rattle.oe_file_loading.specs.Loading.{Nine}
use Rattle.oe_file_loading.specs.Placing.{IsRowOf, IsKeyOf}

-- a table has a row exactly where a line of its file spells it
abbrev pub HasRowsOf : {K X : Type 0} {R : K → K → Ordering} → List (Numbered K X) → FinMap R X → Type 0
HasRowsOf {K} {X} ns m = (k : K) (x : X) → (get m k ≡ Some x) ↔ IsRowOf ns k x

-- each table does
pub record HaveRowsOf (f : NineRows) (r : Rows) : Type 0 where
  pub warehouses : HasRowsOf f.warehouses r.warehouses
  pub districts : HasRowsOf f.districts r.districts
  pub customers : HasRowsOf f.customers r.customers
  pub histories : HasRowsOf f.histories r.histories
  pub new_orders : HasRowsOf f.new_orders r.new_orders
  pub orders : HasRowsOf f.orders r.orders
  pub order_lines : HasRowsOf f.order_lines r.order_lines
  pub items : HasRowsOf f.items r.items
  pub stocks : HasRowsOf f.stocks r.stocks

-- the files were read to their ends, and the tables have exactly their rows
pub record AreWhole (format : Format) (old new : Nine) (end : Rows) : Type 0 where
  pub files : NineRows
  pub read : FilesRead format old new files
  pub rows : HaveRowsOf files end

-- a line has a row with this key
abbrev pub HasLine : NineRows → Key → Type 0
HasLine f (key.Warehouse k) = IsKeyOf f.warehouses k
HasLine f (key.District k) = IsKeyOf f.districts k
HasLine f (key.Customer k) = IsKeyOf f.customers k
HasLine f (key.History k) = IsKeyOf f.histories k
HasLine f (key.NewOrder k) = IsKeyOf f.new_orders k
HasLine f (key.Order k) = IsKeyOf f.orders k
HasLine f (key.OrderLine k) = IsKeyOf f.order_lines k
HasLine f (key.Item k) = IsKeyOf f.items k
HasLine f (key.Stock k) = IsKeyOf f.stocks k

-- A line's row, of the first key, refers to the second (clauses 1.3 and 1.4). A warehouse refers to its ten districts
-- (clause 1.2.1).
abbrev pub RefersTo : NineRows → Key → Key → Type 0
RefersTo f (key.Warehouse k) m =
    IsKeyOf f.warehouses k
    × ((d : DistrictKey) × (m ≡ key.District d) × (warehouse_of_district d ≡ k) × IsInRange 1 10 d.district)
RefersTo f (key.District k) m = IsKeyOf f.districts k × (m ≡ key.Warehouse (warehouse_of_district k))
RefersTo f (key.Customer k) m = IsKeyOf f.customers k × (m ≡ key.District (district_of_customer k))
RefersTo f (key.History k) m =
    (x : History) × IsRowOf f.histories k x × ((m ≡ key.Customer x.customer) ⊎ (m ≡ key.District x.district))
RefersTo f (key.NewOrder k) m = IsKeyOf f.new_orders k × (m ≡ key.Order (order_of_new_order k))
RefersTo f (key.Order k) m = (x : Order) × IsRowOf f.orders k x × (m ≡ key.Customer (customer_of_order k x))
RefersTo f (key.OrderLine k) m =
    (x : OrderLine) × IsRowOf f.order_lines k x × ((m ≡ key.Order (order_of_line k)) ⊎ (m ≡ key.Stock (supply_of_line
    x)))
RefersTo f (key.Item k) m = ⊥
RefersTo f (key.Stock k) m =
    IsKeyOf f.stocks k × ((m ≡ key.Warehouse (warehouse_of_stock k)) ⊎ (m ≡ key.Item (item_of_stock k)))

-- a row of the files refers to a row that no line has
pub record LacksIn (f : NineRows) (a : Apart) : Type 0 where
  pub refers : RefersTo f a.key a.missing
  pub missing : HasLine f a.missing → ⊥

-- it is the first that is set apart as these rows are put, table by table, with the first row that it lacks
abbrev pub IsFirstApart : NineRows → Apart → Type 0
IsFirstApart f a = (end : Rows) × (others : List Apart) × FilesPut f end (a ∷ others)

-- the files were read to their ends, and a row of theirs lacks one: the first that does
abbrev pub LacksRow : Format → Nine → Nine → Apart → Type 0
LacksRow format old new a = (f : NineRows) × FilesRead format old new f × LacksIn f a × IsFirstApart f a

-- no tables: a row lacks one, and the first that does is named; or the files are not loaded
abbrev pub IsNotWhole : Format → Nine → Nine → NotWhole → Type 0
IsNotWhole format old new (error.Apart a) = LacksRow format old new a
IsNotWhole format old new (error.Unloaded e) = IsNotLoaded format old new e
