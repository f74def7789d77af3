-- The names of locks, what each governs, and what may be read of a row without its lock.
use Rattle.std.specs.Prelude.{ℕ, Bool, true, false, ◌&&◌, cond, is_some, List, Option, None, Some, option_and_then}
use Rattle.std.specs.Ordering.{eq_by_cmp, nat_cmp}
use Rattle.std.specs.Cmp.Lexicographic.{slice_cmp}
use Rattle.oe_theory.specs.Machine.{Guard, Free, Under, Own, Hold}
use Rattle.oe_theory.specs.Machine as theory
use Rattle.oe_rows.specs.Key.{warehouse_cmp, district_cmp, customer_cmp, order_cmp, stock_cmp}
use Rattle.oe_rows.specs.declared.keys.WarehouseKey.{WarehouseKey}
use Rattle.oe_rows.specs.declared.keys.DistrictKey.{DistrictKey}
use Rattle.oe_rows.specs.declared.keys.CustomerKey.{CustomerKey}
use Rattle.oe_rows.specs.declared.keys.ItemKey.{ItemKey}
use Rattle.oe_rows.specs.declared.keys.StockKey.{StockKey}
use Rattle.oe_rows.specs.declared.keys.Key.{Key}
use Rattle.oe_rows.specs.declared.keys.Key.TheVariants as key
use Rattle.oe_rows.specs.declared.rows.Row.{Row}
use Rattle.oe_rows.specs.declared.customers.Customer.{Customer}
use Rattle.oe_rows.specs.declared.locks.Name.{Name}
use Rattle.oe_rows.specs.declared.locks.Name.TheVariants as name
use Rattle.oe_rows.specs.declared.locks.Mode.{Mode}
use Rattle.oe_rows.specs.declared.locks.Mode.TheVariants.{Shared, Exclusive}
use Rattle.oe_model.specs.Keys.{district_of_customer, district_of_new_order, order_of_line}
use Rattle.oe_model.specs.Rows.{as_customer}

abbrev pub is_name : Name → Name → Bool
is_name (name.Warehouse a) (name.Warehouse b) = eq_by_cmp warehouse_cmp a b
is_name (name.District a) (name.District b) = eq_by_cmp district_cmp a b
is_name (name.Customer a) (name.Customer b) = eq_by_cmp customer_cmp a b
is_name (name.Order a) (name.Order b) = eq_by_cmp order_cmp a b
is_name (name.Queue a) (name.Queue b) = eq_by_cmp district_cmp a b
is_name (name.Stock a) (name.Stock b) = eq_by_cmp stock_cmp a b
is_name (name.Names a x) (name.Names b y) = eq_by_cmp district_cmp a b && eq_by_cmp (slice_cmp nat_cmp) x y
is_name _ _ = false

-- a mode, as the theory of transactions has it
abbrev pub mode_of : Mode → theory.Mode
mode_of Shared = theory.Shared
mode_of Exclusive = theory.Exclusive

-- two transactions conflict on a name that both hold where one of them holds it exclusively
abbrev pub conflict : Mode → Mode → Bool
conflict Shared Shared = false
conflict Shared Exclusive = true
conflict Exclusive m = true

abbrev pub hold : Name → theory.Mode → Hold Name
hold n m = record { name = n; mode = m }

-- the name that a row lies under, present or absent: a queue's name is over all NEW-ORDER rows of its district, an
-- order's over its ORDER row and its lines. ITEM rows never change, and a HISTORY row is its own transaction's
abbrev pub governs : Key → Guard Name
governs (key.Warehouse k) = Under (name.Warehouse k)
governs (key.District k) = Under (name.District k)
governs (key.Customer k) = Under (name.Customer k)
governs (key.History k) = Own k.terminal k.number
governs (key.NewOrder k) = Under (name.Queue (district_of_new_order k))
governs (key.Order k) = Under (name.Order k)
governs (key.OrderLine k) = Under (name.Order (order_of_line k))
governs (key.Item k) = Free
governs (key.Stock k) = Under (name.Stock k)

-- what can be read of a row without its lock: whether a row is there, of the tables whose rows never come or go,
-- C_FIRST of a customer with this last name, and the whole of an item
pub data Facet : Type 0 where
  WarehouseThere : WarehouseKey → Facet
  DistrictThere : DistrictKey → Facet
  CustomerThere : CustomerKey → Facet
  CustomerNamed : CustomerKey → List ℕ → Facet
  StockThere : StockKey → Facet
  WholeItem : ItemKey → Facet

pub data Part : Type 0 where
  There : Bool → Part
  First : Option (List ℕ) → Part
  Whole : Option Row → Part

abbrev pub facet_key : Facet → Key
facet_key (WarehouseThere k) = key.Warehouse k
facet_key (DistrictThere k) = key.District k
facet_key (CustomerThere k) = key.Customer k
facet_key (CustomerNamed k last) = key.Customer k
facet_key (StockThere k) = key.Stock k
facet_key (WholeItem k) = key.Item k

-- C_FIRST of a row that is there with this last name
abbrev pub first_if_named : List ℕ → Option Customer → Option (List ℕ)
first_if_named last None = None
first_if_named last (Some x) = cond (eq_by_cmp (slice_cmp nat_cmp) x.name.last last) (Some x.name.first) None

abbrev pub part : Facet → Option Row → Part
part (WarehouseThere k) v = There (is_some v)
part (DistrictThere k) v = There (is_some v)
part (CustomerThere k) v = There (is_some v)
part (CustomerNamed k last) v = First (first_if_named last (option_and_then as_customer v))
part (StockThere k) v = There (is_some v)
part (WholeItem k) v = Whole v

-- the name that a facet lies under: who of a district has a last name lies under this name's lock. The others never
-- change
abbrev pub governs_part : Facet → Guard Name
governs_part (CustomerNamed k last) = Under (name.Names (district_of_customer k) last)
governs_part _ = Free
