-- The population by formula lies in the ranges of the columns (clause 1.3.1), and there are tables that have it.
use Rattle.std.specs.Prelude.{◌≡◌, Some, ⊤}
use Rattle.std.specs.Int.{IsInRange}
use Rattle.oe_rows.specs.Key.{IsDistrictKey, IsCustomerKey}
use Rattle.oe_rows.specs.Warehouse.{IsWarehouse}
use Rattle.oe_rows.specs.District.{IsDistrict}
use Rattle.oe_rows.specs.Customer.{IsCustomer}
use Rattle.oe_rows.specs.History.{IsHistory}
use Rattle.oe_rows.specs.Order.{IsOrder, IsOrderLine}
use Rattle.oe_rows.specs.Item.{IsItem, IsStock}
use Rattle.oe_rows.specs.declared.scales.Scale.{Scale}
use Rattle.oe_rows.specs.declared.keys.Key.{Key}
use Rattle.oe_rows.specs.declared.keys.Key.TheVariants as key
use Rattle.oe_rows.specs.declared.rows.Row.{Row}
use Rattle.oe_rows.specs.declared.rows.Row.TheVariants as row
use Rattle.oe_model.specs.Keys.{district_of_new_order, district_of_order, order_of_line}
use Rattle.oe_model.specs.Rows.{Rows}
use Rattle.oe_model.specs.Population.{IsScale, IsPopulated, formula}

-- each key column is in its range
abbrev pub IsKey : Key → Type 0
IsKey (key.Warehouse k) = IsInRange 1 16 k.warehouse
IsKey (key.District k) = IsDistrictKey k
IsKey (key.Customer k) = IsCustomerKey k
IsKey (key.History k) = (k.terminal ≡ 0) × IsInRange 0 4_294_967_295 k.number × (k.ordinal ≡ 1)
IsKey (key.NewOrder k) = IsDistrictKey (district_of_new_order k) × IsInRange 1 10_000_000 k.order
IsKey (key.Order k) = IsDistrictKey (district_of_order k) × IsInRange 1 10_000_000 k.order
IsKey (key.OrderLine k) = IsDistrictKey (district_of_order (order_of_line k)) × IsInRange 1 10_000_000 k.order
    × IsInRange 1 15 k.number
IsKey (key.Item k) = IsInRange 1 100_000 k.item
IsKey (key.Stock k) = IsInRange 1 16 k.warehouse × IsInRange 1 100_000 k.item

-- each other column is in its range
abbrev pub IsRow : Row → Type 0
IsRow (row.Warehouse x) = IsWarehouse x
IsRow (row.District x) = IsDistrict x
IsRow (row.Customer x) = IsCustomer x
IsRow (row.History x) = IsHistory x
IsRow (row.NewOrder x) = ⊤
IsRow (row.Order x) = IsOrder x
IsRow (row.OrderLine x) = IsOrderLine x
IsRow (row.Item x) = IsItem x
IsRow (row.Stock x) = IsStock x

pub record Population_is_in_range : Type 0 where
  pub in_range : (s : Scale) (k : Key) (x : Row) → IsScale s → formula s k ≡ Some x → IsKey k × IsRow x

-- there are tables that have the population
pub record Population_exists : Type 0 where
  pub tables : (s : Scale) → IsScale s → (r : Rows) × IsPopulated s r
