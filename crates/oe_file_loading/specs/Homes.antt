-- Warehouses that have ten districts, and these (clauses 1.2.1 and 1.3).
use Rattle.std.specs.Prelude.{◌≡◌, ◌≤◌, ◌⊎◌, ℕ, zero, suc, ◌+◌, List, [], ◌∷◌, Some, IsSome}
use Rattle.std.specs.Int.{IsInRange}
use Rattle.std.specs.FinMap.{FinMap, get}
use Rattle.oe_model.specs.Keys.{warehouse_of_district}
use Rattle.oe_model.specs.Rows.{Rows}
use Rattle.oe_rows.specs.Key.{warehouse_cmp, district_cmp}
use Rattle.oe_rows.specs.declared.keys.Key.{Key}
use Rattle.oe_rows.specs.declared.keys.Key.TheVariants as key
use Rattle.oe_rows.specs.declared.keys.DistrictKey.{DistrictKey}
use Rattle.oe_rows.specs.declared.keys.WarehouseKey.{WarehouseKey}
use Rattle.oe_rows.specs.declared.districts.District.{District}
use Rattle.oe_rows.specs.declared.warehouses.Warehouse.{Warehouse}
use Rattle.oe_store.specs.Places.{no_rows}
use Rattle.oe_table.specs.Table.{rows_of}
use Rattle.oe_file_tables.specs.declared.lines.Numbered.{Numbered}
use Rattle.oe_file_loading.specs.Placing.{IsRowOf}
use Rattle.oe_file_loading.specs.declared.homes.Homes.{Homes}

-- the keys of `count` districts of a warehouse, from number n on
unfoldable pub districts_from : WarehouseKey → (n count : ℕ) → List Key
districts_from w n zero = []
districts_from w n (suc count) =
    key.District (record { warehouse = w.warehouse; district = n }) ∷ districts_from w (n + 1) count

-- the rows of warehouses and districts, and no other
abbrev pub home_rows : Homes → Rows
home_rows h = record no_rows {
  warehouses = rows_of warehouse_cmp h.warehouses;
  districts = rows_of district_cmp h.districts;
}

-- the districts of that warehouse have rows
abbrev pub HasTen : WarehouseKey → FinMap district_cmp District → Type 0
HasTen w ds =
    (k : DistrictKey) → warehouse_of_district k ≡ w → 1 ≤ k.district → k.district ≤ 10 → IsSome (get ds k)

-- each warehouse has ten districts, and each district its warehouse
pub record AreHomes (ws : FinMap warehouse_cmp Warehouse) (ds : FinMap district_cmp District) : Type 0 where
  pub ten : (w : WarehouseKey) → IsSome (get ws w) → HasTen w ds
  pub home : (k : DistrictKey) → IsSome (get ds k) → IsSome (get ws (warehouse_of_district k))
      × IsInRange 1 10 k.district

-- a district has a row now, and each other as before
pub record PutsDistrict (old new : FinMap district_cmp District) (own : DistrictKey) (row : District) : Type 0 where
  pub grows : (k : DistrictKey) → IsSome (get old k) → IsSome (get new k)
  pub put : IsSome (get new own)
  pub only : (k : DistrictKey) → IsSome (get new k) → IsSome (get old k) ⊎ ((k ≡ own) × IsInRange 1 10 k.district)
  pub rows : (k : DistrictKey) (x : District) → get new k ≡ Some x → (get old k ≡ Some x) ⊎ ((k ≡ own) × (x ≡ row))

-- the districts of these lines
pub record AreDistricts (ds : List (Numbered DistrictKey District)) (all : FinMap district_cmp District) : Type 0 where
  pub found : (k : DistrictKey) (x : District) → get all k ≡ Some x → IsRowOf ds k x
  pub whole : (k : DistrictKey) (x : District) → IsRowOf ds k x → IsSome (get all k)
  pub numbered : (k : DistrictKey) → IsSome (get all k) → IsInRange 1 10 k.district
