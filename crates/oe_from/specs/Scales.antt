-- From how many warehouses, customers and items a load on tables draws.
use Rattle.std.specs.Prelude.{◌≡◌, ℕ, ◌+◌, ◌≤◌, ◌<◌, ◌⊎◌, Option, None, Some, IsSome}
use Rattle.std.specs.FinMap.{get}
use Rattle.oe_rows.specs.declared.scales.Scale.{Scale}
use Rattle.oe_rows.specs.declared.keys.WarehouseKey.{WarehouseKey}
use Rattle.oe_rows.specs.declared.keys.DistrictKey.{DistrictKey}
use Rattle.oe_rows.specs.declared.keys.Key.TheVariants as key
use Rattle.oe_rows.specs.declared.warehouses.Warehouse.{Warehouse}
use Rattle.oe_rows.specs.declared.districts.District.{District}
use Rattle.oe_rows.specs.declared.customers.Customer.{Customer}
use Rattle.oe_rows.specs.declared.items.Item.{Item}
use Rattle.oe_model.specs.Population.{last_name}
use Rattle.oe_model.specs.Rows.{Rows}
use Rattle.oe_from.specs.declared.scales.Gap.{Gap}
use Rattle.oe_from.specs.declared.scales.Gap.TheVariants as gap

abbrev pub warehouse_row : Rows → ℕ → Option Warehouse
warehouse_row r n = get r.warehouses (record { warehouse = n })

abbrev pub district_row : Rows → ℕ → ℕ → Option District
district_row r w d = get r.districts (record { warehouse = w; district = d })

abbrev pub customer_row : Rows → DistrictKey → ℕ → Option Customer
customer_row r d n = get r.customers (record { warehouse = d.warehouse; district = d.district; customer = n })

abbrev pub item_row : Rows → ℕ → Option Item
item_row r n = get r.items (record { item = n })

-- some customer of the district has the last name of that number (clause 4.3.2.3)
abbrev pub has_name : Rows → DistrictKey → ℕ → Type 0
has_name r d n = (c : ℕ) × (x : Customer) × (customer_row r d c ≡ Some x) × (x.name.last ≡ last_name n)

-- each name that a customer up to that number has by the formulas
abbrev pub HasNames : Rows → DistrictKey → ℕ → Type 0
HasNames r d customers = (n : ℕ) → n < customers → n < 1_000 → has_name r d n

-- The warehouse's ten districts have the customers from 1 to this number, which is at most `most`; where it is less,
-- one of them lacks the next.
pub record HasCustomers (r : Rows) (w : WarehouseKey) (most n : ℕ) : Type 0 where
  pub some : (1 ≤ n) × (n ≤ most)
  pub all : (d : ℕ) → 1 ≤ d → d ≤ 10 → (c : ℕ) → 1 ≤ c → c ≤ n
      → IsSome (customer_row r (record { warehouse = w.warehouse; district = d }) c)
  pub last : (n ≡ most) ⊎ ((d : ℕ) × (1 ≤ d) × (d ≤ 10)
      × (customer_row r (record { warehouse = w.warehouse; district = d }) (n + 1) ≡ None))

-- the warehouses are those from 1 to n, and no others; and so are the items
abbrev pub HasWarehouses : Rows → ℕ → Type 0
HasWarehouses r n = (1 ≤ n) × (n ≤ 16) × ((w : ℕ) → 1 ≤ w → w ≤ n → IsSome (warehouse_row r w))
    × ((w : ℕ) → n < w → w ≤ 16 → warehouse_row r w ≡ None)

abbrev pub HasItems : Rows → ℕ → Type 0
HasItems r n = (1 ≤ n) × (n ≤ 100_000) × ((i : ℕ) → 1 ≤ i → i ≤ n → IsSome (item_row r i))
    × ((i : ℕ) → n < i → i ≤ 100_000 → item_row r i ≡ None)

-- each district of these warehouses has the customers from 1 to n, and one of them lacks the next
abbrev pub HaveCustomers : Rows → ℕ → ℕ → Type 0
HaveCustomers r warehouses n = (1 ≤ n) × (n ≤ 3_000)
    × ((w d c : ℕ) → 1 ≤ w → w ≤ warehouses → 1 ≤ d → d ≤ 10 → 1 ≤ c → c ≤ n
    → IsSome (customer_row r (record { warehouse = w; district = d }) c))
    × ((n ≡ 3_000) ⊎ ((w : ℕ) × (d : ℕ) × (1 ≤ w) × (w ≤ warehouses) × (1 ≤ d) × (d ≤ 10)
    × (customer_row r (record { warehouse = w; district = d }) (n + 1) ≡ None)))

-- each district of the warehouse has the last names of that number of customers
abbrev pub AreNamed : Rows → WarehouseKey → ℕ → Type 0
AreNamed r w customers =
    (d : ℕ) → 1 ≤ d → d ≤ 10 → HasNames r (record { warehouse = w.warehouse; district = d }) customers

abbrev pub AllNamed : Rows → Scale → Type 0
AllNamed r s = (w : ℕ) → 1 ≤ w → w ≤ s.warehouses → AreNamed r (record { warehouse = w }) s.customers

-- The scale of tables. What a load draws by it (clauses 2.4.1 to 2.8.1) is there: a warehouse, a district's customer by
-- number or last name, and an item, but for an unused one.
pub record HasScale (r : Rows) (s : Scale) : Type 0 where
  pub warehouses : HasWarehouses r s.warehouses
  pub customers : HaveCustomers r s.warehouses s.customers
  pub items : HasItems r s.items
  pub names : AllNamed r s

-- what is named is not there
abbrev pub LacksFor : Rows → Gap → Type 0
LacksFor r (gap.Row (key.Warehouse k)) = get r.warehouses k ≡ None
LacksFor r (gap.Row (key.District k)) = get r.districts k ≡ None
LacksFor r (gap.Row (key.Customer k)) = get r.customers k ≡ None
LacksFor r (gap.Row (key.Item k)) = get r.items k ≡ None
LacksFor r (gap.Row k) = ⊥
LacksFor r (gap.Name d n) = (n < 1_000) × (has_name r d n → ⊥)
