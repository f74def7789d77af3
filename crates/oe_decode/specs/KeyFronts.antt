-- The key at the front of bytes, and those behind it: column after column, each in its range.
use Rattle.std.specs.Prelude.{◌≡◌, ℕ, List, Option}
use Rattle.oe_values.specs.declared.numbers.TheConstants.{TERMINALS}
use Rattle.oe_rows.specs.Key.{table_of}
use Rattle.oe_rows.specs.declared.keys.WarehouseKey.{WarehouseKey}
use Rattle.oe_rows.specs.declared.keys.DistrictKey.{DistrictKey}
use Rattle.oe_rows.specs.declared.keys.CustomerKey.{CustomerKey}
use Rattle.oe_rows.specs.declared.keys.HistoryKey.{HistoryKey}
use Rattle.oe_rows.specs.declared.keys.NewOrderKey.{NewOrderKey}
use Rattle.oe_rows.specs.declared.keys.OrderKey.{OrderKey}
use Rattle.oe_rows.specs.declared.keys.OrderLineKey.{OrderLineKey}
use Rattle.oe_rows.specs.declared.keys.ItemKey.{ItemKey}
use Rattle.oe_rows.specs.declared.keys.StockKey.{StockKey}
use Rattle.oe_rows.specs.declared.keys.Key.{Key}
use Rattle.oe_rows.specs.declared.keys.Key.TheVariants as key
use Rattle.oe_rows.specs.declared.keys.Table.{Table}
use Rattle.oe_rows.specs.declared.keys.Table.TheVariants as table
use Rattle.oe_decode.specs.Fronts.{front_as, pair_at, ranged_at}
use Rattle.oe_image.specs.Keys.{IsKey}

unfoldable pub warehouse_key_at : List ℕ → Option (WarehouseKey × List ℕ)
warehouse_key_at bytes = front_as (λ p. record { warehouse = p }) (ranged_at 2 1 16 bytes)

unfoldable pub district_key_at : List ℕ → Option (DistrictKey × List ℕ)
district_key_at bytes =
    front_as (λ p. record { warehouse = p.0; district = p.1 })
    (pair_at (ranged_at 2 1 16) (ranged_at 1 1 10) bytes)

unfoldable pub customer_key_at : List ℕ → Option (CustomerKey × List ℕ)
customer_key_at bytes =
    front_as (λ p. record { warehouse = p.0; district = p.1.0; customer = p.1.1 })
    (pair_at (ranged_at 2 1 16) (pair_at (ranged_at 1 1 10) (ranged_at 2 1 3_000)) bytes)

unfoldable pub history_key_at : List ℕ → Option (HistoryKey × List ℕ)
history_key_at bytes =
    front_as (λ p. record { terminal = p.0; number = p.1.0; ordinal = p.1.1 })
    (pair_at (ranged_at 2 0 TERMINALS) (pair_at (ranged_at 4 0 4_294_967_295) (ranged_at 1 1 1)) bytes)

unfoldable pub new_order_key_at : List ℕ → Option (NewOrderKey × List ℕ)
new_order_key_at bytes =
    front_as (λ p. record { warehouse = p.0; district = p.1.0; order = p.1.1 })
    (pair_at (ranged_at 2 1 16) (pair_at (ranged_at 1 1 10) (ranged_at 4 1 10_000_000)) bytes)

unfoldable pub order_key_at : List ℕ → Option (OrderKey × List ℕ)
order_key_at bytes =
    front_as (λ p. record { warehouse = p.0; district = p.1.0; order = p.1.1 })
    (pair_at (ranged_at 2 1 16) (pair_at (ranged_at 1 1 10) (ranged_at 4 1 10_000_000)) bytes)

unfoldable pub order_line_key_at : List ℕ → Option (OrderLineKey × List ℕ)
order_line_key_at bytes =
    front_as (λ p. record { warehouse = p.0; district = p.1.0; order = p.1.1.0; number = p.1.1.1 })
    (pair_at (ranged_at 2 1 16)
    (pair_at (ranged_at 1 1 10) (pair_at (ranged_at 4 1 10_000_000) (ranged_at 1 1 15))) bytes)

unfoldable pub item_key_at : List ℕ → Option (ItemKey × List ℕ)
item_key_at bytes = front_as (λ p. record { item = p }) (ranged_at 4 1 100_000 bytes)

unfoldable pub stock_key_at : List ℕ → Option (StockKey × List ℕ)
stock_key_at bytes =
    front_as (λ p. record { warehouse = p.0; item = p.1 })
    (pair_at (ranged_at 2 1 16) (ranged_at 4 1 100_000) bytes)

-- the key of a table
abbrev pub key_at : Table → List ℕ → Option (Key × List ℕ)
key_at table.Warehouse bytes = front_as (λ k. key.Warehouse k) (warehouse_key_at bytes)
key_at table.District bytes = front_as (λ k. key.District k) (district_key_at bytes)
key_at table.Customer bytes = front_as (λ k. key.Customer k) (customer_key_at bytes)
key_at table.History bytes = front_as (λ k. key.History k) (history_key_at bytes)
key_at table.NewOrder bytes = front_as (λ k. key.NewOrder k) (new_order_key_at bytes)
key_at table.Order bytes = front_as (λ k. key.Order k) (order_key_at bytes)
key_at table.OrderLine bytes = front_as (λ k. key.OrderLine k) (order_line_key_at bytes)
key_at table.Item bytes = front_as (λ k. key.Item k) (item_key_at bytes)
key_at table.Stock bytes = front_as (λ k. key.Stock k) (stock_key_at bytes)

-- a key of that table, in its ranges
abbrev pub IsKeyOf : Table → Key → Type 0
IsKeyOf t k = (table_of k ≡ t) × IsKey k
