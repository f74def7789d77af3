-- The keys of one table that have a place, in their order.
use Rattle.std.specs.Prelude.{List, map}
use Rattle.oe_rows.specs.declared.keys.Key.{Key}
use Rattle.oe_rows.specs.declared.keys.Key.TheVariants as key
use Rattle.oe_rows.specs.declared.keys.Table.{Table}
use Rattle.oe_rows.specs.declared.keys.Table.TheVariants as table
use Rattle.oe_store.specs.Places.{Places}

-- the keys that have a place, blanked ones too
abbrev pub placed_keys : Table → Places → List Key
placed_keys table.Warehouse s = map (λ e. key.Warehouse e.0) s.warehouses
placed_keys table.District s = map (λ e. key.District e.0) s.districts
placed_keys table.Customer s = map (λ e. key.Customer e.0) s.customers
placed_keys table.History s = map (λ e. key.History e.0) s.histories
placed_keys table.NewOrder s = map (λ e. key.NewOrder e.0) s.new_orders
placed_keys table.Order s = map (λ e. key.Order e.0) s.orders
placed_keys table.OrderLine s = map (λ e. key.OrderLine e.0) s.order_lines
placed_keys table.Item s = map (λ e. key.Item e.0) s.items
placed_keys table.Stock s = map (λ e. key.Stock e.0) s.stocks
