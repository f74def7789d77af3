-- What a walk over the keys of a table still has to give.
use Rattle.std.specs.Prelude.{List, map}
use Rattle.oe_rows.specs.declared.keys.Key.{Key}
use Rattle.oe_rows.specs.declared.keys.Key.TheVariants as key
use Rattle.oe_store.specs.declared.key_walks.PlaceWalk.{PlaceWalk}
use Rattle.oe_store.specs.declared.key_walks.PlaceWalk.TheVariants as walk

-- the keys that it has not given yet
abbrev pub keys_left : PlaceWalk → List Key
keys_left (walk.Warehouses es) = map (λ e. key.Warehouse e.0) es
keys_left (walk.Districts es) = map (λ e. key.District e.0) es
keys_left (walk.Customers es) = map (λ e. key.Customer e.0) es
keys_left (walk.Histories es) = map (λ e. key.History e.0) es
keys_left (walk.NewOrders es) = map (λ e. key.NewOrder e.0) es
keys_left (walk.Orders es) = map (λ e. key.Order e.0) es
keys_left (walk.OrderLines es) = map (λ e. key.OrderLine e.0) es
keys_left (walk.Items es) = map (λ e. key.Item e.0) es
keys_left (walk.Stocks es) = map (λ e. key.Stock e.0) es
