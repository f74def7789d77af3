-- Keys are read exactly.
use Rattle.std.proofs.Common.{◌≡◌, ℕ, List, ◌++◌, Some, refl, subst, arith, rules}
use Rattle.oe_rows.specs.Key.{table_of, IsDistrictKey, IsCustomerKey}
use Rattle.oe_rows.specs.declared.keys.Key.{Key}
use Rattle.oe_rows.specs.declared.keys.Key.TheVariants as key
use Rattle.oe_rows.specs.declared.keys.Table.{Table}
use Rattle.oe_rows.specs.declared.keys.Table.TheVariants as table
use Rattle.oe_decode.specs.Fronts.{IsBytes, IsExact}
use Rattle.oe_image.specs.Keys.{warehouse_key, district_key, customer_key, history_key, new_order_key, order_key}
use Rattle.oe_image.specs.Keys.{order_line_key, item_key, stock_key, key_image, IsWarehouseKey, IsHistoryKey}
use Rattle.oe_image.specs.Keys.{IsNewOrderKey, IsOrderKey, IsOrderLineKey, IsItemKey, IsStockKey, IsKey}
use Rattle.oe_decode.specs.KeyFronts.{warehouse_key_at, district_key_at, customer_key_at, history_key_at}
use Rattle.oe_decode.specs.KeyFronts.{new_order_key_at, order_key_at, order_line_key_at, item_key_at, stock_key_at}
use Rattle.oe_decode.specs.KeyFronts.{key_at, IsKeyOf}
use Rattle.oe_decode.specs.Codec.{IsCodec}
use Rattle.oe_decode.specs.FrontFacts.{ranged_law, row_law, pair_law, found_as, finds_as}

pub warehouse_key_law : IsCodec IsWarehouseKey warehouse_key warehouse_key_at
unfolding warehouse_key warehouse_key_at
warehouse_key_law = row_law {g = λ v. v.warehouse} (search rules)
    (ranged_law 2 1 16 (omega arith))

pub district_key_law : IsCodec IsDistrictKey district_key district_key_at
unfolding district_key district_key_at
district_key_law = row_law {g = λ v. (v.warehouse, v.district)} (search rules)
    (pair_law (ranged_law 2 1 16 (omega arith)) (ranged_law 1 1 10 (omega arith)))

pub customer_key_law : IsCodec IsCustomerKey customer_key customer_key_at
unfolding customer_key customer_key_at
customer_key_law = row_law {g = λ v. (v.warehouse, (v.district, v.customer))} (search rules)
    (pair_law (ranged_law 2 1 16 (omega arith))
    (pair_law (ranged_law 1 1 10 (omega arith)) (ranged_law 2 1 3_000 (omega arith))))

pub history_key_law : IsCodec IsHistoryKey history_key history_key_at
unfolding history_key history_key_at
history_key_law = row_law {g = λ v. (v.terminal, (v.number, v.ordinal))} (search rules)
    (pair_law (ranged_law 2 0 64 (omega arith))
    (pair_law (ranged_law 4 0 4_294_967_295 (omega arith)) (ranged_law 1 1 1 (omega arith))))

pub new_order_key_law : IsCodec IsNewOrderKey new_order_key new_order_key_at
unfolding new_order_key new_order_key_at
new_order_key_law = row_law {g = λ v. (v.warehouse, (v.district, v.order))} (search rules)
    (pair_law (ranged_law 2 1 16 (omega arith))
    (pair_law (ranged_law 1 1 10 (omega arith)) (ranged_law 4 1 10_000_000 (omega arith))))

pub order_key_law : IsCodec IsOrderKey order_key order_key_at
unfolding order_key order_key_at
order_key_law = row_law {g = λ v. (v.warehouse, (v.district, v.order))} (search rules)
    (pair_law (ranged_law 2 1 16 (omega arith))
    (pair_law (ranged_law 1 1 10 (omega arith)) (ranged_law 4 1 10_000_000 (omega arith))))

pub order_line_key_law : IsCodec IsOrderLineKey order_line_key order_line_key_at
unfolding order_line_key order_line_key_at
order_line_key_law = row_law {g = λ v. (v.warehouse, (v.district, (v.order, v.number)))} (search rules)
    (pair_law (ranged_law 2 1 16 (omega arith)) (pair_law (ranged_law 1 1 10 (omega arith))
    (pair_law (ranged_law 4 1 10_000_000 (omega arith)) (ranged_law 1 1 15 (omega arith)))))

pub item_key_law : IsCodec IsItemKey item_key item_key_at
unfolding item_key item_key_at
item_key_law = row_law {g = λ v. v.item} (search rules)
    (ranged_law 4 1 100_000 (omega arith))

pub stock_key_law : IsCodec IsStockKey stock_key stock_key_at
unfolding stock_key stock_key_at
stock_key_law = row_law {g = λ v. (v.warehouse, v.item)} (search rules)
    (pair_law (ranged_law 2 1 16 (omega arith)) (ranged_law 4 1 100_000 (omega arith)))

-- ---- the key of a table

key_found : (t : Table) (bytes : List ℕ) → IsBytes bytes → (k : Key) (rest : List ℕ) → key_at t bytes ≡ Some (k, rest)
    → IsKeyOf t k × (bytes ≡ key_image k ++ rest)
key_found table.Warehouse bytes fits k rest e = found_as (λ x. key.Warehouse x) (λ x. IsKeyOf table.Warehouse x)
    key_image (λ x h. (refl, h)) (λ x. refl) warehouse_key_law bytes fits k rest e
key_found table.District bytes fits k rest e = found_as (λ x. key.District x) (λ x. IsKeyOf table.District x) key_image
    (λ x h. (refl, h)) (λ x. refl) district_key_law bytes fits k rest e
key_found table.Customer bytes fits k rest e = found_as (λ x. key.Customer x) (λ x. IsKeyOf table.Customer x) key_image
    (λ x h. (refl, h)) (λ x. refl) customer_key_law bytes fits k rest e
key_found table.History bytes fits k rest e = found_as (λ x. key.History x) (λ x. IsKeyOf table.History x) key_image
    (λ x h. (refl, h)) (λ x. refl) history_key_law bytes fits k rest e
key_found table.NewOrder bytes fits k rest e = found_as (λ x. key.NewOrder x) (λ x. IsKeyOf table.NewOrder x) key_image
    (λ x h. (refl, h)) (λ x. refl) new_order_key_law bytes fits k rest e
key_found table.Order bytes fits k rest e = found_as (λ x. key.Order x) (λ x. IsKeyOf table.Order x) key_image
    (λ x h. (refl, h)) (λ x. refl) order_key_law bytes fits k rest e
key_found table.OrderLine bytes fits k rest e = found_as (λ x. key.OrderLine x) (λ x. IsKeyOf table.OrderLine x)
    key_image (λ x h. (refl, h)) (λ x. refl) order_line_key_law bytes fits k rest e
key_found table.Item bytes fits k rest e = found_as (λ x. key.Item x) (λ x. IsKeyOf table.Item x) key_image
    (λ x h. (refl, h)) (λ x. refl) item_key_law bytes fits k rest e
key_found table.Stock bytes fits k rest e = found_as (λ x. key.Stock x) (λ x. IsKeyOf table.Stock x) key_image
    (λ x h. (refl, h)) (λ x. refl) stock_key_law bytes fits k rest e

key_finds : (k : Key) (bytes rest : List ℕ) → IsKey k → bytes ≡ key_image k ++ rest
    → key_at (table_of k) bytes ≡ Some (k, rest)
key_finds (key.Warehouse x) bytes rest h e = finds_as (λ x. key.Warehouse x) warehouse_key_law x bytes rest h e
key_finds (key.District x) bytes rest h e = finds_as (λ x. key.District x) district_key_law x bytes rest h e
key_finds (key.Customer x) bytes rest h e = finds_as (λ x. key.Customer x) customer_key_law x bytes rest h e
key_finds (key.History x) bytes rest h e = finds_as (λ x. key.History x) history_key_law x bytes rest h e
key_finds (key.NewOrder x) bytes rest h e = finds_as (λ x. key.NewOrder x) new_order_key_law x bytes rest h e
key_finds (key.Order x) bytes rest h e = finds_as (λ x. key.Order x) order_key_law x bytes rest h e
key_finds (key.OrderLine x) bytes rest h e = finds_as (λ x. key.OrderLine x) order_line_key_law x bytes rest h e
key_finds (key.Item x) bytes rest h e = finds_as (λ x. key.Item x) item_key_law x bytes rest h e
key_finds (key.Stock x) bytes rest h e = finds_as (λ x. key.Stock x) stock_key_law x bytes rest h e

pub key_exact : (t : Table) → IsExact (IsKeyOf t) key_image (key_at t)
key_exact t bytes fits = record {
  found = λ k rest e. key_found t bytes fits k rest e;
  finds = λ k rest h e. subst (λ (u : Table). key_at u bytes ≡ Some (k, rest)) h.0 (key_finds k bytes rest h.1 e);
}
