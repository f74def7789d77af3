-- The images of keys: the columns from the left (clause 1.3.1), each a number in a fixed width.
use Rattle.std.specs.Prelude.{ℕ, List, ◌++◌}
use Rattle.std.specs.Int.{IsInRange}
use Rattle.oe_extent.specs.Images.{number}
use Rattle.oe_values.specs.declared.numbers.TheConstants.{TERMINALS}
use Rattle.oe_rows.specs.Key.{IsDistrictKey, IsCustomerKey}
use Rattle.oe_rows.specs.declared.keys.WarehouseKey.{WarehouseKey}
use Rattle.oe_rows.specs.declared.keys.DistrictKey.{DistrictKey}
use Rattle.oe_rows.specs.declared.keys.CustomerKey.{CustomerKey}
use Rattle.oe_rows.specs.declared.keys.HistoryKey.{HistoryKey}
use Rattle.oe_rows.specs.declared.keys.NewOrderKey.{NewOrderKey}
use Rattle.oe_rows.specs.declared.keys.OrderKey.{OrderKey}
use Rattle.oe_rows.specs.declared.keys.OrderLineKey.{OrderLineKey}
use Rattle.oe_rows.specs.declared.keys.ItemKey.{ItemKey}
use Rattle.oe_rows.specs.declared.keys.StockKey.{StockKey}
use Rattle.oe_rows.specs.declared.keys.Key.{Key}
use Rattle.oe_rows.specs.declared.keys.Key.TheVariants as key

unfoldable pub warehouse_key : WarehouseKey → List ℕ
warehouse_key k = number 2 k.warehouse

unfoldable pub district_key : DistrictKey → List ℕ
district_key k = number 2 k.warehouse ++ number 1 k.district

unfoldable pub customer_key : CustomerKey → List ℕ
customer_key k = number 2 k.warehouse ++ (number 1 k.district ++ number 2 k.customer)

unfoldable pub history_key : HistoryKey → List ℕ
history_key k = number 2 k.terminal ++ (number 4 k.number ++ number 1 k.ordinal)

unfoldable pub new_order_key : NewOrderKey → List ℕ
new_order_key k = number 2 k.warehouse ++ (number 1 k.district ++ number 4 k.order)

unfoldable pub order_key : OrderKey → List ℕ
order_key k = number 2 k.warehouse ++ (number 1 k.district ++ number 4 k.order)

unfoldable pub order_line_key : OrderLineKey → List ℕ
order_line_key k =
    number 2 k.warehouse ++ (number 1 k.district ++ (number 4 k.order ++ number 1 k.number))

unfoldable pub item_key : ItemKey → List ℕ
item_key k = number 4 k.item

unfoldable pub stock_key : StockKey → List ℕ
stock_key k = number 2 k.warehouse ++ number 4 k.item

-- the image of a key
abbrev pub key_image : Key → List ℕ
key_image (key.Warehouse k) = warehouse_key k
key_image (key.District k) = district_key k
key_image (key.Customer k) = customer_key k
key_image (key.History k) = history_key k
key_image (key.NewOrder k) = new_order_key k
key_image (key.Order k) = order_key k
key_image (key.OrderLine k) = order_line_key k
key_image (key.Item k) = item_key k
key_image (key.Stock k) = stock_key k

-- ---- the ranges of the columns

abbrev pub IsWarehouseKey : WarehouseKey → Type 0
IsWarehouseKey k = IsInRange 1 16 k.warehouse

pub record IsHistoryKey (k : HistoryKey) : Type 0 where
  pub terminal : IsInRange 0 TERMINALS k.terminal
  pub number_of_terminal : IsInRange 0 4_294_967_295 k.number
  pub ordinal : IsInRange 1 1 k.ordinal

pub record IsNewOrderKey (k : NewOrderKey) : Type 0 where
  pub warehouse : IsInRange 1 16 k.warehouse
  pub district : IsInRange 1 10 k.district
  pub order : IsInRange 1 10_000_000 k.order

pub record IsOrderKey (k : OrderKey) : Type 0 where
  pub warehouse : IsInRange 1 16 k.warehouse
  pub district : IsInRange 1 10 k.district
  pub order : IsInRange 1 10_000_000 k.order

pub record IsOrderLineKey (k : OrderLineKey) : Type 0 where
  pub warehouse : IsInRange 1 16 k.warehouse
  pub district : IsInRange 1 10 k.district
  pub order : IsInRange 1 10_000_000 k.order
  pub line : IsInRange 1 15 k.number

abbrev pub IsItemKey : ItemKey → Type 0
IsItemKey k = IsInRange 1 100_000 k.item

pub record IsStockKey (k : StockKey) : Type 0 where
  pub warehouse : IsInRange 1 16 k.warehouse
  pub item : IsInRange 1 100_000 k.item

abbrev pub IsKey : Key → Type 0
IsKey (key.Warehouse k) = IsWarehouseKey k
IsKey (key.District k) = IsDistrictKey k
IsKey (key.Customer k) = IsCustomerKey k
IsKey (key.History k) = IsHistoryKey k
IsKey (key.NewOrder k) = IsNewOrderKey k
IsKey (key.Order k) = IsOrderKey k
IsKey (key.OrderLine k) = IsOrderLineKey k
IsKey (key.Item k) = IsItemKey k
IsKey (key.Stock k) = IsStockKey k
