-- What walks of warehouses and items find.
use Rattle.std.specs.Prelude.{List, [], ◌∷◌, Option, None, Some}
use Rattle.std.specs.FinMap.{get, entries}
use Rattle.oe_rows.specs.declared.items.Item.{Item}
use Rattle.oe_rows.specs.declared.items.Stock.{Stock}
use Rattle.oe_rows.specs.declared.keys.ItemKey.{ItemKey}
use Rattle.oe_rows.specs.declared.keys.StockKey.{StockKey}
use Rattle.oe_rows.specs.declared.keys.WarehouseKey.{WarehouseKey}
use Rattle.oe_rows.specs.declared.warehouses.Warehouse.{Warehouse}
use Rattle.oe_model.specs.Rows.{Rows}

-- the key, where it has no row
abbrev pub where_none : StockKey → Option Stock → Option StockKey
where_none k None = Some k
where_none k (Some x) = None

-- the STOCK key of an item in a warehouse
abbrev pub stock_in : WarehouseKey → ItemKey → StockKey
stock_in w i = record { warehouse = w.warehouse; item = i.item }

-- that, where it has no row
abbrev pub absent : Rows → WarehouseKey → ItemKey → Option StockKey
absent r w i = where_none (stock_in w i) (get r.stocks (stock_in w i))

-- this, or else the other
abbrev pub or_else : Option StockKey → Option StockKey → Option StockKey
or_else None other = other
or_else (Some k) other = Some k

-- the first of these items that has no stock in a warehouse
abbrev pub first_absent : Rows → WarehouseKey → List (ItemKey × Item) → Option StockKey
first_absent r w [] = None
first_absent r w (e ∷ es) = or_else (absent r w e.0) (first_absent r w es)

-- the same in the first of these warehouses where there is one
abbrev pub first_unstocked : Rows → List (WarehouseKey × Warehouse) → Option StockKey
first_unstocked r [] = None
first_unstocked r (e ∷ es) = or_else (first_absent r e.0 (entries r.items)) (first_unstocked r es)
