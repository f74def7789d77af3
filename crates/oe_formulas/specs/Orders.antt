-- What a new order has read, as the model has it.
use Rattle.std.specs.Prelude.{ℕ}
use Rattle.oe_rows.specs.declared.items.Stock.{Stock}
use Rattle.oe_model.specs.Positions as model
use Rattle.oe_formulas.specs.declared.orders.Seen.{Seen}

-- the STOCK row with this S_QUANTITY
abbrev pub with_quantity : Stock → ℕ → Stock
with_quantity x n = record x { quantity = n }

-- what it has read before its lines
abbrev pub seen_by : Seen → model.Seen
seen_by s = record {
  order = s.order;
  warehouse_tax = s.warehouse_tax;
  district_tax = s.district_tax;
  discount = s.discount;
  last = s.last;
  credit = s.credit;
}
