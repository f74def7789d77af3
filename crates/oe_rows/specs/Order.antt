-- The ranges of the columns of orders and of their lines (clause 1.3.1). O_ALL_LOCAL is 0 or 1 by its type.
use Rattle.std.specs.Prelude.{◌≤◌, ◌<◌, IfSome}
use Rattle.std.specs.Int.{IsInRange}
use Rattle.oe_values.specs.Text.{IsText}
use Rattle.oe_values.specs.declared.stamps.TheConstants.{SECONDS}
use Rattle.oe_rows.specs.declared.orders.Order.{Order}
use Rattle.oe_rows.specs.declared.orders.OrderLine.{OrderLine}

pub record IsOrder (o : Order) : Type 0 where
  pub customer : IsInRange 1 3_000 o.customer
  pub entry : o.entry < SECONDS
  pub carrier : IfSome o.carrier (IsInRange 1 10)
  pub line_count : IsInRange 5 15 o.line_count

pub record IsOrderLine (l : OrderLine) : Type 0 where
  pub item : IsInRange 1 100_000 l.item
  pub supply : IsInRange 1 16 l.supply
  pub delivery : IfSome l.delivery (λ s. s < SECONDS)
  pub quantity : l.quantity ≤ 99
  pub amount : l.amount ≤ 999_999
  pub dist_info : IsText 24 24 l.dist_info
