-- A row of a table that stands, or that was found, is the version's.
use Rattle.std.proofs.Common.{◌≡◌, ℕ, Some, ◌∙◌}
use Rattle.std.specs.FinMap.{get}
use Rattle.oe_rows.specs.declared.keys.CustomerKey.{CustomerKey}
use Rattle.oe_rows.specs.declared.keys.OrderLineKey.{OrderLineKey}
use Rattle.oe_rows.specs.declared.keys.Key.TheVariants as key
use Rattle.oe_rows.specs.declared.orders.OrderLine.{OrderLine}
use Rattle.oe_model.specs.Rows.{row_at}
use Rattle.oe_model.proofs.RowFacts.{un_customer}
use Rattle.oe_model.proofs.RowFacts.{un_order_line}
use Rattle.oe_store.specs.Places.{rows}
use Rattle.oe_store.specs.Places as tables
use Rattle.oe_log.specs.Log.{SegmentLog}
use Rattle.oe_versions.specs.Versions.{version}

module _ (ts : tables.Places) (u : SegmentLog) (m : ℕ) where
  pub customer_stands : (k : CustomerKey)
      → row_at (version ts u m) (key.Customer k) ≡ row_at (rows ts) (key.Customer k)
      → get (version ts u m).customers k ≡ get (rows ts).customers k
  customer_stands k e = un_customer _ _ e

  pub order_line_stands : (k : OrderLineKey)
      → row_at (version ts u m) (key.OrderLine k) ≡ row_at (rows ts) (key.OrderLine k)
      → get (version ts u m).order_lines k ≡ get (rows ts).order_lines k
  order_line_stands k e = un_order_line _ _ e

  -- a line that stands is found without a look at its table
  pub line_stands : (k : OrderLineKey) (x : OrderLine)
      → row_at (version ts u m) (key.OrderLine k) ≡ row_at (rows ts) (key.OrderLine k)
      → get (rows ts).order_lines k ≡ Some x → get (version ts u m).order_lines k ≡ Some x
  line_stands k x e stands = order_line_stands k e ∙ stands
