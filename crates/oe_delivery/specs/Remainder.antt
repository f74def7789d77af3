-- What is left of the delivery of an order, once the order has its carrier.
use Rattle.std.specs.Prelude.{ℕ, List, map}
use Rattle.oe_rows.specs.declared.keys.OrderKey.{OrderKey}
use Rattle.oe_rows.specs.declared.orders.Order.{Order}
use Rattle.oe_model.specs.Rows.{Rows}
use Rattle.oe_model.specs.Delivery.{lines_of}

-- O_ID, O_C_ID, the OL_NUMBERs of the lines to come, and the sum of the OL_AMOUNTs before
pub record Left : Type 0 where
  pub order : ℕ
  pub customer : ℕ
  pub numbers : List ℕ
  pub sum : ℕ

-- what is left of an order that has just got its carrier: all its lines are to come
abbrev pub remainder_of : OrderKey → Rows → Order → Left
remainder_of k r x =
    record {
      order = k.order;
      customer = x.customer;
      numbers = map (λ e. e.0.number) (lines_of k r.order_lines);
      sum = 0;
    }
