use Rattle.oe_fact_laws.proofs.MovementTies as ties
use Rattle.oe_fact_laws.proofs.movements_are_checked.Goals as goal

pub returns : goal.returns
returns c = record {
  stock_ytd = λ initial f r are. ties.stock_ytd f r are initial;
  stock_orders = λ initial f r are. ties.stock_orders f r are initial;
  stock_remote = λ initial f r are. ties.stock_remote f r are initial;
  payment_count = ties.payment_count;
  delivery_count = λ initial f r are. ties.delivery_count f r are initial;
  all_local = ties.all_local;
  stock_quantity = ties.stock_quantity;
}
