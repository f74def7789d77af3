-- A walk of the rows that stand passes each of them.
use Rattle.std.proofs.Common.{refl}
use Rattle.std.specs.FinMap.{get}
use Rattle.oe_model.specs.Rows.{Rows}
use Rattle.oe_model.specs.Meets.{Meets}
use Rattle.oe_model.proofs.PresenceFacts.{present_some}
use Rattle.oe_rows_of.specs.Then.{ArePassed}

pub passed_now : (r : Rows) → Meets r → ArePassed r r
passed_now r m = record {
  warehouses = λ k there. there;
  districts = λ k there. there;
  customers = λ k there. there;
  histories = λ k there. refl;
  orders = λ k there. there;
  order_lines = λ k there. there;
  new_orders = λ k there. let x = present_some (get r.new_orders k) there in m.new_orders k x.0 x.1;
}
