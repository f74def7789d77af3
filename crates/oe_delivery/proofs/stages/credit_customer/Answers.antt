use Rattle.std.proofs.Common.{◌≡◌, Some, [], refl, sym, ap, ◌∙◌}
use Rattle.std.specs.Prelude.{option_map}
use Rattle.std.specs.FinMap.{get}
use Rattle.oe_requests.specs.declared.requests.Request.TheVariants as request
use Rattle.oe_model.specs.Changes.{UpdateCustomer}
use Rattle.oe_model.specs.Positions.{DeliveryEnd, InDelivery}
use Rattle.oe_engine.specs.View.{view_of}
use Rattle.oe_delivery.specs.Remainder.{Left}
use Rattle.oe_delivery.specs.Program.{customer_position}
use Rattle.oe_delivery.proofs.StageFacts.{customer_asks, customer_does}
use Rattle.oe_delivery.proofs.stages.credit_customer.Goals.{After-put}
use Rattle.oe_delivery.proofs.stages.credit_customer.Goals as goal

-- nothing but the customer is left
abbrev left : After-put → Left
left c = record {
  order = c.args.delivered.now.order;
  customer = c.args.delivered.now.customer;
  numbers = [];
  sum = c.args.delivered.now.sum;
}

found : (c : After-put) → get (view_of c.args.engine.now).rows.customers c.customer.result ≡ Some c.in-Some.row.now
found c = ap (λ r. get r.customers c.customer.result) (sym c.tables.ensures) ∙ sym c.in-Some.ensures

pub returns-in-Ok-put : goal.returns-in-Ok-put
returns-in-Ok-put c =
    let h = (goal.at.returns-in-Ok-put c).After-put in
    c.in-Ok-put.ensures.does
    (UpdateCustomer c.customer.result (record c.in-Some.row.now { account = c.in-Ok.account }))
    (ap (option_map (λ z. UpdateCustomer c.customer.result (record z { account = c.in-Ok.account }))) (found h))
    (request.Delivery c.args.request.now) (InDelivery c.args.request.now (customer_position c.args.delivered.now))
    (InDelivery c.args.request.now
    (DeliveryEnd c.args.delivered.now.order c.args.delivered.now.customer c.args.delivered.now.sum))
    (customer_asks c.args.engine.now c.args.tx.now c.args.request.now (left h) refl
    c.customer.result c.customer.ensures)
    (customer_does c.args.engine.now c.args.tx.now c.args.request.now (left h) refl
    c.customer.result c.customer.ensures
    c.in-Some.row.now c.in-Ok.account (found h) c.in-Ok.ensures)

pub returns-in-Err-put : goal.returns-in-Err-put
returns-in-Err-put c =
    let h = (goal.at.returns-in-Err-put c).After-put in (
      c.in-Err-put.ensures.does
          (UpdateCustomer c.customer.result (record c.in-Some.row.now { account = c.in-Ok.account }))
          (ap (option_map (λ z. UpdateCustomer c.customer.result (record z { account = c.in-Ok.account }))) (found h))
          (request.Delivery c.args.request.now) (InDelivery c.args.request.now (customer_position c.args.delivered.now))
          (InDelivery c.args.request.now
          (DeliveryEnd c.args.delivered.now.order c.args.delivered.now.customer c.args.delivered.now.sum))
          (customer_asks c.args.engine.now c.args.tx.now c.args.request.now (left h) refl
          c.customer.result c.customer.ensures)
          (customer_does c.args.engine.now c.args.tx.now c.args.request.now (left h) refl
          c.customer.result c.customer.ensures
          c.in-Some.row.now c.in-Ok.account (found h) c.in-Ok.ensures),
      c.in-Err-put.ensures.err,
      c.in-Err-put.ensures.name,
      refl,
    )
