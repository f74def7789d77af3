use Rattle.std.proofs.Common.{ℕ, List, None, Some, inl, refl, sym, ap, ◌∙◌}
use Rattle.oe_requests.specs.declared.requests.Request.TheVariants as request
use Rattle.oe_model.specs.Choice.{middle, namesakes}
use Rattle.oe_model.specs.Positions.{PaymentNames, PaymentCustomer, InPayment}
use Rattle.oe_store.specs.Places.{rows}
use Rattle.oe_payment.proofs.StageFacts.{number_stops, names_asks, names_find}
use Rattle.oe_payment.proofs.stages.find_customer.Goals as goal

-- a payment by number has no such stage
pub returns-in-Number-clause-does : goal.returns-in-Number-clause-does
returns-in-Number-clause-does c = λ w d. (
  (c.requires, inl (number_stops c.args.request.now c.args.tx.now c.args.engine.now w d _ c.in-Number.is)),
  refl,
  refl,
)

pub returns-in_default-clause-does : goal.returns-in_default-clause-does
returns-in_default-clause-does c = λ w d.
    let q = c.args.request.now in
    let x = c.args.tx.now in
    let s = c.args.engine.now in
    let last = c.in-LastName.last in (
      c.failed.ensures.fails (request.Payment q) (InPayment q (PaymentNames w d))
          (rw (c.shared-lock.ensures, c.of.ensures, c.as_text-last.ensures)
          (names_asks q x s w d last c.in-LastName.is))
          (names_find q x s w d last c.in-LastName.is None
          (ap (λ r. middle (namesakes q.customer_district last r.customers)) (sym c.tables.ensures)
          ∙ ap (λ (l : List ℕ). middle (namesakes q.customer_district l (rows c.tables.result.now).customers))
          (sym c.as_text-last.ensures) ∙ sym c.in_default.ensures)),
      refl,
      refl,
    )

pub returns-in-Ok-clause-does : goal.returns-in-Ok-clause-does
returns-in-Ok-clause-does c = λ w d.
    let q = c.args.request.now in
    let x = c.args.tx.now in
    let s = c.args.engine.now in
    let last = c.in-LastName.last in
    c.in-Ok.ensures.does (request.Payment q) (InPayment q (PaymentNames w d))
    (InPayment q (PaymentCustomer w d c.in-Some.found))
    (rw (c.shared-lock.ensures, c.of.ensures, c.as_text-last.ensures) (names_asks q x s w d last c.in-LastName.is))
    (names_find q x s w d last c.in-LastName.is (Some c.in-Some.found)
    (ap (λ r. middle (namesakes q.customer_district last r.customers)) (sym c.tables.ensures)
    ∙ ap (λ (l : List ℕ). middle (namesakes q.customer_district l (rows c.tables.result.now).customers))
    (sym c.as_text-last.ensures) ∙ sym c.in-Some.ensures))

pub returns-in-Err-clause-does : goal.returns-in-Err-clause-does
returns-in-Err-clause-does c = λ w d.
    let q = c.args.request.now in
    let x = c.args.tx.now in
    let s = c.args.engine.now in
    let last = c.in-LastName.last in (
      c.in-Err.ensures.does (request.Payment q) (InPayment q (PaymentNames w d))
          (InPayment q (PaymentCustomer w d c.in-Some.found))
          (rw (c.shared-lock.ensures, c.of.ensures, c.as_text-last.ensures)
          (names_asks q x s w d last c.in-LastName.is))
          (names_find q x s w d last c.in-LastName.is (Some c.in-Some.found)
          (ap (λ r. middle (namesakes q.customer_district last r.customers)) (sym c.tables.ensures)
          ∙ ap (λ (l : List ℕ). middle (namesakes q.customer_district l (rows c.tables.result.now).customers))
          (sym c.as_text-last.ensures) ∙ sym c.in-Some.ensures)),
      c.in-Err.ensures.err,
      c.in-Err.ensures.name,
    )
