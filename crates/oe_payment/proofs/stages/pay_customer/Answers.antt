use Rattle.std.proofs.Common.{◌≡◌, None, Some, inl, refl, sym, ap, ◌∙◌}
use Rattle.std.specs.FinMap.{get}
use Rattle.oe_model.specs.Keys.{customer_in}
use Rattle.oe_model.specs.Changes.{UpdateCustomer}
use Rattle.oe_model.specs.Positions.{PaymentCustomer, PaymentHistory}
use Rattle.oe_model.specs.Payment.{history_data}
use Rattle.oe_store.specs.Places.{rows}
use Rattle.oe_rows.specs.Credit.{credit_entry}
use Rattle.oe_formulas.specs.Checks.{paid_with, credit_ids}
use Rattle.oe_engine.specs.View.{view_of}
use Rattle.oe_payment.proofs.StageFacts.{absent_stops, customer_asks, customer_fails, good_stage, bad_stage}
use Rattle.oe_payment.proofs.stages.pay_customer.Goals.{In-Some}
use Rattle.oe_payment.proofs.stages.pay_customer.Goals as goal

-- the number that is given has no row
pub returns-in_default-clause-does : goal.returns-in_default-clause-does
returns-in_default-clause-does c = λ w d.
    let q = c.args.request.now in
    let s = c.args.engine.now in
    let n = c.args.reply.now.customer in
    let k = customer_in q.customer_district n in
    let none : get (view_of s).rows.customers k ≡ None =
    ap (λ r. get r.customers k) (sym c.tables.ensures)
    ∙ (ap (λ j. get (rows c.tables.result.now).customers j) (sym c.customer.ensures)
    ∙ sym c.in_default.ensures) in
    ((c.requires, inl (absent_stops q c.args.tx.now s w d n none)), refl, refl)

there : (c : In-Some) → get (view_of c.args.engine.now).rows.customers
    (customer_in c.args.request.now.customer_district c.args.reply.now.customer) ≡ Some c.in-Some.row.now
there c =
    let k = customer_in c.args.request.now.customer_district c.args.reply.now.customer in
    ap (λ r. get r.customers k) (sym c.tables.ensures)
    ∙ (ap (λ j. get (rows c.tables.result.now).customers j) (sym c.customer.ensures) ∙ sym c.in-Some.ensures)

pub returns-in-Err-clause-does : goal.returns-in-Err-clause-does
returns-in-Err-clause-does c = λ w d.
    let q = c.args.request.now in
    let s = c.args.engine.now in
    let n = c.args.reply.now.customer in
    let row = there (goal.at.returns-in-Err-clause-does c).In-Some in (
      c.customer_fails.ensures q (PaymentCustomer w d n)
          (rw c.customer.ensures (customer_asks q c.args.tx.now s w d n c.in-Some.row.now row))
          (customer_fails q c.args.tx.now s w d n c.in-Some.row.now row c.in-Err.column (c.in-Err.ensures n)),
      refl,
      refl,
    )

pub returns-in-Good-clause-does : goal.returns-in-Good-clause-does
returns-in-Good-clause-does c = λ w d.
    let q = c.args.request.now in
    let s = c.args.engine.now in
    let n = c.args.reply.now.customer in
    let k = customer_in q.customer_district n in
    let row = there (goal.at.returns-in-Good-clause-does c).In-Some in
    c.go.ensures.does q (PaymentCustomer w d n) (PaymentHistory (history_data w d) c.keep_reply.new.reply)
    (UpdateCustomer k (paid_with n q c.in-Some.row.now c.in-Ok.account))
    (rw (c.customer.ensures, c.keep_reply.ensures)
    (good_stage q c.args.tx.now s w d n c.in-Some.row.now row c.in-Ok.account (c.in-Ok.ensures n) c.in-Good.is))

pub returns-in-Bad-clause-does : goal.returns-in-Bad-clause-does
returns-in-Bad-clause-does c = λ w d.
    let q = c.args.request.now in
    let s = c.args.engine.now in
    let n = c.args.reply.now.customer in
    let k = customer_in q.customer_district n in
    let row = there (goal.at.returns-in-Bad-clause-does c).In-Some in
    c.pay_bad_credit.ensures.does (PaymentCustomer w d n) (PaymentHistory (history_data w d) c.keep_reply.new.reply)
    (UpdateCustomer k (paid_with n q c.in-Some.row.now c.in-Ok.account))
    (rw c.keep_reply.ensures
    (bad_stage q c.args.tx.now s w d n c.in-Some.row.now row c.in-Ok.account (c.in-Ok.ensures n)
    (credit_entry (credit_ids n q) q.amount) c.in-Bad.is refl))
