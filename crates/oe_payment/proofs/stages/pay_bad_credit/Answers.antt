use Rattle.oe_payment.proofs.stages.pay_bad_credit.Goals as goal

pub returns-clause-does : goal.returns-clause-does
returns-clause-does c = λ p p' d stage.
    c.go.ensures.does c.args.request.now p p' d (rw (c.customer.ensures, c.bad_credit_entry.ensures) stage)
