use Rattle.std.proofs.Common.{◌∙◌, refl, sym, ap, subst}
use Rattle.oe_requests.specs.declared.requests.Request.TheVariants as request
use Rattle.oe_model.specs.Payment.{behind_district, history_data}
use Rattle.oe_model.specs.Positions.{PaymentWarehouse, PaymentDistrict, PaymentNames, PaymentCustomer, PaymentHistory}
use Rattle.oe_model.specs.Positions.{PaymentEnd, InPayment}
use Rattle.oe_engine.specs.Programs.{Progresses}
use Rattle.oe_payment.specs.declared.positions.Position.{Position}
use Rattle.oe_payment.specs.declared.positions.Stage.{Stage}
use Rattle.oe_payment.specs.declared.positions.Stage.TheVariants as stage
use Rattle.oe_payment.specs.Program.{position_at, position_in, stage_behind, number_given}
use Rattle.oe_payment.proofs.StepFacts.{carried, ready_at_end, stands_behind}
use Rattle.oe_payment.proofs.stages.carry_out.Goals as goal

pub returns-in-Warehouse : goal.returns-in-Warehouse
returns-in-Warehouse c =
    let q = c.args.request.now in
    let x = c.args.tx.now in
    let s = c.args.engine.now in
    let p = c.args.position.now in
    let paid = c.pay_warehouse in
    let at = λ (k : Stage). record p { stage = k; warehouse = paid.new.warehouse } in
    subst (λ (k : Stage). Progresses (request.Payment q) x s (InPayment q (position_in p)) paid.result paid.new.engine
    (InPayment q (position_in (at k)))) (sym paid.ensures.stage)
    (carried q x s paid.new.engine PaymentWarehouse (PaymentDistrict paid.new.warehouse) p stage.District at paid.result
    (ap (λ (k : Stage). position_at k p) c.in-Warehouse.is)
    (ap (λ (k : Stage). position_at k (at p.stage)) c.in-Warehouse.is) refl paid.ensures.does)

pub returns-in-District : goal.returns-in-District
returns-in-District c =
    let q = c.args.request.now in
    let x = c.args.tx.now in
    let s = c.args.engine.now in
    let p = c.args.position.now in
    let paid = c.pay_district-done in
    let n = number_given q.customer p.reply.customer in
    let at = λ (k : Stage). record p {
      stage = k;
      district = paid.new.district;
      reply = record p.reply { customer = n };
    } in
    rw c.number_given-customer.ensures
    (subst (λ (k : Stage). Progresses (request.Payment q) x s (InPayment q (position_in p)) paid.result
    paid.new.engine (InPayment q (position_in (at k)))) (sym paid.ensures.stage)
    (carried q x s paid.new.engine (PaymentDistrict p.warehouse)
    (behind_district q.customer p.warehouse paid.new.district) p (stage_behind q.customer) at paid.result
    (ap (λ (k : Stage). position_at k p) c.in-District.is)
    (ap (λ (k : Stage). position_at k (at p.stage)) c.in-District.is)
    (stands_behind q.customer p paid.new.district) (paid.ensures.does p.warehouse)))

pub returns-in-Names : goal.returns-in-Names
returns-in-Names c =
    let q = c.args.request.now in
    let x = c.args.tx.now in
    let s = c.args.engine.now in
    let p = c.args.position.now in
    let found = c.find_customer in
    let at = λ (k : Stage). record p { stage = k; reply = record p.reply { customer = found.new.number } } in
    subst (λ (k : Stage). Progresses (request.Payment q) x s (InPayment q (position_in p)) found.result
    found.new.engine (InPayment q (position_in (at k)))) (sym found.ensures.stage)
    (carried q x s found.new.engine (PaymentNames p.warehouse p.district)
    (PaymentCustomer p.warehouse p.district found.new.number) p stage.Customer at found.result
    (ap (λ (k : Stage). position_at k p) c.in-Names.is)
    (ap (λ (k : Stage). position_at k (at p.stage)) c.in-Names.is) refl
    (found.ensures.does p.warehouse p.district))

pub returns-in-Customer : goal.returns-in-Customer
returns-in-Customer c =
    let q = c.args.request.now in
    let x = c.args.tx.now in
    let s = c.args.engine.now in
    let p = c.args.position.now in
    let paid = c.pay_customer in
    let at = λ (k : Stage). record p { stage = k; reply = paid.new.reply } in
    subst (λ (k : Stage). Progresses (request.Payment q) x s (InPayment q (position_in p)) paid.result paid.new.engine
    (InPayment q (position_in (at k)))) (sym paid.ensures.stage)
    (carried q x s paid.new.engine (PaymentCustomer p.warehouse p.district p.reply.customer)
    (PaymentHistory (history_data p.warehouse p.district) paid.new.reply) p stage.History at paid.result
    (ap (λ (k : Stage). position_at k p) c.in-Customer.is)
    (ap (λ (k : Stage). position_at k (at p.stage)) c.in-Customer.is
    ∙ ap (PaymentCustomer p.warehouse p.district) paid.ensures.customer) refl
    (paid.ensures.does p.warehouse p.district))

pub returns-in-History : goal.returns-in-History
returns-in-History c =
    let q = c.args.request.now in
    let x = c.args.tx.now in
    let s = c.args.engine.now in
    let p = c.args.position.now in
    let noted = c.note in
    let at = λ (k : Stage). record p { stage = k } in
    subst (λ (n : Position). Progresses (request.Payment q) x s (InPayment q (position_in p)) noted.result
    noted.new.engine (InPayment q (position_in n))) (sym noted.ensures.stage)
    (carried q x s noted.new.engine (PaymentHistory (history_data p.warehouse p.district) p.reply) (PaymentEnd p.reply)
    p stage.End at noted.result
    (ap (λ (k : Stage). position_at k p) c.in-History.is)
    (ap (λ (k : Stage). position_at k (at p.stage)) c.in-History.is) refl noted.ensures.does)

pub returns-in-End : goal.returns-in-End
returns-in-End c = ready_at_end c.args.request.now c.args.tx.now c.args.engine.now c.args.position.now c.requires
    c.in-End.is
