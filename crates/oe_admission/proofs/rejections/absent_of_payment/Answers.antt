use Rattle.std.proofs.Common.{rules, ◌≡◌, [], ◌∷◌, sym, ap, ◌∙◌}
use Rattle.oe_model.specs.Requests.{first_absent}
use Rattle.oe_store.specs.Places.{rows}
use Rattle.oe_admission.proofs.RejectionFacts.{first_of, first_after}
use Rattle.oe_admission.proofs.rejections.absent_of_payment.Goals as goal

pub returns-in-Some : goal.returns-in-Some
returns-in-Some c = sym
    (first_of c.args.payment.now.district.warehouse (c.args.payment.now.customer_district.warehouse ∷ [])
    (rows c.args.tables.now) c.in-Some.refusal c.in-Some.ensures)

-- both are one, which is there
pub returns-then-eq : goal.returns-then-eq
returns-then-eq c =
    let same : c.args.payment.now.customer_district.warehouse ≡ c.args.payment.now.district.warehouse =
    search (rules, c.eq.ensures, c.if-eq.true) in
    let left = first_after c.args.payment.now.district.warehouse (c.args.payment.now.customer_district.warehouse ∷ [])
    (rows c.args.tables.now) c.in_default.ensures in
    c.in_default.ensures ∙ (ap (λ w. first_absent (w ∷ []) (rows c.args.tables.now)) (sym same) ∙ sym left)
