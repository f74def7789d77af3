use Rattle.oe_terms.proofs.ChainFacts.{payment_drawn}
use Rattle.oe_terms.proofs.payments.payment.Goals as goal

pub returns : goal.returns
returns c = payment_drawn c.args.scale.now c.args.terminal c.args.r _ _ _ _ _ _ _ _ _ _ _ c.home.ensures
    c.district_in-district.ensures c.residence-customer_district.ensures c.choice-customer.ensures
    c.number_in-amount.ensures c.stamp_of.ensures
