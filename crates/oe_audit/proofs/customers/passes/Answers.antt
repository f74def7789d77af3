use Rattle.std.proofs.Common.{sym, ◌∙◌}
use Rattle.oe_audit.proofs.AgreeFacts.{then_is}
use Rattle.oe_audit.proofs.customers.passes.Goals as goal

pub returns-in-Some-clause-value : goal.returns-in-Some-clause-value
returns-in-Some-clause-value g c =
    then_is c.args.condition.now _ c.turn_to.new.self c.args.key.now _ c.in-Some.account c.district_key.result
    c.agrees_with.result
    (sym c.account.ensures ∙ c.in-Some.is) c.turn_to.ensures.ledger c.turn_to.ensures.district c.district_key.ensures
    c.agrees_with.ensures.value c.agrees_with.ensures.ranges c.agrees_with.ensures.low c.agrees_with.ensures.high
