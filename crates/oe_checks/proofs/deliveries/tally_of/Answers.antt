use Rattle.std.proofs.Common.{◌∙◌, sym, ap, map, take, get_or, arith}
use Rattle.std.specs.Prelude.{pos}
use Rattle.std.proofs.lemmas.List.{take_more, take_all}
use Rattle.oe_tally.specs.Tallies.{total}
use Rattle.oe_facts.specs.declared.keys.OrderId.{OrderId}
use Rattle.oe_ledgers.specs.Keys.{same_customer}
use Rattle.oe_ledgers.specs.Sums.{takings_joined}
use Rattle.oe_ledgers.specs.SumLaws.{takings_associative, takings_commutative}
use Rattle.oe_ledgers.proofs.KeptFacts.{kept_more, customers_equal}
use Rattle.oe_checks.specs.declared.deliveries.Delivery.{Delivery}
use Rattle.oe_checks.specs.Deliveries.{delivery_entry}
use Rattle.oe_checks.proofs.deliveries.tally_of.Goals as goal

pub loop-entry-preserved : goal.loop-entry-preserved
loop-entry-preserved c k =
    let first : OrderId × Delivery =
    (record { warehouse = 0; district = 0; order = 0 }, record { amount = pos 0; customer = 0 }) in
    kept_more customers_equal takings_joined takings_associative takings_commutative delivery_entry
    (take c.loop-entry.entry-index c.args.deliveries.now) (get_or c.args.deliveries.now c.loop-entry.entry-index first)
    c.loop-entry.tally c.add.new.self c.takings.result c.takings.ensures c.loop-entry.invariant
    c.in_default.ensures.ok k
    ∙ ap (λ es. total same_customer takings_joined (map delivery_entry es) k)
    (sym (take_more c.args.deliveries.now c.loop-entry.entry-index first c.loop-entry-test.true))

pub returns-clause-kept : goal.returns-clause-kept
returns-clause-kept c k =
    c.settle.ensures.totals k ∙ c.loop-entry.invariant k
    ∙ ap (λ es. total same_customer takings_joined (map delivery_entry es) k)
    (take_all c.loop-entry.entry-index c.args.deliveries.now (omega arith))
