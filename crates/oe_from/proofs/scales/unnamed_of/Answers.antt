use Rattle.std.proofs.Common.{◌≡◌, ℕ, ◌+◌, subst, rules}
use Rattle.oe_store.specs.Places.{rows}
use Rattle.oe_from.specs.Scales.{HasNames}
use Rattle.oe_from.proofs.ScaleFacts.{one_more}
use Rattle.oe_from.proofs.scales.unnamed_of.Goals as goal

pub loop-before-preserved : goal.loop-before-preserved
loop-before-preserved c =
    let at : c.unwrap.result ≡ c.loop-before.before + 1 = search rules in
    one_more (λ (d : ℕ). HasNames (rows c.args.tables.now)
    (record { warehouse = c.args.warehouse.now.warehouse; district = d }) c.args.customers) c.loop-before.before
    c.loop-before.invariant
    (subst (λ (d : ℕ). HasNames (rows c.args.tables.now)
    (record { warehouse = c.args.warehouse.now.warehouse; district = d }) c.args.customers) at c.in_default.ensures)
