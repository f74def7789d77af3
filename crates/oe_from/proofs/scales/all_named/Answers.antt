use Rattle.std.proofs.Common.{◌≡◌, ℕ, ◌+◌, subst, rules}
use Rattle.oe_store.specs.Places.{rows}
use Rattle.oe_from.specs.Scales.{AreNamed}
use Rattle.oe_from.proofs.ScaleFacts.{one_more}
use Rattle.oe_from.proofs.scales.all_named.Goals as goal

pub loop-before-preserved : goal.loop-before-preserved
loop-before-preserved c =
    let at : c.unwrap.result ≡ c.loop-before.before + 1 = search rules in
    one_more (λ (w : ℕ). AreNamed (rows c.args.tables.now) (record { warehouse = w }) c.args.scale.now.customers)
    c.loop-before.before c.loop-before.invariant
    (subst (λ (n : ℕ). AreNamed (rows c.args.tables.now) (record { warehouse = c.loop-before.before + 1 }) n)
    c.get.ensures.value
    (subst (λ (w : ℕ). AreNamed (rows c.args.tables.now) (record { warehouse = w }) c.get.result) at
    c.in_default.ensures))
