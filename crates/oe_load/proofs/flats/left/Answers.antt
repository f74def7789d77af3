use Rattle.std.proofs.Common.{◌≡◌, ◌+◌, ◌-◌, ◌<◌, ◌≤◌, ◌∙◌, subst, rules, arith}
use Rattle.std.specs.Prelude.{nat_lt}
use Rattle.std.proofs.lemmas.Bool.{le-ltb}
use Rattle.oe_load.specs.Turns.{counts_of}
use Rattle.oe_load.specs.Flats.{behind}
use Rattle.oe_load.proofs.FlatFacts.{looks_on}
use Rattle.oe_load.proofs.flats.left.Goals as goal

pub loop-before-preserved : goal.loop-before-preserved
loop-before-preserved c =
    let p = c.args.plan.now in
    let served = counts_of c.args.served.now in
    let place : c.unwrap-terminal.result ≡ behind p c.args.drawn c.loop-before.before = search rules in
    let below : c.loop-before.before < p.numbers.terminals = search rules in
    let full : p.numbers.requests ≤ served c.unwrap-terminal.result = search rules in
    looks_on p (λ t. nat_lt (served t) p.numbers.requests) c.args.drawn c.loop-before.before
    (p.numbers.terminals - c.loop-before.before)
    (p.numbers.terminals - (c.loop-before.before + 1)) (omega (arith, below))
    (le-ltb (served (behind p c.args.drawn c.loop-before.before)) p.numbers.requests
    (subst (λ t. p.numbers.requests ≤ served t) place full))
    ∙ c.loop-before.invariant
