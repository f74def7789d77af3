use Rattle.std.proofs.Common.{◌≡◌, sym, ◌∙◌, subst, false, arith}
use Rattle.oe_waits.specs.Knots.{any_to}
use Rattle.oe_waits.specs.Waits.{waits_for}
use Rattle.oe_waits.proofs.KnotFacts.{any_from}
use Rattle.oe_waits.proofs.TextFacts.{last_is, last_within}
use Rattle.oe_waits.proofs.waiting.waits.Goals as goal

pub returns-then-waits_for : goal.returns-then-waits_for
returns-then-waits_for g c =
    sym (any_from (waits_for (g.M.Machine.world c.args.core.now) c.args.terminal) _ c.terminal_after-other.result
    (omega arith)
    (last_within _ (omega arith)) (sym c.waits_for.ensures ∙ c.if-waits_for.true))

pub returns : goal.returns
returns g c =
    let all : c.loop-before.before ≡ 64 = omega arith in
    subst (λ n. false ≡ any_to (waits_for (g.M.Machine.world c.args.core.now) c.args.terminal) n) (last_is _ all)
    (sym c.loop-before.invariant)
