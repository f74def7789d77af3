use Rattle.std.proofs.Common.{◌≡◌, ℕ, ◌+◌, ◌-◌, ◌<◌, Some, true, false, sym, ap, ◌∙◌, subst, rules, arith}
use Rattle.std.specs.Prelude.{Bool}
use Rattle.oe_load.specs.Turns.{counts_of}
use Rattle.oe_load.specs.Flats.{behind}
use Rattle.oe_load.specs.Picks.{holders_of, is_able}
use Rattle.oe_load.proofs.FlatFacts.{looks_on}
use Rattle.oe_load.proofs.PickFacts.{found_behind}
use Rattle.oe_load.proofs.picks.able.Goals as goal

pub returns-then-is_able : goal.returns-then-is_able
returns-then-is_able g c =
    let p = c.args.plan.now in
    let f : ℕ → Bool =
    is_able p (g.M.Machine.world c.args.core.now) (counts_of c.args.served.now) (holders_of c.args.holders.now)
    in
    let b = c.loop-before.before in
    let place : c.terminal_after-terminal.result ≡ behind p c.args.drawn b = search rules in
    let below : b < p.numbers.terminals = search rules in
    ap Some place
    ∙ (sym (found_behind p f c.args.drawn b (p.numbers.terminals - b) (p.numbers.terminals - (b + 1))
    (omega (arith, below)) (subst (λ z. f z ≡ true) place (sym c.is_able.ensures ∙ c.if-is_able.true)))
    ∙ c.loop-before.invariant)

pub loop-before-preserved : goal.loop-before-preserved
loop-before-preserved g c =
    let p = c.args.plan.now in
    let f : ℕ → Bool =
    is_able p (g.M.Machine.world c.args.core.now) (counts_of c.args.served.now) (holders_of c.args.holders.now)
    in
    let b = c.loop-before.before in
    let place : c.terminal_after-terminal.result ≡ behind p c.args.drawn b = search rules in
    let below : b < p.numbers.terminals = search rules in
    looks_on p f c.args.drawn b (p.numbers.terminals - b) (p.numbers.terminals - (b + 1)) (omega (arith, below))
    (subst (λ z. f z ≡ false) place (sym c.is_able.ensures ∙ c.if-is_able.false))
    ∙ c.loop-before.invariant
