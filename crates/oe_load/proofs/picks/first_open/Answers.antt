use Rattle.std.proofs.Common.{◌≡◌, ℕ, suc, ◌+◌, ◌-◌, ◌<◌, Some, true, false, sym, ap, ◌∙◌, subst, rules, arith}
use Rattle.std.specs.Prelude.{Bool, is_some}
use Rattle.oe_waits.specs.Waits.{last_terminal}
use Rattle.oe_load.specs.Picks.{first_after}
use Rattle.oe_load.proofs.PickFacts.{looks_after, found_after, all_are}
use Rattle.oe_load.proofs.picks.first_open.Goals as goal

pub returns-then-is_open : goal.returns-then-is_open
returns-then-is_open g c =
    let f : ℕ → Bool = λ t. is_some ((g.M.Machine.world c.args.core.now).active t) in
    let b = c.loop-before.before in
    let below : b < 64 = search rules in
    let t : c.terminal_after-terminal.result ≡ suc b = omega (arith, c.terminal_after-terminal.ensures) in
    ap Some t
    ∙ (sym (found_after f b (last_terminal - b) (last_terminal - (b + 1)) (omega (arith, below, all_are))
    (subst (λ z. f z ≡ true) t (sym c.is_open.ensures ∙ c.if-is_open.true)))
    ∙ c.loop-before.invariant)

pub loop-before-preserved : goal.loop-before-preserved
loop-before-preserved g c =
    let f : ℕ → Bool = λ t. is_some ((g.M.Machine.world c.args.core.now).active t) in
    let b = c.loop-before.before in
    let below : b < 64 = search rules in
    let t : c.terminal_after-terminal.result ≡ suc b = omega (arith, c.terminal_after-terminal.ensures) in
    looks_after f b (last_terminal - b) (last_terminal - (b + 1)) (omega (arith, below, all_are))
    (subst (λ z. f z ≡ false) t (sym c.is_open.ensures ∙ c.if-is_open.false))
    ∙ c.loop-before.invariant

pub returns : goal.returns
returns g c =
    let f : ℕ → Bool = λ t. is_some ((g.M.Machine.world c.args.core.now).active t) in
    let b = c.loop-before.before in
    let all : b ≡ 64 = omega arith in
    let done : last_terminal - b ≡ 0 = omega (arith, all, all_are) in
    sym (ap (λ n. first_after f b n) done) ∙ c.loop-before.invariant
