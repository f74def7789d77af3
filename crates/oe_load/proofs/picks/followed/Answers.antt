use Rattle.std.proofs.Common.{◌≡◌, ℕ, suc, ◌+◌, ◌-◌, ◌<◌, Option, sym, ap, ◌∙◌, rules, arith}
use Rattle.std.proofs.lemmas.Bool.{eq-eqb, ne_eqb}
use Rattle.oe_theory.specs.World.{World}
use Rattle.oe_model.specs.System.{system}
use Rattle.oe_waits.specs.Waits.{last_terminal}
use Rattle.oe_load.specs.Picks.{holders_of, waits_end}
use Rattle.oe_load.proofs.PickFacts.{ends, comes_back, goes_on, all_are}
use Rattle.oe_load.proofs.picks.followed.Goals as goal

pub returns-in-None : goal.returns-in-None
returns-in-None g c =
    let w : World system = g.M.Machine.world c.args.core.now in
    let named : ℕ → Option ℕ = holders_of c.args.holders.now in
    let t = c.args.terminal in
    let k = c.loop.counter in
    let below : k < 64 = search rules in
    let left : last_terminal - k ≡ suc (last_terminal - (k + 1)) = omega (arith, below, all_are) in
    sym (ap (λ n. waits_end w named t n c.loop.at) left
    ∙ ends w named t (last_terminal - (k + 1)) c.loop.at (sym c.holder_of.ensures ∙ c.in-None.is))
    ∙ c.loop.invariant

pub returns-then-eq : goal.returns-then-eq
returns-then-eq g c =
    let w : World system = g.M.Machine.world c.args.core.now in
    let named : ℕ → Option ℕ = holders_of c.args.holders.now in
    let t = c.args.terminal in
    let k = c.loop.counter in
    let below : k < 64 = search rules in
    let left : last_terminal - k ≡ suc (last_terminal - (k + 1)) = omega (arith, below, all_are) in
    sym (ap (λ n. waits_end w named t n c.loop.at) left
    ∙ comes_back w named t (last_terminal - (k + 1)) c.loop.at c.in-Some.holder
    (sym c.holder_of.ensures ∙ c.in-Some.is) (eq-eqb c.in-Some.holder t (search rules)))
    ∙ c.loop.invariant

pub loop-preserved : goal.loop-preserved
loop-preserved g c =
    let w : World system = g.M.Machine.world c.args.core.now in
    let named : ℕ → Option ℕ = holders_of c.args.holders.now in
    let t = c.args.terminal in
    let k = c.loop.counter in
    let below : k < 64 = search rules in
    let left : last_terminal - k ≡ suc (last_terminal - (k + 1)) = omega (arith, below, all_are) in
    sym (ap (λ n. waits_end w named t n c.loop.at) left
    ∙ goes_on w named t (last_terminal - (k + 1)) c.loop.at c.in-Some.holder
    (sym c.holder_of.ensures ∙ c.in-Some.is) (ne_eqb c.in-Some.holder t (search rules)))
    ∙ c.loop.invariant

pub returns : goal.returns
returns g c =
    let w : World system = g.M.Machine.world c.args.core.now in
    let named : ℕ → Option ℕ = holders_of c.args.holders.now in
    let all : c.loop.counter ≡ 64 = omega arith in
    let done : last_terminal - c.loop.counter ≡ 0 = omega (arith, all, all_are) in
    sym (ap (λ n. waits_end w named c.args.terminal n c.loop.at) done) ∙ c.loop.invariant
