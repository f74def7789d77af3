use Rattle.std.proofs.Common.{◌≡◌, ◌++◌, [], cond, subst, arith}
use Rattle.oe_waits.specs.Waits.{waits_for}
use Rattle.oe_waits.specs.Texts.{terminal_text, texts_to}
use Rattle.oe_waits.proofs.TextFacts.{last_is}
use Rattle.oe_waits.proofs.shows.holders.Goals as goal

pub returns-clause-items : goal.returns-clause-items
returns-clause-items g c =
    let all : c.loop-before.before ≡ 64 = omega arith in
    subst (λ n. c.loop-before.out.items ≡ c.args.out.now.items
    ++ texts_to (λ u. cond (waits_for (g.M.Machine.world c.args.core.now) c.args.waiting u) (terminal_text u) []) n)
    (last_is _ all)
    c.loop-before.invariant.0
