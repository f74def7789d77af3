use Rattle.std.proofs.Common.{◌≡◌, ℕ, List, suc, ◌+◌, ◌++◌, [], cond, ap, ◌∙◌, subst, arith}
use Rattle.std.specs.Prelude.{◌&&◌}
use Rattle.oe_waits.specs.Reaching.{is_in}
use Rattle.oe_waits.specs.Texts.{terminal_text, texts_to}
use Rattle.oe_waits.proofs.TextFacts.{last_is, texts_on}
use Rattle.oe_waits.proofs.shows.members.Goals as goal

pub returns-clause-items : goal.returns-clause-items
returns-clause-items c =
    let all : c.loop-before.before ≡ 64 = omega arith in
    subst (λ n. c.loop-before.out.items ≡ c.args.out.now.items
    ++ texts_to (λ u. cond (is_in c.args.ahead.now u && is_in c.args.back.now u) (terminal_text u) []) n)
    (last_is _ all)
    c.loop-before.invariant.0

pub loop-before-preserved : goal.loop-before-preserved
loop-before-preserved c =
    let f : ℕ → List ℕ = λ u. cond (is_in c.args.ahead.now u && is_in c.args.back.now u) (terminal_text u) [] in
    let n = c.loop-before.before in
    let same : c.terminal_after.result ≡ n + 1 = c.terminal_after.ensures in
    let one : n + 1 ≡ suc n = omega arith in (
      texts_on c.args.out.now.items c.loop-before.out.items c.member.new.out.items f n (n + 1) one
          c.loop-before.invariant.0
          (c.member.ensures.items ∙ ap (λ t. c.loop-before.out.items ++ f t) same),
      omega (arith, c.member.ensures.len, c.loop-before.invariant.1),
    )
