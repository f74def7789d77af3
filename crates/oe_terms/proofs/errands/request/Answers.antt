use Rattle.std.proofs.Common.{◌≡◌, ◌-◌, rules}
use Rattle.oe_terms.proofs.ChainFacts.{words_more, request_drawn}
use Rattle.oe_terms.proofs.errands.request.Goals as goal

pub loop-before-preserved : goal.loop-before-preserved
loop-before-preserved c = words_more c.args.scale.now c.args.seed c.args.terminal c.loop-before.before _ _ _ _
    c.loop-before.invariant c.number.ensures c.errand-passed.ensures.drawn

pub returns-clause-drawn : goal.returns-clause-drawn
returns-clause-drawn c =
    let at : c.loop-before.before ≡ c.args.r - 1 = search rules in
    request_drawn c.args.scale.now c.args.seed c.args.terminal c.args.r c.loop-before.before _ _ _
    c.loop-before.invariant at c.errand.ensures.drawn
