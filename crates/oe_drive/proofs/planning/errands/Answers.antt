use Rattle.std.proofs.Common.{◌≡◌, ℕ, ◌+◌, [], ◌∷◌, ◌++◌, ap, ◌∙◌, rules}
use Rattle.oe_terms.proofs.ChainFacts.{words_more}
use Rattle.oe_drive.specs.Plans.{errands_of}
use Rattle.oe_drive.proofs.PlanFacts.{errands_more}
use Rattle.oe_drive.proofs.planning.errands.Goals as goal

pub loop-before-preserved : goal.loop-before-preserved
loop-before-preserved c =
    let number : c.unwrap-number.result ≡ c.loop-before.before + 1 = search rules in
    let pushed : c.push.new.self.items ≡ c.loop-before.errands.items ++ c.errand.result ∷ [] = search rules in (
      errands_more c.args.scale.now c.args.seed c.args.terminal c.loop-before.before c.unwrap-number.result _ _
          c.errand.result _ _ c.loop-before.invariant.0 c.loop-before.invariant.1 number c.errand.ensures.drawn pushed,
      words_more c.args.scale.now c.args.seed c.args.terminal c.loop-before.before c.unwrap-number.result _ _
          c.errand.result c.loop-before.invariant.1 number c.errand.ensures.drawn,
    )

pub returns : goal.returns
returns c =
    let all : c.loop-before.before ≡ c.args.requests = search rules in
    c.loop-before.invariant.0 ∙ ap (λ (n : ℕ). errands_of c.args.scale.now c.args.seed c.args.terminal n) all
