use Rattle.std.proofs.Common.{ap, sym, subst, ◌∙◌}
use Rattle.oe_terms.specs.Ranges.{IsErrandOf}
use Rattle.oe_terms.proofs.ChainFacts.{errand_drawn}
use Rattle.oe_terms.proofs.RangeFacts.{errand_is_of}
use Rattle.oe_terms.proofs.errands.errand.Goals as goal

pub returns-clause-drawn : goal.returns-clause-drawn
returns-clause-drawn c = errand_drawn c.args.scale.now c.args.terminal c.args.r _ _ _ _ _ c.at-kind.ensures
    (c.number-place.ensures ∙ c.get.ensures.value) c.drawn.ensures

pub returns-clause-ranges : goal.returns-clause-ranges
returns-clause-ranges c =
    let drawn = errand_drawn c.args.scale.now c.args.terminal c.args.r _ _ _ _ _ c.at-kind.ensures
    (c.number-place.ensures ∙ c.get.ensures.value) c.drawn.ensures in
    subst (IsErrandOf c.args.scale.now) (ap (λ p. p.0) (sym drawn))
    (errand_is_of _ _ _ _ c.ranges_hold.ensures.scale c.ranges_hold.ensures.number)
