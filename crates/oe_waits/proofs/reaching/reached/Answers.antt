use Rattle.std.proofs.Common.{◌∙◌, ap, sym, arith}
use Rattle.std.proofs.lemmas.List.{length-set}
use Rattle.oe_waits.specs.Reaching.{is_in, leads}
use Rattle.oe_waits.proofs.SetFacts.{closing_first, closing_next, one_less}
use Rattle.oe_waits.proofs.ReachFacts.{found_is}
use Rattle.oe_waits.proofs.reaching.reached.Goals as goal

pub loop-next-init : goal.loop-next-init
loop-next-init g c = (
  closing_first (leads (g.M.Machine.world c.args.core.now) c.args.way) c.args.from _ _ _ c.none-found.ensures.none
      c.none-done.ensures.none
      c.add_next.ensures,
  c.none-done.ensures.places,
)

pub loop-next-smaller : goal.loop-next-smaller
loop-next-smaller g c = one_less c.loop-next.done c.get.result
    (omega (arith, c.loop-next.invariant.1, c.get.ensures.high))
    (ap (λ t. is_in c.loop-next.done t) c.get.ensures.value ∙ c.in-Some.ensures.1)

pub loop-next-preserved : goal.loop-next-preserved
loop-next-preserved g c = (
  closing_next (leads (g.M.Machine.world c.args.core.now) c.args.way) c.args.from _ _ _ c.get.result
      c.loop-next.invariant.0
      c.get.ensures.low c.get.ensures.high
      (ap (λ t. is_in c.loop-next.found t) c.get.ensures.value ∙ c.in-Some.ensures.0)
      (rw (sym c.get.ensures.value) at c.add_next-in-Some.ensures),
  length-set c.loop-next.done c.get.result _ ∙ c.loop-next.invariant.1,
)

pub returns : goal.returns
returns g c = found_is (g.M.Machine.world c.args.core.now) c.is_reached.ensures c.args.way c.args.from _ _
    c.loop-next.invariant.0
    c.in_default.ensures
