use Rattle.std.proofs.Common.{◌≡◌, ◌<◌, length, arith, true, ap, ◌∙◌}
use Rattle.oe_locks.specs.Held.{mode_held, go_together}
use Rattle.oe_locks.proofs.HeldFacts.{held-at, within-rest, free-rest, not_false, not_true}
use Rattle.oe_locks.proofs.SetFacts.{size-less}
use Rattle.oe_locks.proofs.Locks.least_in_the_way.Goals as goal

pub returns-then-conflicts : goal.returns-then-conflicts
returns-then-conflicts c =
    let room : c.in-Some.other < length c.self.inside.held =
    omega (arith, c.at.ensures.size, c.at.ensures.high) in
    let at =
    held-at c.self.inside.held c.in-Some.other c.at.result.now room c.at.ensures.value c.args.name.now in
    rw (← c.self.view_is) (record {
      other = c.loop-other.invariant.within c.in-Some.other c.in-Some.ensures.in_set;
      conflicts = ap (go_together c.args.mode) at ∙ not_true _ (c.if-conflicts.ensures);
      least = λ v below among. c.loop-other.invariant.free v among (c.in-Some.ensures.least v below);
    })

pub loop-other-preserved : goal.loop-other-preserved
loop-other-preserved c =
    let room : c.in-Some.other < length c.self.inside.held =
    omega (arith, c.at.ensures.size, c.at.ensures.high) in
    let at =
    held-at c.self.inside.held c.in-Some.other c.at.result.now room c.at.ensures.value c.args.name.now in
    let free : go_together c.args.mode (mode_held c.self.inside.held c.in-Some.other c.args.name.now) ≡ true =
    ap (go_together c.args.mode) at ∙ not_false _ c.if-conflicts.ensures in
    record {
      within = within-rest c.self.inside.held c.args.others c.loop-other.left c.without-left.result c.in-Some.other
          c.args.name.now c.args.mode c.without-left.ensures c.loop-other.invariant.within;
      free = free-rest c.self.inside.held c.args.others c.loop-other.left c.without-left.result c.in-Some.other
          c.args.name.now c.args.mode c.without-left.ensures free c.loop-other.invariant.free;
    }

pub loop-other-smaller : goal.loop-other-smaller
loop-other-smaller c = size-less c.loop-other.left c.without-left.result c.in-Some.other c.without-left.ensures 64
    c.at.ensures.low c.at.ensures.high c.in-Some.ensures.in_set
