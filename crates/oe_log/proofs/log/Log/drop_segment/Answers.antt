-- The open segment is gone.
use Rattle.std.proofs.Common.{refl, arith}
use Rattle.oe_log.proofs.CallFacts.{inside, some_opens}
use Rattle.oe_log.proofs.KeptFacts.{dropped}
use Rattle.oe_log.proofs.LayoutFacts.{log_is, dropped_of}
use Rattle.oe_log.proofs.log.Log.drop_segment.Goals as goal

pub overflow_sub-self : goal.overflow_sub-self
overflow_sub-self c =
    let some = rw (← c.self.view_is) at c.requires.open in
    omega (arith, some_opens c.self.inside.layout (inside c.self.invariant.kept) c.args.segment some)

pub invariant_of-self : goal.invariant_of-self
invariant_of-self c =
    let some = rw (← c.self.view_is) at c.requires.open in
    let empty = rw (← c.self.view_is) at c.requires.empty in
    log_is (dropped c.self.inside.layout c.self.invariant.kept c.terminal.result c.args.segment
    c.at_mut-state.result.now _
    c.terminal.ensures c.at_mut-state.ensures.low c.at_mut-state.ensures.high c.at_mut-state.ensures.value some empty
    refl) (dropped_of _ _ c.self.invariant.layout)

pub returns : goal.returns
returns c =
    let some = rw (← c.self.view_is) at c.requires.open in
    let empty = rw (← c.self.view_is) at c.requires.empty in
    rw (← c.self.view_is)
    ((dropped c.self.inside.layout c.self.invariant.kept c.terminal.result c.args.segment c.at_mut-state.result.now _
    c.terminal.ensures c.at_mut-state.ensures.low c.at_mut-state.ensures.high c.at_mut-state.ensures.value some empty
    refl).view)
