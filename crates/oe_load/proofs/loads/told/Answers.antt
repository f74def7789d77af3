use Rattle.oe_load.specs.Turns.{counts_of, state_of}
use Rattle.oe_load.specs.declared.turns.Shortage.TheVariants.{NoEnd}
use Rattle.oe_load.proofs.LoadFacts.{first_is}
use Rattle.oe_load.proofs.EndFacts.{at_first, line_more, ends_served, ends_short, ends_there, ends_cut}
use Rattle.oe_load.proofs.loads.told.Goals as goal

pub loop-init : goal.loop-init
loop-init g c = λ o fresh opening.
    at_first c.args.plan.now o (g.W.Outlet.sink c.args.to.now) c.args.out.now.items (g.M.Machine.world c.args.core.now)
    (state_of (g.M.Machine.world c.args.core.now) (counts_of c.none_served-served.result)
    c.first_drawing-drawing.result)
    opening
    (first_is c.args.plan.now (g.M.Machine.world c.args.core.now) (counts_of c.none_served-served.result)
    c.first_drawing-drawing.result c.none_served-served.ensures c.first_drawing-drawing.ensures.begun
    c.first_drawing-drawing.ensures.holders c.first_drawing-drawing.ensures.words)
    fresh

pub returns-then-is_done : goal.returns-then-is_done
returns-then-is_done g c = λ o fresh opening.
    ends_served c.args.plan.now o (g.W.Outlet.sink c.args.to.now) (g.W.Outlet.sink c.loop.to) c.loop.out.items
    (state_of (g.M.Machine.world c.loop.core) (counts_of c.loop.served) c.loop.drawing)
    (c.loop.invariant o fresh opening)
    (c.is_done.ensures c.if-is_done.true)

pub returns-in-Err : goal.returns-in-Err
returns-in-Err g c = λ o fresh opening.
    ends_cut c.args.plan.now o (g.W.Outlet.sink c.args.to.now) (g.W.Outlet.sink c.loop.to)
    (g.W.Outlet.sink c.make_room.new.to) c.loop.out.items c.make_room.new.out.items
    (state_of (g.M.Machine.world c.loop.core) (counts_of c.loop.served) c.loop.drawing) _
    (c.loop.invariant o fresh opening)
    c.in-Err.ensures.stream

pub returns-in-Err-taken : goal.returns-in-Err-taken
returns-in-Err-taken g c = λ o fresh opening.
    ends_short c.args.plan.now o (g.W.Outlet.sink c.args.to.now) (g.W.Outlet.sink c.loop.to)
    (g.W.Outlet.sink c.make_room.new.to) c.loop.out.items c.make_room.new.out.items c.taken.new.out.items
    (state_of (g.M.Machine.world c.loop.core) (counts_of c.loop.served) c.loop.drawing) c.in-Err-taken.shortage
    (c.loop.invariant o fresh opening) c.in_default.ensures.stream c.in-Err-taken.ensures

pub loop-preserved : goal.loop-preserved
loop-preserved g c = λ o fresh opening.
    line_more c.args.plan.now o (g.W.Outlet.sink c.args.to.now) (g.W.Outlet.sink c.loop.to)
    (g.W.Outlet.sink c.make_room.new.to) c.loop.out.items c.make_room.new.out.items c.taken.new.out.items
    (state_of (g.M.Machine.world c.loop.core) (counts_of c.loop.served) c.loop.drawing) _
    (state_of (g.M.Machine.world c.taken.new.core) (counts_of c.taken.new.served) c.taken.new.drawing)
    (c.loop.invariant o fresh opening) c.in_default.ensures.stream c.in_default-taken.ensures

pub returns : goal.returns
returns g c = λ o fresh opening.
    ends_there c.args.plan.now o (g.W.Outlet.sink c.args.to.now) (g.W.Outlet.sink c.loop.to) c.loop.out.items
    (state_of (g.M.Machine.world c.loop.core) (counts_of c.loop.served) c.loop.drawing) NoEnd
    (c.loop.invariant o fresh opening)
