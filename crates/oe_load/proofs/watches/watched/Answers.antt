use Rattle.oe_load.specs.Turns.{counts_of, state_of}
use Rattle.oe_load.specs.declared.turns.Shortage.TheVariants.{NoEnd}
use Rattle.oe_load.proofs.LoadFacts.{first_is}
use Rattle.oe_load.proofs.BusyFacts.{watching_first, watching_more, watches_served, watches_short}
use Rattle.oe_load.proofs.watches.watched.Goals as goal

pub loop-init : goal.loop-init
loop-init g c = λ o fresh none.
    watching_first c.args.plan.now o (g.M.Machine.world c.args.core.now)
    (state_of (g.M.Machine.world c.args.core.now) (counts_of c.none_served-served.result)
    c.first_drawing-drawing.result)
    c.args.busyness.now
    (first_is c.args.plan.now (g.M.Machine.world c.args.core.now) (counts_of c.none_served-served.result)
    c.first_drawing-drawing.result c.none_served-served.ensures c.first_drawing-drawing.ensures.begun
    c.first_drawing-drawing.ensures.holders c.first_drawing-drawing.ensures.words)
    fresh none

pub returns-then-is_done : goal.returns-then-is_done
returns-then-is_done g c = λ o fresh none.
    watches_served c.args.plan.now o (state_of (g.M.Machine.world c.loop.core) (counts_of c.loop.served) c.loop.drawing)
    c.loop.busyness (c.loop.invariant o fresh none) (c.is_done.ensures c.if-is_done.true)

pub returns-in-Err : goal.returns-in-Err
returns-in-Err g c = λ o fresh none.
    watches_short c.args.plan.now o (state_of (g.M.Machine.world c.loop.core) (counts_of c.loop.served) c.loop.drawing)
    c.loop.busyness c.in-Err.shortage (c.loop.invariant o fresh none)

pub loop-preserved : goal.loop-preserved
loop-preserved g c = λ o fresh none.
    watching_more c.args.plan.now o (state_of (g.M.Machine.world c.loop.core) (counts_of c.loop.served)
    c.loop.drawing) _ _ _
    (state_of (g.M.Machine.world c.taken.new.core) (counts_of c.taken.new.served) c.taken.new.drawing) c.loop.busyness
    c.note.new.self c.in-Ok.ensures c.in_default.ensures (c.loop.invariant o fresh none)

pub returns : goal.returns
returns g c = λ o fresh none.
    watches_short c.args.plan.now o (state_of (g.M.Machine.world c.loop.core) (counts_of c.loop.served) c.loop.drawing)
    c.loop.busyness NoEnd (c.loop.invariant o fresh none)
