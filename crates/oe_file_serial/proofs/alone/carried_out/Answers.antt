use Rattle.oe_model.specs.System.{system}
use Rattle.oe_admission.proofs.LiveFacts.{falls}
use Rattle.oe_file_serial.specs.InOrder.{between}
use Rattle.oe_file_serial.proofs.WorkFacts.{begins_work, goes_on_at_work, ends_work, begin_refused}
use Rattle.oe_file_serial.proofs.alone.carried_out.Goals as goal

pub returns-in-Err : goal.returns-in-Err
returns-in-Err g c = λ s. begin_refused (g.M.Machine.world c.args.core.now) (g.M.Machine.world c.begin.new.self)
    c.args.terminal
    c.args.request.now c.in-Err.refusal c.requires c.in-Err.ensures.carries.0 s

pub loop-ended-init : goal.loop-ended-init
loop-ended-init g c = begins_work (g.M.Machine.world c.args.core.now) (g.M.Machine.world c.begin.new.self)
    c.args.terminal
    c.args.request.now c.requires c.in_default.ensures.carries.0

pub loop-ended-smaller : goal.loop-ended-smaller
loop-ended-smaller g c = falls (g.M.Machine.world c.loop-ended.core) (g.M.Machine.world c.advance.new.self)
    c.args.terminal
    c.loop-ended.invariant.live c.in-More.ensures.advances.0

pub loop-ended-preserved : goal.loop-ended-preserved
loop-ended-preserved g c = goes_on_at_work (between system (g.M.Machine.world c.args.core.now)) c.args.terminal
    c.args.request.now (g.M.Machine.world c.loop-ended.core) (g.M.Machine.world c.advance.new.self)
    c.loop-ended.invariant
    c.in-More.ensures.advances.0

pub returns-in_default-advance : goal.returns-in_default-advance
returns-in_default-advance g c = ends_work (between system (g.M.Machine.world c.args.core.now)) c.args.terminal
    c.args.request.now (g.M.Machine.world c.loop-ended.core) (g.M.Machine.world c.advance.new.self) c.advance.result
    (g.M.Machine.last c.advance.new.self c.args.terminal) c.loop-ended.invariant c.advance.ensures.advances
    c.in_default-advance.not-More
