use Rattle.oe_model.specs.System.{system}
use Rattle.oe_admission.proofs.LiveFacts.{left}
use Rattle.oe_file_serial.specs.InOrder.{between}
use Rattle.oe_file_serial.specs.Worlds.{IsAtWork}
use Rattle.oe_file_serial.proofs.alone.carried_out.Given as goal

abbrev pub invariant-loop-ended : goal.invariant-loop-ended
invariant-loop-ended g l = IsAtWork (between system (g.M.Machine.world l.fn.core)) l.terminal l.request
    (g.M.Machine.world l.core)

abbrev pub decreases-loop-ended : goal.decreases-loop-ended
decreases-loop-ended g l = left (g.M.Machine.world l.core) l.terminal
