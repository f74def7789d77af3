use Rattle.std.proofs.Common.{ℕ, Some}
use Rattle.oe_theory.specs.World.{World}
use Rattle.oe_model.specs.System.{system}
use Rattle.oe_requests.specs.declared.answers.Answer.{Answer}
use Rattle.oe_script.specs.Script.{RunsIn}
use Rattle.oe_admission.specs.Programs.{IsLive}
use Rattle.oe_admission.proofs.LiveFacts.{left}
use Rattle.oe_script.proofs.outcome.run.Given as goal

-- what runs from here runs from the start
abbrev pub invariant-loop-ended : goal.invariant-loop-ended
invariant-loop-ended g l = record {
  live : IsLive (Some (g.M.Machine.world l.core));
  runs : (n : ℕ) (x : Answer) (w : World system) → RunsIn n (g.M.Machine.world l.core) l.terminal x w
      → (m : ℕ) × RunsIn m (g.M.Machine.world l.initial.core) l.terminal x w;
}

abbrev pub decreases-loop-ended : goal.decreases-loop-ended
decreases-loop-ended g l = left (g.M.Machine.world l.core) l.terminal
