use Rattle.std.proofs.Common.{◌≡◌, ◌≤◌, take, length, vec_capacity}
use Rattle.oe_runs.specs.Run.{Served}
use Rattle.oe_runs.proofs.runs.run.Given as goal

abbrev pub invariant-loop-step : goal.invariant-loop-step
invariant-loop-step g l = record {
  served : Served (g.M.Machine.world l.initial.core) (take l.step-index l.steps) l.answers.items
      (g.M.Machine.world l.core);
  counted : length l.answers.items ≡ l.step-index;
  room : length l.steps ≤ vec_capacity l.answers;
}
