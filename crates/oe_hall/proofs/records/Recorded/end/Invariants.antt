use Rattle.oe_requests.specs.declared.steps.Step.TheVariants as step
use Rattle.oe_history.specs.Views.{entry}
use Rattle.oe_hall.specs.Turns.{end_answer}
use Rattle.oe_hall.proofs.records.Recorded.end.Given as goal

-- the entry of the call
abbrev pub ghosts-write : goal.ghosts-write
ghosts-write g a =
    record { entry = entry a.caller.now.by (step.Rollback a.caller.now.by) (end_answer a.answer.now) }
