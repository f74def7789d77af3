use Rattle.oe_requests.specs.declared.steps.Step.TheVariants as step
use Rattle.oe_requests.specs.declared.answers.Answer.TheVariants as answer
use Rattle.oe_history.specs.Views.{entry}
use Rattle.oe_hall.proofs.records.Recorded.purge.Given as goal

-- the entry of the call
abbrev pub ghosts-write : goal.ghosts-write
ghosts-write g a =
    record { entry = entry a.caller.now.by (step.Purge a.asked.now) (answer.Purged a.answer.now) }
