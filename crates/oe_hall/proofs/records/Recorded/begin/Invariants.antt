use Rattle.oe_requests.specs.declared.steps.Step.TheVariants as step
use Rattle.oe_machine.specs.Steps.{begin_answer}
use Rattle.oe_history.specs.Views.{entry}
use Rattle.oe_hall.proofs.records.Recorded.begin.Given as goal

-- the entry of the call
abbrev pub ghosts-write : goal.ghosts-write
ghosts-write g a =
    record { entry = entry a.caller.now.by (step.Begin a.caller.now.by a.asked.now) (begin_answer a.answer.now) }
