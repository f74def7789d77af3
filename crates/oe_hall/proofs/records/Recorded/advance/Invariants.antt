use Rattle.oe_requests.specs.declared.steps.Step.TheVariants as step
use Rattle.oe_history.specs.Views.{entry}
use Rattle.oe_hall.specs.Turns.{advance_answer}
use Rattle.oe_hall.proofs.records.Recorded.advance.Given as goal

-- the entry of the call
abbrev pub ghosts-write : goal.ghosts-write
ghosts-write g a =
    record { entry = entry a.caller.now.by (step.Advance a.caller.now.by) (advance_answer a.answer.now a.asked.now) }
