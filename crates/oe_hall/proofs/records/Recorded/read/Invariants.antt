use Rattle.oe_requests.specs.declared.steps.Step.TheVariants as step
use Rattle.oe_history.specs.Views.{entry}
use Rattle.oe_hall.specs.Turns.{read_answer}
use Rattle.oe_hall.proofs.records.Recorded.read.Given as goal

-- the entry of the call
abbrev pub ghosts-write : goal.ghosts-write
ghosts-write g a =
    record { entry = entry a.caller.now.by (step.Read a.asked.now.0 a.asked.now.1.now) (read_answer a.answer.now) }
