use Rattle.std.proofs.Common.{inl, refl, Ok, Err}
use Rattle.oe_drive_answer.proofs.answer_drive_to.Goals as goal

pub returns-in-Ok-run_drive : goal.returns-in-Ok-run_drive
returns-in-Ok-run_drive g c = inl (Ok c.in-Ok-run_drive.ran, c.in-Ok-run_drive.ensures.lines, c.write_ran.ensures)

pub returns : goal.returns
returns g c = inl (
  Err c.in-Err-run_drive.fault,
  c.in-Err-run_drive.ensures.lines,
  (refl, c.tell_fault.ensures),
)
