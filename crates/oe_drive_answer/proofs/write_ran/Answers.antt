use Rattle.std.proofs.Common.{inl, inr, refl}
use Rattle.oe_drive_answer.proofs.write_ran.Goals as goal

pub returns-in-Ok : goal.returns-in-Ok
returns-in-Ok g c =
    let same = c.as_slice-commits.ensures.value in (
      c.as_slice-commits.result.now,
      rw same c.sort.ensures.moved,
      rw same c.sort.ensures.ordered,
      inl (c.in-Ok.ensures, refl),
    )

pub returns : goal.returns
returns g c =
    let same = c.as_slice-commits.ensures.value in (
      c.as_slice-commits.result.now,
      rw same c.sort.ensures.moved,
      rw same c.sort.ensures.ordered,
      inr (c.in-Err.ensures, c.fail.ensures),
    )
