use Rattle.std.proofs.Common.{◌∙◌}
use Rattle.oe_io.proofs.Streaming.{all_sent, front_sent}
use Rattle.oe_drive.proofs.RestoredFacts.{told_so, told_well}
use Rattle.oe_drive.proofs.runs.run_drive.Goals as goal

pub returns-in-Err-flush-clause-lines : goal.returns-in-Err-flush-clause-lines
returns-in-Err-flush-clause-lines g c =
    let (left, fresh, back, populated, same, restored, holds, none) = c.in-Ok-ended.ensures in
    let waited =
    told_so _ _ _ _ c.report.ensures c.new-out.ensures none restored in (
      g.M.Machine.world c.in-Ok-driven_here.driven.core,
      c.in-Ok-driven_here.driven.counted.committed,
      c.in-Ok-driven_here.ensures.left,
      front_sent _ _ _ _ waited c.in-Err-flush.ensures.stream,
    )

pub returns-in-Ok-flush-clause-lines : goal.returns-in-Ok-flush-clause-lines
returns-in-Ok-flush-clause-lines g c =
    let (left, fresh, back, populated, same, restored, holds, none) = c.in-Ok-ended.ensures in
    let waited =
    told_so _ _ _ _ c.report.ensures c.new-out.ensures none restored in (
      g.M.Machine.world c.in-Ok-driven_here.driven.core,
      c.in-Ok-driven_here.ensures.left,
      all_sent _ _ _ _ _ c.flush.ensures.empty waited c.in-Ok-flush.ensures.stream,
      c.status.ensures ∙ told_well _ _ none restored,
    )
