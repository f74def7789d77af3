-- All are idle.
use Rattle.std.proofs.Common.{rules}
use Rattle.oe_log.specs.Kept.{idle_heads}
use Rattle.oe_log.proofs.log.idle_heads.Goals as goal

pub returns : goal.returns
unfolding idle_heads
returns c = search rules
