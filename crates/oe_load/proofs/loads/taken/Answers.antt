use Rattle.std.proofs.Common.{arith}
use Rattle.oe_load.proofs.loads.taken.Goals as goal

pub late-requires-clause-all : goal.late-requires-clause-all
late-requires-clause-all g c = omega (arith, c.if-drawing-get.false, c.get.ensures.value)
