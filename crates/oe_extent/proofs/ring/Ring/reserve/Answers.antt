-- What there was room for has room still.
use Rattle.std.proofs.Common.{arith}
use Rattle.oe_extent.proofs.ring.Ring.reserve.Goals as goal

pub returns-clause-more : goal.returns-clause-more
returns-clause-more c = rw (← c.self.view_is) (omega (arith, c.reserve.ensures.len, c.reserve.ensures.capacity))
