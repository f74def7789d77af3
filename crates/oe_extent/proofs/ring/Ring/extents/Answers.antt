-- Strings fill no more extents than there are.
use Rattle.std.proofs.Common.{◌-◌, arith, deque_len, deque_capacity}
use Rattle.oe_extent.proofs.ChangeFacts.{used_is}
use Rattle.oe_extent.proofs.ring.Ring.extents.Goals as goal

pub returns-clause-used : goal.returns-clause-used
returns-clause-used c =
    let used = used_is c.self.inside.pool c.self.inside.active.items c.self.inside.committed.items
    (deque_capacity c.self.inside.committed - deque_len c.self.inside.committed) c.self.invariant in
    rw (← c.self.view_is) (omega (arith, used, c.self.invariant.held.counted, c.len.ensures))
