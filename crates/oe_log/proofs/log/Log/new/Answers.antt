-- No segment, and all terminals idle.
use Rattle.std.proofs.Common.{arith, deque_capacity}
use Rattle.oe_log.proofs.KeptFacts.{new_is}
use Rattle.oe_log.proofs.LayoutFacts.{log_is, none_of}
use Rattle.oe_log.proofs.log.Log.new.Goals as goal

pub invariant_of-result : goal.invariant_of-result
invariant_of-result c =
    let now = new_is c.args.layout c.args.extents c.in-Ok.ring.room (deque_capacity c.new-3.result)
    c.in_ok-terminals.terminals
    c.new-3.result.items c.in-Ok.ring
    (omega (arith, c.get-known.ensures.value, c.get-known.ensures.high)) c.in_ok-terminals.ensures c.new-3.ensures.items
    c.in-Ok.ensures in
    rw c.in-Some.ensures.value (log_is now (none_of _ _))

pub returns : goal.returns
returns c =
    let now = new_is c.args.layout c.args.extents c.in-Ok.ring.room (deque_capacity c.new-3.result)
    c.in_ok-terminals.terminals
    c.new-3.result.items c.in-Ok.ring
    (omega (arith, c.get-known.ensures.value, c.get-known.ensures.high)) c.in_ok-terminals.ensures c.new-3.ensures.items
    c.in-Ok.ensures in
    now.view
