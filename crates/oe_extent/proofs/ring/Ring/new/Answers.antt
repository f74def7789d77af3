-- A new ring has no strings.
use Rattle.oe_extent.proofs.CommitFacts.{new_is}
use Rattle.oe_extent.proofs.ring.Ring.new.Goals as goal

pub returns : goal.returns
returns c =
    new_is c.in_ok-pool.pool c.in_ok-active.active.items c.new-2.result.items _ c.args.extents c.args.slots
    c.in_ok-pool.ensures.free c.in_ok-pool.ensures.cursor c.in_ok-active.ensures c.new-2.ensures.items
