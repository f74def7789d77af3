-- The oldest commit's extents are free again.
use Rattle.std.proofs.Common.{◌-◌, deque_len, deque_capacity}
use Rattle.oe_extent.proofs.CommitFacts.{last_within, last_gone}
use Rattle.oe_extent.proofs.ring.Ring.drop_oldest.Goals as goal

pub give_all-requires : goal.give_all-requires
give_all-requires c =
    last_within c.self.inside.pool c.self.inside.active.items c.self.inside.committed.items
    (deque_capacity c.self.inside.committed - deque_len c.self.inside.committed) c.self.invariant
    c.in-Some.list c.pop_back-taken.new.self.items c.in-Some.ensures.items

pub invariant_of-self : goal.invariant_of-self
invariant_of-self c =
    let now = last_gone c.self.inside.pool c.self.inside.active.items c.self.inside.committed.items
    (deque_capacity c.self.inside.committed - deque_len c.self.inside.committed) c.self.invariant
    (deque_capacity c.pop_back-taken.new.self - deque_len c.pop_back-taken.new.self) c.in-Some.list
    c.pop_back-taken.new.self.items c.give_all.new.self
    c.in-Some.ensures.items c.give_all.ensures in
    now.ring

pub returns-in-Some-clause-left : goal.returns-in-Some-clause-left
returns-in-Some-clause-left c =
    let now = last_gone c.self.inside.pool c.self.inside.active.items c.self.inside.committed.items
    (deque_capacity c.self.inside.committed - deque_len c.self.inside.committed) c.self.invariant
    (deque_capacity c.pop_back-taken.new.self - deque_len c.pop_back-taken.new.self) c.in-Some.list
    c.pop_back-taken.new.self.items c.give_all.new.self
    c.in-Some.ensures.items c.give_all.ensures in
    rw (← c.self.view_is) now.view
