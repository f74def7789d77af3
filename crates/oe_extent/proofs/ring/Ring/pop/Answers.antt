-- A string less, and its extent free where it was the only one there.
use Rattle.std.proofs.Common.{◌-◌, ◌<◌, [], length, get_or, set, sym, ap, ◌∙◌, subst, deque_len, deque_capacity}
use Rattle.oe_extent.specs.Free.{FreeExtents}
use Rattle.oe_extent.specs.Extents.{number_of}
use Rattle.oe_extent.specs.Ring.{RingStrings}
use Rattle.oe_extent.specs.Kept.{IsRing}
use Rattle.oe_extent.proofs.ChangeFacts.{ring_view}
use Rattle.oe_extent.proofs.SlotFacts.{some_there, pop_here, pop_own}
use Rattle.oe_extent.proofs.ring.Ring.pop.Goals as goal

pub pop-emptied-requires : goal.pop-emptied-requires
pop-emptied-requires c =
    let slot = subst (λ (v : RingStrings). c.args.slot < length v.active) (sym c.self.view_is) c.requires.slot in
    let some = subst (λ (v : RingStrings). 0 < length (get_or v.active c.args.slot [])) (sym c.self.view_is)
    c.requires.some in
    some_there c.self.inside.pool c.self.inside.active.items c.self.inside.committed.items
    (deque_capacity c.self.inside.committed - deque_len c.self.inside.committed) c.args.slot c.self.invariant slot
    c.index_mut.result.now c.index_mut.ensures.value some

pub give-requires : goal.give-requires
give-requires c =
    let slot = subst (λ (v : RingStrings). c.args.slot < length v.active) (sym c.self.view_is) c.requires.slot in
    let now = pop_own c.self.inside.pool c.self.inside.active.items c.self.inside.committed.items
    (deque_capacity c.self.inside.committed - deque_len c.self.inside.committed) c.args.slot c.self.invariant slot
    c.index_mut.result.now c.pop-emptied.new.self (number_of c.in-Some.extent.value) c.index_mut.ensures.value
    c.in-Some.ensures.only c.in-Some.ensures.emptied in
    now.1

pub invariant_of-self : goal.invariant_of-self
invariant_of-self c =
    let slot = subst (λ (v : RingStrings). c.args.slot < length v.active) (sym c.self.view_is) c.requires.slot in
    let now = pop_own c.self.inside.pool c.self.inside.active.items c.self.inside.committed.items
    (deque_capacity c.self.inside.committed - deque_len c.self.inside.committed) c.args.slot c.self.invariant slot
    c.index_mut.result.now c.pop-emptied.new.self (number_of c.in-Some.extent.value) c.index_mut.ensures.value
    c.in-Some.ensures.only c.in-Some.ensures.emptied in
    subst (λ (f : FreeExtents). IsRing f.is_free (set c.self.inside.active.items c.args.slot c.pop-emptied.new.self)
    c.self.inside.committed.items)
    (sym c.give.ensures) now.0.ring

pub invariant_of-self-in_default : goal.invariant_of-self-in_default
invariant_of-self-in_default c =
    let slot = subst (λ (v : RingStrings). c.args.slot < length v.active) (sym c.self.view_is) c.requires.slot in
    let now = pop_here c.self.inside.pool c.self.inside.active.items c.self.inside.committed.items
    (deque_capacity c.self.inside.committed - deque_len c.self.inside.committed) c.args.slot c.self.invariant slot
    c.index_mut.result.now c.pop-emptied.new.self c.index_mut.ensures.value c.in_default.ensures.left in
    now.ring

pub returns-in-Some : goal.returns-in-Some
returns-in-Some c =
    let slot = subst (λ (v : RingStrings). c.args.slot < length v.active) (sym c.self.view_is) c.requires.slot in
    let now = pop_own c.self.inside.pool c.self.inside.active.items c.self.inside.committed.items
    (deque_capacity c.self.inside.committed - deque_len c.self.inside.committed) c.args.slot c.self.invariant slot
    c.index_mut.result.now c.pop-emptied.new.self (number_of c.in-Some.extent.value) c.index_mut.ensures.value
    c.in-Some.ensures.only c.in-Some.ensures.emptied in
    let given = ap (λ (f : FreeExtents). ring_view f (set c.self.inside.active.items c.args.slot c.pop-emptied.new.self)
    c.self.inside.committed.items (deque_capacity c.self.inside.committed - deque_len c.self.inside.committed))
    c.give.ensures in
    rw (← c.self.view_is) (given ∙ now.0.view)

pub returns-in_default : goal.returns-in_default
returns-in_default c =
    let slot = subst (λ (v : RingStrings). c.args.slot < length v.active) (sym c.self.view_is) c.requires.slot in
    let now = pop_here c.self.inside.pool c.self.inside.active.items c.self.inside.committed.items
    (deque_capacity c.self.inside.committed - deque_len c.self.inside.committed) c.args.slot c.self.invariant slot
    c.index_mut.result.now c.pop-emptied.new.self c.index_mut.ensures.value c.in_default.ensures.left in
    rw (← c.self.view_is) now.view
