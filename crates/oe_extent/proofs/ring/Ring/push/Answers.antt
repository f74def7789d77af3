-- A string more, in the newest extent or in another; or neither has room.
use Rattle.std.proofs.Common.{◌-◌, ◌<◌, length, refl, sym, subst, deque_len, deque_capacity}
use Rattle.oe_extent.specs.Extents.{number_of}
use Rattle.oe_extent.specs.Ring.{RingStrings}
use Rattle.oe_extent.proofs.ChangeFacts.{not_full}
use Rattle.oe_extent.proofs.SlotFacts.{push_here, push_other, next_here, next_other, fits_here, is_full}
use Rattle.oe_extent.proofs.FreshFacts.{fresh_here, fresh_other}
use Rattle.oe_extent.proofs.ring.Ring.push.Goals as goal

pub invariant_of-self : goal.invariant_of-self
invariant_of-self g c =
    let slot = subst (λ (v : RingStrings). c.args.slot < length v.active) (sym c.self.view_is) c.requires.slot in
    let now = push_here c.self.inside.pool c.self.inside.active.items c.self.inside.committed.items
    (deque_capacity c.self.inside.committed - deque_len c.self.inside.committed) c.args.slot c.self.invariant slot
    c.index_mut.result.now c.push.new.self _ c.in-Some.address c.index_mut.ensures.value c.in-Some.ensures.rest
    c.requires.framed.long c.in-Some.ensures.address c.in-Some.ensures.pushed in
    now.ring

pub returns-in-Some-clause-pushed : goal.returns-in-Some-clause-pushed
returns-in-Some-clause-pushed g c =
    let slot = subst (λ (v : RingStrings). c.args.slot < length v.active) (sym c.self.view_is) c.requires.slot in
    let now = push_here c.self.inside.pool c.self.inside.active.items c.self.inside.committed.items
    (deque_capacity c.self.inside.committed - deque_len c.self.inside.committed) c.args.slot c.self.invariant slot
    c.index_mut.result.now c.push.new.self _ c.in-Some.address c.index_mut.ensures.value c.in-Some.ensures.rest
    c.requires.framed.long c.in-Some.ensures.address c.in-Some.ensures.pushed in
    rw (← c.self.view_is) now.view

pub returns-in-Some-clause-next : goal.returns-in-Some-clause-next
returns-in-Some-clause-next g c =
    let slot = subst (λ (v : RingStrings). c.args.slot < length v.active) (sym c.self.view_is) c.requires.slot in
    rw (← c.self.view_is)
    (next_here c.self.inside.pool c.self.inside.active.items c.self.inside.committed.items
    (deque_capacity c.self.inside.committed - deque_len c.self.inside.committed) c.args.slot c.self.invariant slot
    c.index_mut.result.now c.in-Some.address _ c.index_mut.ensures.value c.in-Some.ensures.rest
    c.in-Some.ensures.address)

pub returns-in-Some-clause-full : goal.returns-in-Some-clause-full
returns-in-Some-clause-full g c =
    let slot = subst (λ (v : RingStrings). c.args.slot < length v.active) (sym c.self.view_is) c.requires.slot in
    let fits = fits_here c.self.inside.pool c.self.inside.active.items c.self.inside.committed.items
    (deque_capacity c.self.inside.committed - deque_len c.self.inside.committed) c.args.slot c.self.invariant slot
    c.index_mut.result.now _ c.index_mut.ensures.value c.in-Some.ensures.rest in
    rw (← c.self.view_is) (λ e. absurd cc, λ f. absurd (fits f))

pub returns-in-Some-clause-fresh : goal.returns-in-Some-clause-fresh
returns-in-Some-clause-fresh g c =
    let slot = subst (λ (v : RingStrings). c.args.slot < length v.active) (sym c.self.view_is) c.requires.slot in
    rw (← c.self.view_is)
    (fresh_here c.self.inside.pool c.self.inside.active.items c.self.inside.committed.items
    (deque_capacity c.self.inside.committed - deque_len c.self.inside.committed) c.args.slot c.self.invariant slot
    c.index_mut.result.now c.in-Some.address _ c.index_mut.ensures.value c.in-Some.ensures.rest
    c.requires.framed.long c.in-Some.ensures.address)

pub returns-in_default-take-clause-full : goal.returns-in_default-take-clause-full
returns-in_default-take-clause-full g c =
    let slot = subst (λ (v : RingStrings). c.args.slot < length v.active) (sym c.self.view_is) c.requires.slot in
    let full = is_full c.self.inside.pool c.self.inside.active.items c.self.inside.committed.items
    (deque_capacity c.self.inside.committed - deque_len c.self.inside.committed) c.args.slot c.self.invariant slot
    c.index_mut.result.now _ c.index_mut.ensures.value c.in_default.ensures.none c.in_default-take.ensures.none in
    rw (← c.self.view_is) (λ e. full, λ f. refl)

pub invariant_of-self-2 : goal.invariant_of-self-2
invariant_of-self-2 g c =
    let slot = subst (λ (v : RingStrings). c.args.slot < length v.active) (sym c.self.view_is) c.requires.slot in
    let now = push_other c.self.inside.pool c.self.inside.active.items c.self.inside.committed.items
    (deque_capacity c.self.inside.committed - deque_len c.self.inside.committed) c.args.slot c.self.invariant slot
    c.index_mut.result.now c.push.new.self c.index_mut-2.result.now c.push_new.new.self _
    (number_of c.in-Some-take.extent.value) c.push_new.result c.take.new.self
    c.index_mut.ensures.value c.in_default.ensures.same c.index_mut-2.ensures.value c.in_default.ensures.none
    c.requires.small c.in-Some-take.ensures.next.is_free c.in-Some-take.ensures.taken c.push_new.ensures.address
    c.push_new.ensures.pushed in
    now.ring

pub returns-clause-pushed : goal.returns-clause-pushed
returns-clause-pushed g c =
    let slot = subst (λ (v : RingStrings). c.args.slot < length v.active) (sym c.self.view_is) c.requires.slot in
    let now = push_other c.self.inside.pool c.self.inside.active.items c.self.inside.committed.items
    (deque_capacity c.self.inside.committed - deque_len c.self.inside.committed) c.args.slot c.self.invariant slot
    c.index_mut.result.now c.push.new.self c.index_mut-2.result.now c.push_new.new.self _
    (number_of c.in-Some-take.extent.value) c.push_new.result c.take.new.self
    c.index_mut.ensures.value c.in_default.ensures.same c.index_mut-2.ensures.value c.in_default.ensures.none
    c.requires.small c.in-Some-take.ensures.next.is_free c.in-Some-take.ensures.taken c.push_new.ensures.address
    c.push_new.ensures.pushed in
    rw (← c.self.view_is) now.view

pub returns-clause-next : goal.returns-clause-next
returns-clause-next g c =
    let slot = subst (λ (v : RingStrings). c.args.slot < length v.active) (sym c.self.view_is) c.requires.slot in
    rw (← c.self.view_is)
    (next_other c.self.inside.pool c.self.inside.active.items c.self.inside.committed.items
    (deque_capacity c.self.inside.committed - deque_len c.self.inside.committed) c.args.slot c.self.invariant slot
    c.index_mut.result.now c.push_new.result _ (number_of c.in-Some-take.extent.value) c.index_mut.ensures.value
    c.in_default.ensures.none c.in-Some-take.ensures.next c.push_new.ensures.address)

pub returns-clause-full : goal.returns-clause-full
returns-clause-full g c =
    let fits = not_full c.self.inside.pool c.self.inside.active.items c.self.inside.committed.items
    (deque_capacity c.self.inside.committed - deque_len c.self.inside.committed) (number_of c.in-Some-take.extent.value)
    c.self.invariant c.in-Some-take.ensures.next.is_free in
    rw (← c.self.view_is) (λ e. absurd cc, λ f. absurd (fits f.1))

pub returns-clause-fresh : goal.returns-clause-fresh
returns-clause-fresh g c =
    rw (← c.self.view_is)
    (fresh_other c.self.inside.pool c.self.inside.active.items c.self.inside.committed.items
    (deque_capacity c.self.inside.committed - deque_len c.self.inside.committed) (number_of c.in-Some-take.extent.value)
    c.push_new.result c.self.invariant c.in-Some-take.ensures.next.is_free c.push_new.ensures.address)
