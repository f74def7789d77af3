-- A commit more.
use Rattle.std.proofs.Common.{◌-◌, ◌<◌, length, sym, ◌∙◌, subst, deque_len, deque_capacity}
use Rattle.oe_extent.specs.Ring.{RingStrings}
use Rattle.oe_extent.proofs.SlotFacts.{seal_all}
use Rattle.oe_extent.proofs.ring.Ring.seal.Goals as goal

pub invariant_of-self : goal.invariant_of-self
invariant_of-self c =
    let slot = subst (λ (v : RingStrings). c.args.slot < length v.active) (sym c.self.view_is) c.requires.slot in
    let now = seal_all c.self.inside.pool c.self.inside.active.items c.self.inside.committed.items
    (deque_capacity c.self.inside.committed - deque_len c.self.inside.committed) c.args.slot c.self.invariant slot
    c.push_front_reserved.new.self.items
    (deque_capacity c.push_front_reserved.new.self - deque_len c.push_front_reserved.new.self)
    c.index_mut.result.now c.replace-list.result c.replace-list.new.dest c.index_mut.ensures.value
    c.replace-list.ensures.value
    (c.replace-list.ensures.after ∙ c.new.ensures) c.push_front_reserved.ensures.items in
    now.ring

pub returns-clause-sealed : goal.returns-clause-sealed
returns-clause-sealed c =
    let slot = subst (λ (v : RingStrings). c.args.slot < length v.active) (sym c.self.view_is) c.requires.slot in
    let now = seal_all c.self.inside.pool c.self.inside.active.items c.self.inside.committed.items
    (deque_capacity c.self.inside.committed - deque_len c.self.inside.committed) c.args.slot c.self.invariant slot
    c.push_front_reserved.new.self.items
    (deque_capacity c.push_front_reserved.new.self - deque_len c.push_front_reserved.new.self)
    c.index_mut.result.now c.replace-list.result c.replace-list.new.dest c.index_mut.ensures.value
    c.replace-list.ensures.value
    (c.replace-list.ensures.after ∙ c.new.ensures) c.push_front_reserved.ensures.items in
    rw (← c.self.view_is) now.view
