-- The newest commit's strings are a slot's again.
use Rattle.std.proofs.Common.{◌≡◌, ◌-◌, ◌<◌, [], length, get_or, refl, sym, subst, deque_len, deque_capacity}
use Rattle.oe_extent.specs.Ring.{RingStrings}
use Rattle.oe_extent.proofs.SlotFacts.{reopen_all}
use Rattle.oe_extent.proofs.ring.Ring.reopen_newest.Goals as goal

pub invariant_of-self : goal.invariant_of-self
invariant_of-self c =
    let slot = subst (λ (v : RingStrings). c.args.slot < length v.active) (sym c.self.view_is) c.requires.slot in
    let empty = subst (λ (v : RingStrings). get_or v.active c.args.slot [] ≡ []) (sym c.self.view_is)
    c.requires.empty in
    let now = reopen_all c.self.inside.pool c.self.inside.active.items c.self.inside.committed.items
    (deque_capacity c.self.inside.committed - deque_len c.self.inside.committed) c.args.slot c.self.invariant slot
    c.pop_front-newest.new.self.items
    (deque_capacity c.pop_front-newest.new.self - deque_len c.pop_front-newest.new.self)
    c.in-Some.list c.in-Some.list empty c.in-Some.ensures.items refl in
    now.ring

pub returns-clause-reopened : goal.returns-clause-reopened
returns-clause-reopened c =
    let slot = subst (λ (v : RingStrings). c.args.slot < length v.active) (sym c.self.view_is) c.requires.slot in
    let empty = subst (λ (v : RingStrings). get_or v.active c.args.slot [] ≡ []) (sym c.self.view_is)
    c.requires.empty in
    let now = reopen_all c.self.inside.pool c.self.inside.active.items c.self.inside.committed.items
    (deque_capacity c.self.inside.committed - deque_len c.self.inside.committed) c.args.slot c.self.invariant slot
    c.pop_front-newest.new.self.items
    (deque_capacity c.pop_front-newest.new.self - deque_len c.pop_front-newest.new.self)
    c.in-Some.list c.in-Some.list empty c.in-Some.ensures.items refl in
    rw (← c.self.view_is) now.view
