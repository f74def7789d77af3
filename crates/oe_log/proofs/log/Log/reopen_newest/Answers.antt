-- The newest commit is open again.
use Rattle.std.proofs.Common.{◌≡◌, ◌-◌, ◌+◌, refl, sym, ap, ◌∙◌, arith, rules, deque_capacity}
use Rattle.oe_extent.specs.Ring as ring
use Rattle.oe_log.specs.Log as seen
use Rattle.oe_log.specs.Log.{SegmentLog}
use Rattle.oe_log.proofs.CallFacts.{inside, few_opens, none_open}
use Rattle.oe_log.proofs.KeptFacts.{reopened, strings_none, some_strings}
use Rattle.oe_log.proofs.LayoutFacts.{log_is, reopened_of}
use Rattle.oe_log.proofs.log.Log.reopen_newest.Goals as goal

pub reopen_newest-requires-clause-empty : goal.reopen_newest-requires-clause-empty
reopen_newest-requires-clause-empty c =
    let none = rw (← c.self.view_is) at c.requires in
    strings_none c.self.inside.layout c.self.invariant.kept c.get-slot.result (none c.get-slot.result)

pub reopen_newest-requires-clause-some : goal.reopen_newest-requires-clause-some
reopen_newest-requires-clause-some c = some_strings c.self.inside.layout c.self.invariant.kept c.in-Some.head
    c.pop_front.new.self.items
    c.in-Some.ensures.items

pub overflow_add-self : goal.overflow_add-self
overflow_add-self c =
    let none = rw (← c.self.view_is) at c.requires in
    omega (
      arith,
      few_opens c.self.inside.layout (inside c.self.invariant.kept) c.get-slot.result c.get-slot.result refl
          c.get-slot.ensures.low
          (omega (arith, c.get-slot.ensures.high)) (none c.get-slot.result),
    )

pub invariant_of-self-2 : goal.invariant_of-self-2
invariant_of-self-2 c =
    let none = rw (← c.self.view_is) at c.requires in
    let closed = none_open c.self.inside.layout (inside c.self.invariant.kept) c.owner-owner.result.terminal
    (none c.owner-owner.result.terminal) in
    let moment : c.unwrap-self-inside.result ≡ c.self.inside.newest - 1 = search rules in
    log_is (reopened c.self.inside.layout c.self.invariant.kept _ c.pop_front.new.self.items c.in-Some.head
    (deque_capacity c.pop_front.new.self)
    c.reopen_newest.new.self.room c.unwrap-self-inside.result (c.self.inside.open_count + 1)
    c.owner-owner.result.terminal c.owner-owner.result.terminal c.len-state.result c.at_mut-state.result.now
    c.may_delete-state.result c.owner-owner.result c.reopen_newest.new.self
    c.in-Some.ensures.items c.pop_front.ensures.capacity refl c.at_mut-state.ensures.low c.at_mut-state.ensures.high
    (ap (λ z. z.terminal) (sym c.owner-owner.ensures)) c.at_mut-state.ensures.value closed c.owner-owner.ensures
    c.may_delete-state.ensures c.len-state.ensures refl
    (c.reopen_newest.ensures.reopened
    ∙ ap (λ t. record (ring.after_reopening_at c.self.inside.ring t) { room = c.reopen_newest.new.self.room })
    c.get-slot.ensures.value)
    c.reopen_newest.ensures.room moment refl)
    (reopened_of _ _ c.self.invariant.layout.committed c.self.invariant.layout)

pub returns-clause-reopened : goal.returns-clause-reopened
returns-clause-reopened c =
    let none = rw (← c.self.view_is) at c.requires in
    let closed = none_open c.self.inside.layout (inside c.self.invariant.kept) c.owner-owner.result.terminal
    (none c.owner-owner.result.terminal) in
    let moment : c.unwrap-self-inside.result ≡ c.self.inside.newest - 1 = search rules in
    (reopened c.self.inside.layout c.self.invariant.kept _ c.pop_front.new.self.items c.in-Some.head
    (deque_capacity c.pop_front.new.self)
    c.reopen_newest.new.self.room c.unwrap-self-inside.result (c.self.inside.open_count + 1)
    c.owner-owner.result.terminal c.owner-owner.result.terminal c.len-state.result c.at_mut-state.result.now
    c.may_delete-state.result c.owner-owner.result c.reopen_newest.new.self
    c.in-Some.ensures.items c.pop_front.ensures.capacity refl c.at_mut-state.ensures.low c.at_mut-state.ensures.high
    (ap (λ z. z.terminal) (sym c.owner-owner.ensures)) c.at_mut-state.ensures.value closed c.owner-owner.ensures
    c.may_delete-state.ensures c.len-state.ensures refl
    (c.reopen_newest.ensures.reopened
    ∙ ap (λ t. record (ring.after_reopening_at c.self.inside.ring t) { room = c.reopen_newest.new.self.room })
    c.get-slot.ensures.value)
    c.reopen_newest.ensures.room moment refl).view
    ∙ ap (λ (v : SegmentLog). seen.with_reopening v v.committed) c.self.view_is
