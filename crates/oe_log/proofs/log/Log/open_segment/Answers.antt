-- A segment is open, or memory was refused.
use Rattle.std.proofs.Common.{◌≡◌, ◌+◌, ◌≤◌, length, refl, sym, ap, ◌∙◌, arith, rules, deque_capacity}
use Rattle.oe_log.proofs.CallFacts.{inside, is_head, few_opens, below_count}
use Rattle.oe_log.proofs.KeptFacts.{opened, same}
use Rattle.oe_log.proofs.LayoutFacts.{log_is, opened_of}
use Rattle.oe_log.proofs.log.Log.open_segment.Goals as goal

pub overflow_add-needed : goal.overflow_add-needed
overflow_add-needed c =
    let closed = rw (← c.self.view_is) at c.requires.closed in
    omega (
      arith,
      few_opens c.self.inside.layout (inside c.self.invariant.kept) c.args.terminal c.args.terminal refl
          c.at.ensures.low
          c.at.ensures.high closed,
    )

pub overflow_add-count : goal.overflow_add-count
overflow_add-count c =
    let counted = rw (← c.self.view_is) at c.requires.counted in
    let below = below_count c.self.inside.layout (inside c.self.invariant.kept) c.args.terminal c.args.terminal
    4_294_967_295
    c.at.result.now refl
    c.at.ensures.high c.at.ensures.value counted in
    search rules

pub unwrap-number-requires : goal.unwrap-number-requires
unwrap-number-requires c =
    let counted = rw (← c.self.view_is) at c.requires.counted in
    let below = below_count c.self.inside.layout (inside c.self.invariant.kept) c.args.terminal c.args.terminal
    4_294_967_295
    c.at.result.now refl
    c.at.ensures.high c.at.ensures.value counted in
    search rules

pub invariant_of-self : goal.invariant_of-self
invariant_of-self c =
    log_is (same c.self.inside.layout c.self.invariant.kept (deque_capacity c.self.inside.commits)
    c.reserve.new.self.room
    c.self.inside.commits.items
    c.reserve.new.self refl c.self.invariant.kept.heads.spare
    c.reserve.ensures.same (omega (arith, c.self.invariant.kept.lie.room, c.reserve.ensures.more)))
    c.self.invariant.layout

pub invariant_of-self-then-is_err-2 : goal.invariant_of-self-then-is_err-2
invariant_of-self-then-is_err-2 c =
    log_is (same c.self.inside.layout c.self.invariant.kept (deque_capacity c.reserve-2.new.self)
    c.reserve.new.self.room
    c.reserve-2.new.self.items
    c.reserve.new.self c.reserve-2.ensures.items
    (omega (
      arith,
      ap length c.reserve-2.ensures.items,
      c.self.invariant.kept.heads.spare,
      c.reserve-2.ensures.capacity,
    ))
    c.reserve.ensures.same (omega (arith, c.self.invariant.kept.lie.room, c.reserve.ensures.more)))
    c.self.invariant.layout

pub invariant_of-self-2 : goal.invariant_of-self-2
invariant_of-self-2 c =
    let closed = rw (← c.self.view_is) at c.requires.closed in
    let counted = rw (← c.self.view_is) at c.requires.counted in
    let more : c.unwrap-number.result ≡ c.at.result.now.count + 1 = search rules in
    let number : c.unwrap-number.result ≡ c.at_mut-state.result.now.count + 1 =
    more
    ∙ ap (λ z. z.count + 1)
    (is_head c.self.inside.layout (inside c.self.invariant.kept) c.args.terminal c.at.result.now c.at.ensures.high
    c.at.ensures.value
    ∙ sym (is_head c.self.inside.layout (inside c.self.invariant.kept) c.args.terminal c.at_mut-state.result.now
    c.at.ensures.high
    c.at_mut-state.ensures.value)) in
    let spare : length c.reserve-2.new.self.items + (c.self.inside.open_count + 1) ≤ deque_capacity
    c.reserve-2.new.self = search rules in
    let room : c.self.inside.open_count + 1 ≤ c.reserve.new.self.room = search rules in
    log_is (opened c.self.inside.layout c.self.invariant.kept c.args.terminal c.args.terminal
    (deque_capacity c.reserve-2.new.self)
    (c.self.inside.open_count + 1) c.reserve.new.self.room c.at_mut-state.result.now
    (record { terminal = c.args.terminal; number = c.unwrap-number.result }) _ c.reserve-2.new.self.items
    c.reserve.new.self
    refl c.at.ensures.low c.at.ensures.high c.at_mut-state.ensures.value closed counted
    refl number refl c.reserve-2.ensures.items refl spare c.reserve.ensures.same room)
    (opened_of _ _ c.self.invariant.layout)

pub returns-clause-opened : goal.returns-clause-opened
returns-clause-opened c =
    let closed = rw (← c.self.view_is) at c.requires.closed in
    let counted = rw (← c.self.view_is) at c.requires.counted in
    let more : c.unwrap-number.result ≡ c.at.result.now.count + 1 = search rules in
    let number : c.unwrap-number.result ≡ c.at_mut-state.result.now.count + 1 =
    more
    ∙ ap (λ z. z.count + 1)
    (is_head c.self.inside.layout (inside c.self.invariant.kept) c.args.terminal c.at.result.now c.at.ensures.high
    c.at.ensures.value
    ∙ sym (is_head c.self.inside.layout (inside c.self.invariant.kept) c.args.terminal c.at_mut-state.result.now
    c.at.ensures.high
    c.at_mut-state.ensures.value)) in
    let spare : length c.reserve-2.new.self.items + (c.self.inside.open_count + 1) ≤ deque_capacity
    c.reserve-2.new.self = search rules in
    let room : c.self.inside.open_count + 1 ≤ c.reserve.new.self.room = search rules in
    rw (← c.self.view_is)
    ((opened c.self.inside.layout c.self.invariant.kept c.args.terminal c.args.terminal
    (deque_capacity c.reserve-2.new.self)
    (c.self.inside.open_count + 1) c.reserve.new.self.room c.at_mut-state.result.now
    (record { terminal = c.args.terminal; number = c.unwrap-number.result }) _ c.reserve-2.new.self.items
    c.reserve.new.self
    refl c.at.ensures.low c.at.ensures.high c.at_mut-state.ensures.value closed counted
    refl number refl c.reserve-2.ensures.items refl spare c.reserve.ensures.same room).view)
