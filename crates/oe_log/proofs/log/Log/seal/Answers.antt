-- The open segment is that of the newest commit.
use Rattle.std.proofs.Common.{◌≡◌, ◌+◌, ◌-◌, refl, sym, ap, ◌∙◌, arith, rules, deque_capacity}
use Rattle.oe_extent.specs.Ring as ring
use Rattle.oe_log.proofs.CallFacts.{inside, never_none, below_open, moment_fits, some_opens, total_is}
use Rattle.oe_log.proofs.KeptFacts.{sealed}
use Rattle.oe_log.proofs.LayoutFacts.{log_is, sealed_of}
use Rattle.oe_log.proofs.log.Log.seal.Goals as goal

pub unwrap-moment-requires : goal.unwrap-moment-requires
unwrap-moment-requires c =
    let fits = moment_fits c.self.inside.layout (inside c.self.invariant.kept) in
    search rules

pub unreachable-requires : goal.unreachable-requires
unreachable-requires c =
    let some = rw (← c.self.view_is) at c.requires in
    never_none c.self.inside.layout (inside c.self.invariant.kept) c.terminal-terminal.result c.args.segment
    c.at_mut-state.result.now
    c.terminal-terminal.ensures c.at_mut-state.ensures.high
    c.at_mut-state.ensures.value some (sym c.take.ensures.value ∙ c.in_default.is)

pub overflow_add-state : goal.overflow_add-state
overflow_add-state c =
    let below = below_open c.self.inside.layout (inside c.self.invariant.kept) c.terminal-terminal.result
    c.at_mut-state.result.now
    c.in-Some.owner c.at_mut-state.ensures.high c.at_mut-state.ensures.value
    (sym c.take.ensures.value ∙ c.in-Some.is) in
    omega arith

pub overflow_sub-self : goal.overflow_sub-self
overflow_sub-self c =
    let some = rw (← c.self.view_is) at c.requires in
    omega (arith, some_opens c.self.inside.layout (inside c.self.invariant.kept) c.args.segment some)

pub invariant_of-self : goal.invariant_of-self
invariant_of-self c =
    let moment : c.unwrap-moment.result ≡ c.self.inside.newest + 1 = search rules in
    let some = rw (← c.self.view_is) at c.requires in
    log_is (sealed c.self.inside.layout c.self.invariant.kept c.terminal-terminal.result c.args.segment
    (c.at_mut-state.result.now.count + 1)
    c.replace-len.new.dest c.unwrap-moment.result (c.self.inside.open_count - 1) c.seal.new.self.room
    c.at_mut-state.result.now c.in-Some.owner c.take.new.self
    (record {
      terminal = c.in-Some.owner.terminal;
      number = c.in-Some.owner.number;
      deletes = c.at_mut-state.result.now.deletes;
      len = c.replace-len.result;
      request = c.args.request.value;
      reply =
          c.args.reply.value;
    })
    (deque_capacity c.push_front_reserved.new.self) _ c.push_front_reserved.new.self.items c.seal.new.self
    c.terminal-terminal.ensures c.at_mut-state.ensures.low c.at_mut-state.ensures.high c.at_mut-state.ensures.value
    (sym c.take.ensures.value ∙ c.in-Some.is)
    c.take.ensures.after refl refl refl refl c.replace-len.ensures.value
    refl c.replace-len.ensures.after c.push_front_reserved.ensures.items c.push_front_reserved.ensures.capacity
    (c.seal.ensures.sealed ∙ ap (λ t. record (ring.after_seal_at c.self.inside.ring t) { room = c.seal.new.self.room })
    c.get-slot.ensures.value)
    c.seal.ensures.room moment refl (some_opens c.self.inside.layout (inside c.self.invariant.kept) c.args.segment
    some))
    (sealed_of _ _ _ _ c.self.invariant.layout)

pub returns-clause-sealed : goal.returns-clause-sealed
returns-clause-sealed c =
    let moment : c.unwrap-moment.result ≡ c.self.inside.newest + 1 = search rules in
    let some = rw (← c.self.view_is) at c.requires in
    rw (← c.self.view_is)
    ((sealed c.self.inside.layout c.self.invariant.kept c.terminal-terminal.result c.args.segment
    (c.at_mut-state.result.now.count + 1)
    c.replace-len.new.dest c.unwrap-moment.result (c.self.inside.open_count - 1) c.seal.new.self.room
    c.at_mut-state.result.now c.in-Some.owner c.take.new.self
    (record {
      terminal = c.in-Some.owner.terminal;
      number = c.in-Some.owner.number;
      deletes = c.at_mut-state.result.now.deletes;
      len = c.replace-len.result;
      request = c.args.request.value;
      reply =
          c.args.reply.value;
    })
    (deque_capacity c.push_front_reserved.new.self) _ c.push_front_reserved.new.self.items c.seal.new.self
    c.terminal-terminal.ensures c.at_mut-state.ensures.low c.at_mut-state.ensures.high c.at_mut-state.ensures.value
    (sym c.take.ensures.value ∙ c.in-Some.is)
    c.take.ensures.after refl refl refl refl c.replace-len.ensures.value
    refl c.replace-len.ensures.after c.push_front_reserved.ensures.items c.push_front_reserved.ensures.capacity
    (c.seal.ensures.sealed ∙ ap (λ t. record (ring.after_seal_at c.self.inside.ring t) { room = c.seal.new.self.room })
    c.get-slot.ensures.value)
    c.seal.ensures.room moment refl (some_opens c.self.inside.layout (inside c.self.invariant.kept) c.args.segment
    some)).view)

pub returns-clause-moment : goal.returns-clause-moment
returns-clause-moment c =
    let moment : c.unwrap-moment.result ≡ c.self.inside.newest + 1 = search rules in
    rw (← c.self.view_is) (moment ∙ ap (λ n. n + 1) (sym (total_is c.self.inside.layout
    (inside c.self.invariant.kept))))
