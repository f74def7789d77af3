-- A record less, where there is one.
use Rattle.std.proofs.Common.{◌≡◌, ◌-◌, [], length, get_or, sym, ap, ◌∙◌, arith}
use Rattle.oe_extent.specs.Ring as ring
use Rattle.oe_log.proofs.CallFacts.{inside, is_head}
use Rattle.oe_log.proofs.KeptFacts.{len_lies, popped, not_popped}
use Rattle.oe_log.proofs.LayoutFacts.{log_is, popped_of}
use Rattle.oe_log.proofs.log.Log.pop.Goals as goal

pub pop-requires-clause-some : goal.pop-requires-clause-some
pop-requires-clause-some c =
    let len = len_lies c.self.inside.layout c.self.invariant.kept c.terminal-terminal.result c.at.result.now
    c.at.ensures.high c.at.ensures.value
    ∙ ap (λ t. length (get_or c.self.inside.ring.active t [])) (sym c.get-slot.ensures.value) in
    omega (arith, len, c.if-len-gt0.true)

pub invariant_of-self : goal.invariant_of-self
invariant_of-self c =
    let some = rw (← c.self.view_is) at c.requires in
    let less : c.at.result.now.len - 1 ≡ c.at_mut.result.now.len - 1 =
    ap (λ z. z.len - 1)
    (is_head c.self.inside.layout (inside c.self.invariant.kept) c.terminal-terminal.result c.at.result.now
    c.at.ensures.high
    c.at.ensures.value
    ∙ sym (is_head c.self.inside.layout (inside c.self.invariant.kept) c.terminal-terminal.result c.at_mut.result.now
    c.at.ensures.high
    c.at_mut.ensures.value)) in
    log_is (popped c.self.inside.layout c.self.invariant.kept c.terminal-terminal.result c.args.segment
    (c.at.result.now.len - 1)
    c.at_mut.result.now
    c.pop.new.self
    c.terminal-terminal.ensures c.at.ensures.low c.at.ensures.high c.at_mut.ensures.value some less
    (c.pop.ensures ∙ ap (ring.without_string_at c.self.inside.ring) c.get-slot.ensures.value))
    (popped_of _ _ c.self.invariant.layout)

pub returns-then-len-gt0 : goal.returns-then-len-gt0
returns-then-len-gt0 c =
    let some = rw (← c.self.view_is) at c.requires in
    let less : c.at.result.now.len - 1 ≡ c.at_mut.result.now.len - 1 =
    ap (λ z. z.len - 1)
    (is_head c.self.inside.layout (inside c.self.invariant.kept) c.terminal-terminal.result c.at.result.now
    c.at.ensures.high
    c.at.ensures.value
    ∙ sym (is_head c.self.inside.layout (inside c.self.invariant.kept) c.terminal-terminal.result c.at_mut.result.now
    c.at.ensures.high
    c.at_mut.ensures.value)) in
    rw (← c.self.view_is)
    ((popped c.self.inside.layout c.self.invariant.kept c.terminal-terminal.result c.args.segment
    (c.at.result.now.len - 1)
    c.at_mut.result.now
    c.pop.new.self
    c.terminal-terminal.ensures c.at.ensures.low c.at.ensures.high c.at_mut.ensures.value some less
    (c.pop.ensures ∙ ap (ring.without_string_at c.self.inside.ring) c.get-slot.ensures.value)).view)

pub returns-else-len-gt0 : goal.returns-else-len-gt0
returns-else-len-gt0 c =
    rw (← c.self.view_is)
    (not_popped c.self.inside.layout c.self.invariant.kept c.terminal-terminal.result c.args.segment c.at.result.now
    c.terminal-terminal.ensures
    c.at.ensures.high c.at.ensures.value
    (omega (arith, c.if-len-gt0.false)))
