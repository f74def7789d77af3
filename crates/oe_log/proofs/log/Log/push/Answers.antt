-- A record more, or no room for it.
use Rattle.std.proofs.Common.{◌≡◌, length, refl, sym, ap, ◌∙◌, subst, arith}
use Rattle.oe_extent.specs.Ring as ring
use Rattle.oe_model.specs.Lengths.{record_length}
use Rattle.oe_layout.specs.Records.{record_image, record_of_lent}
use Rattle.oe_log.proofs.FullFacts.{full_here, full_there, fresh}
use Rattle.oe_log.proofs.KeptFacts.{pushed, few}
use Rattle.oe_log.proofs.LayoutFacts.{log_is, pushed_of}
use Rattle.oe_log.proofs.log.Log.push.Goals as goal

pub returns-in_default-clause-full : goal.returns-in_default-clause-full
returns-in_default-clause-full c =
    let bytes = record_image c.args.lent.now.previous (record_of_lent c.args.lent.now.record) in
    let same : length bytes ≡ record_length (record_of_lent c.args.lent.now.record) = sym c.length-length.ensures.image
    ∙ c.length-length.ensures.sum in
    let full = subst (ring.IsFull c.self.inside.ring c.get-slot.result) same (c.in_default.ensures.full.0 refl) in
    rw (← c.self.view_is, ← (c.get-slot.ensures.value ∙ c.terminal-terminal.ensures)) (
      λ e. full_here c.self.inside.layout c.self.invariant.kept c.get-slot.result
          (record_length (record_of_lent c.args.lent.now.record)) full,
      λ f. refl,
    )

pub overflow_add-state : goal.overflow_add-state
overflow_add-state c =
    let most = few c.self.inside.layout c.self.invariant.kept c.terminal-terminal.result c.at_mut-state.result.now
    c.in-Ok.address
    c.args.lent.now.previous c.args.lent.now.record c.push-pushed.new.self
    c.at_mut-state.ensures.high c.at_mut-state.ensures.value c.ranges-2.ensures.link c.ranges-2.ensures.record
    (c.in-Ok.ensures.pushed
    ∙ ap (λ t. ring.with_string_at c.self.inside.ring t c.in-Ok.address
    (record_image c.args.lent.now.previous (record_of_lent c.args.lent.now.record))) c.get-slot.ensures.value)
    (omega (arith, c.extents-extents.ensures.used, c.extents-extents.ensures.value)) in
    omega (arith, most)

pub invariant_of-self-2 : goal.invariant_of-self-2
invariant_of-self-2 c =
    let some = rw (← c.self.view_is) at c.requires.open in
    let of = rw (← c.self.view_is) at c.requires.layout in
    log_is (pushed c.self.inside.layout c.self.invariant.kept c.terminal-terminal.result c.args.segment
    c.at_mut-state.result.now
    c.may_delete-state.result c.in-Ok.address c.args.lent.now.previous c.args.lent.now.record
    c.push-pushed.new.self c.terminal-terminal.ensures c.at_mut-state.ensures.low c.at_mut-state.ensures.high
    c.at_mut-state.ensures.value some
    c.may_delete-state.ensures.before c.may_delete-state.ensures.record c.ranges-2.ensures.link
    c.ranges-2.ensures.record
    (c.in-Ok.ensures.pushed
    ∙ ap (λ t. ring.with_string_at c.self.inside.ring t c.in-Ok.address
    (record_image c.args.lent.now.previous (record_of_lent c.args.lent.now.record))) c.get-slot.ensures.value))
    (pushed_of _ _ _ of c.self.invariant.layout)

pub returns-clause-pushed : goal.returns-clause-pushed
returns-clause-pushed c =
    let some = rw (← c.self.view_is) at c.requires.open in
    rw (← c.self.view_is)
    ((pushed c.self.inside.layout c.self.invariant.kept c.terminal-terminal.result c.args.segment
    c.at_mut-state.result.now
    c.may_delete-state.result c.in-Ok.address c.args.lent.now.previous c.args.lent.now.record
    c.push-pushed.new.self c.terminal-terminal.ensures c.at_mut-state.ensures.low c.at_mut-state.ensures.high
    c.at_mut-state.ensures.value some
    c.may_delete-state.ensures.before c.may_delete-state.ensures.record c.ranges-2.ensures.link
    c.ranges-2.ensures.record
    (c.in-Ok.ensures.pushed
    ∙ ap (λ t. ring.with_string_at c.self.inside.ring t c.in-Ok.address
    (record_image c.args.lent.now.previous (record_of_lent c.args.lent.now.record)))
    c.get-slot.ensures.value)).view)

pub returns-clause-full : goal.returns-clause-full
returns-clause-full c =
    let bytes = record_image c.args.lent.now.previous (record_of_lent c.args.lent.now.record) in
    let same : length bytes ≡ record_length (record_of_lent c.args.lent.now.record) = sym c.length-length.ensures.image
    ∙ c.length-length.ensures.sum in
    rw (← c.self.view_is, ← (c.get-slot.ensures.value ∙ c.terminal-terminal.ensures)) (
      λ e. absurd cc,
      λ f. c.in-Ok.ensures.full.1
          (subst (ring.IsFull c.self.inside.ring c.get-slot.result) (sym same)
          (full_there c.self.inside.layout c.self.invariant.kept c.get-slot.result
          (record_length (record_of_lent c.args.lent.now.record)) f)),
    )

pub returns-clause-fresh : goal.returns-clause-fresh
returns-clause-fresh c = rw (← c.self.view_is)
    (fresh c.self.inside.layout c.self.invariant.kept c.in-Ok.address c.in-Ok.ensures.fresh)
