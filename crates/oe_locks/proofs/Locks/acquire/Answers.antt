use Rattle.std.proofs.Common.{◌<◌, length, arith, sym, ◌∙◌}
use Rattle.oe_locks.proofs.HeldFacts.{takes, keeps-set, held-at, busy-with, noted-taken}
use Rattle.oe_locks.proofs.Locks.acquire.Goals as goal

pub returns-in_default-take-clause-cause : goal.returns-in_default-take-clause-cause
returns-in_default-take-clause-cause c =
    let room : c.args.terminal < length c.self.inside.held =
    omega (arith, c.at_mut.ensures.size, c.at_mut.ensures.high) in (
      c.in_default.ensures,
      rw (← c.self.view_is)
          (held-at c.self.inside.held c.args.terminal c.at_mut.result.now room c.at_mut.ensures.value c.args.name
          ∙ c.in_default-take.ensures.absent),
    )

pub invariant_of-self-2 : goal.invariant_of-self-2
invariant_of-self-2 c =
    let room : c.args.terminal < length c.self.inside.held =
    omega (arith, c.at_mut.ensures.size, c.at_mut.ensures.high) in (
      busy-with c.self.inside.held c.args.terminal c.take.new.self room c.self.inside.busy c.with-self-inside.result
          c.self.invariant.0 c.with-self-inside.ensures,
      noted-taken c.self.inside.held c.args.terminal c.take.new.self room c.self.inside.holders c.note.new.self
          c.self.invariant.1 c.at_mut.result.now
          (held-at c.self.inside.held c.args.terminal c.at_mut.result.now room c.at_mut.ensures.value) c.args.name
          c.mark_of.result c.mark_of.ensures.value c.note.ensures c.take.result _ c.take.ensures.own c.take.ensures.err,
    )

pub returns-clause-before : goal.returns-clause-before
returns-clause-before c =
    let room : c.args.terminal < length c.self.inside.held =
    omega (arith, c.at_mut.ensures.size, c.at_mut.ensures.high) in
    rw (← c.self.view_is)
    (c.in-Ok.ensures.before
    ∙ sym (held-at c.self.inside.held c.args.terminal c.at_mut.result.now room c.at_mut.ensures.value c.args.name))

pub returns-clause-own : goal.returns-clause-own
returns-clause-own c =
    let room : c.args.terminal < length c.self.inside.held =
    omega (arith, c.at_mut.ensures.size, c.at_mut.ensures.high) in
    rw (← c.self.view_is)
    (takes c.self.inside.held c.args.terminal c.take.new.self room c.at_mut.result.now
    (held-at c.self.inside.held c.args.terminal c.at_mut.result.now room c.at_mut.ensures.value) c.args.name
    c.args.mode c.in-Ok.ensures.own)

pub returns-clause-others : goal.returns-clause-others
returns-clause-others c =
    let room : c.args.terminal < length c.self.inside.held =
    omega (arith, c.at_mut.ensures.size, c.at_mut.ensures.high) in
    rw (← c.self.view_is) (keeps-set c.self.inside.held c.args.terminal c.take.new.self room)
