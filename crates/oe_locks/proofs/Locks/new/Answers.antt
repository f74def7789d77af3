use Rattle.std.proofs.Common.{sym, subst, ap, ◌∙◌}
use Rattle.oe_locks.specs.Held.{IsIdle, entries_of}
use Rattle.oe_locks.proofs.HeldFacts.{entries-replicate, idle-replicate}
use Rattle.oe_locks.proofs.Locks.new.Goals as goal

pub invariant_of-result : goal.invariant_of-result
invariant_of-result c =
    let is = c.of.ensures ∙ c.loop.invariant in (
      λ t none. ap (λ ls. entries_of ls t) is ∙ entries-replicate c.loop.counter t,
      λ t q none. subst IsIdle (sym is) (idle-replicate c.loop.counter) t q,
    )

pub returns : goal.returns
returns c = subst IsIdle (sym (c.of.ensures ∙ c.loop.invariant)) (idle-replicate c.loop.counter)
