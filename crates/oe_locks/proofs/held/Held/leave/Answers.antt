use Rattle.std.proofs.Common.{sym, ap, ◌∙◌}
use Rattle.std.specs.Map.{lookup, keys_of}
use Rattle.oe_rows.specs.contracts.locks.NamePartialEq.TheImpl.{ghosts}
use Rattle.oe_locks.proofs.EntryFacts.{left-entries}
use Rattle.oe_locks.proofs.held.Held.leave.Goals as goal

pub returns-clause-order : goal.returns-clause-order
returns-clause-order c =
    rw (← c.self.view_is)
    (ap (λ es. keys_of es) c.shift_remove.ensures.entries
    ∙ left-entries c.args.name.now c.self.inside.names.entries
    (ap (lookup (ghosts.eq c.args.name.now)) (sym c.shift_remove.ensures.entries) ∙ c.shift_remove.ensures.updates.1))
