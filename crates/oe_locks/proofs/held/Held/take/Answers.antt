use Rattle.std.proofs.Common.{is_some, sym, ap, ◌∙◌}
use Rattle.std.specs.Map.{keys_of}
use Rattle.oe_locks.proofs.EntryFacts.{found-changes, taken-there, taken-inserted}
use Rattle.oe_locks.proofs.held.Held.take.Goals.{in-Ok, in-Err}
use Rattle.oe_locks.proofs.held.Held.take.Goals as goal

pub returns-in-Some-clause-own : goal.returns-in-Some-clause-own
returns-in-Some-clause-own c =
    rw (c.in-Some.ensures.there, c.in-Some.ensures.same)
    (found-changes c.args.self.now c.args.name.now c.in-Some.was c.in-Some.ensures.there)

pub returns-in-Some-clause-order : goal.returns-in-Some-clause-order
returns-in-Some-clause-order c =
    sym (taken-there c.args.self.now c.args.name.now (ap (λ o. is_some o) c.in-Some.ensures.there))

pub returns-clause-order : goal.returns-clause-order
returns-clause-order c = elim c.match-insert.branch [
  | in-Ok w ↦ rw (w.result-is, ← c.self.view_is)
      (ap (λ es. keys_of es) w.in-Ok.ensures.entries
      ∙ taken-inserted c.self.inside.names.entries c.args.name.now c.args.mode)
  | in-Err w ↦ rw w.result-is tt
]
