-- Whose a commit was.
use Rattle.std.proofs.Common.{None, Some, refl, sym, ap, ◌∙◌}
use Rattle.std.proofs.lemmas.Option.{slice_get_read}
use Rattle.oe_log.proofs.HeadFacts.{none_past}
use Rattle.oe_log.proofs.CallFacts.{inside, owner_found, number_is, number_low}
use Rattle.oe_log.proofs.log.Log.committed.Goals as goal

pub returns-in-Some-clause-commit : goal.returns-in-Some-clause-commit
returns-in-Some-clause-commit c =
    let found = slice_get_read c.self.inside.commits.items _ c.args.later c.in-Some.head.now c.self.inside.commits.ok.0
    (c.in-Some.ensures.variant.0 refl) c.in-Some.ensures.lookup in
    rw (← c.self.view_is)
    (ap Some c.owner.ensures ∙ owner_found c.self.inside.layout (inside c.self.invariant.kept) (Some c.in-Some.head.now)
    c.args.later
    (sym found))

pub returns-in-Some-clause-number : goal.returns-in-Some-clause-number
returns-in-Some-clause-number c =
    let found = slice_get_read c.self.inside.commits.items _ c.args.later c.in-Some.head.now c.self.inside.commits.ok.0
    (c.in-Some.ensures.variant.0 refl) c.in-Some.ensures.lookup in
    rw (← c.self.view_is, c.owner.ensures)
    (number_is c.self.inside.layout (inside c.self.invariant.kept) c.args.later c.in-Some.head.now (sym found))

pub returns-in-Some-clause-first : goal.returns-in-Some-clause-first
returns-in-Some-clause-first c =
    let found = slice_get_read c.self.inside.commits.items _ c.args.later c.in-Some.head.now c.self.inside.commits.ok.0
    (c.in-Some.ensures.variant.0 refl) c.in-Some.ensures.lookup in
    rw (c.owner.ensures) (number_low c.self.inside.layout (inside c.self.invariant.kept) c.args.later c.in-Some.head.now
    (sym found))

pub returns-in-None-clause-commit : goal.returns-in-None-clause-commit
returns-in-None-clause-commit c =
    let found = none_past c.self.inside.commits.items _ c.args.later c.self.inside.commits.ok.0
    c.in-None.ensures.variant.1 in
    rw (← c.self.view_is) (owner_found c.self.inside.layout (inside c.self.invariant.kept) None c.args.later found)
