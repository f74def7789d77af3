-- What its head says of a commit.
use Rattle.std.proofs.Common.{refl, sym, ◌∙◌}
use Rattle.std.proofs.lemmas.Option.{slice_get_read}
use Rattle.oe_log.proofs.HeadFacts.{none_past}
use Rattle.oe_log.proofs.CallFacts as calls
use Rattle.oe_log.proofs.log.Log.may_delete.Goals as goal

pub returns-in-Some : goal.returns-in-Some
returns-in-Some c none =
    let found = slice_get_read c.self.inside.commits.items _ c.args.later c.in-Some.head.now c.self.inside.commits.ok.0
    (c.in-Some.ensures.variant.0 refl) c.in-Some.ensures.lookup in
    rw (← c.self.view_is)
    (calls.told_deletes c.self.inside.layout (calls.inside c.self.invariant.kept)
    c.args.later c.in-Some.head.now found (sym c.may_delete.ensures ∙ none))

pub returns-in-None : goal.returns-in-None
returns-in-None c none =
    let found = none_past c.self.inside.commits.items _ c.args.later c.self.inside.commits.ok.0
    c.in-None.ensures.variant.1 in
    rw (← c.self.view_is)
    (calls.none_past c.self.inside.layout (calls.inside c.self.invariant.kept) c.args.later found)
