-- The newest record goes, and its key's link leads to the one before.
use Rattle.oe_layout.specs.Records.{record_of_own}
use Rattle.oe_undo.specs.declared.links.OwnedLink.{OwnedLink}
use Rattle.oe_undo.specs.Owners.{IsOwner}
use Rattle.oe_undo.proofs.ChainedFacts.{newest_made, newest_placed, pop_linked, given_back, of_some}
use Rattle.oe_undo.proofs.undo.Undo.take_newest.Goals as goal

pub owned-link-requires-clause-made : goal.owned-link-requires-clause-made
owned-link-requires-clause-made c =
    let some = rw (← c.self.view_is) at c.requires in
    let whole = rw (← c.self.view_is) at c.is_chained.ensures.whole in
    rw (← c.self.view_is)
    (newest_made c.self.inside.segments c.self.inside.links c.args.segment c.in-Some.previous
    (record_of_own c.in-Some.before) some c.in-Some.ensures.record whole c.self.invariant.chained)

pub set-requires : goal.set-requires
set-requires c =
    let some = rw (← c.self.view_is) at c.requires in
    let whole = rw (← c.self.view_is) at c.is_chained.ensures.whole in
    newest_placed c.self.inside.segments c.self.inside.links c.args.segment c.in-Some.previous
    (record_of_own c.in-Some.before) some c.in-Some.ensures.record c.key.result c.key.ensures whole
    c.self.invariant.chained

pub invariant_of-self : goal.invariant_of-self
invariant_of-self c =
    let some = rw (← c.self.view_is) at c.requires in
    let whole = rw (← c.self.view_is) at c.is_chained.ensures.whole in
    let sets = rw (c.key.ensures) at c.set.ensures in
    let leads = rw (← c.self.view_is) at c.owned-link.ensures.followed in
    let owners = rw (← c.self.view_is) at c.owned-link.ensures.owner in
    pop_linked c.self.inside.segments c.self.inside.links c.args.segment c.in-Some.previous
    (record_of_own c.in-Some.before) some c.in-Some.ensures.record c.pop.new.self c.set.new.self
    c.self.inside.moments
    c.owned-link.result whole c.pop.ensures sets leads
    (of_some (λ (l : OwnedLink). IsOwner c.self.inside.segments l.owner) c.owned-link.result owners)
    c.self.invariant

pub returns-clause-links : goal.returns-clause-links
returns-clause-links c =
    let some = rw (← c.self.view_is) at c.requires in
    let sets = rw (c.key.ensures) at c.set.ensures in
    let leads = rw (← c.self.view_is) at c.owned-link.ensures.followed in
    rw (← c.self.view_is)
    (given_back c.self.inside.segments c.self.inside.links c.args.segment c.in-Some.previous
    (record_of_own c.in-Some.before) some c.in-Some.ensures.record c.set.new.self c.pop.new.self
    c.owned-link.result c.pop.ensures sets leads)
