-- A record more of a key that has no place for a link yet; or it is taken off again, since memory was refused for that.
use Rattle.std.proofs.Common.{◌≡◌, sym, ap, subst, ◌∙◌, Some, None}
use Rattle.oe_rows.specs.declared.keys.Key.{Key}
use Rattle.oe_model.specs.Changes.{record_key}
use Rattle.oe_layout.specs.Records.{record_of_lent, IsOfLayout}
use Rattle.oe_layout.specs.declared.loans.LentRecord.{LentRecord}
use Rattle.oe_log.specs.Records.{log_entry}
use Rattle.oe_layout.specs.declared.links.Previous.TheVariants.{Nothing}
use Rattle.oe_log.specs.declared.heads.SegmentOwner.{SegmentOwner}
use Rattle.oe_log.specs.Log.{SegmentLog, with_record}
use Rattle.oe_undo.specs.Chains.{link_from}
use Rattle.oe_undo.specs.declared.holders.Holder.TheVariants.{Open}
use Rattle.oe_undo.specs.Links.{LinkMaps, place_of, links_of, link_in, LeadsTo}
use Rattle.oe_undo.proofs.LeadFacts.{insert_leads}
use Rattle.oe_undo.specs.Owners.{link_by_now, next_owner, IsLinked}
use Rattle.oe_undo.proofs.ChainedFacts.{push_linked, push_undone}
use Rattle.oe_undo.proofs.undo.Undo.push_new.Goals as goal

pub push-requires-clause-layout : goal.push-requires-clause-layout
push-requires-clause-layout c =
    let of = rw (← c.self.view_is) at c.requires.layout in
    let kept = ap (λ x. x.record) (c.shared-linked.ensures.value ∙ c.shared.follows.holds-at-none)
    ∙ c.lead_from.ensures.record in
    subst (λ (r : LentRecord). IsOfLayout c.self.inside.segments.layout (record_of_lent r)) (sym kept) of

pub invariant_of-self-in-Ok-insert : goal.invariant_of-self-in-Ok-insert
invariant_of-self-in-Ok-insert c =
    let some = rw (← c.self.view_is) at c.requires.open in
    let whole = rw (← c.self.view_is) at c.is_chained.ensures.whole in
    let no_place = rw (← c.self.view_is) at c.requires.no_place in
    let lent = c.shared-linked.result.now in
    let set : c.shared.follows.lender-at-none ≡ c.lead_from.new.lent = c.shared.follows.holds-at-none in
    let first : c.shared.result.now ≡ c.lead_from.new.lent = c.shared.ensures.value in
    let second : lent ≡ c.lead_from.new.lent = c.shared-linked.ensures.value ∙ set in
    let was : record_key (record_of_lent lent.record) ≡ record_key (record_of_lent c.args.lent.now.record) =
    ap (λ x. record_key (record_of_lent x.record)) second ∙ ap (λ r. record_key (record_of_lent r))
    c.lead_from.ensures.record
    in
    let own : c.key-key.result ≡ record_key (record_of_lent lent.record) =
    c.key-key.ensures ∙ ap (λ x. record_key (record_of_lent x.record)) (first ∙ sym second)
    in
    let leads : link_from (Open c.args.segment) lent.previous ≡ link_by_now c.self.inside.segments
    (links_of c.self.inside.links (record_key (record_of_lent lent.record))) =
    ap (λ p. link_from (Open c.args.segment) p) (ap (λ x. x.previous) second ∙ c.lead_from.ensures.previous)
    ∙ sym (ap (λ (k : Key). link_by_now c.self.inside.segments (links_of c.self.inside.links k)) was
    ∙ ap (λ o. link_by_now c.self.inside.segments (link_in o)) no_place)
    in
    let none : place_of c.self.inside.links c.key-key.result ≡ None = ap (place_of c.self.inside.links) (own ∙ was)
    ∙ no_place in
    let leads_to = insert_leads c.self.inside.links c.insert.new.self c.key-key.result
    (Some (record { address = c.in-Ok.address; owner = c.owner-owner.result })) none
    c.in-Ok-insert.ensures.inserted in
    push_linked c.self.inside.segments c.push.new.self c.args.segment c.in-Ok.address lent.previous
    (record_of_lent lent.record) some c.in-Ok.ensures.pushed
    c.self.inside.links c.insert.new.self c.self.inside.moments c.key-key.result c.owner-owner.result whole leads own
    c.owner-owner.ensures leads_to c.self.invariant

pub returns-in-Ok-insert-clause-pushed : goal.returns-in-Ok-insert-clause-pushed
returns-in-Ok-insert-clause-pushed c =
    let segments = c.self.inside.segments in
    let no_place = rw (← c.self.view_is) at c.requires.no_place in
    let lent = c.shared-linked.result.now in
    let second : lent ≡ c.lead_from.new.lent = c.shared-linked.ensures.value ∙ c.shared.follows.holds-at-none in
    let kept = ap (λ x. x.record) second ∙ c.lead_from.ensures.record in
    let previous = ap (λ x. x.previous) second ∙ c.lead_from.ensures.previous in
    let own : c.key-key.result ≡ record_key (record_of_lent c.args.lent.now.record) =
    c.key-key.ensures ∙ ap (λ x. record_key (record_of_lent x.record)) c.shared.ensures.value
    ∙ ap (λ r. record_key (record_of_lent r)) c.lead_from.ensures.record
    in
    let none : place_of c.self.inside.links c.key-key.result ≡ None = ap (place_of c.self.inside.links) own
    ∙ no_place in
    let leads_to = insert_leads c.self.inside.links c.insert.new.self c.key-key.result
    (Some (record { address = c.in-Ok.address; owner = c.owner-owner.result })) none
    c.in-Ok-insert.ensures.inserted in
    let linked : LeadsTo c.self.inside.links c.insert.new.self (record_key (record_of_lent c.args.lent.now.record))
    (Some (record { address = c.in-Ok.address; owner = next_owner segments c.args.segment })) =
    subst (λ (k : Key). LeadsTo c.self.inside.links c.insert.new.self k
    (Some (record { address = c.in-Ok.address; owner = next_owner segments c.args.segment }))) own
    (subst (λ (n : SegmentOwner). LeadsTo c.self.inside.links c.insert.new.self c.key-key.result
    (Some (record { address = c.in-Ok.address; owner = n }))) c.owner-owner.ensures leads_to)
    in
    let log =
    c.in-Ok.ensures.pushed
    ∙ ap (λ p. with_record segments c.args.segment (log_entry c.in-Ok.address p (record_of_lent lent.record))) previous
    ∙ ap (λ r. with_record segments c.args.segment (log_entry c.in-Ok.address Nothing (record_of_lent r))) kept
    in
    rw (← c.self.view_is)
    (record { address = c.in-Ok.address; fresh = c.in-Ok.ensures.fresh; log = log; link = linked })

pub invariant_of-self-in-Err : goal.invariant_of-self-in-Err
invariant_of-self-in-Err c =
    let some = rw (← c.self.view_is) at c.requires.open in
    let lent = c.shared-linked.result.now in
    let same = push_undone c.self.inside.segments c.push.new.self c.args.segment c.in-Ok.address lent.previous
    (record_of_lent lent.record) some c.in-Ok.ensures.pushed c.pop.new.self c.pop.ensures in
    subst (λ (u : SegmentLog). IsLinked u (links_of c.insert.new.self) c.self.inside.moments) (sym same)
    (subst (λ (maps : LinkMaps). IsLinked c.self.inside.segments (links_of maps) c.self.inside.moments)
    (sym c.in-Err.ensures.err) c.self.invariant)

pub returns-in-Err-clause-err : goal.returns-in-Err-clause-err
returns-in-Err-clause-err c =
    let some = rw (← c.self.view_is) at c.requires.open in
    let lent = c.shared-linked.result.now in
    let same = push_undone c.self.inside.segments c.push.new.self c.args.segment c.in-Ok.address lent.previous
    (record_of_lent lent.record) some c.in-Ok.ensures.pushed c.pop.new.self c.pop.ensures in
    let links = c.in-Err.ensures.err in
    (λ i. record { log = same i; links = links i }) ∙ c.self.view_is
