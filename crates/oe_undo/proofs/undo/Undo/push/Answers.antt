-- A record more, behind the one to which its key's link led.
use Rattle.std.proofs.Common.{◌≡◌, sym, ap, subst, ◌∙◌, Option, Some, is_some}
use Rattle.oe_rows.specs.declared.keys.Key.{Key}
use Rattle.oe_model.specs.Changes.{record_key}
use Rattle.oe_layout.specs.Records.{record_of_lent, IsOfLayout}
use Rattle.oe_layout.specs.declared.loans.LentRecord.{LentRecord}
use Rattle.oe_log.specs.Records.{log_entry}
use Rattle.oe_log.specs.declared.heads.SegmentOwner.{SegmentOwner}
use Rattle.oe_log.specs.Log.{SegmentLog, with_record}
use Rattle.oe_undo.specs.Chains.{IsAlone}
use Rattle.oe_undo.specs.declared.links.OwnedLink.{OwnedLink}
use Rattle.oe_undo.specs.Links.{LinkMaps, links_of, HasPlace, SetsLink, LeadsTo}
use Rattle.oe_undo.proofs.LinkFacts.{on_row, sets_with, with_same}
use Rattle.oe_undo.proofs.LeadFacts.{set_leads}
use Rattle.oe_undo.specs.Owners.{next_owner, IsLinked}
use Rattle.oe_undo.proofs.ChainedFacts.{push_linked, push_leads}
use Rattle.oe_undo.proofs.MomentFacts.{none_first}
use Rattle.oe_undo.proofs.undo.Undo.push.Goals as goal

pub returns-in_default-clause-cause : goal.returns-in_default-clause-cause
returns-in_default-clause-cause c =
    rw (← c.self.view_is)
    (rw (c.shared.follows.holds-at-none, c.place_mut.follows.holds-at-none) at c.push_new.ensures.cause)

pub lead_from-requires : goal.lead_from-requires
lead_from-requires c =
    let whole = rw (← c.self.view_is) at c.is_chained.ensures.whole in
    none_first c.self.inside.segments c.in-Some.place.now c.followed_in.result whole c.followed_in.ensures

pub push-requires-clause-layout : goal.push-requires-clause-layout
push-requires-clause-layout c =
    let of = rw (← c.self.view_is) at c.requires.layout in
    let kept = ap (λ x. x.record) c.shared-linked.ensures.value ∙ c.lead_from.ensures.record
    ∙ ap (λ x. x.record) c.shared.follows.holds-at-none in
    subst (λ (r : LentRecord). IsOfLayout c.self.inside.segments.layout (record_of_lent r)) (sym kept) of

pub invariant_of-self-in_default-push : goal.invariant_of-self-in_default-push
invariant_of-self-in_default-push c =
    let set = on_row c.place_mut.result c.in-Some.place c.in-Some.is (c.place_mut.follows.holds c.in-Some.place.now) in
    let same : c.place_mut.follows.lender c.in-Some.place.now ≡ c.self.inside.links = set
    ∙ with_same c.self.inside.links c.key-key.result c.in-Some.place.now (sym c.in-Some.ensures.place) in
    subst (λ (u : SegmentLog). IsLinked u (links_of (c.place_mut.follows.lender c.in-Some.place.now))
    c.self.inside.moments) (sym c.in_default-push.ensures.same)
    (subst (λ (maps : LinkMaps). IsLinked c.self.inside.segments (links_of maps) c.self.inside.moments) (sym same)
    c.self.invariant)

pub returns-in_default-push-clause-err : goal.returns-in_default-push-clause-err
returns-in_default-push-clause-err c =
    let set = on_row c.place_mut.result c.in-Some.place c.in-Some.is (c.place_mut.follows.holds c.in-Some.place.now) in
    let links : c.place_mut.follows.lender c.in-Some.place.now ≡ c.self.inside.links = set
    ∙ with_same c.self.inside.links c.key-key.result c.in-Some.place.now (sym c.in-Some.ensures.place) in
    let same = c.in_default-push.ensures.same in
    (λ i. record { log = same i; links = links i }) ∙ c.self.view_is

pub returns-in_default-push-clause-linked : goal.returns-in_default-push-clause-linked
returns-in_default-push-clause-linked c =
    let whole = rw (← c.self.view_is) at c.is_chained.ensures.whole in
    let alone = rw (← c.self.view_is) at c.requires.alone in
    let own : c.key-key.result ≡ record_key (record_of_lent c.args.lent.now.record) = c.key-key.ensures
    ∙ ap (λ x. record_key (record_of_lent x.record)) c.shared.ensures.value in
    rw (← c.self.view_is)
    (push_leads c.self.inside.segments c.self.inside.links c.args.segment c.key-key.result _ c.in-Some.place.now
    c.followed_in.result _ own
    c.in-Some.ensures.place c.followed_in.ensures
    (ap (λ x. x.previous) c.shared-linked.follows.holds-at-none ∙ c.lead_from.ensures.previous) whole
    c.self.invariant.chained alone)

pub returns-clause-linked : goal.returns-clause-linked
returns-clause-linked c =
    let whole = rw (← c.self.view_is) at c.is_chained.ensures.whole in
    let alone = rw (← c.self.view_is) at c.requires.alone in
    let own : c.key-key.result ≡ record_key (record_of_lent c.args.lent.now.record) = c.key-key.ensures
    ∙ ap (λ x. record_key (record_of_lent x.record)) c.shared.ensures.value in
    rw (← c.self.view_is)
    (push_leads c.self.inside.segments c.self.inside.links c.args.segment c.key-key.result _ c.in-Some.place.now
    c.followed_in.result _ own
    c.in-Some.ensures.place c.followed_in.ensures
    (ap (λ x. x.previous) c.shared-linked.follows.holds-at-none ∙ c.lead_from.ensures.previous) whole
    c.self.invariant.chained alone)

pub invariant_of-self-2 : goal.invariant_of-self-2
invariant_of-self-2 c =
    let some = rw (← c.self.view_is) at c.requires.open in
    let whole = rw (← c.self.view_is) at c.is_chained.ensures.whole in
    let alone = rw (← c.self.view_is) at c.requires.alone in
    let lent = c.shared-linked.result.now in
    let kept = ap (λ x. x.record) c.shared-linked.ensures.value ∙ c.lead_from.ensures.record
    ∙ ap (λ x. x.record) c.shared.follows.holds-at-none in
    let was : record_key (record_of_lent lent.record) ≡ record_key (record_of_lent c.args.lent.now.record) =
    ap (λ r. record_key (record_of_lent r)) kept in
    let own : c.key-key.result ≡ record_key (record_of_lent lent.record) = c.key-key.ensures
    ∙ ap (λ x. record_key (record_of_lent x.record)) c.shared.ensures.value ∙ sym was in
    let alone_here : IsAlone c.self.inside.segments c.args.segment (record_key (record_of_lent lent.record)) =
    subst (λ (k : Key). IsAlone c.self.inside.segments c.args.segment k) (sym was) alone in
    let leads = push_leads c.self.inside.segments c.self.inside.links c.args.segment c.key-key.result _
    c.in-Some.place.now c.followed_in.result lent.previous own
    c.in-Some.ensures.place c.followed_in.ensures
    (ap (λ x. x.previous) c.shared-linked.ensures.value ∙ c.lead_from.ensures.previous) whole
    c.self.invariant.chained alone_here
    in
    let l : Option OwnedLink = Some (record { address = c.in-Ok.address; owner = c.owner-owner.result }) in
    let set = on_row c.place_mut.result c.in-Some.place c.in-Some.is (c.place_mut.follows.holds l) in
    let had : HasPlace c.self.inside.links c.key-key.result = ap is_some (sym c.in-Some.ensures.place) in
    let sets : SetsLink c.self.inside.links (c.place_mut.follows.lender l) c.key-key.result l =
    subst (λ (m : LinkMaps). SetsLink c.self.inside.links m c.key-key.result l) (sym set)
    (sets_with c.self.inside.links c.key-key.result l had)
    in
    let leads_to = set_leads c.self.inside.links (c.place_mut.follows.lender l) c.key-key.result l sets in
    push_linked c.self.inside.segments c.push.new.self c.args.segment c.in-Ok.address lent.previous
    (record_of_lent lent.record) some c.in-Ok.ensures.pushed
    c.self.inside.links (c.place_mut.follows.lender l) c.self.inside.moments c.key-key.result c.owner-owner.result whole
    leads own c.owner-owner.ensures leads_to c.self.invariant

pub returns-clause-pushed : goal.returns-clause-pushed
returns-clause-pushed c =
    let own : c.key-key.result ≡ record_key (record_of_lent c.args.lent.now.record) = c.key-key.ensures
    ∙ ap (λ x. record_key (record_of_lent x.record)) c.shared.ensures.value in
    let l : Option OwnedLink = Some (record { address = c.in-Ok.address; owner = c.owner-owner.result }) in
    let set = on_row c.place_mut.result c.in-Some.place c.in-Some.is (c.place_mut.follows.holds l) in
    let had : HasPlace c.self.inside.links c.key-key.result = ap is_some (sym c.in-Some.ensures.place) in
    let sets : SetsLink c.self.inside.links (c.place_mut.follows.lender l) c.key-key.result l =
    subst (λ (m : LinkMaps). SetsLink c.self.inside.links m c.key-key.result l) (sym set)
    (sets_with c.self.inside.links c.key-key.result l had)
    in
    let leads_to = set_leads c.self.inside.links (c.place_mut.follows.lender l) c.key-key.result l sets in
    let linked : LeadsTo c.self.inside.links (c.place_mut.follows.lender l)
    (record_key (record_of_lent c.args.lent.now.record))
    (Some (record { address = c.in-Ok.address; owner = next_owner c.self.inside.segments c.args.segment })) =
    subst (λ (k : Key). LeadsTo c.self.inside.links (c.place_mut.follows.lender l) k
    (Some (record { address = c.in-Ok.address; owner = next_owner c.self.inside.segments c.args.segment }))) own
    (subst (λ (n : SegmentOwner). LeadsTo c.self.inside.links (c.place_mut.follows.lender l) c.key-key.result
    (Some (record { address = c.in-Ok.address; owner = n }))) c.owner-owner.ensures leads_to)
    in
    let lent = c.shared-linked.result.now in
    let kept = ap (λ x. x.record) c.shared-linked.ensures.value ∙ c.lead_from.ensures.record
    ∙ ap (λ x. x.record) c.shared.follows.holds-at-none in
    let previous = ap (λ x. x.previous) (c.shared-linked.ensures.value ∙ sym c.shared-linked.follows.holds-at-none) in
    let log =
    c.in-Ok.ensures.pushed
    ∙ ap (λ p. with_record c.self.inside.segments c.args.segment
    (log_entry c.in-Ok.address p (record_of_lent lent.record)))
    previous
    ∙ ap (λ r. with_record c.self.inside.segments c.args.segment
    (log_entry c.in-Ok.address c.shared-linked.follows.lender-at-none.previous (record_of_lent r))) kept
    in
    rw (← c.self.view_is)
    (record { address = c.in-Ok.address; fresh = c.in-Ok.ensures.fresh; log = log; link = linked })
