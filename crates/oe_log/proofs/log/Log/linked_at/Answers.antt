-- The string at a record's address is that record.
use Rattle.std.proofs.Common.{List, [], map, get_or, sym, ap, ◌∙◌, subst}
use Rattle.oe_log.specs.Records.{Logged, HasAddress, IsAmong, log_entry}
use Rattle.oe_log.specs.Strings.{records_in}
use Rattle.oe_log.specs.Log.{SegmentLog, records_at}
use Rattle.oe_log.proofs.CallFacts.{inside, records_are}
use Rattle.oe_log.proofs.ReadFacts.{has_string, is_stored, linked_there}
use Rattle.oe_log.proofs.log.Log.linked_at.Goals as goal

pub at-requires-clause-some : goal.at-requires-clause-some
at-requires-clause-some c =
    let seen = subst (λ (v : SegmentLog). HasAddress (records_at v c.args.terminal) c.args.address) (sym c.self.view_is)
    c.requires in
    let is = records_are c.self.inside.layout (inside c.self.invariant.kept) c.args.terminal ∙ ap
    (λ t. get_or (map records_in c.self.inside.ring.active) t []) (sym c.get-slot.ensures.value) in
    let has = subst (λ (rs : List Logged). HasAddress rs c.args.address) is seen in
    (has_string c.args.address c.self.inside.ring.active c.get-slot.result c.self.invariant.kept.lie.active_are has)

pub linked_record-requires : goal.linked_record-requires
linked_record-requires c =
    let seen = subst (λ (v : SegmentLog). HasAddress (records_at v c.args.terminal) c.args.address) (sym c.self.view_is)
    c.requires in
    let is = records_are c.self.inside.layout (inside c.self.invariant.kept) c.args.terminal ∙ ap
    (λ t. get_or (map records_in c.self.inside.ring.active) t []) (sym c.get-slot.ensures.value) in
    let has = subst (λ (rs : List Logged). HasAddress rs c.args.address) is seen in
    is_stored c.args.address c.self.inside.ring.active c.get-slot.result c.at.result.now
    c.self.invariant.kept.lie.active_are
    has c.at.ensures

pub returns-clause-record : goal.returns-clause-record
returns-clause-record c p b k =
    let seen = subst (λ (v : SegmentLog). IsAmong (log_entry c.args.address p b) (records_at v c.args.terminal))
    (sym c.self.view_is) k in
    let is = records_are c.self.inside.layout (inside c.self.invariant.kept) c.args.terminal ∙ ap
    (λ t. get_or (map records_in c.self.inside.ring.active) t []) (sym c.get-slot.ensures.value) in
    let there = subst (λ (rs : List Logged). IsAmong (log_entry c.args.address p b) rs) is seen in
    linked_there c.args.address p b c.self.inside.ring.active c.get-slot.result c.at.result.now
    (c.linked_record.result.0, c.linked_record.result.1) c.self.invariant.kept.lie.active_are there c.at.ensures
    c.linked_record.ensures
