-- The string at a record's address is that record.
use Rattle.std.proofs.Common.{◌<◌, [], length, List, get_or, sym, subst}
use Rattle.oe_log.specs.Records.{Logged, HasAddress, IsAmong, log_entry}
use Rattle.oe_log.specs.Log.{SegmentLog, committed_records}
use Rattle.oe_log.proofs.CallFacts.{inside, seen_committed}
use Rattle.oe_log.proofs.KeptFacts.{commit_there}
use Rattle.oe_log.proofs.ReadFacts.{has_string, is_stored, linked_there}
use Rattle.oe_log.proofs.log.Log.committed_linked_at.Goals as goal

pub committed_at-requires-clause-commit : goal.committed_at-requires-clause-commit
committed_at-requires-clause-commit c =
    commit_there c.self.inside.layout c.self.invariant.kept c.args.later
    (subst (λ (v : SegmentLog). c.args.later < length v.committed) (sym c.self.view_is) c.requires.commit)

pub committed_at-requires-clause-some : goal.committed_at-requires-clause-some
committed_at-requires-clause-some c =
    let seen = subst (λ (v : SegmentLog). HasAddress (get_or (committed_records v) c.args.later []) c.args.address)
    (sym c.self.view_is) c.requires.some in
    let has = subst (λ (rss : List (List Logged)). HasAddress (get_or rss c.args.later []) c.args.address)
    (seen_committed c.self.inside.layout (inside c.self.invariant.kept)) seen in
    (has_string c.args.address c.self.inside.ring.committed c.args.later c.self.invariant.kept.lie.committed_are has)

pub linked_record-requires : goal.linked_record-requires
linked_record-requires c =
    let seen = subst (λ (v : SegmentLog). HasAddress (get_or (committed_records v) c.args.later []) c.args.address)
    (sym c.self.view_is) c.requires.some in
    let has = subst (λ (rss : List (List Logged)). HasAddress (get_or rss c.args.later []) c.args.address)
    (seen_committed c.self.inside.layout (inside c.self.invariant.kept)) seen in
    is_stored c.args.address c.self.inside.ring.committed c.args.later c.committed_at.result.now
    c.self.invariant.kept.lie.committed_are has c.committed_at.ensures

pub returns-clause-record : goal.returns-clause-record
returns-clause-record c p b k =
    let seen = subst (λ (v : SegmentLog). IsAmong (log_entry c.args.address p b)
    (get_or (committed_records v) c.args.later [])) (sym c.self.view_is) k in
    let there = subst (λ (rss : List (List Logged)). IsAmong (log_entry c.args.address p b)
    (get_or rss c.args.later []))
    (seen_committed c.self.inside.layout (inside c.self.invariant.kept)) seen in
    linked_there c.args.address p b c.self.inside.ring.committed c.args.later c.committed_at.result.now
    (c.linked_record.result.0, c.linked_record.result.1) c.self.invariant.kept.lie.committed_are there
    c.committed_at.ensures
    c.linked_record.ensures
