-- The strings of a commit's segment are its records.
use Rattle.std.proofs.Common.{◌<◌, ℕ, List, [], length, map, get_or, sym, ap, ◌∙◌, subst}
use Rattle.std.specs.List.{AllByRecursion}
use Rattle.oe_layout.specs.Stored.{record_in_bytes, IsStoredRecord}
use Rattle.oe_log.specs.Records.{Logged}
use Rattle.oe_log.specs.Log.{SegmentLog}
use Rattle.oe_log.specs.Stands.{model_records}
use Rattle.oe_log.proofs.CallFacts.{inside, seen_committed}
use Rattle.oe_log.proofs.KeptFacts.{commit_there}
use Rattle.oe_log.proofs.WalkFacts.{stored_here, told_here}
use Rattle.oe_log.proofs.log.Log.committed_records.Goals as goal

pub committed_strings-strings-requires : goal.committed_strings-strings-requires
committed_strings-strings-requires c =
    commit_there c.self.inside.layout c.self.invariant.kept c.args.later
    (subst (λ (v : SegmentLog). c.args.later < length v.committed) (sym c.self.view_is) c.requires)

pub invariant_of-result : goal.invariant_of-result
invariant_of-result c =
    subst (λ (l : List (List ℕ)). AllByRecursion IsStoredRecord l) (sym c.committed_strings-strings.ensures)
    (stored_here c.self.inside.ring.committed c.args.later c.self.invariant.kept.lie.committed_are)

pub returns : goal.returns
returns c =
    rw (← c.self.view_is)
    (ap (λ (l : List (List ℕ)). map record_in_bytes l) c.committed_strings-strings.ensures
    ∙ told_here c.self.inside.ring.committed c.args.later c.self.invariant.kept.lie.committed_are
    ∙ ap (λ (rss : List (List Logged)). model_records (get_or rss c.args.later []))
    (sym (seen_committed c.self.inside.layout (inside c.self.invariant.kept))))
