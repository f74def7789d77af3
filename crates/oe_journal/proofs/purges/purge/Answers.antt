use Rattle.std.proofs.Common.{◌≡◌, ◌-◌, ◌∙◌, sym, ap, subst, arith, length, drop}
use Rattle.oe_log.specs.Stands.{undo_of}
use Rattle.oe_log.specs.Log.{SegmentLog, with_newest, total_count}
use Rattle.oe_journal.specs.GivesUp.{GivesUpDeleted}
use Rattle.oe_log.specs.Moments.{store_with, newest}
use Rattle.std.specs.Prelude.{IsTrue}
use Rattle.oe_journal.specs.Forgetting.{LosesNameIn, ForgetsNames}
use Rattle.oe_journal.proofs.KeptNameFacts.{purged_exact}
use Rattle.oe_journal.proofs.ForgetsFacts.{given_up_still, names_still, same_rows}
use Rattle.oe_journal.proofs.PurgeFacts.{purged_is}
use Rattle.oe_journal.proofs.purges.purge.Goals.{After-forget_oldest}
use Rattle.oe_journal.proofs.purges.purge.Goals as goal

left : (c : After-forget_oldest) → length c.args.undo.now.log.committed - (c.kept.result - c.in-Ok.later) ≡ newest
    c.args.undo.now.log - c.args.moment
left c =
    let all = ap (λ (v : SegmentLog). length v.committed) c.segments.ensures in
    let last = ap newest c.segments.ensures in
    let kept = ap (λ (v : SegmentLog). length v.committed) c.segments-in-Ok.ensures in
    omega (arith, all, last, kept, c.kept.ensures, c.in-Ok.ensures.count, c.in-Ok.ensures.within)

pub forget_names-requires-clause-moment : goal.forget_names-requires-clause-moment
forget_names-requires-clause-moment c =
    let all = ap (λ (v : SegmentLog). length v.committed) c.segments.ensures in
    let last = ap newest c.segments.ensures in
    let total = ap total_count c.segments-in-Ok-2.ensures in
    let sum = ap newest c.segments-in-Ok-2.ensures in
    omega (
      arith,
      all,
      last,
      total,
      sum,
      c.newest-newest.ensures.value,
      c.newest-newest.ensures.moment,
      c.in-Ok.ensures.count,
      c.in-Ok.ensures.within,
    )

pub returns-in-Ok-clause-purged : goal.returns-in-Ok-clause-purged
returns-in-Ok-clause-purged c =
    λ r slots.
    ap (λ z. store_with r z slots)
    (c.forget_oldest.ensures.log ∙ ap (λ n. with_newest n c.args.undo.now.log)
    (left (goal.at.returns-in-Ok-clause-purged c).After-forget_oldest))
    ∙ purged_is c.args.undo.now.log c.args.moment r slots

pub returns-in-Ok-clause-places : goal.returns-in-Ok-clause-places
returns-in-Ok-clause-places c =
    given_up_still c.args.tables.now c.forget_names.new.tables c.forget_oldest.new.tables _
    c.forget_names.ensures.others
    (subst (λ n. GivesUpDeleted c.forget_names.new.tables c.forget_oldest.new.tables
    (drop n (undo_of c.args.undo.now.log).history) c.forget_oldest.new.undo.log)
    (left (goal.at.returns-in-Ok-clause-places c).After-forget_oldest) c.forget_oldest.ensures.places)

pub returns-in-Ok-clause-names : goal.returns-in-Ok-clause-names
returns-in-Ok-clause-names c =
    subst (λ n. ForgetsNames c.args.tables.now c.forget_oldest.new.tables
    (λ i k. IsTrue c.args.may_forget × LosesNameIn c.args.undo.now.log c.args.moment
    (drop n (undo_of c.args.undo.now.log).history) i k))
    (left (goal.at.returns-in-Ok-clause-names c).After-forget_oldest)
    (names_still c.args.tables.now c.forget_names.new.tables c.forget_oldest.new.tables _ c.forget_names.ensures.names
    c.forget_oldest.ensures.names)

pub returns-in-Ok-clause-exact : goal.returns-in-Ok-clause-exact
returns-in-Ok-clause-exact c by =
    let n : length c.args.undo.now.log.committed - (c.kept.result - c.in-Ok.later) ≡ newest
    c.args.undo.now.log - c.args.moment =
    left (goal.at.returns-in-Ok-clause-exact c).After-forget_oldest in
    let count : newest c.args.undo.now.log - c.args.moment ≡ total_count c.args.undo.now.log - c.args.moment =
    ap (λ x. x - c.args.moment) (ap newest (sym c.segments-in-Ok-2.ensures) ∙ sym c.newest-newest.ensures.moment
    ∙ c.newest-newest.ensures.value ∙ ap total_count c.segments-in-Ok-2.ensures) in
    purged_exact c.args.tables.now c.forget_oldest.new.tables c.args.undo.now.log c.forget_oldest.new.undo.log
    c.args.moment (newest c.args.undo.now.log - c.args.moment) c.args.may_forget count
    (c.forget_oldest.ensures.log ∙ ap (λ i. with_newest i c.args.undo.now.log) n)
    (c.forget_oldest.ensures.rows ∙ same_rows c.args.tables.now c.forget_names.new.tables c.forget_names.ensures.others)
    c.is_chained.ensures.whole.terminals
    (subst (λ i. ForgetsNames c.args.tables.now c.forget_oldest.new.tables
    (λ j k. IsTrue c.args.may_forget × LosesNameIn c.args.undo.now.log c.args.moment
    (drop i (undo_of c.args.undo.now.log).history) j k)) n
    (names_still c.args.tables.now c.forget_names.new.tables c.forget_oldest.new.tables _ c.forget_names.ensures.names
    c.forget_oldest.ensures.names)) by
