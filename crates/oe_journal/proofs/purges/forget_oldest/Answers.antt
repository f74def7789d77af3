use Rattle.std.proofs.Common.{◌≡◌, ◌-◌, ◌+◌, ◌∙◌, refl, sym, ap, subst, arith, length, drop}
use Rattle.oe_log.specs.Log.{SegmentLog, with_newest}
use Rattle.oe_log.specs.Stands.{undo_of}
use Rattle.oe_undo.specs.Chains.{IsEnd}
use Rattle.oe_undo.specs.Undo.{link_seen}
use Rattle.oe_journal.specs.GivesUp.{GivesUpDeleted}
use Rattle.oe_journal.proofs.PurgeFacts.{none_forgotten, left_are, ends_there, one_forgotten, ForgetsOldest}
use Rattle.oe_journal.proofs.purges.forget_oldest.Goals as goal

pub loop-init : goal.loop-init
loop-init c = (
  none_forgotten c.args.tables.now c.args.undo.now.log
      (length c.args.undo.now.log.committed - c.args.count),
  refl,
  refl,
)

pub loop-preserved : goal.loop-preserved
loop-preserved c =
    let all = length c.args.undo.now.log.committed in
    let many : length c.loop.undo.log.committed ≡ all - c.loop.counter =
    left_are c.args.tables.now c.loop.tables c.args.undo.now.log c.loop.undo.log (all - c.args.count)
    (all - c.loop.counter) c.loop.invariant.0 (omega arith) in
    let kept = ap (λ (v : SegmentLog). length v.committed) c.segments.ensures in
    let less : all - c.loop.counter - 1 ≡ all - (c.loop.counter + 1) = omega arith in
    let at : c.kept-oldest.result - 1 ≡ all - c.loop.counter - 1 = omega (arith, c.kept-oldest.ensures, kept, many) in
    let ends = ends_there c.calls_keep_chains.ensures c.ends_without_records.ensures c.args.undo.now.log c.loop.undo.log
    (link_seen c.loop.undo) c.args.moment
    (all - c.args.count) (all - c.loop.counter) (omega arith) (omega arith) c.requires.last c.loop.invariant.0.log
    c.is_chained.ensures.whole c.is_chained.ensures.chained in (
      subst (ForgetsOldest c.args.tables.now c.give_up_deleted.new.tables c.args.undo.now.log
          c.drop_oldest-owner.new.self.log (all - c.args.count)) less
          (subst (λ u. ForgetsOldest c.args.tables.now c.give_up_deleted.new.tables c.args.undo.now.log u
          (all - c.args.count) (all - c.loop.counter - 1)) (sym c.drop_oldest-owner.ensures.dropped)
          (one_forgotten c.args.tables.now c.loop.tables c.give_up_deleted.new.tables c.args.undo.now.log
          c.loop.undo.log (λ k. IsEnd c.args.moment (link_seen c.loop.undo k))
          (all - c.args.count) (all - c.loop.counter) (c.kept-oldest.result - 1) (omega arith) (omega arith) at ends
          c.give_up_deleted.ensures.rows
          c.give_up_deleted.ensures.places
          c.loop.invariant.0)),
      c.drop_oldest-owner.ensures.links ∙ c.loop.invariant.1,
      c.give_up_deleted.ensures.names ∙ c.loop.invariant.2,
    )

pub returns-clause-log : goal.returns-clause-log
returns-clause-log c =
    let all : length c.args.undo.now.log.committed - c.loop.counter ≡ length
    c.args.undo.now.log.committed - c.args.count = omega arith in
    c.loop.invariant.0.log ∙ ap (λ n. with_newest n c.args.undo.now.log) all

pub returns-clause-rows : goal.returns-clause-rows
returns-clause-rows c = c.loop.invariant.0.same

pub returns-clause-places : goal.returns-clause-places
returns-clause-places c =
    let log = c.args.undo.now.log in
    let all : length log.committed - c.loop.counter ≡ length log.committed - c.args.count = omega arith in
    subst (λ n. GivesUpDeleted c.args.tables.now c.loop.tables (drop n (undo_of log).history) c.loop.undo.log) all
    (subst (GivesUpDeleted c.args.tables.now c.loop.tables
    (drop (length log.committed - c.loop.counter) (undo_of log).history))
    (sym (c.loop.invariant.0.log ∙ ap (λ n. with_newest n log) all)) c.loop.invariant.0.places)

pub returns-clause-links : goal.returns-clause-links
returns-clause-links c = c.loop.invariant.1

pub returns-clause-names : goal.returns-clause-names
returns-clause-names c = c.loop.invariant.2
