use Rattle.std.proofs.Common.{◌≡◌, ◌<◌, [], sym, ap, ◌∙◌, subst, length, arith}
use Rattle.std.specs.Prelude.{IsSome}
use Rattle.oe_log.specs.Log.{active_at, records_at}
use Rattle.oe_log.specs.Moments.{newest}
use Rattle.oe_locks.specs.Held.{HoldsNothing, OthersKeep}
use Rattle.oe_engine.specs.View.{view_of, view_from, IsOpen}
use Rattle.oe_engine.specs.Kept.{IsKept}
use Rattle.oe_engine.specs.Calls.{after_rollback}
use Rattle.oe_engine.specs.Covered.{IsSafe}
use Rattle.oe_engine.proofs.SafeFacts.{safe_rolled_back, newest_unwind}
use Rattle.oe_engine.proofs.EndFacts.{counted, taken_kept, dropped_kept, none_is_left, rolled_back_is}
use Rattle.oe_journal.specs.Linked.{AreLinked}
use Rattle.oe_engine.proofs.RenameFacts.{rollback_named}
use Rattle.oe_engine.proofs.engine.Engine.rollback.Goals as goal

pub mark-count-requires : goal.mark-count-requires
unfolding view_of view_from
mark-count-requires c =
    let o : IsOpen c.args.self.now c.args.tx = c.is_open.ensures.0 c.if-not-is_open.false in
    let given = rw (← c.self.view_is) at o.terminal in
    let is : IsSome (active_at c.self.inside.undo.log c.args.tx.terminal) = given in
    subst (λ u. IsSome (active_at u c.of-segment.result)) (sym c.segments.ensures)
    (subst (λ s. IsSome (active_at c.self.inside.undo.log s))
    (sym (c.of-segment.ensures ∙ ap (λ x. x.terminal) c.tx.view_is)) is)

pub take_back-requires-clause-open : goal.take_back-requires-clause-open
unfolding view_of view_from
take_back-requires-clause-open c =
    let o : IsOpen c.args.self.now c.args.tx = c.is_open.ensures.0 c.if-not-is_open.false in
    let given = rw (← c.self.view_is) at o.terminal in
    let is : IsSome (active_at c.self.inside.undo.log c.args.tx.terminal) = given in
    subst (λ s. IsSome (active_at c.self.inside.undo.log s))
    (sym (c.of-segment.ensures ∙ ap (λ x. x.terminal) c.tx.view_is)) is

pub take_back-requires-clause-unwinds : goal.take_back-requires-clause-unwinds
unfolding view_from
take_back-requires-clause-unwinds c =
    newest_unwind c.of-segment.result c.mark-count.result
    (view_from c.self.inside.tables c.self.inside.undo.log c.self.inside.locks) c.self.invariant.sound.safe

pub drop_segment-requires-clause-open : goal.drop_segment-requires-clause-open
unfolding view_of view_from
drop_segment-requires-clause-open c =
    let o : IsOpen c.args.self.now c.args.tx = c.is_open.ensures.0 c.if-not-is_open.false in
    let given = rw (← c.self.view_is) at o.terminal in
    let is : IsSome (active_at c.self.inside.undo.log c.args.tx.terminal) = given in
    c.take_back.ensures.back.others.is_open c.of-segment.result
    ∙ subst (λ s. IsSome (active_at c.self.inside.undo.log s))
    (sym (c.of-segment.ensures ∙ ap (λ x. x.terminal) c.tx.view_is)) is

pub drop_segment-requires-clause-empty : goal.drop_segment-requires-clause-empty
drop_segment-requires-clause-empty c =
    none_is_left c.self.inside.tables c.take_back.new.tables c.self.inside.undo.log c.take_back.new.undo.log
    c.of-segment.result c.mark-count.result
    (counted c.self.inside.undo.log c.segments.result.now c.of-segment.result c.mark-count.result c.segments.ensures
    c.mark-count.ensures) c.take_back.ensures.back

pub invariant_of-self : goal.invariant_of-self
unfolding view_from
invariant_of-self c =
    let empty : records_at c.take_back.new.undo.log c.of-segment.result ≡ [] =
    none_is_left c.self.inside.tables c.take_back.new.tables c.self.inside.undo.log c.take_back.new.undo.log
    c.of-segment.result c.mark-count.result
    (counted c.self.inside.undo.log c.segments.result.now c.of-segment.result c.mark-count.result c.segments.ensures
    c.mark-count.ensures) c.take_back.ensures.back in
    let own : HoldsNothing c.release_all.new.self c.of-segment.result =
    subst (HoldsNothing c.release_all.new.self) (sym c.of-segment.ensures) c.release_all.ensures.own in
    let others : OthersKeep c.self.inside.locks c.release_all.new.self c.of-segment.result =
    subst (OthersKeep c.self.inside.locks c.release_all.new.self) (sym c.of-segment.ensures)
    c.release_all.ensures.others in
    let size : length c.take_back.new.undo.log.terminals ≡ 65 = c.take_back.ensures.back.others.size
    ∙ c.self.invariant.sound.kept.size in
    let within : c.of-segment.result < length c.take_back.new.undo.log.terminals =
    omega (arith, c.get-number.ensures.value, c.get-number.ensures.high, c.of-segment.ensures) in
    let first : length c.self.inside.undo.log.terminals ≡ 65 = c.self.invariant.sound.kept.size in
    let there : c.of-segment.result < length c.self.inside.undo.log.terminals =
    omega (arith, c.get-number.ensures.value, c.get-number.ensures.high, c.of-segment.ensures) in
    record {
      sound = record {
        kept = subst (λ u. IsKept c.take_back.new.tables u c.release_all.new.self) (sym c.drop_segment.ensures.log)
            (dropped_kept c.take_back.new.tables c.take_back.new.undo.log c.self.inside.locks c.release_all.new.self
            c.of-segment.result within empty own others
            (taken_kept c.self.inside.tables c.take_back.new.tables c.self.inside.undo.log c.take_back.new.undo.log
            c.self.inside.locks c.of-segment.result c.mark-count.result c.take_back.ensures.back
            c.self.invariant.sound.kept));
        safe = subst IsSafe
            (sym (ap (λ u. view_from c.take_back.new.tables u c.release_all.new.self) c.drop_segment.ensures.log
            ∙ rolled_back_is c.self.inside.tables c.take_back.new.tables c.self.inside.undo.log c.take_back.new.undo.log
            c.self.inside.locks c.release_all.new.self c.of-segment.result c.mark-count.result
            (counted c.self.inside.undo.log c.segments.result.now c.of-segment.result c.mark-count.result
            c.segments.ensures c.mark-count.ensures) there c.take_back.ensures.back own others))
            (safe_rolled_back c.of-segment.result
            (view_from c.self.inside.tables c.self.inside.undo.log c.self.inside.locks) c.self.invariant.sound.safe);
        linked = subst (AreLinked c.take_back.new.tables) (sym c.drop_segment.ensures.links)
            (c.take_back.ensures.links.linked c.self.invariant.sound.linked);
      };
      named = rollback_named c.of-segment.result _ _
          (view_from c.self.inside.tables c.self.inside.undo.log c.self.inside.locks) _ c.self.inside.renames
          c.ended-self-inside.result
          (ap (λ u. view_from c.take_back.new.tables u c.release_all.new.self) c.drop_segment.ensures.log
          ∙ rolled_back_is c.self.inside.tables c.take_back.new.tables c.self.inside.undo.log c.take_back.new.undo.log
          c.self.inside.locks c.release_all.new.self c.of-segment.result c.mark-count.result
          (counted c.self.inside.undo.log c.segments.result.now c.of-segment.result c.mark-count.result
          c.segments.ensures c.mark-count.ensures) there c.take_back.ensures.back own others)
          c.self.invariant.sound.safe (sym c.of-segment.ensures)
          (c.newest-newest.ensures.moment ∙ ap newest c.segments-2.ensures) c.ended-self-inside.ensures
          c.self.invariant.named;
    }

pub returns-clause-rolled_back : goal.returns-clause-rolled_back
unfolding view_of
returns-clause-rolled_back c =
    let own : HoldsNothing c.release_all.new.self c.of-segment.result =
    subst (HoldsNothing c.release_all.new.self) (sym c.of-segment.ensures) c.release_all.ensures.own in
    let others : OthersKeep c.self.inside.locks c.release_all.new.self c.of-segment.result =
    subst (OthersKeep c.self.inside.locks c.release_all.new.self) (sym c.of-segment.ensures)
    c.release_all.ensures.others in
    let size : length c.self.inside.undo.log.terminals ≡ 65 = c.self.invariant.sound.kept.size in
    let within : c.of-segment.result < length c.self.inside.undo.log.terminals =
    omega (arith, c.get-number.ensures.value, c.get-number.ensures.high, c.of-segment.ensures) in
    rw (← c.self.view_is)
    (ap (λ u. view_from c.take_back.new.tables u c.release_all.new.self) c.drop_segment.ensures.log
    ∙ rolled_back_is c.self.inside.tables c.take_back.new.tables c.self.inside.undo.log c.take_back.new.undo.log
    c.self.inside.locks c.release_all.new.self c.of-segment.result c.mark-count.result
    (counted c.self.inside.undo.log c.segments.result.now c.of-segment.result c.mark-count.result c.segments.ensures
    c.mark-count.ensures) within c.take_back.ensures.back own others
    ∙ ap (λ t. after_rollback t (view_from c.self.inside.tables c.self.inside.undo.log c.self.inside.locks))
    (c.of-segment.ensures ∙ ap (λ x. x.terminal) c.tx.view_is))
