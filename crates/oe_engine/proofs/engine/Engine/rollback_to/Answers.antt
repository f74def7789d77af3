use Rattle.std.proofs.Common.{◌≡◌, ◌≤◌, ◌-◌, sym, ap, ◌∙◌, subst, length}
use Rattle.std.specs.Prelude.{IsSome}
use Rattle.oe_log.specs.Log.{active_at}
use Rattle.oe_log.specs.Stands.{undo_of}
use Rattle.oe_engine.specs.View.{view_of, view_from}
use Rattle.oe_engine.specs.Calls.{back_at}
use Rattle.oe_engine.specs.Covered.{IsSafe}
use Rattle.oe_engine.proofs.SafeFacts.{safe_back, newest_unwind}
use Rattle.oe_engine.proofs.EndFacts.{counted, taken_kept, back_is, since_is, within_mark}
use Rattle.oe_engine.specs.Renames.{AreNamed}
use Rattle.oe_engine.proofs.RenameFacts.{named_back}
use Rattle.oe_engine.proofs.engine.Engine.rollback_to.Goals as goal

pub mark-requires : goal.mark-requires
unfolding view_of view_from
mark-requires c =
    let given = rw (← c.self.view_is) at c.requires.open.terminal in
    let is : IsSome (active_at c.self.inside.undo.log c.args.tx.now.terminal) = given in
    subst (λ u. IsSome (active_at u c.of-segment.result)) (sym c.segments.ensures)
    (subst (λ s. IsSome (active_at c.self.inside.undo.log s))
    (sym (c.of-segment.ensures ∙ ap (λ x. x.terminal) c.tx.view_is)) is)

pub overflow_sub-count : goal.overflow_sub-count
unfolding view_of view_from
overflow_sub-count c =
    let given = rw (← c.self.view_is) at c.requires.savepoint in
    let below : c.args.savepoint ≤ length ((undo_of c.self.inside.undo.log).active c.args.tx.now.terminal) = given in
    within_mark c.self.inside.undo.log c.of-segment.result c.args.tx.now.terminal c.mark.result c.args.savepoint
    c.savepoint.inside.records (c.of-segment.ensures ∙ ap (λ x. x.terminal) c.tx.view_is)
    (counted c.self.inside.undo.log c.segments.result.now c.of-segment.result c.mark.result c.segments.ensures
    c.mark.ensures) c.savepoint.view_is below

pub take_back-requires-clause-open : goal.take_back-requires-clause-open
unfolding view_of view_from
take_back-requires-clause-open c =
    let given = rw (← c.self.view_is) at c.requires.open.terminal in
    let is : IsSome (active_at c.self.inside.undo.log c.args.tx.now.terminal) = given in
    subst (λ s. IsSome (active_at c.self.inside.undo.log s))
    (sym (c.of-segment.ensures ∙ ap (λ x. x.terminal) c.tx.view_is)) is

pub take_back-requires-clause-unwinds : goal.take_back-requires-clause-unwinds
unfolding view_from
take_back-requires-clause-unwinds c =
    newest_unwind c.of-segment.result (c.mark.result - c.savepoint.inside.records)
    (view_from c.self.inside.tables c.self.inside.undo.log c.self.inside.locks) c.self.invariant.sound.safe

pub invariant_of-self : goal.invariant_of-self
invariant_of-self c =
    let same : c.of-segment.result ≡ c.args.tx.now.terminal = c.of-segment.ensures
    ∙ ap (λ x. x.terminal) c.tx.view_is in
    let n = since_is c.self.inside.undo.log c.of-segment.result c.args.tx.now.terminal c.mark.result c.args.savepoint
    c.savepoint.inside.records same
    (counted c.self.inside.undo.log c.segments.result.now c.of-segment.result c.mark.result c.segments.ensures
    c.mark.ensures) c.savepoint.view_is in
    let here : length ((undo_of c.self.inside.undo.log).active c.args.tx.now.terminal) ≡ length
    ((undo_of c.self.inside.undo.log).active c.of-segment.result) =
    ap (λ t. length ((undo_of c.self.inside.undo.log).active t)) (sym same) in
    record {
      sound = record {
        kept = taken_kept c.self.inside.tables c.take_back.new.tables c.self.inside.undo.log c.take_back.new.undo.log
            c.self.inside.locks c.of-segment.result (c.mark.result - c.savepoint.inside.records)
            c.take_back.ensures.back c.self.invariant.sound.kept;
        safe = subst IsSafe
            (sym (back_is c.self.inside.tables c.take_back.new.tables c.self.inside.undo.log c.take_back.new.undo.log
            c.self.inside.locks c.of-segment.result c.args.savepoint (c.mark.result - c.savepoint.inside.records)
            (n ∙ ap (λ k. k - c.args.savepoint) here) c.take_back.ensures.back))
            (safe_back c.of-segment.result c.args.savepoint
            (view_from c.self.inside.tables c.self.inside.undo.log c.self.inside.locks) c.self.invariant.sound.safe);
        linked = c.take_back.ensures.links.linked c.self.invariant.sound.linked;
      };
      named = subst (λ v. AreNamed v c.self.inside.renames)
          (sym (back_is c.self.inside.tables c.take_back.new.tables c.self.inside.undo.log c.take_back.new.undo.log
          c.self.inside.locks c.of-segment.result c.args.savepoint (c.mark.result - c.savepoint.inside.records)
          (n ∙ ap (λ k. k - c.args.savepoint) here) c.take_back.ensures.back))
          (named_back c.of-segment.result c.args.savepoint
          (view_from c.self.inside.tables c.self.inside.undo.log c.self.inside.locks) c.self.inside.renames
          c.self.invariant.sound.safe c.self.invariant.named);
    }

pub returns-clause-back : goal.returns-clause-back
unfolding view_of
returns-clause-back c =
    let same : c.of-segment.result ≡ c.args.tx.now.terminal = c.of-segment.ensures
    ∙ ap (λ x. x.terminal) c.tx.view_is in
    let n = since_is c.self.inside.undo.log c.of-segment.result c.args.tx.now.terminal c.mark.result c.args.savepoint
    c.savepoint.inside.records same
    (counted c.self.inside.undo.log c.segments.result.now c.of-segment.result c.mark.result c.segments.ensures
    c.mark.ensures) c.savepoint.view_is in
    let here : length ((undo_of c.self.inside.undo.log).active c.args.tx.now.terminal) ≡ length
    ((undo_of c.self.inside.undo.log).active c.of-segment.result) =
    ap (λ t. length ((undo_of c.self.inside.undo.log).active t)) (sym same) in
    rw (← c.self.view_is)
    (back_is c.self.inside.tables c.take_back.new.tables c.self.inside.undo.log c.take_back.new.undo.log
    c.self.inside.locks c.of-segment.result c.args.savepoint (c.mark.result - c.savepoint.inside.records)
    (n ∙ ap (λ k. k - c.args.savepoint) here) c.take_back.ensures.back
    ∙ ap (λ t. back_at t c.args.savepoint (view_from c.self.inside.tables c.self.inside.undo.log c.self.inside.locks))
    same)
