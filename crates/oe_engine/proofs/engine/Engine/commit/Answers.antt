use Rattle.std.proofs.Common.{◌≡◌, ◌<◌, suc, sym, ap, ◌∙◌, subst, length, arith, add-one}
use Rattle.std.specs.Prelude.{IsSome}
use Rattle.oe_model.specs.System.{terminal_limit}
use Rattle.oe_log.specs.Log.{active_at}
use Rattle.oe_log.proofs.StandsFacts.{totals}
use Rattle.oe_locks.specs.Held.{HoldsNothing, OthersKeep}
use Rattle.oe_journal.specs.Linked.{AreLinked}
use Rattle.oe_engine.specs.View.{view_of, view_from, IsOpen}
use Rattle.oe_engine.specs.Kept.{IsKept}
use Rattle.oe_engine.specs.Calls.{after_commit}
use Rattle.oe_engine.proofs.LogFacts.{sealed_is}
use Rattle.oe_engine.specs.Covered.{IsSafe}
use Rattle.oe_engine.proofs.KeptFacts.{sealed_kept}
use Rattle.oe_engine.proofs.SafeFacts.{safe_committed}
use Rattle.oe_engine.proofs.RenameFacts.{commit_named}
use Rattle.oe_engine.proofs.engine.Engine.commit.Goals as goal

pub seal-moment-requires : goal.seal-moment-requires
unfolding view_of view_from
seal-moment-requires c =
    let o : IsOpen c.args.self.now c.args.tx = c.is_open.ensures.0 c.if-not-is_open.false in
    let given = rw (← c.self.view_is) at o.terminal in
    let is : IsSome (active_at c.self.inside.undo.log c.args.tx.terminal) = given in
    subst (λ s. IsSome (active_at c.self.inside.undo.log s))
    (sym (c.of-segment.ensures ∙ ap (λ x. x.terminal) c.tx.view_is)) is

pub returns-clause-moment : goal.returns-clause-moment
unfolding view_of view_from
returns-clause-moment c =
    rw (← c.self.view_is)
    (c.seal-moment.ensures.moment ∙ add-one _
    ∙ ap suc (sym (totals c.self.inside.undo.log c.self.invariant.sound.kept.size)))

pub invariant_of-self : goal.invariant_of-self
unfolding view_of view_from terminal_limit
invariant_of-self c =
    let o : IsOpen c.args.self.now c.args.tx = c.is_open.ensures.0 c.if-not-is_open.false in
    let given = rw (← c.self.view_is) at o.terminal in
    let is : IsSome (active_at c.self.inside.undo.log c.args.tx.terminal) = given in
    let here : IsSome (active_at c.self.inside.undo.log c.of-segment.result) =
    subst (λ s. IsSome (active_at c.self.inside.undo.log s))
    (sym (c.of-segment.ensures ∙ ap (λ x. x.terminal) c.tx.view_is)) is in
    let own : HoldsNothing c.release_all.new.self c.of-segment.result =
    subst (HoldsNothing c.release_all.new.self) c.terminal.ensures c.release_all.ensures.own in
    let others : OthersKeep c.self.inside.locks c.release_all.new.self c.of-segment.result =
    subst (OthersKeep c.self.inside.locks c.release_all.new.self) c.terminal.ensures c.release_all.ensures.others in
    let size : length c.self.inside.undo.log.terminals ≡ 65 = c.self.invariant.sound.kept.size in
    let within : c.of-segment.result < length c.self.inside.undo.log.terminals =
    omega (arith, c.get-number.ensures.value, c.get-number.ensures.high, c.of-segment.ensures) in
    record {
      sound = record {
        kept = subst (λ u. IsKept c.self.inside.tables u c.release_all.new.self) (sym c.seal-moment.ensures.sealed)
            (sealed_kept c.self.inside.tables c.self.inside.undo.log c.self.inside.locks c.release_all.new.self
            c.of-segment.result c.args.request.value c.args.reply.value within here own others
            c.self.invariant.sound.kept);
        safe = subst IsSafe
            (sym (ap (λ u. view_from c.self.inside.tables u c.release_all.new.self) c.seal-moment.ensures.sealed
            ∙ sealed_is c.self.inside.tables c.self.inside.undo.log c.self.inside.locks c.release_all.new.self
            c.of-segment.result c.args.request.value c.args.reply.value within here own others))
            (safe_committed c.of-segment.result c.args.request.value c.args.reply.value
            (view_from c.self.inside.tables c.self.inside.undo.log c.self.inside.locks) c.self.invariant.sound.safe);
        linked = subst (AreLinked c.self.inside.tables) (sym c.seal-moment.ensures.links) c.self.invariant.sound.linked;
      };
      named = commit_named c.of-segment.result _ _
          (view_from c.self.inside.tables c.self.inside.undo.log c.self.inside.locks) _ c.self.inside.renames
          c.ended-self-inside.result c.args.request.value c.args.reply.value
          (ap (λ u. view_from c.self.inside.tables u c.release_all.new.self) c.seal-moment.ensures.sealed
          ∙ sealed_is c.self.inside.tables c.self.inside.undo.log c.self.inside.locks c.release_all.new.self
          c.of-segment.result c.args.request.value c.args.reply.value within here own others)
          (sym c.of-segment.ensures) (omega (arith, within, size))
          (c.seal-moment.ensures.moment ∙ add-one _ ∙ ap suc (sym (totals c.self.inside.undo.log size)))
          c.ended-self-inside.ensures c.self.invariant.named;
    }

pub returns-clause-committed : goal.returns-clause-committed
unfolding view_of view_from
returns-clause-committed c =
    let o : IsOpen c.args.self.now c.args.tx = c.is_open.ensures.0 c.if-not-is_open.false in
    let given = rw (← c.self.view_is) at o.terminal in
    let is : IsSome (active_at c.self.inside.undo.log c.args.tx.terminal) = given in
    let same : c.of-segment.result ≡ c.args.tx.terminal = c.of-segment.ensures ∙ ap (λ x. x.terminal) c.tx.view_is in
    let here : IsSome (active_at c.self.inside.undo.log c.of-segment.result) =
    subst (λ s. IsSome (active_at c.self.inside.undo.log s)) (sym same) is in
    let own : HoldsNothing c.release_all.new.self c.of-segment.result =
    subst (HoldsNothing c.release_all.new.self) c.terminal.ensures c.release_all.ensures.own in
    let others : OthersKeep c.self.inside.locks c.release_all.new.self c.of-segment.result =
    subst (OthersKeep c.self.inside.locks c.release_all.new.self) c.terminal.ensures c.release_all.ensures.others in
    let size : length c.self.inside.undo.log.terminals ≡ 65 = c.self.invariant.sound.kept.size in
    let within : c.of-segment.result < length c.self.inside.undo.log.terminals =
    omega (arith, c.get-number.ensures.value, c.get-number.ensures.high, c.of-segment.ensures) in
    rw (← c.self.view_is)
    (ap (λ u. view_from c.self.inside.tables u c.release_all.new.self) c.seal-moment.ensures.sealed
    ∙ sealed_is c.self.inside.tables c.self.inside.undo.log c.self.inside.locks c.release_all.new.self
    c.of-segment.result c.args.request.value c.args.reply.value within here own others
    ∙ ap (λ t. after_commit t c.args.request.value c.args.reply.value
    (view_from c.self.inside.tables c.self.inside.undo.log c.self.inside.locks)) same)
