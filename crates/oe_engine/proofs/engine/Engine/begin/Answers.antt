use Rattle.std.specs.Prelude.{IsSome}
use Rattle.std.proofs.Common.{◌≡◌, ◌<◌, ℕ, suc, Bool, true, false, is_some, ap, subst, sym, ◌∙◌, length, None, arith}
use Rattle.std.proofs.Common.{rules}
use Rattle.std.proofs.lemmas.Bool.{cond-true, le-leb}
use Rattle.oe_log.specs.Log.{SegmentLog, active_at, count_at, records_in}
use Rattle.oe_log.specs.Stands.{model_records}
use Rattle.oe_model.specs.Requests.{number_rejection}
use Rattle.oe_engine.specs.View.{view_of, view_from}
use Rattle.oe_engine.specs.Kept.{IsKept}
use Rattle.oe_engine.specs.Covered.{IsSafe}
use Rattle.oe_engine.proofs.KeptFacts.{opened_kept}
use Rattle.oe_engine.proofs.SafeFacts.{safe_begun}
use Rattle.oe_engine.proofs.LogFacts.{opened_is, is_none}
use Rattle.oe_engine.proofs.PartFacts.{idle_is, not_so}
use Rattle.oe_journal.specs.Linked.{AreLinked}
use Rattle.oe_engine.specs.Renames.{AreNamed}
use Rattle.oe_engine.proofs.RenameFacts.{named_begun}
use Rattle.oe_engine.proofs.engine.Engine.begin.Goals as goal

number_there : (n : ℕ) → n < 4_294_967_295 → number_rejection (suc n) ≡ None
number_there n h = cond-true _ _ _ (le-leb (suc n) 4_294_967_295 (omega arith))

closed_here : {b : Bool} (u v : SegmentLog) (t : ℕ) → v ≡ u → (IsSome (active_at v t) → b ≡ true) → b ≡ false
    → is_some (active_at u t) ≡ false
closed_here u v t same so closed = subst (λ z. is_some (active_at z t) ≡ false) same (not_so _ _ so closed)

pub returns-then-is_open-clause-idle : goal.returns-then-is_open-clause-idle
unfolding view_of
returns-then-is_open-clause-idle c = rw (← c.self.view_is)
    (idle_is c.self.inside.tables c.self.inside.undo.log c.self.inside.locks c.args.terminal
    c.self.invariant.sound.kept)

pub returns-then-is_open-clause-cause : goal.returns-then-is_open-clause-cause
unfolding view_of view_from
returns-then-is_open-clause-cause c = rw (← c.self.view_is)
    (subst (λ u. is_some (active_at u c.args.terminal) ≡ true) c.segments.ensures
    (c.is_open.ensures.0 c.if-is_open.true))

pub returns-then-count-clause-idle : goal.returns-then-count-clause-idle
unfolding view_of
returns-then-count-clause-idle c = rw (← c.self.view_is)
    (idle_is c.self.inside.tables c.self.inside.undo.log c.self.inside.locks c.args.terminal
    c.self.invariant.sound.kept)

pub returns-then-count-clause-cause : goal.returns-then-count-clause-cause
unfolding view_of view_from
returns-then-count-clause-cause c =
    let most : count_at c.self.inside.undo.log c.args.terminal ≡ 4_294_967_295 = search rules in
    rw (← c.self.view_is) (
      closed_here _ _ c.args.terminal c.segments.ensures c.is_open.ensures.1 c.if-is_open.false,
      ap
          (λ n. number_rejection (suc n)) most,
    )

pub returns-in_default-clause-idle : goal.returns-in_default-clause-idle
unfolding view_of
returns-in_default-clause-idle c = rw (← c.self.view_is)
    (idle_is c.self.inside.tables c.self.inside.undo.log c.self.inside.locks c.args.terminal
    c.self.invariant.sound.kept)

pub returns-in_default-clause-cause : goal.returns-in_default-clause-cause
unfolding view_of view_from
returns-in_default-clause-cause c =
    let below : count_at c.self.inside.undo.log c.args.terminal < 4_294_967_295 = search rules in
    rw (← c.self.view_is) (
      closed_here _ _ c.args.terminal c.segments.ensures c.is_open.ensures.1 c.if-is_open.false,
      number_there _
          below,
    )

pub returns-clause-closed : goal.returns-clause-closed
unfolding view_of view_from
returns-clause-closed c = rw (← c.self.view_is)
    (closed_here _ _ c.args.terminal c.segments.ensures c.is_open.ensures.1 c.if-is_open.false)

pub returns-clause-counted : goal.returns-clause-counted
unfolding view_of view_from
returns-clause-counted c =
    let below : count_at c.self.inside.undo.log c.args.terminal < 4_294_967_295 = search rules in
    rw (← c.self.view_is) (number_there _ below)

pub returns-clause-records : goal.returns-clause-records
unfolding view_of view_from
returns-clause-records c =
    let closed : active_at c.self.inside.undo.log c.args.terminal ≡ None =
    is_none _ (closed_here _ _ c.args.terminal c.segments.ensures c.is_open.ensures.1 c.if-is_open.false) in
    rw (← c.self.view_is) (ap (λ o. model_records (records_in o)) closed)

pub returns-clause-begun : goal.returns-clause-begun
unfolding view_of
returns-clause-begun c =
    let closed : active_at c.self.inside.undo.log c.args.terminal ≡ None =
    is_none _ (closed_here _ _ c.args.terminal c.segments.ensures c.is_open.ensures.1 c.if-is_open.false) in
    let size : length c.self.inside.undo.log.terminals ≡ 65 = c.self.invariant.sound.kept.size in
    let within : c.args.terminal < length c.self.inside.undo.log.terminals =
    omega (arith, c.get-number.ensures.value, c.get-number.ensures.high) in
    rw (← c.self.view_is)
    (ap (λ u. view_from c.self.inside.tables u c.self.inside.locks) c.in-Ok.ensures.opened
    ∙ opened_is c.self.inside.tables c.self.inside.undo.log c.self.inside.locks c.args.terminal within closed)

pub returns-clause-idle : goal.returns-clause-idle
unfolding view_of
returns-clause-idle c = rw (← c.self.view_is)
    (idle_is c.self.inside.tables c.self.inside.undo.log c.self.inside.locks c.args.terminal
    c.self.invariant.sound.kept)

pub invariant_of-self-2 : goal.invariant_of-self-2
invariant_of-self-2 c =
    let closed : active_at c.self.inside.undo.log c.args.terminal ≡ None =
    is_none _ (closed_here _ _ c.args.terminal c.segments.ensures c.is_open.ensures.1 c.if-is_open.false) in
    let size : length c.self.inside.undo.log.terminals ≡ 65 = c.self.invariant.sound.kept.size in
    let within : c.args.terminal < length c.self.inside.undo.log.terminals =
    omega (arith, c.get-number.ensures.value, c.get-number.ensures.high) in
    let below : count_at c.self.inside.undo.log c.args.terminal < 4_294_967_295 = search rules in
    record {
      sound = record {
        kept = subst (λ u. IsKept c.self.inside.tables u c.self.inside.locks) (sym c.in-Ok.ensures.opened)
            (opened_kept c.self.inside.tables c.self.inside.undo.log c.self.inside.locks c.args.terminal within closed
            below c.self.invariant.sound.kept);
        safe = subst IsSafe
            (sym (ap (λ u. view_from c.self.inside.tables u c.self.inside.locks) c.in-Ok.ensures.opened
            ∙ opened_is c.self.inside.tables c.self.inside.undo.log c.self.inside.locks c.args.terminal within closed))
            (safe_begun c.args.terminal (view_from c.self.inside.tables c.self.inside.undo.log c.self.inside.locks)
            c.self.invariant.sound.safe);
        linked = subst (AreLinked c.self.inside.tables) (sym c.in-Ok.ensures.links) c.self.invariant.sound.linked;
      };
      named = subst (λ v. AreNamed v c.self.inside.renames)
          (sym (ap (λ u. view_from c.self.inside.tables u c.self.inside.locks) c.in-Ok.ensures.opened
          ∙ opened_is c.self.inside.tables c.self.inside.undo.log c.self.inside.locks c.args.terminal within closed))
          (named_begun c.args.terminal (view_from c.self.inside.tables c.self.inside.undo.log c.self.inside.locks)
          c.self.inside.renames c.self.invariant.named);
    }
