use Rattle.std.proofs.Common.{◌≡◌, true, is_some, sym, ◌∙◌, subst}
use Rattle.std.specs.Prelude.{option_map}
use Rattle.std.proofs.lemmas.Bool.{true≢false}
use Rattle.oe_log.specs.Log.{active_at}
use Rattle.oe_model.specs.Locks.{mode_of}
use Rattle.oe_locks.specs.Held.{IsBelow}
use Rattle.oe_engine.specs.View.{view_of, view_from}
use Rattle.oe_engine.proofs.KeptFacts.{locks_kept}
use Rattle.oe_engine.specs.Covered.{IsSafe, IsUnused}
use Rattle.oe_engine.specs.Calls as calls
use Rattle.oe_engine.proofs.SafeFacts.{safe_put}
use Rattle.oe_engine.proofs.PartFacts.{below_as, mode_put, put_nothing}
use Rattle.oe_engine.proofs.RenameFacts.{named_locked}
use Rattle.oe_engine.proofs.engine.Engine.restore.Goals as goal

pub invariant_of-self : goal.invariant_of-self
unfolding view_of view_from
invariant_of-self c =
    let given = rw (← c.self.view_is) at c.requires.open in
    let is : is_some (active_at c.self.inside.undo.log c.args.terminal) ≡ true = given in
    let v = view_from c.self.inside.tables c.self.inside.undo.log c.self.inside.locks in
    let lower = subst (IsBelow c.args.mode) c.holds.ensures (c.is_below.ensures.0 c.if-is_below.true) in
    let below : calls.IsBelow (option_map mode_of c.args.mode) (v.held c.args.terminal c.args.name) =
    below_as _ _ lower in
    let unused = rw (← c.self.view_is) at c.requires.unused in
    let none : IsUnused c.args.name (v.undo.active c.args.terminal) v.rows = unused below in
    record {
      sound = record {
        kept = locks_kept c.self.inside.tables c.self.inside.undo.log c.self.inside.locks c.give_back.new.self
            c.args.terminal is c.give_back.ensures.others c.self.invariant.sound.kept;
        safe = subst IsSafe
            (sym (mode_put c.self.inside.tables c.self.inside.undo.log c.self.inside.locks c.give_back.new.self
            c.args.terminal c.args.name c.args.mode c.give_back.ensures.own c.give_back.ensures.others))
            (safe_put c.args.terminal c.args.name (option_map mode_of c.args.mode) v below none
            c.self.invariant.sound.safe);
        linked = c.self.invariant.sound.linked;
      };
      named = named_locked c.self.inside.tables c.self.inside.undo.log c.self.inside.locks c.give_back.new.self
          c.self.inside.renames c.self.invariant.named;
    }

pub returns-then-is_below-clause-put : goal.returns-then-is_below-clause-put
unfolding view_of
returns-then-is_below-clause-put c =
    rw (← c.self.view_is)
    (mode_put c.self.inside.tables c.self.inside.undo.log c.self.inside.locks c.give_back.new.self c.args.terminal
    c.args.name c.args.mode c.give_back.ensures.own c.give_back.ensures.others)

pub returns-else-is_below-clause-put : goal.returns-else-is_below-clause-put
unfolding view_of
returns-else-is_below-clause-put c =
    let given = rw (← c.self.view_is) at c.requires.below in
    rw (← c.self.view_is)
    (put_nothing c.self.inside.tables c.self.inside.undo.log c.self.inside.locks c.args.terminal c.args.name c.args.mode
    given
    (λ h. true≢false (sym (c.is_below.ensures.1 (subst (IsBelow c.args.mode) (sym c.holds.ensures) h))
    ∙ c.if-is_below.false)))
