use Rattle.std.proofs.Common.{◌≡◌, true, is_some, ap}
use Rattle.std.specs.Prelude.{option_map}
use Rattle.oe_model.specs.Locks.{mode_of}
use Rattle.oe_log.specs.Log.{active_at}
use Rattle.oe_engine.specs.View.{view_of, view_from}
use Rattle.oe_engine.proofs.KeptFacts.{asked_kept}
use Rattle.oe_engine.proofs.SafeFacts.{asked_safe}
use Rattle.oe_engine.proofs.PartFacts.{on_ok, on_both, if_ok, if_err, free_is, locked_is, lock_cause}
use Rattle.oe_engine.proofs.RenameFacts.{named_locked}
use Rattle.oe_engine.proofs.engine.Engine.take.Goals as goal

pub invariant_of-self : goal.invariant_of-self
unfolding view_of view_from
invariant_of-self c =
    let given = rw (← c.self.view_is) at c.requires in
    let is : is_some (active_at c.self.inside.undo.log c.args.terminal) ≡ true = given in
    record {
      sound = record {
        kept = asked_kept c.acquire.result c.self.inside.tables c.self.inside.undo.log c.self.inside.locks
            c.acquire.new.self c.args.terminal is c.acquire.ensures.others c.acquire.ensures.err
            c.self.invariant.sound.kept;
        safe = asked_safe c.acquire.result c.self.inside.tables c.self.inside.undo.log c.self.inside.locks
            c.acquire.new.self c.args.terminal c.args.lock.name c.args.lock.mode
            c.acquire.ensures.free c.acquire.ensures.own c.acquire.ensures.others c.acquire.ensures.err
            c.self.invariant.sound.safe;
        linked = c.self.invariant.sound.linked;
      };
      named = named_locked c.self.inside.tables c.self.inside.undo.log c.self.inside.locks c.acquire.new.self
          c.self.inside.renames c.self.invariant.named;
    }

pub returns-clause-before : goal.returns-clause-before
unfolding view_of view_from
returns-clause-before c = rw (← c.self.view_is)
    (if_ok c.acquire.result (λ was h. ap (option_map mode_of) h) c.acquire.ensures.before)

pub returns-clause-free : goal.returns-clause-free
unfolding view_of
returns-clause-free c =
    rw (← c.self.view_is)
    (on_ok c.acquire.result
    (λ h. free_is c.self.inside.tables c.self.inside.undo.log c.self.inside.locks c.args.terminal c.args.lock.name
    c.args.lock.mode h) c.acquire.ensures.free)

pub returns-clause-locked : goal.returns-clause-locked
unfolding view_of
returns-clause-locked c =
    rw (← c.self.view_is)
    (on_both c.acquire.result
    (λ own others. locked_is c.self.inside.tables c.self.inside.undo.log c.self.inside.locks c.acquire.new.self
    c.args.terminal c.args.lock.name c.args.lock.mode own others) c.acquire.ensures.own c.acquire.ensures.others)

pub returns-clause-cause : goal.returns-clause-cause
unfolding view_of
returns-clause-cause c =
    rw (← c.self.view_is)
    (if_err c.acquire.result
    (λ e h. lock_cause c.self.inside.tables c.self.inside.undo.log c.self.inside.locks c.args.terminal
    c.args.lock.name c.args.lock.mode e c.self.invariant.sound.kept h) c.acquire.ensures.cause)
