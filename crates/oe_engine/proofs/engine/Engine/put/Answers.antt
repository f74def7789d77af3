use Rattle.std.proofs.Common.{◌≡◌, ◌∙◌, suc, true, sym, ap, subst}
use Rattle.std.specs.Prelude.{IsSome, is_some, option_map}
use Rattle.oe_model.specs.Locks.{mode_of}
use Rattle.oe_log.specs.Log.{active_at}
use Rattle.oe_change.specs.Writes.{key_written}
use Rattle.oe_undo.specs.Chains.{IsAlone}
use Rattle.oe_writes.specs.Asks.{ask_of}
use Rattle.oe_engine.specs.View.{EngineState, view_of, view_from}
use Rattle.oe_engine.specs.Calls.{with_ask}
use Rattle.oe_engine.specs.Writes.{MayWrite}
use Rattle.oe_engine.proofs.SafeFacts.{is_alone}
use Rattle.oe_engine.proofs.WriteFacts.{may_after, still_open}
use Rattle.oe_engine.proofs.PutFacts.{put_orderly, can_put_back, unused_there, as_before, put_made, put_refused}
use Rattle.oe_engine.proofs.engine.Engine.put.Goals as goal

pub write-requires-clause-open : goal.write-requires-clause-open
unfolding view_of view_from
write-requires-clause-open g c =
    let still = still_open c.args.self.now c.take_asked.new.self c.args.tx.now (ask_of c.args.lock.now) c.requires.open
    (rw c.terminal-terminal.ensures at c.in-Ok.ensures.locked) c.in-Ok.ensures.name in
    let given = (rw (← c.self.view_is) at still).terminal in
    let is : IsSome (active_at c.self.inside.undo.log c.args.tx.now.terminal) = given in
    subst (λ s. IsSome (active_at c.self.inside.undo.log s))
    (sym (c.of-segment.ensures ∙ c.terminal-terminal.ensures)) is

-- no other transaction has changed the row
pub write-requires-clause-alone : goal.write-requires-clause-alone
unfolding view_of view_from
write-requires-clause-alone g c =
    let v = view_from c.self.inside.tables c.self.inside.undo.log c.self.inside.locks in
    let asked : v ≡ with_ask c.args.tx.now.terminal (ask_of c.args.lock.now) (view_of c.args.self.now) =
    ap view_of c.self.view_is ∙ (rw c.terminal-terminal.ensures at c.in-Ok.ensures.locked) in
    let w = g.W.OneWrite.write c.args.write.now in
    let may : MayWrite v.rows (v.held c.args.tx.now.terminal) c.args.tx.now.terminal
    (suc (v.counts c.args.tx.now.terminal)) w =
    may_after c.args.tx.now.terminal (ask_of c.args.lock.now) w (view_of c.args.self.now) v asked c.requires.covered in
    subst (λ t. IsAlone c.self.inside.undo.log t (key_written w)) (sym
    (c.of-segment.ensures ∙ c.terminal-terminal.ensures))
    (is_alone c.self.inside.tables c.self.inside.undo.log c.self.inside.locks c.args.tx.now.terminal
    (key_written w) c.self.invariant.sound.safe may.0)

pub invariant_of-self : goal.invariant_of-self
unfolding view_of view_from
invariant_of-self g c =
    let v = view_from c.self.inside.tables c.self.inside.undo.log c.self.inside.locks in
    let asked : v ≡ with_ask c.args.tx.now.terminal (ask_of c.args.lock.now) (view_of c.args.self.now) =
    ap view_of c.self.view_is ∙ (rw c.terminal-terminal.ensures at c.in-Ok.ensures.locked) in
    let w = g.W.OneWrite.write c.args.write.now in
    let may : MayWrite v.rows (v.held c.args.tx.now.terminal) c.args.tx.now.terminal
    (suc (v.counts c.args.tx.now.terminal)) w =
    may_after c.args.tx.now.terminal (ask_of c.args.lock.now) w (view_of c.args.self.now) v asked c.requires.covered in
    put_orderly c.self.inside.tables c.write.new.tables c.self.inside.undo c.write.new.undo c.self.inside.locks
    c.args.tx.now.terminal w c.write.result c.self.inside.renames c.noted-self-inside.result
    c.terminal-terminal.result c.of-segment.result c.terminal-terminal.ensures c.of-segment.ensures may
    c.write.ensures.written c.write.ensures.err c.write.ensures.err_undo c.write.ensures.linked
    c.noted-self-inside.ensures c.self.invariant

pub invariant_of-self-in_default : goal.invariant_of-self-in_default
unfolding view_of view_from
invariant_of-self-in_default g c =
    let v = view_from c.self.inside.tables c.self.inside.undo.log c.self.inside.locks in
    let asked : v ≡ with_ask c.args.tx.now.terminal (ask_of c.args.lock.now) (view_of c.args.self.now) =
    ap view_of c.self.view_is ∙ (rw c.terminal-terminal.ensures at c.in-Ok.ensures.locked) in
    let w = g.W.OneWrite.write c.args.write.now in
    let may : MayWrite v.rows (v.held c.args.tx.now.terminal) c.args.tx.now.terminal
    (suc (v.counts c.args.tx.now.terminal)) w =
    may_after c.args.tx.now.terminal (ask_of c.args.lock.now) w (view_of c.args.self.now) v asked c.requires.covered in
    put_orderly c.self.inside.tables c.write.new.tables c.self.inside.undo c.write.new.undo c.self.inside.locks
    c.args.tx.now.terminal w c.write.result c.self.inside.renames c.noted-self-inside.result
    c.terminal-terminal.result c.of-segment.result c.terminal-terminal.ensures c.of-segment.ensures may
    c.write.ensures.written c.write.ensures.err c.write.ensures.err_undo c.write.ensures.linked
    c.noted-self-inside.ensures c.self.invariant

pub restore_asked-requires-clause-open : goal.restore_asked-requires-clause-open
unfolding view_of view_from
restore_asked-requires-clause-open g c =
    let still = still_open c.args.self.now c.take_asked.new.self c.args.tx.now (ask_of c.args.lock.now) c.requires.open
    (rw c.terminal-terminal.ensures at c.in-Ok.ensures.locked) c.in-Ok.ensures.name in
    let given = (rw (← c.self.view_is) at still).terminal in
    let is : is_some (active_at c.self.inside.undo.log c.args.tx.now.terminal) ≡ true = given in
    ap (λ u. is_some (active_at u c.terminal-terminal.result)) c.in-Err-write.ensures.err_undo
    ∙ ap (λ t. is_some (active_at c.self.inside.undo.log t)) c.terminal-terminal.ensures ∙ is

pub restore_asked-requires-clause-below : goal.restore_asked-requires-clause-below
unfolding view_of view_from
restore_asked-requires-clause-below g c =
    let asked : view_from c.write.new.tables c.write.new.undo.log c.self.inside.locks
    ≡ with_ask c.terminal-terminal.result (ask_of c.args.lock.now) (view_of c.args.self.now) =
    (λ i. view_from (c.in-Err-write.ensures.err i) (c.in-Err-write.ensures.err_undo i) c.self.inside.locks)
    ∙ ap view_of c.self.view_is ∙ c.in-Ok.ensures.locked in
    can_put_back c.terminal-terminal.result c.args.lock.now (option_map mode_of c.in-Ok.before)
    (view_of c.args.self.now) (view_from c.write.new.tables c.write.new.undo.log c.self.inside.locks)
    c.in-Ok.ensures.before asked

pub restore_asked-requires-clause-unused : goal.restore_asked-requires-clause-unused
unfolding view_of view_from
restore_asked-requires-clause-unused g c =
    let asked : view_from c.write.new.tables c.write.new.undo.log c.self.inside.locks
    ≡ with_ask c.terminal-terminal.result (ask_of c.args.lock.now) (view_of c.args.self.now) =
    (λ i. view_from (c.in-Err-write.ensures.err i) (c.in-Err-write.ensures.err_undo i) c.self.inside.locks)
    ∙ ap view_of c.self.view_is ∙ c.in-Ok.ensures.locked in
    unused_there c.terminal-terminal.result c.args.lock.now (option_map mode_of c.in-Ok.before)
    (view_of c.args.self.now) (view_from c.write.new.tables c.write.new.undo.log c.self.inside.locks)
    c.is_safe.ensures.safe c.in-Ok.ensures.before asked

pub returns-clause-writes : goal.returns-clause-writes
unfolding view_of view_from
returns-clause-writes g c =
    put_made
    c.self.inside.tables c.write.new.tables c.self.inside.undo c.write.new.undo c.self.inside.locks
    c.self.inside.renames c.noted-self-inside.result c.self.inside.name c.args.tx.now
    (g.W.OneWrite.write c.args.write.now) c.args.self.now (ask_of c.args.lock.now) c.requires.open
    (rw c.terminal-terminal.ensures at c.in-Ok.ensures.free)
    (ap view_of c.self.view_is ∙ (rw c.terminal-terminal.ensures at c.in-Ok.ensures.locked))
    (ap (λ (z : EngineState). z.tables) c.self.view_is ∙ c.in-Ok.ensures.tables)
    (ap (λ (z : EngineState). z.name) c.self.view_is ∙ c.in-Ok.ensures.name)
    c.of-segment.result (c.of-segment.ensures ∙ c.terminal-terminal.ensures) c.self.invariant.sound.kept.size
    c.in_default.ensures.written c.in_default.ensures.room

pub returns-in-Err-write-clause-writes : goal.returns-in-Err-write-clause-writes
unfolding view_of view_from
returns-in-Err-write-clause-writes g c =
    let asked : view_from c.write.new.tables c.write.new.undo.log c.self.inside.locks
    ≡ with_ask c.terminal-terminal.result (ask_of c.args.lock.now) (view_of c.args.self.now) =
    (λ i. view_from (c.in-Err-write.ensures.err i) (c.in-Err-write.ensures.err_undo i) c.self.inside.locks)
    ∙ ap view_of c.self.view_is ∙ c.in-Ok.ensures.locked in
    put_refused
    c.self.inside.tables c.write.new.tables c.self.inside.undo c.write.new.undo c.self.inside.locks
    c.self.inside.renames c.noted-self-inside.result c.self.inside.name c.args.tx.now
    (g.W.OneWrite.write c.args.write.now) c.args.self.now (ask_of c.args.lock.now) c.requires.open
    (rw c.terminal-terminal.ensures at c.in-Ok.ensures.free)
    (ap view_of c.self.view_is ∙ (rw c.terminal-terminal.ensures at c.in-Ok.ensures.locked))
    (ap (λ (z : EngineState). z.tables) c.self.view_is ∙ c.in-Ok.ensures.tables)
    (ap (λ (z : EngineState). z.name) c.self.view_is ∙ c.in-Ok.ensures.name)
    c.of-segment.result (c.of-segment.ensures ∙ c.terminal-terminal.ensures) c.self.invariant.sound.kept.size
    c.in-Err-write.refusal c.restore_asked.new.self c.in-Err-write.ensures.cause c.in-Err-write.ensures.err
    c.in-Err-write.ensures.err_undo
    (c.restore_asked.ensures.put
    ∙ as_before c.terminal-terminal.result c.args.lock.now (option_map mode_of c.in-Ok.before)
    (view_of c.args.self.now) (view_from c.write.new.tables c.write.new.undo.log c.self.inside.locks)
    c.in-Ok.ensures.before asked)
