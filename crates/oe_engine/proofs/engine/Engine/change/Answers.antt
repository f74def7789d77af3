use Rattle.std.proofs.Common.{suc, sym, subst}
use Rattle.oe_theory.specs.Next.{held_after}
use Rattle.oe_model.specs.System.{system}
use Rattle.oe_engine.specs.View.{view_of}
use Rattle.oe_engine.specs.Writes.{MayWrite, Writes}
use Rattle.oe_engine.proofs.WriteFacts.{may_write}
use Rattle.oe_engine.proofs.engine.Engine.change.Goals as goal

-- with what the write asks for a transaction may make it
pub put-requires-clause-covered : goal.put-requires-clause-covered
put-requires-clause-covered g c =
    let v = view_of c.args.self.now in
    let open_here = c.is_open.ensures.0 c.if-not-is_open.false in
    subst (λ a. MayWrite v.rows (held_after system a (v.held c.args.tx.now.terminal)) c.args.tx.now.terminal
    (suc (v.counts c.args.tx.now.terminal)) (g.W.OneWrite.write c.args.write.now)) (sym c.lock-lock.ensures)
    (may_write v c.args.tx.now.terminal (g.W.OneWrite.write c.args.write.now) (c.requires.own open_here)
    (c.requires.beside open_here))

pub returns-clause-writes : goal.returns-clause-writes
returns-clause-writes g c =
    subst (λ a. Writes c.args.self.now c.args.tx.now a (g.W.OneWrite.write c.args.write.now) c.put.result
    c.put.new.self) c.lock-lock.ensures c.put.ensures.writes
