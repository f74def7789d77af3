use Rattle.oe_engine.specs.View.{view_of, view_from}
use Rattle.oe_log.specs.Stands.{undo_of}
use Rattle.oe_journal.proofs.ExactFacts.{exact_is}
use Rattle.oe_engine.proofs.SafeFacts.{all_unwind}
use Rattle.oe_engine.proofs.engine.Engine.is_safe.Goals as goal

pub returns-clause-unwinds : goal.returns-clause-unwinds
unfolding view_of
returns-clause-unwinds c =
    rw (← c.self.view_is)
    (λ t. all_unwind t (view_from c.self.inside.tables c.self.inside.undo.log c.self.inside.locks)
    c.self.invariant.sound.safe)

pub returns-clause-exact : goal.returns-clause-exact
unfolding view_of view_from
returns-clause-exact c =
    rw (← c.self.view_is)
    (exact_is c.self.inside.tables (undo_of c.self.inside.undo.log) c.self.invariant.sound.kept.active
    c.self.invariant.sound.kept.history c.self.invariant.sound.kept.needed)
