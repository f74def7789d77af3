use Rattle.std.proofs.Common.{refl}
use Rattle.oe_engine.specs.View.{view_of}
use Rattle.oe_engine.proofs.PartFacts.{free_is, way_is}
use Rattle.oe_engine.proofs.engine.Engine.is_free.Goals as goal

pub returns-in-Some-clause-busy : goal.returns-in-Some-clause-busy
unfolding view_of
returns-in-Some-clause-busy c =
    rw (← c.self.view_is, ← c.tx.view_is) (
      refl,
      way_is c.self.inside.tables c.self.inside.undo.log c.self.inside.locks c.tx.inside.terminal c.args.lock.name
          c.args.lock.mode c.in-Some.holder c.self.invariant.sound.kept c.in-Some.ensures,
    )

pub returns-in-None-clause-free : goal.returns-in-None-clause-free
unfolding view_of
returns-in-None-clause-free c =
    rw (← c.self.view_is, ← c.tx.view_is)
    (free_is c.self.inside.tables c.self.inside.undo.log c.self.inside.locks c.tx.inside.terminal c.args.lock.name
    c.args.lock.mode c.in-None.ensures)
