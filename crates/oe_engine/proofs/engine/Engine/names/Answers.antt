use Rattle.oe_engine.specs.View.{view_of, view_from}
use Rattle.oe_engine.proofs.LockFacts.{listed_held, listed_idle}
use Rattle.oe_engine.proofs.engine.Engine.names.Goals as goal

pub returns-clause-held : goal.returns-clause-held
unfolding view_of view_from
returns-clause-held c =
    rw (← c.self.view_is)
    (listed_held c.self.inside.locks c.args.terminal c.names.result.now c.names.ensures.listed)

pub returns-clause-idle : goal.returns-clause-idle
unfolding view_of view_from
returns-clause-idle c =
    rw (← c.self.view_is)
    (λ closed. listed_idle c.self.inside.locks c.args.terminal c.names.result.now c.names.ensures.listed
    (c.self.invariant.sound.kept.idle c.args.terminal closed))
