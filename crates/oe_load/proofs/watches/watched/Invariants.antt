use Rattle.std.proofs.Common.{[]}
use Rattle.oe_busy.specs.Tables.{AreCounted}
use Rattle.oe_load.specs.Scripts.{first_state, IsWatched}
use Rattle.oe_load.specs.declared.origins.Origin.{Origin}
use Rattle.oe_load.specs.Turns.{counts_of, state_of}
use Rattle.oe_load.proofs.BusyFacts.{Watching}
use Rattle.oe_load.proofs.watches.watched.Given as goal

-- what happened so far is counted
abbrev pub invariant-loop : goal.invariant-loop
invariant-loop g l = (o : Origin) → IsWatched l.plan o [] (first_state l.plan (g.M.Machine.world l.initial.core))
    → AreCounted l.initial.busyness [] → Watching l.plan o
    (state_of (g.M.Machine.world l.core) (counts_of l.served) l.drawing) l.busyness
