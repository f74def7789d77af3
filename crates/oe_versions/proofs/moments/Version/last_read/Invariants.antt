use Rattle.oe_versions.proofs.LastFacts.{Walks}
use Rattle.oe_versions.proofs.moments.Version.last_read.Given as goal

abbrev pub invariant-loop-key : goal.invariant-loop-key
invariant-loop-key l = Walks l.self.tables l.self.log l.self.moment l.customer l.last l.key-iterator
