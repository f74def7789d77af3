use Rattle.oe_versions.proofs.NameFacts.{Seeks}
use Rattle.oe_versions.proofs.moments.Version.middle_before.Given as goal

abbrev pub invariant-loop-key : goal.invariant-loop-key
invariant-loop-key l = Seeks l.self.tables l.self.log l.self.moment l.district l.last l.key-iterator
