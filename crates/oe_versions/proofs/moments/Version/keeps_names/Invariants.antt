use Rattle.oe_versions.proofs.NameFacts.{AreSame}
use Rattle.oe_versions.proofs.moments.Version.keeps_names.Given as goal

abbrev pub invariant-loop-number : goal.invariant-loop-number
invariant-loop-number l = AreSame l.self.tables l.self.log l.self.moment l.district l.last l.number
