use Rattle.oe_model.specs.Choice.{comes_before}
use Rattle.oe_versions.proofs.NameFacts.{Counts}
use Rattle.oe_versions.proofs.moments.Version.standing.Given as goal

abbrev pub invariant-loop-key : goal.invariant-loop-key
invariant-loop-key l =
    Counts l.self.tables l.self.log l.self.moment l.district l.last (λ y. comes_before y (l.first, l.fn.own)) l.count
    l.before l.key-iterator
