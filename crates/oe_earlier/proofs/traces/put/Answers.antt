use Rattle.oe_earlier.specs.Traces.{trace_of, traces_joined}
use Rattle.oe_earlier.specs.TraceLaws.{traces_associative, traces_commutative}
use Rattle.oe_ledgers.proofs.KeptFacts.{on_ok}
use Rattle.oe_earlier.proofs.KeptFacts.{one_more}
use Rattle.oe_earlier.proofs.traces.put.Goals as goal

pub returns : goal.returns
returns g c =
    on_ok c.add.result (λ added es h.
    one_more g.met.K.Eq.laws traces_joined traces_associative traces_commutative es c.args.tally.now
    c.add.new.self c.args.key c.of.result (trace_of c.args.print) c.of.ensures h added) c.add.ensures.ok
