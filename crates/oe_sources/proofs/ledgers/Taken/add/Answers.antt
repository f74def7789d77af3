use Rattle.std.proofs.Common.{ap, refl}
use Rattle.std.proofs.lemmas.Result.{on_ok_weaker}
use Rattle.oe_sources.specs.Reading.{says}
use Rattle.oe_sources.proofs.SourceFacts.{got_row, got_fault}
use Rattle.oe_sources.proofs.ledgers.Taken.add.Goals as goal

pub returns-in-Row : goal.returns-in-Row
returns-in-Row g c = on_ok_weaker c.take.result
    (λ takes start rows faults got.
    got_row g.L.Ledger.holds start rows faults c.args.self.now _ c.args.table c.args.line (says c.args.said)
    c.in-Row.row (ap says c.in-Row.is) refl takes got) c.take.ensures

pub returns-in-Fault : goal.returns-in-Fault
returns-in-Fault g c = on_ok_weaker c.push.result
    (λ push start rows faults got.
    got_fault g.L.Ledger.holds start rows faults c.args.self.now _ c.args.table c.args.line (says c.args.said)
    c.in-Fault.wrong c.in-Fault.text (ap says c.in-Fault.is) refl push got) c.push.ensures
