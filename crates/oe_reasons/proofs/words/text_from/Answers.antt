use Rattle.std.proofs.Common.{sym, arith}
use Rattle.oe_reasons.proofs.PlaceFacts.{none_here}
use Rattle.oe_reasons.proofs.words.text_from.Goals as goal

pub returns-in_default-clause-value : goal.returns-in_default-clause-value
returns-in_default-clause-value c =
    none_here c.args.line.now c.loop.rest.now c.loop.counter c.args.place (omega arith) c.loop.invariant.0
    (sym c.in_default.ensures.value)
