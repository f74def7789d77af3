use Rattle.std.proofs.Common.{◌∙◌}
use Rattle.oe_lines.proofs.GrammarFacts.{payment_is_said, said_is_payment}
use Rattle.oe_lines.proofs.reading.payment_to_begin.Goals as goal

pub returns-clause-found : goal.returns-clause-found
returns-clause-found c = payment_is_said c.read_begun_payment.result c.args.line.now c.read_begun_payment.ensures

pub returns-clause-only : goal.returns-clause-only
returns-clause-only c = λ t p h. c.read_begun_payment.ensures ∙ said_is_payment c.args.line.now t p h
