use Rattle.std.proofs.Common.{◌∙◌}
use Rattle.oe_lines.proofs.GrammarFacts.{read_is_said, said_is_read}
use Rattle.oe_lines.proofs.reading.command.Goals as goal

pub returns-clause-found : goal.returns-clause-found
returns-clause-found c = read_is_said c.read_command.result c.args.line.now c.read_command.ensures

pub returns-clause-only : goal.returns-clause-only
returns-clause-only c = λ d h. c.read_command.ensures ∙ said_is_read c.args.line.now d h
