use Rattle.std.proofs.Common.{◌∙◌}
use Rattle.oe_lines.proofs.GrammarFacts.{run_is_said, said_is_run}
use Rattle.oe_lines.proofs.reading.terminal_to_run.Goals as goal

pub returns-clause-found : goal.returns-clause-found
returns-clause-found c = run_is_said c.read_run.result c.args.line.now c.read_run.ensures

pub returns-clause-only : goal.returns-clause-only
returns-clause-only c = λ t h. c.read_run.ensures ∙ said_is_run c.args.line.now t h
