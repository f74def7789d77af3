use Rattle.oe_file_tables.proofs.HistoryFacts.{history_found, history_finds}
use Rattle.oe_file_tables.proofs.rows.HistoryRowLineHistoryKey.read.Goals as goal

pub returns-clause-found : goal.returns-clause-found
returns-clause-found c = history_found c.args.number c.args.line.now c.read_history.result c.read_history.ensures

pub returns-clause-finds : goal.returns-clause-finds
returns-clause-finds c = history_finds c.args.number c.args.line.now c.read_history.result c.read_history.ensures
