use Rattle.std.proofs.Common.{rules}
use Rattle.std.proofs.lemmas.Result.{on_ok_weaker}
use Rattle.oe_file_tables.proofs.ReadFacts.{takes_csv}
use Rattle.oe_file_tables.proofs.lines.Lot.take_record.Goals as goal

pub returns-in-Ok-clause-taken : goal.returns-in-Ok-clause-taken
returns-in-Ok-clause-taken g c = on_ok_weaker c.take_read.result
    (takes_csv g.R.RowLine.spells g.R.RowLine.own_table c.args.self.now.count c.args.self.now.rows
    c.take_read.new.self.rows c.args.faults.now c.take_read.new.faults c.args.text.now c.line.result.now
    c.read-read.result (search rules) c.read-read.ensures.found c.read-read.ensures.finds)
    c.take_read.ensures.taken
