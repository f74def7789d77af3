use Rattle.std.proofs.lemmas.Result.{on_ok_weaker}
use Rattle.oe_file_tables.proofs.ReadFacts.{takes_dump}
use Rattle.oe_file_tables.proofs.lines.Lot.take_row.Goals as goal

pub returns-clause-taken : goal.returns-clause-taken
returns-clause-taken g c = on_ok_weaker c.take_read.result
    (takes_dump g.R.RowLine.spells g.R.RowLine.own_table c.args.self.now.count c.args.self.now.rows
    c.take_read.new.self.rows c.args.faults.now c.take_read.new.faults c.args.text.now c.read-read.result
    c.read-read.ensures.found c.read-read.ensures.finds)
    c.take_read.ensures.taken
