use Rattle.std.proofs.Common.{sym, subst}
use Rattle.std.proofs.lemmas.Result.{on_ok_weaker}
use Rattle.oe_file_tables.specs.declared.formats.Format.{Format}
use Rattle.oe_file_tables.specs.Reading.{TakesOne}
use Rattle.oe_file_tables.proofs.lines.Lot.take_text.Goals as goal

pub returns-in-Dump-clause-taken : goal.returns-in-Dump-clause-taken
returns-in-Dump-clause-taken g c = on_ok_weaker c.take_row.result
    (subst
    (λ (f : Format). TakesOne f g.R.RowLine.spells g.R.RowLine.own_table c.args.self.now.count c.args.text.now
    c.args.self.now.rows c.args.faults.now c.take_row.new.self.rows c.take_row.new.faults)
    (sym c.in-Dump.is))
    c.take_row.ensures.taken

pub returns-in-Csv-clause-taken : goal.returns-in-Csv-clause-taken
returns-in-Csv-clause-taken g c = on_ok_weaker c.take_record.result
    (subst
    (λ (f : Format). TakesOne f g.R.RowLine.spells g.R.RowLine.own_table c.args.self.now.count c.args.text.now
    c.args.self.now.rows c.args.faults.now c.take_record.new.self.rows c.take_record.new.faults)
    (sym c.in-Csv.is))
    c.take_record.ensures.taken
