use Rattle.oe_file_tables.specs.declared.faults.Wrong.TheVariants as wrong
use Rattle.oe_file_tables.proofs.ReadFacts.{fault_stands}
use Rattle.oe_file_tables.proofs.lines.Lot.take_long.Goals as goal

pub returns : goal.returns
returns g c = λ format start ls line long s.
    fault_stands format g.R.RowLine.spells g.R.RowLine.own_table start ls line c.args.self.now.count
    c.saturating_add-self.result c.saturating_add-self.ensures c.args.self.now.is_counted c.args.self.now.is_headed
    c.args.self.now.rows c.args.faults.now c.tell.new.faults wrong.TooLong s long c.tell.ensures
