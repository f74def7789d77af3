use Rattle.std.proofs.Common.{rules, refl}
use Rattle.oe_file_tables.proofs.ReadFacts.{file_read_as}
use Rattle.oe_file_tables.proofs.lines.take_file.Goals as goal

pub run-requires : goal.run-requires
run-requires g c = (refl, refl, refl, c.requires c.args.faults.now)

pub returns : goal.returns
returns g c = file_read_as c.args.format g.R.RowLine.spells g.R.RowLine.own_table (g.S.Intake.source c.args.source.now)
    (g.S.Intake.source c.run.new.source) c.args.faults.now c.run.new.self.lot.now.rows _ c.run.new.self.faults.now _
    (search rules) (search rules) c.in_default.ensures.read
