use Rattle.std.proofs.Common.{sym, subst, refl}
use Rattle.std.proofs.lemmas.Result.{on_ok_weaker}
use Rattle.oe_file_tables.specs.Reading.{TakesRead}
use Rattle.oe_file_tables.proofs.lines.Lot.take_read.Goals as goal

pub returns-in-Ok-clause-taken : goal.returns-in-Ok-clause-taken
returns-in-Ok-clause-taken g c = on_ok_weaker c.push.result
    (λ e.
    subst
    (λ r. TakesRead g.R.RowLine.own_table c.args.self.now.count r c.args.self.now.rows c.args.faults.now
    c.push.new.self c.args.faults.now)
    (sym c.in-Ok.is) (e, refl))
    c.push.ensures
