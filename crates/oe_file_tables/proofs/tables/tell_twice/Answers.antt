use Rattle.std.proofs.Common.{◌∙◌, arith}
use Rattle.oe_file_tables.proofs.TwiceFacts.{told_next}
use Rattle.oe_file_tables.proofs.tables.tell_twice.Goals as goal

pub loop-at-preserved : goal.loop-at-preserved
loop-at-preserved g c =
    let l = c.loop-at in
    record {
      begun = omega (arith, l.invariant.begun);
      told = c.tell_same.ensures
          ∙ told_next g.K.Ord.cmp g.R.RowLine.own_table g.R.RowLine.key_of c.args.rows.now l.at
          c.index-rows-at.result c.index-rows-at-in-loop-at.result c.args.faults.now l.faults l.invariant.begun
          (omega arith) c.index-rows-at.is
          c.index-rows-at-in-loop-at.is l.invariant.told;
    }
