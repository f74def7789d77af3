use Rattle.oe_file_loading.specs.Placing.{OnlyOf, Puts}
use Rattle.oe_file_loading.proofs.putting.put_rows.Given as goal

-- the rows so far are put, and no other
abbrev pub invariant-loop-numbered : goal.invariant-loop-numbered
invariant-loop-numbered g l = record {
  put : Puts g.R.RowLine.key_of g.T.Placing.refers g.T.Placing.with_row l.yielded
      (g.T.Placing.rows_in l.initial.into) (g.T.Placing.rows_in l.into) l.initial.apart.items l.apart.items;
  only : OnlyOf g.R.RowLine.key_of l.yielded (g.T.Placing.rows_in l.initial.into) (g.T.Placing.rows_in l.into);
}
