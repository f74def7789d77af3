use Rattle.std.proofs.Common.{◌≡◌, ◌≤◌, take}
use Rattle.oe_file_tables.specs.Fault.{with_each_fault}
use Rattle.oe_file_tables.specs.Twice.{twice_in}
use Rattle.oe_file_tables.proofs.tables.tell_twice.Given as goal

-- the faults have those of the rows so far
abbrev pub invariant-loop-at : goal.invariant-loop-at
invariant-loop-at g l = record {
  begun : 1 ≤ l.at;
  told : l.faults
      ≡ with_each_fault (twice_in g.K.Ord.cmp g.R.RowLine.own_table g.R.RowLine.key_of
      (take l.at l.rows)) l.initial.faults;
}
