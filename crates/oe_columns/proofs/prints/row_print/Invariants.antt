use Rattle.std.proofs.Common.{◌≡◌, drop, map}
use Rattle.oe_columns.specs.declared.prints.TheConstants.{START}
use Rattle.oe_columns.specs.Constants.{constant_of}
use Rattle.oe_columns.specs.Prints.{row_mixed}
use Rattle.oe_columns.proofs.prints.row_print.Given as goal

-- the columns so far are in the print
abbrev pub invariant-loop-column : goal.invariant-loop-column
invariant-loop-column l = record {
  row : l.row ≡ l.initial.row;
  so_far : row_mixed (map constant_of (drop l.column l.wanted-items)) l.column l.row l.print
      ≡ row_mixed (map constant_of l.wanted-items) 0 l.row START;
}
