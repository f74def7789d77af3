use Rattle.std.proofs.Common.{◌≡◌, ℕ, ◌+◌, ◌-◌, ◌^◌, ◌≤◌, List, ◌++◌, length}
use Rattle.oe_dumps.specs.Dump.{row_lines, in_64_bits}
use Rattle.oe_io.specs.Ports.{Sent}
use Rattle.oe_dumps.proofs.dumps.lines.Given as goal

-- the lines so far went out, and are a beginning of those of all rows
abbrev pub invariant-loop-key : goal.invariant-loop-key
invariant-loop-key g l = record {
  sent : (text : List ℕ) × Sent (g.W.Outlet.sink l.initial.to) l.initial.out.items (g.W.Outlet.sink l.to) l.out.items
      text
      × (row_lines g.R.DumpedRow.columns l.fn.walk ≡ text ++ row_lines g.R.DumpedRow.columns l.key-iterator);
  count : in_64_bits (length l.fn.walk) ≡ in_64_bits (length l.key-iterator + l.count);
  fits : l.count ≤ 2 ^ 64 - 1;
}
