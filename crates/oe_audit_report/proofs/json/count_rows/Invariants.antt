use Rattle.std.proofs.Common.{◌≡◌, ◌≤◌, ◌*◌, ◌^◌, take}
use Rattle.oe_audit_report.specs.Json.{rows_failing}
use Rattle.oe_audit_report.proofs.json.count_rows.Given as goal

-- the rows of the parts so far
abbrev pub invariant-loop-part : goal.invariant-loop-part
invariant-loop-part l = record {
  counted : l.count ≡ rows_failing (take l.part-index l.parts);
  most : l.count ≤ l.part-index * (2 ^ 64);
}
