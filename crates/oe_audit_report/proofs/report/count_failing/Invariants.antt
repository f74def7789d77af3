use Rattle.std.proofs.Common.{◌≡◌, ◌≤◌, take, length}
use Rattle.oe_audit_report.specs.Report.{failing}
use Rattle.oe_audit_report.proofs.report.count_failing.Given as goal

-- the checks so far that fail
abbrev pub invariant-loop-check : goal.invariant-loop-check
invariant-loop-check l = record {
  counted : l.count ≡ length (failing (take l.check-index l.checks));
  most : l.count ≤ l.check-index;
}
