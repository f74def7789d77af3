use Rattle.std.proofs.Common.{◌≡◌, drop}
use Rattle.oe_audit_report.specs.Report.{any_finds}
use Rattle.oe_audit_report.proofs.report.fails.Given as goal

-- the parts that are left tell whether the check fails
abbrev pub invariant-loop-part : goal.invariant-loop-part
invariant-loop-part l = any_finds (drop l.part-index l.part-items) ≡ any_finds l.part-items
