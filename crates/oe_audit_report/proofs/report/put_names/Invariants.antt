use Rattle.std.proofs.Common.{◌≡◌, ◌++◌, ℕ, List, drop, true}
use Rattle.oe_io.specs.Ports.{Sent}
use Rattle.oe_audit_report.specs.Report.{names_text, failing}
use Rattle.oe_audit_report.proofs.report.put_names.Given as goal

-- the names so far went out, and those of the checks that are left are to follow
abbrev pub invariant-loop-check : goal.invariant-loop-check
invariant-loop-check g l =
    (gone : List ℕ) × Sent (g.W.Outlet.sink l.initial.to) l.initial.out.items (g.W.Outlet.sink l.to) l.out.items gone
    × (gone ++ names_text l.is_first (failing (drop l.check-index l.checks))
    ≡ names_text true (failing l.checks))
