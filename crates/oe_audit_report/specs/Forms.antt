-- The forms of a report.
use Rattle.std.specs.Prelude.{ℕ, List, Option}
use Rattle.oe_books.specs.declared.findings.Results.{Results}
use Rattle.oe_audit_report.specs.declared.forms.Form.{Form}
use Rattle.oe_audit_report.specs.declared.forms.Form.TheVariants as form
use Rattle.oe_audit_report.specs.Report.{report_text}
use Rattle.oe_audit_report.specs.Json.{report_json}

abbrev pub report_of : Form → Option ℕ → Results → List ℕ
report_of form.Text first r = report_text first r.rows r.checks.items
report_of form.Json first r = report_json first r.rows r.checks.items
