use Rattle.std.proofs.Common.{ap, sym, ◌∙◌}
use Rattle.oe_audit_report.specs.Report.{report_text}
use Rattle.oe_audit_report.specs.Json.{report_json}
use Rattle.oe_audit_report.specs.Forms.{report_of}
use Rattle.oe_audit_report.proofs.StreamFacts.{streams_from}
use Rattle.oe_audit_report.proofs.forms.put_form.Goals as goal

pub returns-in-Text : goal.returns-in-Text
returns-in-Text g c =
    let r = c.args.results.now in
    streams_from (g.W.Outlet.sink c.args.to.now) (g.W.Outlet.sink c.put_report.new.to) c.args.out.now.items
    c.put_report.new.out.items (report_text c.args.first r.rows c.as_slice-checks.result.now)
    (report_of c.args.form c.args.first r) c.put_report.result
    (ap (report_text c.args.first r.rows) c.as_slice-checks.ensures.value
    ∙ ap (λ form. report_of form c.args.first r) (sym c.in-Text.is)) c.put_report.ensures

pub returns-in-Json : goal.returns-in-Json
returns-in-Json g c =
    let r = c.args.results.now in
    streams_from (g.W.Outlet.sink c.args.to.now) (g.W.Outlet.sink c.put_json.new.to) c.args.out.now.items
    c.put_json.new.out.items (report_json c.args.first r.rows c.as_slice-checks.result.now)
    (report_of c.args.form c.args.first r) c.put_json.result
    (ap (report_json c.args.first r.rows) c.as_slice-checks.ensures.value
    ∙ ap (λ form. report_of form c.args.first r) (sym c.in-Json.is)) c.put_json.ensures
