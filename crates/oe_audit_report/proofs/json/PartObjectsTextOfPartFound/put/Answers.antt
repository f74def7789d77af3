use Rattle.std.proofs.Common.{◌≡◌, List, ℕ, ◌++◌, length, ap, ◌∙◌}
use Rattle.std.specs.Prelude.{codes}
use Rattle.oe_io.proofs.Streaming.{cut_as, cut_more}
use Rattle.oe_books.specs.declared.findings.Finding.{Finding}
use Rattle.oe_audit_report.specs.Labels.{Names, names_in, label_of}
use Rattle.oe_audit_report.specs.Report.{findings_shown}
use Rattle.oe_audit_report.specs.Json.{listing, finding_json, part_head, part_json}
use Rattle.oe_io.proofs.Streaming.{streams_then}
use Rattle.oe_audit_report.proofs.StreamFacts.{streams_from}
use Rattle.oe_audit_report.proofs.json.PartObjectsTextOfPartFound.put.Goals as goal

abbrev head : Names → List Finding → List ℕ
head label all = part_head label (length all)

abbrev tail : Names → List Finding → List ℕ
tail label few = listing (finding_json label.3) (codes ",\"rows\":[") few (codes "]}")

text_is : (l m : Names) (n : ℕ) (s t v : List Finding) → l ≡ m → n ≡ length v → s ≡ t
    → part_head l n ++ tail l s ≡ head m v ++ tail m t
text_is l m n s t v e f h =
    ap (λ k. part_head k n ++ tail k s) e ∙ ap (λ k. part_head m k ++ tail m s) f
    ∙ ap (λ r. head m v ++ tail m r) h

pub returns-in-Ok : goal.returns-in-Ok
returns-in-Ok g c =
    let old = g.W.Outlet.sink c.args.to.now in
    let mid = g.W.Outlet.sink c.put_line.new.to in
    let new = g.W.Outlet.sink c.put_listing.new.to in
    let label = names_in c.label_of-label.result in
    let part = c.args.part.now in
    let first = c.args.self.now.first in
    let all = c.as_slice-found.result.now in
    let few = c.shown-shown.result.now in
    streams_from old new c.args.out.now.items c.put_listing.new.out.items (head label all ++ tail label few)
    (part_json first part) c.put_listing.result
    (text_is label (label_of part.part) (length all) few (findings_shown first part.found.items) part.found.items
    c.label_of-label.ensures (ap length c.as_slice-found.ensures.value)
    (c.shown-shown.ensures.value ∙ ap (findings_shown first) c.as_slice-found.ensures.value))
    (streams_then old mid new c.args.out.now.items c.put_line.new.out.items c.put_listing.new.out.items
    (head label all) (tail label few) c.put_listing.result c.in-Ok.ensures c.put_listing.ensures)

pub returns-in-Err : goal.returns-in-Err
returns-in-Err g c =
    let old = g.W.Outlet.sink c.args.to.now in
    let mid = g.W.Outlet.sink c.put_line.new.to in
    let label = names_in c.label_of-label.result in
    let part = c.args.part.now in
    let first = c.args.self.now.first in
    let all = c.as_slice-found.result.now in
    let few = c.shown-shown.result.now in
    cut_as old mid c.args.out.now.items (head label all ++ tail label few) (part_json first part)
    (text_is label (label_of part.part) (length all) few (findings_shown first part.found.items) part.found.items
    c.label_of-label.ensures (ap length c.as_slice-found.ensures.value)
    (c.shown-shown.ensures.value ∙ ap (findings_shown first) c.as_slice-found.ensures.value))
    (cut_more old mid c.args.out.now.items (head label all) (tail label few) c.in-Err.ensures)
