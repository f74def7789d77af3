use Rattle.std.proofs.Common.{◌≡◌, ◌-◌, List, ◌++◌, length, refl, ap, ◌∙◌}
use Rattle.std.specs.List.{flat_map}
use Rattle.oe_io.proofs.Streaming.{cut_more, cut_as, streams_as}
use Rattle.oe_books.specs.declared.findings.Finding.{Finding}
use Rattle.oe_books.specs.declared.parts.Check.{Check}
use Rattle.oe_audit_report.specs.Labels.{Names, names_in, label_of}
use Rattle.oe_audit_report.specs.Report.{row_line, more_line, part_text, findings_shown}
use Rattle.oe_io.proofs.Streaming.{streams_then}
use Rattle.oe_audit_report.proofs.report.PartTextsTextOfPartFound.put.Goals as goal

text_is : (check : Check) (l m : Names) (s t v w : List Finding) → l ≡ m → s ≡ t → v ≡ w
    → flat_map (row_line check l) s ++ more_line check l (length v - length s)
    ≡ flat_map (row_line check m) t ++ more_line check m (length w - length t)
text_is check l m s t v w e f h =
    ap (λ n. flat_map (row_line check n) s ++ more_line check n (length v - length s)) e
    ∙ ap (λ r. flat_map (row_line check m) r ++ more_line check m (length v - length r)) f
    ∙ ap (λ r. flat_map (row_line check m) t ++ more_line check m (length r - length t)) h

pub returns-in-Ok : goal.returns-in-Ok
returns-in-Ok g c =
    let old = g.W.Outlet.sink c.args.to.now in
    let new = g.W.Outlet.sink c.put_line.new.to in
    let check = c.args.self.now.check in
    let label = names_in c.label_of.result in
    let all = c.args.part.now.found.items in
    let found = c.as_slice-found.result.now in
    let few = c.shown-shown.result.now in
    let front = flat_map (row_line check label) few in
    let rest = more_line check label (length found - length few) in
    streams_as old new c.args.out.now.items c.args.out.now.items c.put_line.new.out.items (front ++ rest)
    (part_text c.args.self.now.first check c.args.part.now) c.put_line.result refl
    (text_is check label (label_of c.args.part.now.part) few (findings_shown c.args.self.now.first all) found all
    c.label_of.ensures
    (c.shown-shown.ensures.value ∙ ap (findings_shown c.args.self.now.first) c.as_slice-found.ensures.value)
    c.as_slice-found.ensures.value)
    (streams_then old (g.W.Outlet.sink c.put_each.new.to) new c.args.out.now.items c.put_each.new.out.items
    c.put_line.new.out.items front rest c.put_line.result c.in-Ok.ensures c.put_line.ensures)

pub returns-in-Err : goal.returns-in-Err
returns-in-Err g c =
    let old = g.W.Outlet.sink c.args.to.now in
    let new = g.W.Outlet.sink c.put_each.new.to in
    let check = c.args.self.now.check in
    let label = names_in c.label_of.result in
    let all = c.args.part.now.found.items in
    let found = c.as_slice-found.result.now in
    let few = c.shown-shown.result.now in
    let front = flat_map (row_line check label) few in
    let rest = more_line check label (length found - length few) in
    cut_as old new c.args.out.now.items (front ++ rest) (part_text c.args.self.now.first check c.args.part.now)
    (text_is check label (label_of c.args.part.now.part) few (findings_shown c.args.self.now.first all) found all
    c.label_of.ensures
    (c.shown-shown.ensures.value ∙ ap (findings_shown c.args.self.now.first) c.as_slice-found.ensures.value)
    c.as_slice-found.ensures.value)
    (cut_more old new c.args.out.now.items front rest c.in-Err.ensures)
