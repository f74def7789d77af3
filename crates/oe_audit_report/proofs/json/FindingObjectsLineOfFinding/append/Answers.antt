use Rattle.std.proofs.Common.{◌≡◌, ℕ, List, ◌++◌, ap, ◌∙◌, append_assoc}
use Rattle.std.specs.Prelude.{codes, decimal}
use Rattle.oe_audit_report.specs.Texts.{comma_list}
use Rattle.oe_audit_report.specs.Json.{figures_json}
use Rattle.oe_audit_report.proofs.json.FindingObjectsLineOfFinding.append.Goals as goal

regroup : (o a k s : List ℕ) → ((o ++ a) ++ k) ++ s ≡ o ++ ((a ++ k) ++ s)
regroup o a k s = simp append_assoc

pub returns : goal.returns
returns c =
    let out = c.args.out.now.items in
    let front = codes "{\"key\":[" in
    let figures = figures_json c.args.self.now.is_money c.args.finding.now in
    let key = c.as_slice.result.now in
    c.figures.ensures
    ∙ ap (λ o. o ++ figures) (c.listed.ensures.items ∙ ap (λ o. o ++ comma_list decimal key) c.text.ensures.items)
    ∙ regroup out front (comma_list decimal key) figures
    ∙ ap (λ k. out ++ ((front ++ comma_list decimal k) ++ figures)) c.as_slice.ensures.value
