use Rattle.std.proofs.Common.{◌++◌, sym, ap, ◌∙◌, append_assoc}
use Rattle.std.specs.Prelude.{codes}
use Rattle.oe_file_audit.specs.Faults.{shown_text, wrong_by}
use Rattle.oe_file_audit.proofs.faults.wrong.Goals as goal

pub returns-in-Miscount-clause-items : goal.returns-in-Miscount-clause-items
returns-in-Miscount-clause-items c =
    let out = c.args.out.now.items in
    let says = codes "not the number of rows:" in
    let shown = c.as_slice-in-Miscount.result.now in
    c.shown-in-Miscount.ensures.items ∙ ap (λ o. o ++ shown_text shown) c.text-in-Miscount.ensures.items
    ∙ append_assoc out says (shown_text shown) ∙ ap (λ t. out ++
    (says ++ shown_text t)) c.as_slice-in-Miscount.ensures.value
    ∙ ap (λ w. out ++ wrong_by c.args.fault.now.table c.args.fault.now.text w) (sym c.in-Miscount.is)

pub returns-in-NotEnded-clause-items : goal.returns-in-NotEnded-clause-items
returns-in-NotEnded-clause-items c =
    c.text-in-NotEnded.ensures.items
    ∙ ap (λ w. c.args.out.now.items ++ wrong_by c.args.fault.now.table c.args.fault.now.text w) (sym c.in-NotEnded.is)
