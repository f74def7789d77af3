use Rattle.std.proofs.Common.{◌≡◌, ℕ, List, ◌++◌, ap, ◌∙◌, append_assoc}
use Rattle.std.specs.Prelude.{codes, decimal}
use Rattle.oe_file_audit.specs.Faults.{table_text}
use Rattle.oe_file_audit.proofs.faults.more.Goals as goal

regroup : (a b c d e : List ℕ) → (((a ++ b) ++ c) ++ d) ++ e ≡ a ++ (((b ++ c) ++ d) ++ e)
regroup a b c d e = simp append_assoc

pub returns : goal.returns
returns c =
    let out = c.args.out.now.items in
    let number = decimal c.args.count in
    c.text-2.ensures.items
    ∙ ap (λ o. o ++ codes " more lines\n") (c.number.ensures.items
    ∙ ap (λ o. o ++ number) (c.text.ensures.items
    ∙ ap (λ o. o ++ codes ": ") c.table_name.ensures.items))
    ∙ regroup out (table_text c.args.side c.args.table) (codes ": ") number (codes " more lines\n")
