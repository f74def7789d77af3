use Rattle.std.proofs.Common.{◌++◌, ◌-◌, [], ap, ◌∙◌}
use Rattle.std.proofs.lemmas.Bool.{cond_below}
use Rattle.oe_file_audit.specs.Faults.{more_line, more_text}
use Rattle.oe_file_audit.proofs.faults.MoreLinesLineOfTable.append.Goals as goal

pub returns-then-count-gt3 : goal.returns-then-count-gt3
returns-then-count-gt3 c =
    let out = c.args.out.now.items in
    let count = c.count-count.result in
    c.more.ensures
    ∙ ap (λ t. out ++ t)
    (cond_below 3 count (more_line c.args.self.now.side c.args.table.now (count - 3)) [] c.if-count-gt3.true)
    ∙ ap (λ n. out ++ more_text c.args.self.now.side c.args.table.now n) c.count-count.ensures
