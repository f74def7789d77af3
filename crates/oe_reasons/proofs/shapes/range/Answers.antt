use Rattle.std.proofs.Common.{◌++◌, codes, sym, ap, ◌∙◌}
use Rattle.oe_reasons.specs.declared.forms.Column.TheVariants as column
use Rattle.oe_reasons.specs.Shapes.{bounds_text, range_text}
use Rattle.oe_reasons.proofs.JoinFacts.{two}
use Rattle.oe_reasons.proofs.shapes.range.Goals as goal

pub returns-in-Buyer-clause-items : goal.returns-in-Buyer-clause-items
returns-in-Buyer-clause-items c =
    two c.args.out.now.items (bounds_text column.Customer) (codes ", or a last name of 1 to 16 letters A to Z") _ _
    c.bounds.ensures.items c.text.ensures.items
    ∙ ap (λ k. c.args.out.now.items ++ range_text k) (sym c.in-Buyer.is)

pub returns-in-LastName-clause-items : goal.returns-in-LastName-clause-items
returns-in-LastName-clause-items c =
    c.text-in-LastName.ensures.items ∙ ap (λ k. c.args.out.now.items ++ range_text k) (sym c.in-LastName.is)

pub returns-in-FirstName-clause-items : goal.returns-in-FirstName-clause-items
returns-in-FirstName-clause-items c =
    c.text-in-FirstName.ensures.items ∙ ap (λ k. c.args.out.now.items ++ range_text k) (sym c.in-FirstName.is)

pub returns-in-Stamp-clause-items : goal.returns-in-Stamp-clause-items
returns-in-Stamp-clause-items c =
    c.text-in-Stamp.ensures.items ∙ ap (λ k. c.args.out.now.items ++ range_text k) (sym c.in-Stamp.is)

pub returns-in-Condition-clause-items : goal.returns-in-Condition-clause-items
returns-in-Condition-clause-items c =
    two c.args.out.now.items (bounds_text column.Condition) (codes ", but not 11") _ _
    c.bounds-in-Condition.ensures.items c.text-in-Condition.ensures.items
    ∙ ap (λ k. c.args.out.now.items ++ range_text k) (sym c.in-Condition.is)

pub returns-in-Table-clause-items : goal.returns-in-Table-clause-items
returns-in-Table-clause-items c =
    c.text-in-Table.ensures.items ∙ ap (λ k. c.args.out.now.items ++ range_text k) (sym c.in-Table.is)
