use Rattle.std.specs.Prelude.{codes}
use Rattle.oe_reply_words.proofs.PartFacts.{and_then}
use Rattle.oe_comparison.specs.Names.{column_name}
use Rattle.oe_comparison.proofs.faults.line_fault.Goals as goal

pub returns-in-MissingColumn-clause-items : goal.returns-in-MissingColumn-clause-items
returns-in-MissingColumn-clause-items c =
    rw c.in-MissingColumn.is
    (and_then c.args.out.now.items (column_name c.args.table c.in-MissingColumn.place) (codes " is missing")
    c.column-in-MissingColumn.new.out.items _ c.column-in-MissingColumn.ensures.items
    c.text-in-MissingColumn.ensures.items)

pub returns-in-NoKey-clause-items : goal.returns-in-NoKey-clause-items
returns-in-NoKey-clause-items c = rw c.in-NoKey.is c.text-in-NoKey.ensures.items
