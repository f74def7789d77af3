use Rattle.std.specs.Prelude.{codes}
use Rattle.oe_reply_words.proofs.PartFacts.{and_then}
use Rattle.oe_comparison.proofs.faults.wrong.Goals as goal

pub returns-in-Twice-clause-items : goal.returns-in-Twice-clause-items
returns-in-Twice-clause-items c =
    rw c.in-Twice.is
    (and_then c.args.out.now.items (codes "twice the key ") _ c.text-in-Twice.new.out.items _
    c.text-in-Twice.ensures.items c.columns.ensures.items)

pub returns-in-PastCount-clause-items : goal.returns-in-PastCount-clause-items
returns-in-PastCount-clause-items c = rw c.in-PastCount.is c.text-in-PastCount.ensures.items
