use Rattle.std.proofs.Common.{[], ◌∷◌, codes, decimal}
use Rattle.oe_busy.proofs.BehindFacts.{three}
use Rattle.oe_busy.proofs.tables.wait_line.Goals as goal

pub returns-clause-items : goal.returns-clause-items
returns-clause-items c =
    three c.args.out.now.items (codes "longest wait ") (decimal c.args.longest) (10 ∷ []) c.text.new.out.items
    c.number.new.out.items c.text-2.new.out.items c.text.ensures.items c.number.ensures.items c.text-2.ensures.items
