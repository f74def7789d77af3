use Rattle.std.proofs.Common.{sym, ◌∙◌}
use Rattle.oe_sources.proofs.TextFacts.{return_empty, return_stays, return_goes}
use Rattle.oe_sources.proofs.texts.without_return.Goals as goal
use Rattle.oe_sources.proofs.texts.without_return.Goals.{then-is_empty-via-then-is_empty}
use Rattle.oe_sources.proofs.texts.without_return.Goals.{then-is_empty-via-else-is_empty+then-line-ne13}

pub returns-then-is_empty : goal.returns-then-is_empty
returns-then-is_empty c =
    elim c.then-is_empty.branch [
      | then-is_empty-via-then-is_empty w ↦ return_empty c.args.line.now (sym c.is_empty.ensures ∙ w.if-is_empty.true)
      | then-is_empty-via-else-is_empty+then-line-ne13 w ↦
          return_stays c.args.line.now (sym c.is_empty.ensures ∙ w.if-is_empty.false) w.if-line-ne13.true
    ]

pub returns : goal.returns
returns c = return_goes c.args.line.now (sym c.is_empty.ensures ∙ c.if-is_empty.false) c.if-line-ne13.false
