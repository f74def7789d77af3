use Rattle.oe_terms.proofs.ChainFacts.{used_lines_more, length_more}
use Rattle.oe_terms.proofs.orders.used_lines.Goals as goal

pub loop-preserved : goal.loop-preserved
loop-preserved c = (
  used_lines_more c.args.scale.now c.args.warehouse c.loop.counter c.args.words.now _ _ _ _ _
      c.loop.invariant.0 c.line.ensures c.push.ensures,
  length_more _ _ _ _ c.push.ensures c.loop.invariant.1,
)
