use Rattle.std.proofs.Common.{sym, arith, take_all}
use Rattle.std.proofs.lemmas.List.{length-take-le, length-take}
use Rattle.oe_sources.proofs.faults.front.Goals as goal

pub returns-then-text-le-SHOWN-clause-value : goal.returns-then-text-le-SHOWN-clause-value
returns-then-text-le-SHOWN-clause-value c = sym (take_all 40 c.args.text.now c.if-text-le-SHOWN.true)

pub slice_bounds-result-end : goal.slice_bounds-result-end
slice_bounds-result-end c = sym (length-take-le 40 c.args.text.now (omega (arith, c.if-text-le-SHOWN.false)))

pub returns-clause-most : goal.returns-clause-most
returns-clause-most c = omega (arith, length-take 40 c.args.text.now)
