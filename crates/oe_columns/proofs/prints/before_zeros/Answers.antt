use Rattle.std.proofs.Common.{sym, ap, ◌∙◌}
use Rattle.std.proofs.lemmas.List.{take_rest}
use Rattle.oe_columns.specs.Prints.{are_zeros}
use Rattle.oe_columns.proofs.PrintFacts.{before_more}
use Rattle.oe_columns.proofs.prints.before_zeros.Goals as goal

pub loop-i-preserved : goal.loop-i-preserved
loop-i-preserved c =
    before_more c.args.text.now c.loop-i.i c.loop-i-test.true
    (sym (ap are_zeros (take_rest c.args.text.now c.loop-i.i)) ∙ sym c.are_zeros.ensures ∙ c.if-are_zeros.false)
    c.loop-i.invariant
