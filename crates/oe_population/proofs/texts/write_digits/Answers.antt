use Rattle.std.proofs.Common.{◌≡◌, ◌-◌, ◌∙◌, sym, arith, rules}
use Rattle.oe_population.proofs.TextFacts.{digit_more, digits_all}
use Rattle.oe_population.proofs.texts.write_digits.Goals as goal

pub loop-offset-preserved : goal.loop-offset-preserved
loop-offset-preserved c =
    let l = c.loop-offset in
    record {
      within = search rules;
      kept = search rules;
      digits = digit_more l.left (l.offset - 1) l.offset l.cells (omega arith) (omega arith) ∙ l.invariant.digits;
    }

pub returns : goal.returns
returns c =
    let l = c.loop-offset in
    let none : l.offset ≡ 0 = omega arith in
    sym (digits_all l.left l.cells) ∙ (rw none at l.invariant.digits)
