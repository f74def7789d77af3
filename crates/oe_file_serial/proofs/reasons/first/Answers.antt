use Rattle.std.proofs.Common.{sym, arith}
use Rattle.std.proofs.lemmas.List.{length-take-le, take_all}
use Rattle.oe_file_serial.proofs.reasons.first.Goals as goal

pub returns-then-words-le-LINE-clause-value : goal.returns-then-words-le-LINE-clause-value
returns-then-words-le-LINE-clause-value c =
    sym (take_all 1_024 c.args.words.now (omega (arith, c.if-words-le-LINE.true)))

pub slice_bounds-result-end : goal.slice_bounds-result-end
slice_bounds-result-end c =
    let some = c.if-words-le-LINE.false in sym (length-take-le 1_024 c.args.words.now (omega (arith, some)))

pub returns-clause-short : goal.returns-clause-short
returns-clause-short c =
    let some = c.if-words-le-LINE.false in
    let same = length-take-le 1_024 c.args.words.now (omega (arith, some)) in
    omega (arith, same)
