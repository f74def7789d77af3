use Rattle.std.proofs.Common.{length, ap, arith}
use Rattle.oe_file_serial.proofs.AnswerFacts.{framed, inner_is}
use Rattle.oe_file_serial.proofs.answers.inner.Goals as goal

pub overflow_sub-result : goal.overflow_sub-result
overflow_sub-result c =
    let long = framed c.args.front.now c.requires.0 c.args.line.now c.requires.1 in omega (arith, long)

pub slice_bounds-result-count : goal.slice_bounds-result-count
slice_bounds-result-count c =
    let long = framed c.args.front.now c.requires.0 c.args.line.now c.requires.1 in omega (arith, long)

pub slice_bounds-result-start : goal.slice_bounds-result-start
slice_bounds-result-start c =
    let long = framed c.args.front.now c.requires.0 c.args.line.now c.requires.1 in omega (arith, long)

pub slice_bounds-result-end : goal.slice_bounds-result-end
slice_bounds-result-end c =
    let long = framed c.args.front.now c.requires.0 c.args.line.now c.requires.1 in omega (arith, long)

pub returns-clause-text : goal.returns-clause-text
returns-clause-text c = λ text is. inner_is c.args.front.now text c.args.line.now is

pub returns-clause-short : goal.returns-clause-short
returns-clause-short c =
    let long = framed c.args.front.now c.requires.0 c.args.line.now c.requires.1 in
    let same = ap length (inner_is c.args.front.now c.requires.0 c.args.line.now c.requires.1) in
    omega (arith, long, same)
