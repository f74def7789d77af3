use Rattle.std.proofs.Common.{◌≡◌, ℕ, ◌<◌, ◌∷◌, [], ◌++◌, length, sym, ap, ◌∙◌, arith}
use Rattle.std.proofs.Common.{rules}
use Rattle.oe_lines.proofs.OrderFacts.{lines_after, five, stopped, at_last, parted, went_on, at_end, none_of, some_of}
use Rattle.oe_lines.proofs.OrderFacts.{read_five}
use Rattle.oe_lines.proofs.reading.lines.Goals as goal

pub returns-in_default : goal.returns-in_default
returns-in_default c =
    let before : length c.loop-left.read < 15 =
    search (arith, rules, c.loop-left-test.true, c.as_slice.ensures.value) in
    none_of c.args.text.now
    (c.loop-left.invariant ∙ stopped c.loop-left.read c.loop-left.left.now before c.in_default.ensures)

pub returns-then-is_empty : goal.returns-then-is_empty
returns-then-is_empty c =
    let before : length c.loop-left.read < 15 =
    search (arith, rules, c.loop-left-test.true, c.as_slice.ensures.value) in
    let empty : length c.in-Some.rest.now ≡ 0 = search (arith, rules, c.if-is_empty.true, c.is_empty.ensures) in
    let held = c.as_slice-then-is_empty.ensures.value ∙ c.push.ensures in
    read_five c.read.result c.as_slice-then-is_empty.result.now
    (omega (arith, c.as_slice-then-is_empty.ensures.most, ap length c.as_slice-then-is_empty.ensures.value))
    c.read.ensures.variant c.read.ensures.value
    ∙ ap five held
    ∙ some_of c.args.text.now (c.loop-left.read ++ c.in-Some.line ∷ [])
    (c.loop-left.invariant ∙ at_last c.loop-left.read c.loop-left.left.now c.in-Some.rest.now c.in-Some.line before
    c.in-Some.ensures empty)

pub returns-in_default-after : goal.returns-in_default-after
returns-in_default-after c =
    let before : length c.loop-left.read < 15 =
    search (arith, rules, c.loop-left-test.true, c.as_slice.ensures.value) in
    let full : 0 < length c.in-Some.rest.now = search (arith, rules, c.if-is_empty.false, c.is_empty.ensures) in
    none_of c.args.text.now
    (c.loop-left.invariant ∙ parted c.loop-left.read c.loop-left.left.now c.in-Some.rest.now c.in-Some.line before
    c.in-Some.ensures full c.in_default-after.ensures)

pub loop-left-preserved : goal.loop-left-preserved
loop-left-preserved c =
    let before : length c.loop-left.read < 15 =
    search (arith, rules, c.loop-left-test.true, c.as_slice.ensures.value) in
    c.loop-left.invariant ∙ went_on c.loop-left.read c.loop-left.left.now c.in-Some.rest.now c.in-Some-after.next.now
    c.in-Some.line before c.in-Some.ensures c.in-Some-after.ensures
    ∙ ap (λ z. lines_after z c.in-Some-after.next.now) (sym c.push.ensures)

pub returns : goal.returns
returns c = none_of c.args.text.now
    (c.loop-left.invariant ∙ at_end c.loop-left.read c.loop-left.left.now
    (search (arith, rules, c.loop-left-test.false, c.as_slice.ensures.value)))
