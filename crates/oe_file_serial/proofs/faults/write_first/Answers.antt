use Rattle.std.proofs.Common.{◌+◌, ◌++◌, [], take, drop, get_or, ◌∙◌, ap, arith}
use Rattle.std.specs.List.{flat_map}
use Rattle.oe_io.proofs.Streaming.{sent_none, sent_then, sent_cut, sent_as, cut_as, cut_more}
use Rattle.oe_file_serial.specs.BadTexts.{bad_line_text}
use Rattle.oe_file_serial.specs.declared.reasons.BadLine.{BadLine}
use Rattle.oe_file_serial.specs.declared.reasons.Why.TheVariants as why
use Rattle.oe_io.proofs.FrontFacts.{front_next, front_and_rest, front_all}
use Rattle.oe_file_serial.proofs.faults.write_first.Goals as goal

pub loop-bad-init : goal.loop-bad-init
loop-bad-init g c = sent_none (g.W.Outlet.sink c.args.to.now) []

-- what stands nowhere
abbrev nowhere : BadLine
nowhere = record { number = 0; why = why.Long }

pub loop-bad-preserved : goal.loop-bad-preserved
loop-bad-preserved g c =
    let old = g.W.Outlet.sink c.args.to.now in
    let new = g.W.Outlet.sink c.write_bad_line.new.to in
    let i = c.loop-bad.bad-index in
    sent_as old new [] [] _ _ (front_next bad_line_text c.args.first.now i nowhere c.loop-bad-test.true)
    (sent_then old (g.W.Outlet.sink c.loop-bad.to) new [] [] []
    (flat_map bad_line_text (take i c.args.first.now)) (bad_line_text (get_or c.args.first.now i nowhere))
    c.loop-bad.invariant c.in_default.ensures)

pub returns-in-Err : goal.returns-in-Err
returns-in-Err g c =
    let old = g.W.Outlet.sink c.args.to.now in
    let new = g.W.Outlet.sink c.write_bad_line.new.to in
    let i = c.loop-bad.bad-index in
    let before = flat_map bad_line_text (take i c.args.first.now) in
    let one = bad_line_text (get_or c.args.first.now i nowhere) in
    let rest = flat_map bad_line_text (drop (i + 1) c.args.first.now) in
    cut_as old new [] ((before ++ one) ++ rest) _
    (ap (λ t. t ++ rest) (front_next bad_line_text c.args.first.now i nowhere c.loop-bad-test.true)
    ∙ front_and_rest bad_line_text c.args.first.now (i + 1))
    (cut_more old new [] (before ++ one) rest
    (sent_cut old (g.W.Outlet.sink c.loop-bad.to) new [] [] before one c.loop-bad.invariant c.in-Err.ensures))

pub returns : goal.returns
returns g c =
    sent_as (g.W.Outlet.sink c.args.to.now) (g.W.Outlet.sink c.loop-bad.to) [] [] _ _
    (front_all bad_line_text c.args.first.now c.loop-bad.bad-index (omega arith)) c.loop-bad.invariant
