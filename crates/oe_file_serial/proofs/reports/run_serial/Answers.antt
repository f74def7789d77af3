use Rattle.std.proofs.Common.{[], ap}
use Rattle.oe_io.proofs.Streaming.{sent_as, cut_as}
use Rattle.oe_file_serial.specs.Verdicts.{verdict_text}
use Rattle.oe_file_serial.proofs.SentFacts.{is_short}
use Rattle.oe_file_serial.proofs.VerdictFacts.{verdict_so}
use Rattle.oe_file_serial.proofs.reports.run_serial.Goals as goal

pub write_verdict-requires-clause-short : goal.write_verdict-requires-clause-short
write_verdict-requires-clause-short g c =
    let v = c.verdict-verdict.result in
    is_short c.args.origin c.args.input.now c.decide.new.ours.items v
    (verdict_so c.args.origin c.args.input.now c.decide.new.ours.items c.in-Ok.decision v c.verdict-verdict.ensures
    c.in-Ok.ensures)

pub returns-in-Err-write_verdict : goal.returns-in-Err-write_verdict
returns-in-Err-write_verdict g c =
    let v = c.verdict-verdict.result in
    let made = verdict_so c.args.origin c.args.input.now c.decide.new.ours.items c.in-Ok.decision v
    c.verdict-verdict.ensures c.in-Ok.ensures in (
      v,
      c.decide.new.ours.items,
      made,
      cut_as _ _ [] (verdict_text v c.as_slice.result.now) _ (ap (verdict_text v) c.as_slice.ensures.value)
          c.in-Err-write_verdict.ensures,
    )

pub returns-in-Ok-write_verdict : goal.returns-in-Ok-write_verdict
returns-in-Ok-write_verdict g c =
    let v = c.verdict-verdict.result in
    let made = verdict_so c.args.origin c.args.input.now c.decide.new.ours.items c.in-Ok.decision v
    c.verdict-verdict.ensures c.in-Ok.ensures in (
      c.decide.new.ours.items,
      made,
      sent_as _ _ [] [] (verdict_text v c.as_slice.result.now) _ (ap (verdict_text v) c.as_slice.ensures.value)
          c.in-Ok-write_verdict.ensures,
    )
