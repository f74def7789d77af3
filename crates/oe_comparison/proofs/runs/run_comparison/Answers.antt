use Rattle.std.proofs.Common.{[], inl, inr, subst, sym}
use Rattle.oe_io.proofs.Streaming.{sent_none}
use Rattle.oe_file_serial.proofs.SentFacts.{is_short}
use Rattle.oe_file_serial.specs.Verdicts.{IsDecided}
use Rattle.oe_file_serial.specs.declared.verdicts.Decision.TheVariants as decision
use Rattle.oe_file_serial.specs.declared.verdicts.Verdict.TheVariants as reply
use Rattle.oe_store.specs.Places.{rows}
use Rattle.oe_comparison.proofs.RunFacts.{leaves, decided, replies_told}
use Rattle.oe_comparison.proofs.runs.run_comparison.Goals as goal

pub tell_replies-requires-clause-short : goal.tell_replies-requires-clause-short
tell_replies-requires-clause-short g c =
    let n = c.in-Differs.number in
    let theirs = c.in-Differs.theirs in
    is_short c.args.origin c.args.input.now c.decide.new.ours.items (reply.Differs n theirs c.in-Differs.last)
    (decided c.args.origin c.args.input.now c.decide.new.ours.items c.in-Ok.decision
    (decision.Differs n theirs c.in-Differs.last)
    c.in-Differs.is c.in-Ok.ensures)

pub returns-in-Serial : goal.returns-in-Serial
returns-in-Serial g c = inr (
  c.in-Serial.count,
  rows c.in-Serial.tables,
  leaves c.args.origin c.args.input.now c.decide.new.ours.items c.in-Ok.decision c.in-Serial.count
      c.in-Serial.tables c.in-Serial.is c.in-Ok.ensures,
  c.compare-verdict.ensures,
)

pub returns-in-Differs : goal.returns-in-Differs
returns-in-Differs g c =
    let n = c.in-Differs.number in
    let theirs = c.in-Differs.theirs in
    inl
    (replies_told c.args.origin c.args.input.now c.as_slice.result.now (reply.Differs n theirs c.in-Differs.last) _ _
    c.tell_replies.result
    (subst (λ ours. IsDecided c.args.origin c.args.input.now (reply.Differs n theirs c.in-Differs.last) ours)
    (sym c.as_slice.ensures.value)
    (decided c.args.origin c.args.input.now c.decide.new.ours.items c.in-Ok.decision
    (decision.Differs n theirs c.in-Differs.last)
    c.in-Differs.is c.in-Ok.ensures)) tt c.tell_replies.ensures)

pub returns-in-Unreadable : goal.returns-in-Unreadable
returns-in-Unreadable g c = inl (
  c.decide.new.ours.items,
  decided c.args.origin c.args.input.now c.decide.new.ours.items c.in-Ok.decision _ c.in-Unreadable.is c.in-Ok.ensures,
  tt,
  sent_none (g.W.Outlet.sink c.args.writer.now) [],
)
