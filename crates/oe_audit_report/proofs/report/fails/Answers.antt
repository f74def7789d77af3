use Rattle.std.proofs.Common.{sym, ◌∙◌, ap, arith}
use Rattle.oe_audit_report.specs.Report.{any_finds}
use Rattle.oe_audit_report.proofs.CheckFacts.{finds_none, finds_some, any_more, any_here, any_none}
use Rattle.oe_audit_report.proofs.report.fails.Goals as goal

pub loop-part-preserved : goal.loop-part-preserved
loop-part-preserved c =
    let part = c.part-item.result in
    sym (any_more c.deref-part-items.result.now c.loop-part.part-index part (omega arith) c.part-item.is
    (finds_none part c.is_empty.result c.is_empty.ensures c.if-not-is_empty.false))
    ∙ c.loop-part.invariant

pub returns-then-not-is_empty : goal.returns-then-not-is_empty
returns-then-not-is_empty c =
    let part = c.part-item.result in
    sym (any_here c.deref-part-items.result.now c.loop-part.part-index part (omega arith) c.part-item.is
    (finds_some part c.is_empty.result c.is_empty.ensures c.if-not-is_empty.true))
    ∙ c.loop-part.invariant ∙ ap any_finds c.deref-part-items.ensures.value

pub returns : goal.returns
returns c =
    sym (any_none c.deref-part-items.result.now c.loop-part.part-index (omega arith))
    ∙ c.loop-part.invariant ∙ ap any_finds c.deref-part-items.ensures.value
