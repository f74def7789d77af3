use Rattle.std.proofs.Common.{sym, ◌∙◌, arith, length, ap, eqb}
use Rattle.oe_file_audit.proofs.EarlierFacts.{has_none, has_some, any_more, any_here, any_none}
use Rattle.oe_file_audit.proofs.earlier.any_fault.Goals as goal

pub loop-told-preserved : goal.loop-told-preserved
loop-told-preserved c =
    let told = c.told-item.result in
    sym (any_more c.args.faults.now c.loop-told.told-index told (omega arith) c.told-item.is
    (has_none told c.is_empty.result (c.is_empty.ensures ∙ ap (λ ks. eqb (length ks) 0) c.kept.ensures)
    c.if-not-is_empty.false))
    ∙ c.loop-told.invariant

pub returns-then-not-is_empty : goal.returns-then-not-is_empty
returns-then-not-is_empty c =
    let told = c.told-item.result in
    sym (any_here c.args.faults.now c.loop-told.told-index told (omega arith) c.told-item.is
    (has_some told c.is_empty.result (c.is_empty.ensures ∙ ap (λ ks. eqb (length ks) 0) c.kept.ensures)
    c.if-not-is_empty.true))
    ∙ c.loop-told.invariant

pub returns : goal.returns
returns c = sym (any_none c.args.faults.now c.loop-told.told-index (omega arith)) ∙ c.loop-told.invariant
