use Rattle.std.proofs.Common.{sym, ap, ◌∙◌}
use Rattle.oe_file_audit.specs.Earlier.{any_fault}
use Rattle.oe_file_audit.proofs.AuditFacts.{judged_sound}
use Rattle.oe_file_audit.proofs.audits.judge.Goals as goal

pub returns : goal.returns
returns g c of_earlier rows earlier holds =
    judged_sound c.args.options.now (g.W.Outlet.sink c.args.writer.now)
    (g.W.Outlet.sink c.judge_sound.new.writer) of_earlier rows c.args.spelled.faults.items c.judge_sound.result
    (ap any_fault (sym c.deref.ensures.value) ∙ sym c.any_fault.ensures ∙ c.if-any_fault.false)
    (c.judge_sound.ensures of_earlier rows earlier holds)
