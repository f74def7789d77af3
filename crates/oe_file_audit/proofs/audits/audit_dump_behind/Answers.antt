use Rattle.std.proofs.Common.{◌≡◌, ap, subst, ◌∙◌, None}
use Rattle.oe_columns.specs.declared.constants.Wanted.{Wanted}
use Rattle.oe_file_audit.specs.Audits.{AreSpelled}
use Rattle.oe_file_audit.specs.Earlier.{wanted_by}
use Rattle.oe_file_audit.proofs.AuditFacts.{ends}
use Rattle.oe_file_audit.proofs.audits.audit_dump_behind.Goals as goal

pub judge-requires : goal.judge-requires
judge-requires g c = let read = c.in-Ok.ensures.read in (read.0, read.4)

pub returns-in-Ok : goal.returns-in-Ok
returns-in-Ok g c of_earlier earlier =
    let read = c.in-Ok.ensures.read in
    let before = g.S.Read.remaining c.args.source in
    ends c.args.options.now (g.W.Outlet.sink c.args.writer.now) (g.W.Outlet.sink c.judge.new.writer) of_earlier read.0
    c.in-Ok.spelled.faults.items (AreSpelled before) (λ unread. unread.table ≡ None) c.judge.result
    (subst (λ (wanted : Wanted). AreSpelled before wanted read.0 c.in-Ok.spelled.faults.items)
    (c.wanted.ensures ∙ ap wanted_by earlier.asked) (read.1, read.2, read.3))
    (c.judge.ensures of_earlier read.0 earlier read.4)
