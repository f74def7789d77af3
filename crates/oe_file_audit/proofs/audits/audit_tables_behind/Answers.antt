use Rattle.std.proofs.Common.{ap, subst, ◌∙◌}
use Rattle.oe_columns.specs.declared.constants.Wanted.{Wanted}
use Rattle.oe_file_audit.specs.Earlier.{wanted_by}
use Rattle.oe_file_audit.specs.Reading.{TablesSpell, StopsAt}
use Rattle.oe_file_audit.proofs.AuditFacts.{ends}
use Rattle.oe_file_audit.proofs.audits.audit_tables_behind.Goals as goal

pub judge-requires : goal.judge-requires
judge-requires g c = let read = c.in-Ok.ensures.read in (read.0, read.2)

pub returns-in-Ok : goal.returns-in-Ok
returns-in-Ok g c of_earlier earlier =
    let read = c.in-Ok.ensures.read in
    ends c.args.options.now (g.W.Outlet.sink c.args.writer.now) (g.W.Outlet.sink c.judge.new.writer) of_earlier read.0
    c.in-Ok.spelled.faults.items (λ wanted. TablesSpell g.S.Read.remaining wanted c.args.format c.args.sources.items)
    (StopsAt c.args.sources.items) c.judge.result
    (subst (λ (wanted : Wanted). TablesSpell g.S.Read.remaining wanted c.args.format c.args.sources.items read.0
    c.in-Ok.spelled.faults.items) (c.wanted.ensures ∙ ap wanted_by earlier.asked) read.1)
    (c.judge.ensures of_earlier read.0 earlier read.2)
