use Rattle.std.proofs.Common.{subst}
use Rattle.oe_books.specs.Closing.{IsClosed}
use Rattle.oe_books.specs.Facts.{facts_by_table}
use Rattle.oe_file_audit.specs.Reading.{facts_of}
use Rattle.oe_file_audit.proofs.AuditFacts.{reports_sound}
use Rattle.oe_file_audit.proofs.audits.judge_books.Goals as goal

pub report-reported-requires-clause-settled : goal.report-reported-requires-clause-settled
report-reported-requires-clause-settled g c =
    let t = facts_by_table (facts_of c.requires.books.0) in
    (subst (IsClosed c.args.options.now.initial t) c.in-Ok-Settled.field-0-is
    (c.in-Ok-Settled.ensures.closed c.args.options.now.initial t c.requires.books.1)).1

pub returns-in-Ok-Settled : goal.returns-in-Ok-Settled
returns-in-Ok-Settled g c earlier rows keeps asked compares =
    reports_sound c.args.options.now (g.W.Outlet.sink c.args.writer.now)
    (g.W.Outlet.sink c.report-reported.new.writer) earlier rows c.report-reported.result
    (c.report-reported.ensures earlier rows
    (subst (IsClosed c.args.options.now.initial (facts_by_table (facts_of rows))) c.in-Ok-Settled.field-0-is
    (c.in-Ok-Settled.ensures.closed c.args.options.now.initial
    (facts_by_table (facts_of rows)) keeps)).0 asked compares)
