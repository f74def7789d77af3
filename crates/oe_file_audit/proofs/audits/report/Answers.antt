use Rattle.std.proofs.Common.{length, ap, ◌∙◌, [], unwrap_or}
use Rattle.oe_audit_report.specs.declared.report.Counts.{Counts}
use Rattle.oe_audit_report.specs.Report.{failing}
use Rattle.oe_books.specs.Facts.{facts_by_table}
use Rattle.oe_file_audit.specs.Reading.{facts_of, prints_of}
use Rattle.oe_file_audit.proofs.AuditFacts.{are_of, all_hold, some_fails}
use Rattle.oe_file_audit.proofs.audits.report.Goals as goal

pub returns-in-Ok-write_report : goal.returns-in-Ok-write_report
returns-in-Ok-write_report g c earlier rows ready asked compares =
    let results = c.in-Ok.results in (
      results,
      are_of c.args.options.now earlier rows c.args.settled.now ready c.args.asked asked results
          (c.in-Ok.ensures c.args.options.now.initial (facts_by_table (facts_of rows)) ready
          (prints_of (unwrap_or earlier []))
          (prints_of rows) compares),
      c.in-Ok-write_report.ensures,
      all_hold results c.counted.result.failing (ap (λ (n : Counts). n.failing) c.counted.ensures.is
          ∙ ap (λ checks. length (failing checks)) c.as_slice.ensures.value) c.if-counted-eq0.true,
    )

pub returns-in-Ok-2 : goal.returns-in-Ok-2
returns-in-Ok-2 g c earlier rows ready asked compares =
    let results = c.in-Ok.results in (
      results,
      are_of c.args.options.now earlier rows c.args.settled.now ready c.args.asked asked results
          (c.in-Ok.ensures c.args.options.now.initial (facts_by_table (facts_of rows)) ready
          (prints_of (unwrap_or earlier []))
          (prints_of rows) compares),
      c.in-Ok-2.ensures,
      some_fails results c.counted.result.failing (ap (λ (n : Counts). n.failing) c.counted.ensures.is
          ∙ ap (λ checks. length (failing checks)) c.as_slice.ensures.value) c.if-counted-eq0.false,
    )

pub returns : goal.returns
returns g c earlier rows ready asked compares =
    let results = c.in-Ok.results in (
      results,
      are_of c.args.options.now earlier rows c.args.settled.now ready c.args.asked asked results
          (c.in-Ok.ensures c.args.options.now.initial (facts_by_table (facts_of rows)) ready
          (prints_of (unwrap_or earlier []))
          (prints_of rows) compares),
      c.in-Err-write_report.ensures,
    )
