use Rattle.std.proofs.Common.{true, subst}
use Rattle.std.specs.Prelude.{codes}
use Rattle.oe_io.specs.Ports.{Sent, Cut}
use Rattle.oe_audit_report.specs.Report.{count_line, counts_of, failing, names_text}
use Rattle.oe_audit_report.proofs.StreamFacts.{cut_first, cut_second, streams_third}
use Rattle.oe_audit_report.proofs.report.put_last.Goals as goal

pub returns-in-Err : goal.returns-in-Err
returns-in-Err g c =
    let old = g.W.Outlet.sink c.args.to.now in
    let first = g.W.Outlet.sink c.put_line.new.to in
    let out = c.args.out.now.items in
    let checks = c.args.checks.now in
    cut_first old first out (count_line (counts_of checks)) (names_text true (failing checks)) (codes "\n")
    (subst (λ n. Cut old out first (count_line n)) c.counted.ensures.is c.in-Err.ensures)

pub returns-in-Err-put_names : goal.returns-in-Err-put_names
returns-in-Err-put_names g c =
    let old = g.W.Outlet.sink c.args.to.now in
    let first = g.W.Outlet.sink c.put_line.new.to in
    let out = c.args.out.now.items in
    let waits = c.put_line.new.out.items in
    let checks = c.args.checks.now in
    cut_second old first out (count_line (counts_of checks)) (names_text true (failing checks)) (codes "\n")
    (g.W.Outlet.sink c.put_names.new.to) waits
    (subst (λ n. Sent old out first waits (count_line n)) c.counted.ensures.is c.in_default.ensures)
    c.in-Err-put_names.ensures

pub returns : goal.returns
returns g c =
    let old = g.W.Outlet.sink c.args.to.now in
    let first = g.W.Outlet.sink c.put_line.new.to in
    let out = c.args.out.now.items in
    let waits = c.put_line.new.out.items in
    let checks = c.args.checks.now in
    streams_third old first out (count_line (counts_of checks)) (names_text true (failing checks)) (codes "\n")
    (g.W.Outlet.sink c.put_names.new.to) waits
    (subst (λ n. Sent old out first waits (count_line n)) c.counted.ensures.is c.in_default.ensures)
    (g.W.Outlet.sink c.put.new.to) c.put_names.new.out.items c.put.new.out.items c.put.result
    c.in_default-put_names.ensures c.put.ensures
