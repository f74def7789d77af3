use Rattle.std.proofs.Common.{◌++◌, ◌+◌, [], drop, refl, arith, ap, ◌∙◌, true}
use Rattle.oe_io.proofs.Streaming.{sent_none, sent_then, sent_cut, sent_as, cut_as, cut_more}
use Rattle.oe_audit_report.specs.Report.{names_text, failing, fails}
use Rattle.oe_audit_report.proofs.CheckFacts.{name_if, next_first, names_more, names_all}
use Rattle.oe_audit_report.proofs.report.put_names.Goals as goal

pub loop-check-init : goal.loop-check-init
loop-check-init g c = ([], sent_none (g.W.Outlet.sink c.args.to.now) c.args.out.now.items, refl)

pub loop-check-preserved : goal.loop-check-preserved
loop-check-preserved g c =
    let old = g.W.Outlet.sink c.args.to.now in
    let new = g.W.Outlet.sink c.put_failing.new.to in
    let xs = c.args.checks.now in
    let went = c.loop-check.invariant in
    let name = name_if (fails c.check-item.result) c.loop-check.is_first c.check-item.result in (
      went.0 ++ name,
      sent_then old (g.W.Outlet.sink c.loop-check.to) new c.args.out.now.items c.loop-check.out.items
          c.put_failing.new.out.items went.0 name went.1 c.in-Ok.ensures.stream,
      ap (λ next. (went.0 ++ name) ++ names_text next (failing (drop (c.loop-check.check-index + 1) xs)))
          c.in-Ok.ensures.next
          ∙ names_more xs c.loop-check.check-index went.0 c.loop-check.is_first (names_text true (failing xs)) went.2
          c.check-item.result c.check-item.is (omega arith),
    )

pub returns-in-Err : goal.returns-in-Err
returns-in-Err g c =
    let old = g.W.Outlet.sink c.args.to.now in
    let new = g.W.Outlet.sink c.put_failing.new.to in
    let xs = c.args.checks.now in
    let went = c.loop-check.invariant in
    let failed = fails c.check-item.result in
    let first = c.loop-check.is_first in
    let name = name_if failed first c.check-item.result in
    let rest = names_text (next_first failed first) (failing (drop (c.loop-check.check-index + 1) xs)) in
    cut_as old new c.args.out.now.items ((went.0 ++ name) ++ rest) _
    (names_more xs c.loop-check.check-index went.0 first (names_text true (failing xs)) went.2
    c.check-item.result c.check-item.is (omega arith))
    (cut_more old new c.args.out.now.items (went.0 ++ name) rest
    (sent_cut old (g.W.Outlet.sink c.loop-check.to) new c.args.out.now.items c.loop-check.out.items went.0 name
    went.1 c.in-Err.ensures.stream))

pub returns : goal.returns
returns g c =
    let went = c.loop-check.invariant in
    let xs = c.args.checks.now in
    sent_as (g.W.Outlet.sink c.args.to.now) (g.W.Outlet.sink c.loop-check.to) c.args.out.now.items
    c.loop-check.out.items went.0 _
    (names_all xs c.loop-check.check-index went.0 c.loop-check.is_first (names_text true (failing xs)) went.2
    (omega arith)) went.1
