use Rattle.std.proofs.Common.{◌++◌, sym, ap}
use Rattle.std.specs.Prelude.{codes}
use Rattle.std.specs.List.{flat_map}
use Rattle.oe_io.proofs.Streaming.{cut_more, cut_as}
use Rattle.oe_audit_report.specs.Texts.{comma_list}
use Rattle.oe_io.proofs.Streaming.{streams_then}
use Rattle.oe_audit_report.proofs.StreamFacts.{streams_from}
use Rattle.oe_audit_report.proofs.lines.put_joined.Goals as goal

pub returns-in-Ok : goal.returns-in-Ok
returns-in-Ok g c =
    let old = g.W.Outlet.sink c.args.to.now in
    let new = g.W.Outlet.sink c.put_each.new.to in
    let f = g.T.TextOf.text c.args.by.now in
    let first = f c.in-Some.first.now in
    let others = flat_map (λ y. codes "," ++ f y) c.in-Some.others.now in
    streams_from old new c.args.out.now.items c.put_each.new.out.items (first ++ others)
    (comma_list f c.args.items.now) c.put_each.result (ap (comma_list f) (sym c.in-Some.ensures.cases.0))
    (streams_then old (g.W.Outlet.sink c.put.new.to) new c.args.out.now.items c.put.new.out.items
    c.put_each.new.out.items first others c.put_each.result c.in-Ok.ensures c.put_each.ensures)

pub returns-in-Err : goal.returns-in-Err
returns-in-Err g c =
    let old = g.W.Outlet.sink c.args.to.now in
    let new = g.W.Outlet.sink c.put.new.to in
    let f = g.T.TextOf.text c.args.by.now in
    let first = f c.in-Some.first.now in
    let others = flat_map (λ y. codes "," ++ f y) c.in-Some.others.now in
    cut_as old new c.args.out.now.items (first ++ others) (comma_list f c.args.items.now)
    (ap (comma_list f) (sym c.in-Some.ensures.cases.0))
    (cut_more old new c.args.out.now.items first others c.in-Err.ensures)
