use Rattle.oe_audit_report.specs.Texts.{comma_list}
use Rattle.oe_audit_report.proofs.StreamFacts.{cut_first, cut_second, streams_third}
use Rattle.oe_audit_report.proofs.json.put_listing.Goals as goal

pub returns-in-Err : goal.returns-in-Err
returns-in-Err g c =
    cut_first (g.W.Outlet.sink c.args.to.now) (g.W.Outlet.sink c.put.new.to) c.args.out.now.items c.args.before.now
    (comma_list (g.T.TextOf.text c.args.by.now) c.args.items.now) c.args.behind.now c.in-Err.ensures

pub returns-in-Err-put_joined : goal.returns-in-Err-put_joined
returns-in-Err-put_joined g c =
    cut_second (g.W.Outlet.sink c.args.to.now) (g.W.Outlet.sink c.put.new.to) c.args.out.now.items c.args.before.now
    (comma_list (g.T.TextOf.text c.args.by.now) c.args.items.now) c.args.behind.now
    (g.W.Outlet.sink c.put_joined.new.to)
    c.put.new.out.items c.in_default.ensures c.in-Err-put_joined.ensures

pub returns : goal.returns
returns g c =
    streams_third (g.W.Outlet.sink c.args.to.now) (g.W.Outlet.sink c.put.new.to) c.args.out.now.items
    c.args.before.now (comma_list (g.T.TextOf.text c.args.by.now) c.args.items.now) c.args.behind.now
    (g.W.Outlet.sink c.put_joined.new.to) c.put.new.out.items c.in_default.ensures (g.W.Outlet.sink c.put-2.new.to)
    c.put_joined.new.out.items c.put-2.new.out.items c.put-2.result c.in_default-put_joined.ensures c.put-2.ensures
