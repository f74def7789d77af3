use Rattle.std.proofs.Common.{◌+◌, ◌++◌, take, drop, ◌∙◌, ap, arith}
use Rattle.std.specs.List.{flat_map}
use Rattle.oe_io.proofs.Streaming.{sent_none, sent_then, sent_cut, sent_as, cut_as, cut_more}
use Rattle.oe_io.proofs.FrontFacts.{front_more, front_and_rest, front_all}
use Rattle.oe_audit_report.proofs.lines.put_each.Goals as goal

pub loop-item-init : goal.loop-item-init
loop-item-init g c = sent_none (g.W.Outlet.sink c.args.to.now) c.args.out.now.items

pub loop-item-preserved : goal.loop-item-preserved
loop-item-preserved g c =
    let old = g.W.Outlet.sink c.args.to.now in
    let new = g.W.Outlet.sink c.put.new.to in
    let text = g.T.TextOf.text c.args.by.now in
    sent_as old new c.args.out.now.items c.put.new.out.items _ _
    (front_more text c.args.items.now c.loop-item.item-index c.item-item.result c.item-item.is (omega arith))
    (sent_then old (g.W.Outlet.sink c.loop-item.to) new c.args.out.now.items c.loop-item.out.items
    c.put.new.out.items (flat_map text (take c.loop-item.item-index c.args.items.now)) (text c.item-item.result)
    c.loop-item.invariant c.in_default.ensures)

pub returns-in-Err : goal.returns-in-Err
returns-in-Err g c =
    let old = g.W.Outlet.sink c.args.to.now in
    let new = g.W.Outlet.sink c.put.new.to in
    let text = g.T.TextOf.text c.args.by.now in
    let before = flat_map text (take c.loop-item.item-index c.args.items.now) in
    let rest = flat_map text (drop (c.loop-item.item-index + 1) c.args.items.now) in
    cut_as old new c.args.out.now.items ((before ++ text c.item-item.result) ++ rest) _
    (ap (λ t. t ++ rest) (front_more text c.args.items.now c.loop-item.item-index c.item-item.result c.item-item.is
    (omega arith))
    ∙ front_and_rest text c.args.items.now (c.loop-item.item-index + 1))
    (cut_more old new c.args.out.now.items (before ++ text c.item-item.result) rest
    (sent_cut old (g.W.Outlet.sink c.loop-item.to) new c.args.out.now.items c.loop-item.out.items before
    (text c.item-item.result) c.loop-item.invariant c.in-Err.ensures))

pub returns : goal.returns
returns g c =
    sent_as (g.W.Outlet.sink c.args.to.now) (g.W.Outlet.sink c.loop-item.to) c.args.out.now.items c.loop-item.out.items
    _ _ (front_all (g.T.TextOf.text c.args.by.now) c.args.items.now c.loop-item.item-index (omega arith))
    c.loop-item.invariant
