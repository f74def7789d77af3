use Rattle.std.proofs.Common.{◌+◌, ◌++◌, take, drop, ◌∙◌, ap, arith}
use Rattle.std.specs.List.{flat_map}
use Rattle.oe_io.proofs.Streaming.{sent_none, sent_then, sent_cut, sent_as, cut_as, cut_more}
use Rattle.oe_io.proofs.FrontFacts.{front_more, front_and_rest, front_all}
use Rattle.oe_comparison.specs.Faults.{fault_line}
use Rattle.oe_comparison.proofs.faults.put_kept.Goals as goal

pub loop-fault-init : goal.loop-fault-init
loop-fault-init g c = sent_none (g.W.Outlet.sink c.args.to.now) c.args.out.now.items

pub loop-fault-preserved : goal.loop-fault-preserved
loop-fault-preserved g c =
    let old = g.W.Outlet.sink c.args.to.now in
    let new = g.W.Outlet.sink c.put_fault.new.to in
    sent_as old new c.args.out.now.items c.put_fault.new.out.items _ _
    (front_more fault_line c.args.faults.now c.loop-fault.fault-index c.fault-item.result c.fault-item.is
    (omega arith))
    (sent_then old (g.W.Outlet.sink c.loop-fault.to) new c.args.out.now.items c.loop-fault.out.items
    c.put_fault.new.out.items
    (flat_map fault_line (take c.loop-fault.fault-index c.args.faults.now)) (fault_line c.fault-item.result)
    c.loop-fault.invariant c.in_default.ensures)

pub returns-in-Err : goal.returns-in-Err
returns-in-Err g c =
    let old = g.W.Outlet.sink c.args.to.now in
    let new = g.W.Outlet.sink c.put_fault.new.to in
    let before = flat_map fault_line (take c.loop-fault.fault-index c.args.faults.now) in
    let rest = flat_map fault_line (drop (c.loop-fault.fault-index + 1) c.args.faults.now) in
    cut_as old new c.args.out.now.items ((before ++ fault_line c.fault-item.result) ++ rest) _
    (ap (λ t. t ++ rest) (front_more fault_line c.args.faults.now c.loop-fault.fault-index c.fault-item.result
    c.fault-item.is (omega arith))
    ∙ front_and_rest fault_line c.args.faults.now (c.loop-fault.fault-index + 1))
    (cut_more old new c.args.out.now.items (before ++ fault_line c.fault-item.result) rest
    (sent_cut old (g.W.Outlet.sink c.loop-fault.to) new c.args.out.now.items c.loop-fault.out.items before
    (fault_line c.fault-item.result) c.loop-fault.invariant c.in-Err.ensures))

pub returns : goal.returns
returns g c =
    sent_as (g.W.Outlet.sink c.args.to.now) (g.W.Outlet.sink c.loop-fault.to) c.args.out.now.items
    c.loop-fault.out.items
    _ _ (front_all fault_line c.args.faults.now c.loop-fault.fault-index (omega arith)) c.loop-fault.invariant
