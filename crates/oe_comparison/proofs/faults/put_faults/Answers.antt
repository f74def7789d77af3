use Rattle.std.proofs.Common.{◌-◌, length, ap}
use Rattle.std.specs.List.{flat_map}
use Rattle.oe_io.proofs.Streaming.{cut_as, cut_more}
use Rattle.oe_comparison.specs.Faults.{fault_line, more_line}
use Rattle.oe_comparison.proofs.faults.put_faults.Goals as goal

pub returns-in-Err : goal.returns-in-Err
returns-in-Err g c =
    let old = g.W.Outlet.sink c.args.to.now in
    let new = g.W.Outlet.sink c.put_kept.new.to in
    let told = c.args.faults.now in
    cut_more old new c.args.out.now.items (flat_map fault_line told.kept) (more_line (told.count - length told.kept))
    (cut_as old new c.args.out.now.items _ _ (ap (flat_map fault_line) c.kept-kept.ensures) c.in-Err.ensures)
