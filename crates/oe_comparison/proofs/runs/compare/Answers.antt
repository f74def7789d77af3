use Rattle.std.proofs.Common.{arith, refl}
use Rattle.oe_file_loading.specs.Loading.{nine_of}
use Rattle.oe_store.specs.Places.{rows}
use Rattle.oe_comparison.proofs.RunFacts.{compares}
use Rattle.oe_comparison.proofs.runs.compare.Goals as goal

pub returns-then-count-gt0 : goal.returns-then-count-gt0
returns-then-count-gt0 g c =
    let some = c.if-count-gt0.true in
    let counted = c.count.ensures.value in
    (c.compare_tables.new.report, c.in_default-compare_tables.ensures, omega (arith, some, counted), refl)

pub returns : goal.returns
returns g c =
    let none = c.if-count-gt0.false in
    let counted = c.count.ensures.value in
    compares c.args.format c.args.count (rows c.args.tables.now) (nine_of g.S.Intake.source c.args.sources.now)
    (nine_of g.S.Intake.source c.compare_tables.new.from) (g.W.Outlet.sink c.args.writer.now)
    (g.W.Outlet.sink c.tell.new.writer) c.compare_tables.new.report c.tell.result
    (c.compare_tables.new.faults, c.in_default-compare_tables.ensures, omega (arith, none, counted)) c.tell.ensures
