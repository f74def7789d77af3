use Rattle.std.proofs.Common.{arith}
use Rattle.oe_file_loading.specs.Loading.{nine_of}
use Rattle.oe_file_loading.proofs.LoadedFacts.{are_faults, are_loaded}
use Rattle.oe_file_loading.proofs.loading.load.Goals as goal

pub returns-then-count-gt0 : goal.returns-then-count-gt0
returns-then-count-gt0 g c =
    are_faults c.args.format (nine_of g.S.Intake.source c.args.sources.now)
    (nine_of g.S.Intake.source c.load_all.new.sources) c.in-Ok.faults c.load_all.new.faults _ _ _
    c.in-Ok-load_all.ensures c.in-Ok.ensures (omega (arith, c.if-count-gt0.true, c.count.ensures.value))

pub returns-in-Ok-load_all : goal.returns-in-Ok-load_all
returns-in-Ok-load_all g c =
    are_loaded c.args.format (nine_of g.S.Intake.source c.args.sources.now)
    (nine_of g.S.Intake.source c.load_all.new.sources) c.in-Ok.faults c.load_all.new.faults _ _ _
    c.in-Ok-load_all.ensures (omega (arith, c.if-count-gt0.false, c.count.ensures.value))
