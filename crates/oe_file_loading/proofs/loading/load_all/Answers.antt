use Rattle.oe_file_loading.specs.Loading.{nine_of}
use Rattle.oe_file_loading.proofs.LoadedFacts.{files_loaded}
use Rattle.oe_file_loading.proofs.loading.load_all.Goals as goal

pub returns-in-Ok-load_deeds : goal.returns-in-Ok-load_deeds
returns-in-Ok-load_deeds g c =
    files_loaded c.args.format (nine_of g.S.Intake.source c.args.sources.now)
    (nine_of g.S.Intake.source c.load_base.new.sources) (nine_of g.S.Intake.source c.load_deeds.new.sources)
    c.args.faults.now c.load_base.new.faults c.load_deeds.new.faults _ _ _ _ c.in-Ok.begun
    c.in-Ok-load_deeds.deeds c.new-apart.ensures.items c.in-Ok.ensures.others c.in-Ok-load_deeds.ensures.others
    c.in-Ok.ensures.loaded c.in-Ok-load_deeds.ensures.loaded
