use Rattle.oe_file_loading.specs.Loading.{nine_of}
use Rattle.oe_store.specs.Places.{rows}
use Rattle.oe_origin.proofs.TerminalFacts.{whole_zero}
use Rattle.oe_origin.proofs.populations.load_population.Goals as goal

pub population-requires : goal.population-requires
population-requires g c =
    whole_zero c.args.format (nine_of g.S.Intake.source c.args.sources.now)
    (nine_of g.S.Intake.source c.load_whole.new.sources) (rows c.in-Ok.tables) c.in-Ok.ensures
