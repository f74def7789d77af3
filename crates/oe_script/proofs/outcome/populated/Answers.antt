use Rattle.oe_store.specs.Places.{rows}
use Rattle.oe_lines.specs.Rings.{layout_of}
use Rattle.oe_model.proofs.PopulationFacts.{population_is_one}
use Rattle.oe_script.proofs.OpenFacts.{on_population}
use Rattle.oe_script.proofs.outcome.populated.Goals as goal

pub open-requires : goal.open-requires
open-requires g c =
    population_is_one.is_population c.args.scale (rows c.in-Ok.tables) c.requires.0 c.in-Ok.ensures

pub returns-in-Ok : goal.returns-in-Ok
returns-in-Ok g c =
    on_population g.M.Machine.world c.args.scale (rows c.in-Ok.tables) c.args.ring.extents
    c.layout_or_whole_rows.result (layout_of c.args.ring) c.layout_or_whole_rows.ensures c.in-Ok.ensures c.open.result
    c.open.ensures
