use Rattle.oe_script.proofs.LineFacts.{opened_live}
use Rattle.oe_store.specs.Places.{rows}
use Rattle.oe_from.proofs.scripts.run_on.Goals as goal

pub run_opened_script-requires : goal.run_opened_script-requires
run_opened_script-requires g c =
    opened_live (rows c.args.tables) c.args.extents c.args.layout c.requires (g.M.Machine.world c.in-Ok.core)
    c.in-Ok.ensures
