use Rattle.oe_store.specs.Places.{rows}
use Rattle.oe_file_serial.proofs.WorkFacts.{opened_so}
use Rattle.oe_file_serial.proofs.verdicts.opened_on.Goals as goal

pub returns : goal.returns
returns g c = opened_so g.M.Machine.world (rows c.args.tables) _ c.requires c.open.result c.open.ensures
