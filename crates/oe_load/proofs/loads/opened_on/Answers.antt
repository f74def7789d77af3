use Rattle.std.proofs.Common.{refl}
use Rattle.oe_store.specs.Places.{rows}
use Rattle.oe_load.specs.declared.origins.Origin.TheVariants as origin
use Rattle.oe_load.proofs.LoadFacts.{script_opened}
use Rattle.oe_load.proofs.loads.opened_on.Goals as goal

pub returns : goal.returns
returns g c = script_opened g.M.Machine.world c.args.plan.now (origin.Tables c.args.tables) (rows c.args.tables) refl
    c.open.result c.open.ensures
