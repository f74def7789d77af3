use Rattle.std.proofs.Common.{ap}
use Rattle.oe_engine.specs.View.{View}
use Rattle.oe_core.proofs.OpenFacts.{orderly_opened, world_opened}
use Rattle.oe_core.proofs.cores.Core.open.Goals as goal

pub close-requires : goal.close-requires
close-requires c = λ t. ap (λ (v : View). v.is_open t) c.in_ok-engine.ensures.view

pub invariant_of-result : goal.invariant_of-result
invariant_of-result c = orderly_opened _ _ _ _ _ _ c.in-Ok.ensures.txs c.in-Ok.ensures.works c.requires
    c.in_ok-engine.ensures.view

pub returns : goal.returns
returns c = world_opened _ _ _ _ _ _ c.in-Ok.ensures.txs c.requires c.in_ok-engine.ensures.view
