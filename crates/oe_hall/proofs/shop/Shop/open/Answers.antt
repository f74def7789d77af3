use Rattle.std.proofs.Common.{ap, ◌∙◌}
use Rattle.oe_theory.specs.World.{World}
use Rattle.oe_theory.specs.Theorems.{world_at_opening}
use Rattle.oe_model.specs.System.{system}
use Rattle.oe_store.specs.Places.{rows}
use Rattle.oe_hall.specs.Naming.{TheNames, names_at_opening}
use Rattle.oe_hall.proofs.OpenFacts.{horizon_opened, layout_opened, newest_opened, open_count_opened}
use Rattle.oe_hall.proofs.shop.Shop.open.Goals as goal

pub over-requires-clause-newest : goal.over-requires-clause-newest
over-requires-clause-newest g c =
    newest_opened _ (rows c.args.tables) c.args.extents c.layout-layout.result c.in_ok-core.ensures

pub over-requires-clause-quiet : goal.over-requires-clause-quiet
over-requires-clause-quiet g c =
    open_count_opened _ (rows c.args.tables) c.args.extents c.layout-layout.result c.in_ok-core.ensures

pub over-requires-clause-horizon : goal.over-requires-clause-horizon
over-requires-clause-horizon g c =
    horizon_opened _ (rows c.args.tables) c.args.extents c.layout-layout.result c.in_ok-core.ensures

pub over-requires-clause-layout : goal.over-requires-clause-layout
over-requires-clause-layout g c =
    layout_opened _ (rows c.args.tables) c.args.extents c.layout-layout.result c.in_ok-core.ensures
    ∙ (c.layout-layout.ensures ∙ ap (λ (n : TheNames). n.layout) c.requires.names)

pub over-requires-clause-names : goal.over-requires-clause-names
over-requires-clause-names g c =
    ap (names_at_opening c.args.seats.names) (c.in_ok-core.ensures
    ∙ ap (world_at_opening system (rows c.args.tables) c.args.extents) c.layout-layout.ensures)
    ∙ c.requires.names

pub over-requires-clause-none : goal.over-requires-clause-none
over-requires-clause-none g c = λ t. ap (λ (w : World system). w.active t) c.in_ok-core.ensures
