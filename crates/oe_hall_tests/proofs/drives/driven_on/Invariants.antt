use Rattle.oe_theory.specs.Theorems.{world_at_opening}
use Rattle.oe_model.specs.System.{system}
use Rattle.oe_store.specs.Places.{rows}
use Rattle.oe_hall.specs.Naming.{names_at_opening}
use Rattle.oe_hall_tests.proofs.drives.driven_on.Given as goal

abbrev pub ghosts-driven : goal.ghosts-driven
ghosts-driven g a =
    record {
      names = names_at_opening a.seats.names
          (world_at_opening system (rows a.tables) a.extents a.seats.names.layout);
    }
