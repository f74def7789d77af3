use Rattle.oe_theory.specs.Theorems.{world_at_opening}
use Rattle.oe_model.specs.System.{system}
use Rattle.oe_store.specs.Places.{rows}
use Rattle.oe_hall.specs.Naming.{names_at_opening}
use Rattle.oe_hall_tests.proofs.days.a_day_in_a_shop.Given as goal

abbrev pub ghosts-opened_for : goal.ghosts-opened_for
ghosts-opened_for g a =
    record {
      names = names_at_opening a.seats.names
          (world_at_opening system (rows a.tables) a.extents a.seats.names.layout);
    }
