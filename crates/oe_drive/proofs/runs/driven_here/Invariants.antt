use Rattle.oe_theory.specs.Theorems.{world_at_opening}
use Rattle.oe_model.specs.System.{system}
use Rattle.oe_store.specs.Places.{rows}
use Rattle.oe_hall.specs.Naming.{names_at_opening}
use Rattle.oe_drive.proofs.runs.driven_here.Given as goal

-- the shop of the drive, which opens on its population
abbrev pub ghosts-driven : goal.ghosts-driven
ghosts-driven g a =
    record {
      names = names_at_opening a.seats.names
          (world_at_opening system (rows a.tables) a.numbers.now.extents a.seats.names.layout);
    }
