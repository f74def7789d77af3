use Rattle.std.proofs.Common.{◌≤◌, ◌<◌, rules}
use Rattle.oe_theory.specs.World.{horizon, newest}
use Rattle.oe_model.specs.System.{system}
use Rattle.oe_load.specs.declared.picks.Pick.TheVariants as pick
use Rattle.oe_load.specs.Scripts.{purges, makes_room}
use Rattle.oe_load.proofs.turns.make_way.Goals as goal

pub returns-then-lt : goal.returns-then-lt
returns-then-lt g c = λ full.
    let w = g.M.Machine.world c.args.core.now in
    let more : horizon system w < newest system w =
    search rules in
    c.purge.ensures (pick.Turn c.args.terminal) (purges c.args.terminal full more)

pub returns-then-open_count-gt1 : goal.returns-then-open_count-gt1
returns-then-open_count-gt1 g c = λ full.
    let w = g.M.Machine.world c.args.core.now in
    let none : newest system w ≤ horizon system w =
    search rules in
    c.give_way.ensures (pick.Turn c.args.terminal) (makes_room c.args.terminal full none)
