-- What the open transactions of a world hold, and what they ask for next.
use Rattle.std.specs.Prelude.{ℕ, Option, None, Some}
use Rattle.oe_theory.specs.Machine as theory
use Rattle.oe_theory.specs.Machine.{Hold}
use Rattle.oe_theory.specs.World.{World, Open, tx_of, tables}
use Rattle.oe_rows.specs.declared.locks.Name.{Name}
use Rattle.oe_model.specs.System.{system, ask}
use Rattle.oe_locks.specs.Holds.{lock_asked}

-- the lock that the next stage of a terminal's transaction asks for; none where it asks for none, and where nothing is
-- open
abbrev pub wanted_of : World system → ℕ → Option (Open system) → Option (Hold Name)
wanted_of w t None = None
wanted_of w t (Some o) = lock_asked (ask (tx_of system t o) o.now.position (tables system w))

abbrev pub wanted_by : World system → ℕ → Option (Hold Name)
wanted_by w t = wanted_of w t (w.active t)

-- the mode in which a terminal's transaction holds a name
abbrev pub held_of : Option (Open system) → Name → Option theory.Mode
held_of None n = None
held_of (Some o) n = o.held n

abbrev pub held_by : World system → ℕ → Name → Option theory.Mode
held_by w t n = held_of (w.active t) n
