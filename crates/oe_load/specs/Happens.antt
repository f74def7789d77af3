-- What happens at the lines of a load.
use Rattle.std.specs.Prelude.{◌≡◌, ℕ, cond, Option, None, Some}
use Rattle.oe_theory.specs.Machine.{Hold}
use Rattle.oe_theory.specs.World.{World}
use Rattle.oe_theory.specs.Next.{Next, Answer, Advance, Aborted, More, Committed, Busy}
use Rattle.oe_rows.specs.declared.locks.Name.{Name}
use Rattle.oe_rows.specs.declared.locks.Mode.{Mode}
use Rattle.oe_requests.specs.declared.requests.Request.{Request}
use Rattle.oe_requests.specs.declared.requests.Query.{Query}
use Rattle.oe_model.specs.Locks.{mode_of}
use Rattle.oe_model.specs.System.{system}
use Rattle.oe_machine.specs.Asks.{wanted_by}
use Rattle.oe_waits.specs.Waits.{waits_through}
use Rattle.oe_lines.specs.declared.commands.Command.{Command}
use Rattle.oe_lines.specs.declared.commands.Command.TheVariants as command
use Rattle.oe_lines.specs.declared.commands.MomentChoice.TheVariants as moment
use Rattle.oe_busy.specs.declared.happenings.Happening.{Happening}
use Rattle.oe_busy.specs.declared.happenings.Happening.TheVariants as happening

-- an advance that is answered so was carried out, with the lock that it asks for
abbrev pub IsPassed : Answer system → Type 0
IsPassed More = Unit {0}
IsPassed (Committed m y) = Unit {0}
IsPassed (Aborted e) = Unit {0}
IsPassed _ = ⊥

-- what happens where it asked for this lock, or for none
abbrev pub IsPassing : ℕ → Option (Hold Name) → Happening → Type 0
IsPassing t None h = h ≡ happening.Went t
IsPassing t (Some l) h = (m : Mode) × (l.mode ≡ mode_of m) × (h ≡ happening.Took t l.name m)

-- the lock that a terminal asks for that waits for itself through others
abbrev pub wanted_in_cycle : World system → ℕ → Option (Hold Name)
wanted_in_cycle w t = cond (waits_through w t t) (wanted_by w t) None

-- what happens where a terminal is rolled back that is in a cycle and asks for this lock, or is in none
abbrev pub IsBreaking : ℕ → Option (Hold Name) → Happening → Type 0
IsBreaking t None h = h ≡ happening.GaveWay t
IsBreaking t (Some l) h = h ≡ happening.Broke t l.name

-- What happens at a line in a world, which leaves the next one.
pub data Happens (w : World system) : Command → World system → Happening → Type 0 where
  begins : (t : ℕ) (q : Request) (v : World system) → Happens w (command.Begin t q) v happening.Begun
  reads : (q : Query) (v : World system) → Happens w (command.Read moment.Now q) v happening.Done
  purges : (v : World system) → Happens w (command.Purge moment.Now) v happening.Done
  passes : (t : ℕ) (a : Answer system) (v : World system) (h : Happening) → Next system w (Advance t) a v → IsPassed a
      → IsPassing t (wanted_by w t) h → Happens w (command.Next t) v h
  meets : (t : ℕ) (n : Name) (u : ℕ) (v : World system) → Next system w (Advance t) (Busy n u) v
      → Happens w (command.Next t) v (happening.Waits t n u)
  breaks : (t : ℕ) (v : World system) (h : Happening) → IsBreaking t (wanted_in_cycle w t) h
      → Happens w (command.Rollback t) v h
