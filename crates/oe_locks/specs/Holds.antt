-- A lock that a stage asks for, in the words of the theory.
use Rattle.std.specs.Prelude.{Option, None, Some}
use Rattle.oe_theory.specs.Machine.{Ask, Stop, Plain, Take, Hold}
use Rattle.oe_requests.specs.declared.refusals.Refusal.{Refusal}
use Rattle.oe_model.specs.Locks.{mode_of, hold}
use Rattle.oe_model.specs.System.{system}
use Rattle.oe_locks.specs.declared.asks.Lock.{Lock}

-- the lock that a stage asks for, where it asks for one
abbrev pub lock_asked : Ask (system.Name) Refusal → Option (Hold (system.Name))
lock_asked (Stop e) = None
lock_asked Plain = None
lock_asked (Take n m) = Some (hold n m)

abbrev pub hold_of : Lock → Hold (system.Name)
hold_of l = hold l.name (mode_of l.mode)
