-- The lock that is asked for before a row is read or written, in the words of the theory.
use Rattle.std.specs.Prelude.{Option, None, Some}
use Rattle.oe_theory.specs.Machine.{Ask, Plain, Take, Guard, Free, Under, Own}
use Rattle.oe_theory.specs.Machine as theory
use Rattle.oe_rows.specs.declared.locks.Name.{Name}
use Rattle.oe_requests.specs.declared.refusals.Refusal.{Refusal}
use Rattle.oe_model.specs.Locks.{mode_of, governs}
use Rattle.oe_change.specs.declared.writes.Write.{Write}
use Rattle.oe_change.specs.Writes.{key_written}
use Rattle.oe_locks.specs.declared.asks.Lock.{Lock}

-- the lock that a row asks for, in the words of the theory
abbrev pub ask_of : Option Lock → Ask Name Refusal
ask_of None = Plain
ask_of (Some l) = Take l.name (mode_of l.mode)

-- the lock under which a row is changed, by what governs its key: its name alone
abbrev pub ask_to_write : Guard Name → Ask Name Refusal
ask_to_write (Under n) = Take n theory.Exclusive
ask_to_write (Own t k) = Plain
ask_to_write Free = Plain

-- the lock under which a write is made
abbrev pub ask_of_write : Write → Ask Name Refusal
ask_of_write w = ask_to_write (governs (key_written w))
