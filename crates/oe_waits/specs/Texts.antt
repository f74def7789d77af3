-- The lines of `waits` and of `locks`: which transactions wait, and which names they hold.
use Rattle.std.specs.Prelude.{ℕ, zero, suc, cond, List, [], ◌∷◌, ◌++◌, codes, decimal, Option, None, Some}
use Rattle.std.specs.List.{flat_map}
use Rattle.oe_theory.specs.Machine as theory
use Rattle.oe_theory.specs.Machine.{Hold}
use Rattle.oe_theory.specs.World.{World}
use Rattle.oe_rows.specs.declared.locks.Name.{Name}
use Rattle.oe_model.specs.System.{system}
use Rattle.oe_texts.specs.Dump.{count_line}
use Rattle.oe_texts.specs.Key.{name_text}
use Rattle.oe_machine.specs.Asks.{held_by, wanted_by}
use Rattle.oe_waits.specs.Knots.{count_to}
use Rattle.oe_waits.specs.Names.{held_count, held_names}
use Rattle.oe_waits.specs.Waits.{waits_for, last_terminal, waits, wait_in_cycle, is_least_in_cycle}

-- the texts of the numbers 1 to n, one behind the other
abbrev pub texts_to : (ℕ → List ℕ) → ℕ → List ℕ
texts_to f zero = []
texts_to f (suc n) = texts_to f n ++ f (suc n)

abbrev pub mode_text : theory.Mode → List ℕ
mode_text theory.Shared = codes "S"
mode_text theory.Exclusive = codes "X"

-- `Customer(1,4,2) X`
abbrev pub lock_text : Option (Hold Name) → List ℕ
lock_text None = []
lock_text (Some h) = name_text h.name ++ codes " " ++ mode_text h.mode

-- a terminal behind a blank, where it is to be named
abbrev pub terminal_text : ℕ → List ℕ
terminal_text t = codes " " ++ decimal t

-- `5 waits Customer(1,4,2) X for 3 7`, with all that it waits for
abbrev pub waiting_text : World system → ℕ → List ℕ
waiting_text w t =
    decimal t ++ codes " waits " ++ lock_text (wanted_by w t) ++ codes " for"
    ++ texts_to (λ u. cond (waits_for w t u) (terminal_text u) []) last_terminal ++ codes "\n"

-- `cycle 3 5`, with all that wait for one another
abbrev pub cycle_text : World system → ℕ → List ℕ
cycle_text w t =
    codes "cycle" ++ texts_to (λ u. cond (wait_in_cycle w t u) (terminal_text u) []) last_terminal ++ codes "\n"

-- a line of each terminal that waits, and of each that is the least in its cycle
abbrev pub waiting_line : World system → ℕ → List ℕ
waiting_line w t = cond (waits w t) (waiting_text w t) []

abbrev pub cycle_line : World system → ℕ → List ℕ
cycle_line w t = cond (is_least_in_cycle w t) (cycle_text w t) []

abbrev pub or_no_cycle : List ℕ → List ℕ
or_no_cycle [] = codes "no cycle\n"
or_no_cycle (b ∷ bs) = b ∷ bs

-- the terminals that wait, the cycles or that there is none, and how many wait
abbrev pub waits_text : World system → List ℕ
waits_text w =
    texts_to (waiting_line w) last_terminal ++ or_no_cycle (texts_to (cycle_line w) last_terminal)
    ++ count_line (count_to (waits w) last_terminal)

-- `3 Warehouse(1) S`, of a name in the mode in which the terminal holds it
abbrev pub held_text : ℕ → Name → Option theory.Mode → List ℕ
held_text t n None = []
held_text t n (Some m) = decimal t ++ codes " " ++ name_text n ++ codes " " ++ mode_text m ++ codes "\n"

abbrev pub held_line : World system → ℕ → Name → List ℕ
held_line w t n = held_text t n (held_by w t n)

-- a line of each name that the terminal holds
abbrev pub held_lines : World system → ℕ → List ℕ
held_lines w t = flat_map (held_line w t) (held_names w t)

-- the names that the terminals hold, from the lowest terminal on, and how many there are
abbrev pub locks_text : World system → List ℕ
locks_text w = texts_to (held_lines w) last_terminal ++ count_line (held_count w last_terminal)
