-- Whose turn it is in a script: a function of what is open, of what was served, of whom the answers `Busy` have named,
-- and of a number that is drawn.
use Rattle.std.specs.Prelude.{ℕ, zero, suc, ◌||◌, ◌&&◌, ◌==◌, Bool, if◌then◌else◌, nat_lt, is_some, is_none}
use Rattle.std.specs.Prelude.{List, get_or, Result, Ok, Err}
use Rattle.std.specs.Prelude.{Option, None, Some, option_map, option_and_then, unwrap_or}
use Rattle.oe_theory.specs.World.{World}
use Rattle.oe_model.specs.System.{system}
use Rattle.oe_waits.specs.Waits.{waits_for, last_terminal}
use Rattle.oe_busy.specs.declared.happenings.Happening.{Happening}
use Rattle.oe_busy.specs.declared.happenings.Happening.TheVariants as happening
use Rattle.oe_terms.specs.declared.plans.Plan.{Plan}
use Rattle.oe_load.specs.Flats.{first_behind}
use Rattle.oe_load.specs.declared.picks.Pick.{Pick}
use Rattle.oe_load.specs.declared.picks.Pick.TheVariants as pick

-- whom each terminal's last answer named, where that was `Busy`, in a list with a place for each number
abbrev pub holders_of : List (Option ℕ) → ℕ → Option ℕ
holders_of list t = get_or list t None

-- nobody was named yet
abbrev pub none_named : ℕ → Option ℕ
none_named t = None

-- whom an answer names, where it is `Busy`
abbrev pub named_by : Happening → Option ℕ
named_by happening.Begun = None
named_by happening.Done = None
named_by (happening.Went t) = None
named_by (happening.Took t n m) = None
named_by (happening.Waits t n u) = Some u
named_by (happening.Broke t n) = None
named_by (happening.GaveWay t) = None

-- the same, where a line was told
abbrev pub named_in : {E : Type 0} → Result Happening E → Option ℕ
named_in (Ok h) = named_by h
named_in (Err e) = None

-- the terminal that t was answered `Busy` for, where it still holds what t asks for
abbrev pub holder_of : World system → (ℕ → Option ℕ) → ℕ → Option ℕ
holder_of w named t = option_and_then (λ u. if waits_for w t u then Some u else None) (named t)

-- Where the waits lead from u, n of them at most: to t where they come to it, or else to where they end.
abbrev pub waits_end : World system → (ℕ → Option ℕ) → ℕ → ℕ → ℕ → ℕ
waits_end w named t zero u = u
waits_end w named t (suc n) u =
    unwrap_or (option_map (λ v. if v == t then v else waits_end w named t n v) (holder_of w named u)) u

-- from t: to t itself where it is in a cycle
abbrev pub end_of_waits : World system → (ℕ → Option ℕ) → ℕ → ℕ
end_of_waits w named t = waits_end w named t last_terminal t

-- t waits for itself, through others
abbrev pub is_in_cycle : World system → (ℕ → Option ℕ) → ℕ → Bool
is_in_cycle w named t = is_some (holder_of w named t) && (end_of_waits w named t == t)

-- t has a transaction open, or requests that were not asked for
abbrev pub is_left : Plan → World system → (ℕ → ℕ) → ℕ → Bool
is_left p w served t = is_some (w.active t) || nat_lt (served t) p.numbers.requests

-- and it does not wait
abbrev pub is_able : Plan → World system → (ℕ → ℕ) → (ℕ → Option ℕ) → ℕ → Bool
is_able p w served named t = is_left p w served t && is_none (holder_of w named t)

-- the first of n numbers behind this one that passes the test
abbrev pub first_after : (ℕ → Bool) → ℕ → ℕ → Option ℕ
first_after f before zero = None
first_after f before (suc n) = if f (suc before) then Some (suc before) else first_after f (suc before) n

-- the first terminal that has a transaction open
abbrev pub first_open : World system → Option ℕ
first_open w = first_after (λ t. is_some (w.active t)) 0 last_terminal

-- Of the first terminal that is able, from a drawn one on, and of the first that has a transaction open: the able one
-- takes its turn; where none is, the waits of the other lead to one that gives way.
abbrev pub pick_among : World system → (ℕ → Option ℕ) → ℕ → Option ℕ → Option ℕ → Pick
pick_among w named drawn (Some able) o = pick.Turn able
pick_among w named drawn None (Some t) = pick.GiveWay (end_of_waits w named t)
pick_among w named drawn None None = pick.Turn drawn

-- Whose turn it is, where this terminal is drawn: in a cycle it gives way.
abbrev pub pick_of : Plan → World system → (ℕ → ℕ) → (ℕ → Option ℕ) → ℕ → Pick
pick_of p w served named drawn =
    if is_in_cycle w named drawn then pick.GiveWay drawn
    else pick_among w named drawn (first_behind p (is_able p w served named) drawn 0 p.numbers.terminals) (first_open w)

-- the terminal whose turn that is
abbrev pub terminal_of : Pick → ℕ
terminal_of (pick.Turn t) = t
terminal_of (pick.GiveWay t) = t
