-- What a write makes of the tables, and why they refuse it.
use Rattle.std.specs.Option.{IsSomeAnd}
use Rattle.oe_requests.specs.declared.refusals.Refusal.{Refusal}
use Rattle.oe_theory.specs.Next.{record_on}
use Rattle.oe_rows.specs.declared.layouts.Layout.{Layout}
use Rattle.oe_model.specs.Changes.{Change}
use Rattle.oe_model.specs.System.{system}
use Rattle.oe_change.specs.declared.writes.Write.{Write}
use Rattle.oe_change.specs.Writes.{change_of}
use Rattle.oe_store.specs.Places.{Places, rows}
use Rattle.oe_change.specs.Applies.{Applies, Refuses, IsFirst}

-- a change is accepted and made, and its record would be this in each layout
abbrev pub IsApplied : Change → Places → Places → Type 0
IsApplied c old new = (l : Layout) → Applies l c old new (record_on system l c (rows old))

-- why the tables refuse a change; of several causes the first is named
abbrev pub IsRefused : Change → Places → Refusal → Type 0
IsRefused c s e = Refuses c s e × IsFirst c (rows s) e

-- the write is a change of these rows, which is accepted and made
abbrev pub IsMade : Write → Places → Places → Type 0
IsMade w old new = IsSomeAnd (change_of w (rows old)) (λ c. IsApplied c old new)

-- why the tables refuse the change that a write is
abbrev pub RefusesWrite : Write → Places → Refusal → Type 0
RefusesWrite w s e = IsSomeAnd (change_of w (rows s)) (λ c. IsRefused c s e)
