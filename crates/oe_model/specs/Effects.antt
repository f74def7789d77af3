-- The words of whole effects and of programs' rows: what may be missing, and what may leave its range.
use Rattle.std.specs.Prelude.{Bool, cond, List, [], ◌∷◌, Option, None, Some}
use Rattle.oe_theory.specs.Machine.{Act, Fail}
use Rattle.oe_requests.specs.declared.replies.Reply.{Reply}
use Rattle.oe_requests.specs.declared.refusals.Column.{Column}
use Rattle.oe_requests.specs.declared.refusals.Refusal.{Refusal}
use Rattle.oe_requests.specs.declared.refusals.Refusal.TheVariants.{Overflow}
use Rattle.oe_model.specs.Changes.{Change}
use Rattle.oe_model.specs.Positions.{Position}

-- a whole effect: the next line where there is a value, and otherwise none
infixl 10 ◌>>=◌
abbrev pub ◌>>=◌ : {A B : Type 0} → Option A → (A → Option B) → Option B
◌>>=◌ None f = None
◌>>=◌ (Some x) f = f x

-- the first of these columns whose value is not in its range
abbrev pub first_out : List (Column × Bool) → Option Column
first_out [] = None
first_out (e ∷ es) = cond e.1 (first_out es) (Some e.0)

-- the row, where no column of it is out of its range
abbrev pub in_range : {A : Type 0} → (A → Option Column) → A → Option A
in_range out x = elim (out x) [ None ↦ Some x | Some c ↦ None ]

-- what a stage of a program does
abbrev pub Doing : Type 0
Doing = Act Change Position Reply Refusal

-- a stage goes on where there is a value, and otherwise fails
abbrev pub with_value : {A : Type 0} → Refusal → Option A → (A → Doing) → Doing
with_value e None f = Fail e
with_value e (Some x) f = f x

-- a stage goes on where no column is out of its range
abbrev pub within : Option Column → Doing → Doing
within None a = a
within (Some c) a = Fail (Overflow c)
