-- What a key's records leave of a row, as they are put back one after another on the way to a moment.
use Rattle.std.specs.Prelude.{ℕ, Bool, true, false, cond, List, [], ◌∷◌, Option}
use Rattle.oe_rows.specs.declared.rows.Row.{Row}
use Rattle.oe_model.specs.Changes.{Record, restore}
use Rattle.oe_undo.specs.Held.{Held, is_later}

-- the records of later holders, in the order of the list
abbrev pub later_of : ℕ → List Held → List Record
later_of m [] = []
later_of m (r ∷ rs) = cond (is_later m r.holder) (r.logged.before ∷ later_of m rs) (later_of m rs)

-- one of the records is of a later holder
abbrev pub has_later : ℕ → List Held → Bool
has_later m [] = false
has_later m (r ∷ rs) = cond (is_later m r.holder) true (has_later m rs)

-- the row before the changes of these records, the newest first, by the row that stands
abbrev pub row_before : List Record → Option Row → Option Row
row_before [] now = now
row_before (b ∷ bs) now = row_before bs (restore b now)
