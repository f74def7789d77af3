-- What a clause sees of a history and of a caller, and what a call adds.
use Rattle.std.specs.Prelude.{◌≡◌, ℕ, List, [], ◌∷◌, ◌++◌}
use mathlib.Core.List.{IsPrefix}
use Rattle.atomic_table.specs.Seated.{TableId}
use Rattle.oe_history.specs.Views.{calls_by}
use Rattle.oe_history.specs.declared.views.Entry.{Entry}

-- a history: all entries, oldest first, and how many callers there are
pub record TheHistory : Type 0 where
  pub table : TableId
  pub log : List Entry
  pub dealt : ℕ

-- a caller: its number, the history that it has seen, and its own calls there
pub record TheCaller : Type 0 where
  pub table : TableId
  pub by : ℕ
  pub seen : List Entry
  pub mine : List Entry

-- the history with one entry more
abbrev pub with_entry : Entry → TheHistory → TheHistory
with_entry e h = record { table = h.table; log = h.log ++ e ∷ []; dealt = h.dealt }

-- the caller, who has seen all entries, the newest of which is its own
abbrev pub with_call : Entry → List Entry → TheCaller → TheCaller
with_call e log c = record { table = c.table; by = c.by; seen = log ++ e ∷ []; mine = c.mine ++ e ∷ [] }

-- a caller's own calls are the history's entries of its number, and what it has seen is a beginning of the history
abbrev pub Knows : List Entry → TheCaller → Type 0
Knows log c = IsPrefix c.seen log × (calls_by c.by log ≡ c.mine)

-- The entry stands behind all that the caller had seen, with no other call of its own in between; it is the newest of
-- its own calls.
pub record Extends (c : TheCaller) (e : Entry) (c' : TheCaller) : Type 0 where
  pub between : List Entry
  pub seen : c'.seen ≡ (c.seen ++ between) ++ e ∷ []
  pub alone : calls_by c.by between ≡ []
  pub mine : c'.mine ≡ c.mine ++ e ∷ []
  pub by : c'.by ≡ c.by
