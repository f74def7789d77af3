-- What a change makes of the tables, and why one is refused.
use Rattle.std.specs.Prelude.{◌≡◌, ◌⊎◌, true, Some, IfSome, is_some, is_none, not}
use Rattle.std.specs.FinMap.{get}
use Rattle.std.specs.List.{find}
use Rattle.oe_rows.specs.declared.layouts.Layout.{Layout}
use Rattle.oe_requests.specs.declared.refusals.Refusal.{Refusal}
use Rattle.oe_requests.specs.declared.refusals.Refusal.TheVariants.{Reference, NoMemory}
use Rattle.oe_model.specs.Rows.{Rows, row_at}
use Rattle.oe_model.specs.Changes.{Change, UpdateCustomer, key_of, rows_after, Record, record_in}
use Rattle.oe_model.specs.Meets.{Accepts, Cause, is_insert, new_references}
use Rattle.oe_index.specs.Listed.{HasOtherName}
use Rattle.oe_index.specs.Numbers.{list_of_name}
use Rattle.oe_layout.specs.declared.records.OwnRecord.{OwnRecord}
use Rattle.oe_layout.specs.Records.{record_of_own}
use Rattle.oe_store.specs.Names.{SameNames, ListsName}
use Rattle.oe_store.specs.Places.{Places, rows, HasPlace, AddsPlace}

-- the same customers are listed, where an update leaves C_LAST as it is; else the customer is listed under the other
-- one too
abbrev pub GivesName : Change → Places → Places → Type 0
GivesName (UpdateCustomer k x) old new =
    (SameNames old new × IfSome (get (rows old).customers k) (λ c. c.name.last ≡ x.name.last))
    ⊎ ListsName old new (list_of_name k x) k
GivesName _ old new = SameNames old new

-- the tables accept the change, and it is made; `b` is its undo record in the layout
pub record Applies (l : Layout) (c : Change) (old new : Places) (b : Record) : Type 0 where
  pub accepted : Accepts c (rows old)
  pub changes : rows new ≡ rows_after c (rows old)
  pub before : b ≡ record_in l c (row_at (rows old) (key_of c))
  -- each key that had a place has one, and the change's key
  pub places : AddsPlace old new (key_of c)
  pub names : GivesName c old new

-- it has applied the change, with a record as it is kept
abbrev pub HasApplied : Layout → Change → Places → Places → OwnRecord → Type 0
HasApplied l c old new b = Applies l c old new (record_of_own b)

-- an update gives a customer another C_LAST
abbrev pub Renames : Change → Rows → Type 0
Renames (UpdateCustomer k x) r = HasOtherName x.name.last (get r.customers k)
Renames _ r = ⊥

-- a change takes memory: the key of an insert has no place, or customers are to be found by another C_LAST
abbrev pub WantsMemory : Change → Places → Type 0
WantsMemory c s = ((is_insert c ≡ true) × (HasPlace s (key_of c) → ⊥)) ⊎ Renames c (rows s)

-- why a change is refused: the cause is there, or the tables accept it, and it takes memory
abbrev pub Refuses : Change → Places → Refusal → Type 0
Refuses c s NoMemory = Accepts c (rows s) × WantsMemory c s
Refuses c s e = Cause c (rows s) e

-- of several causes the first is named: the change's key comes before what its row refers to, and that in its order
abbrev pub IsFirst : Change → Rows → Refusal → Type 0
IsFirst c r (Reference k) =
    (is_some (row_at r (key_of c)) ≡ not (is_insert c))
    × (find (λ j. is_none (row_at r j)) (new_references c) ≡ Some k)
IsFirst c r _ = Unit {0}
