-- What a write makes of the tables and the undo log, and why one is refused.
use Rattle.std.specs.Prelude.{◌≡◌, ℕ, ◌∷◌, length, None, IsSome, is_some}
use Rattle.std.specs.Option.{IsSomeAnd}
use Rattle.oe_requests.specs.declared.refusals.Refusal.{Refusal}
use Rattle.oe_requests.specs.declared.refusals.Refusal.TheVariants.{NoSuchRow, UndoFull}
use Rattle.oe_theory.specs.Next.{record_on}
use Rattle.oe_model.specs.Rows.{Rows}
use Rattle.oe_model.specs.Changes.{Change, Record, record_key}
use Rattle.oe_model.specs.Lengths.{record_length}
use Rattle.oe_model.specs.System.{system}
use Rattle.oe_change.specs.declared.writes.Write.{Write}
use Rattle.oe_change.specs.Writes.{key_written, change_of}
use Rattle.oe_layout.specs.declared.links.Previous.{Previous}
use Rattle.oe_store.specs.Places.{Places, rows, HasPlace}
use Rattle.oe_change.specs.Applies.{Applies}
use Rattle.oe_log.specs.Log.{IsFull, SegmentLog, active_at}
use Rattle.oe_log.specs.Stands.{undo_of}
use Rattle.oe_log.specs.Laws.{StandsWith}
use Rattle.oe_undo.specs.declared.holders.Holder.TheVariants.{Open}
use Rattle.oe_undo.specs.Chains.{link_from}
use Rattle.oe_undo.specs.Undo.{UndoState, link_seen, HasPushed}
use Rattle.oe_writes.specs.Records.{record_of_write}
use Rattle.oe_writes.specs.Made.{RefusesWrite}
use Rattle.oe_journal.specs.declared.writes.NotPushed.{NotPushed}
use Rattle.oe_journal.specs.declared.writes.NotPushed.TheVariants as pushes

-- a terminal's open segment has this record more, with its key's link, which leads to it then
pub record HasMore (b : Record) (u u' : UndoState) (t : ℕ) : Type 0 where
  pub previous : Previous
  pub leads : link_from (Open t) previous ≡ link_seen u (record_key b)
  pub pushed : HasPushed u u' t previous b

-- a terminal's open segment has the write's record more
abbrev pub HasWritten : Write → Rows → UndoState → UndoState → ℕ → Type 0
HasWritten w r u u' t = IsSomeAnd (record_of_write u.log.layout w r) (λ b. HasMore b u u' t)

-- a change was accepted and made, with its record in the log; nothing else has changed there
pub record IsRecorded (c : Change) (old new : Places) (u u' : UndoState) (t : ℕ) : Type 0 where
  pub applies : Applies u.log.layout c old new (record_on system u.log.layout c (rows old))
  pub has_more : HasMore (record_on system u.log.layout c (rows old)) u u' t
  -- in the theory's words
  pub stands : StandsWith u'.log u.log t (record_on system u.log.layout c (rows old) ∷ (undo_of u.log).active t)
  pub is_open : (x : ℕ) → is_some (active_at u'.log x) ≡ is_some (active_at u.log x)
  pub size : length u'.log.terminals ≡ length u.log.terminals
  pub extents : u'.log.extents ≡ u.log.extents
  pub layout : u'.log.layout ≡ u.log.layout

-- the change that the write is of these rows has been recorded so
abbrev pub HasRecorded : Write → Places → Places → UndoState → UndoState → ℕ → Type 0
HasRecorded w old new u u' t = IsSomeAnd (change_of w (rows old)) (λ c. IsRecorded c old new u u' t)

-- the write's record fits the rest of the terminal's newest extent, or an extent is free
abbrev pub HasRoomFor : Write → Rows → SegmentLog → ℕ → Type 0
HasRoomFor w r u t = IsSomeAnd (record_of_write u.layout w r) (λ b. IsFull u t (record_length b) → ⊥)

-- the write's record fits neither there nor in a free extent
abbrev pub IsFullForWrite : Write → Rows → SegmentLog → ℕ → Type 0
IsFullForWrite w r u t = IsSomeAnd (record_of_write u.layout w r) (λ b. IsFull u t (record_length b))

-- why its record is not pushed
abbrev pub IsNotPushed : Write → Places → SegmentLog → ℕ → NotPushed → Type 0
IsNotPushed w s u t pushes.Absent = change_of w (rows s) ≡ None
IsNotPushed w s u t pushes.Full = IsFullForWrite w (rows s) u t
IsNotPushed w s u t pushes.Unplaced =
    IsSome (change_of w (rows s)) × HasRoomFor w (rows s) u t × (HasPlace s (key_written w) → ⊥)

-- why a write is refused, by its first cause
pub data CantWrite (w : Write) (s : Places) (u : SegmentLog) (t : ℕ) : Refusal → Type 0 where
  -- the row to be updated is absent
  Absent : change_of w (rows s) ≡ None → CantWrite w s u t (NoSuchRow (key_written w))
  -- the record has no room
  Full : IsFullForWrite w (rows s) u t → CantWrite w s u t UndoFull
  -- it has, and the tables refuse the change: they never say `UndoFull`
  Refused : (e : Refusal) → HasRoomFor w (rows s) u t → RefusesWrite w s e → CantWrite w s u t e
