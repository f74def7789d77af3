-- The undo log beside the links of keys to their newest records, and what each call makes of the two.
use Rattle.std.specs.Prelude.{◌≡◌, ℕ, cond, List, [], ◌∷◌, Option, None, Some, IsSome}
use Rattle.oe_rows.specs.declared.keys.Key.{Key}
use Rattle.oe_model.specs.Changes.{Record, record_key}
use Rattle.oe_model.specs.Lengths.{record_length}
use Rattle.oe_extent.specs.declared.extents.Address.{Address}
use Rattle.oe_layout.specs.declared.links.Previous.{Previous}
use Rattle.oe_layout.specs.declared.loans.LinkedRecord.{LinkedRecord}
use Rattle.oe_layout.specs.Records.{record_of_lent, IsOfLayout}
use Rattle.oe_log.specs.Records.{Logged, log_entry}
use Rattle.oe_log.specs.Log.{IsFull, IsFresh, SegmentLog, active_at, with_record}
use Rattle.oe_undo.specs.declared.holders.Link.{Link}
use Rattle.oe_undo.specs.declared.holders.Holder.TheVariants.{Open}
use Rattle.oe_undo.specs.Held.{horizon, is_later}
use Rattle.oe_undo.specs.Chains.{link_from, IsAlone}
use Rattle.oe_undo.specs.declared.links.OwnedLink.{OwnedLink}
use Rattle.oe_undo.specs.Links.{LinkMaps, place_of, links_of, SetsLink, LeadsTo}
use Rattle.oe_undo.specs.Owners.{link_by_now, next_owner}
use Rattle.oe_undo.specs.declared.pushes.CantPush.{CantPush}
use Rattle.oe_undo.specs.declared.pushes.CantPush.TheVariants as cant_push

-- all that is stored
pub record UndoState : Type 0 where
  pub log : SegmentLog
  pub links : LinkMaps

-- the link of a key, by what became of its transaction; none where the key has no record
abbrev pub link_seen : UndoState → Key → Option Link
link_seen s k = link_by_now s.log (links_of s.links k)

-- ---- a record that is pushed

-- the record that is lent to a push
abbrev pub lent_record : LinkedRecord → Record
lent_record l = record_of_lent l.record

-- the terminal has a segment open
abbrev pub IsOpen : UndoState → ℕ → Type 0
IsOpen u t = IsSome (active_at u.log t)

-- no other open transaction has a record of the same row
abbrev pub IsAloneAtRow : UndoState → ℕ → Record → Type 0
IsAloneAtRow u t b = IsAlone u.log t (record_key b)

-- the record is of the log's layout
abbrev pub HasLayout : UndoState → Record → Type 0
HasLayout u b = IsOfLayout u.log.layout b

-- a record with this as previous leads where the link of its key does: to the newest record of its row, if it has one
abbrev pub LeadsBack : UndoState → ℕ → Previous → Record → Type 0
LeadsBack u t p b = link_from (Open t) p ≡ link_seen u (record_key b)

-- the record fits the rest of the segment's newest extent, or a free extent
abbrev pub HasRoom : UndoState → ℕ → Record → Type 0
HasRoom u t b = IsFull u.log t (record_length b) → ⊥

-- the key of the record has no place for a link
abbrev pub HasNoPlace : UndoState → Record → Type 0
HasNoPlace u b = place_of u.links (record_key b) ≡ None

-- a terminal's open segment has this record more, at an address where no other is, and the record's key has a link to
-- it
pub record HasPushed (old new : UndoState) (t : ℕ) (p : Previous) (b : Record) : Type 0 where
  pub address : Address
  pub fresh : IsFresh old.log address
  pub log : new.log ≡ with_record old.log t (log_entry address p b)
  pub link : LeadsTo old.links new.links (record_key b)
      (Some (record { address = address; owner = next_owner old.log t }))

-- why a record is not pushed: it has no room; or it has, and memory was refused for the place of its key's link
abbrev pub IsUnpushed : UndoState → ℕ → Record → CantPush → Type 0
IsUnpushed s t b cant_push.Full = IsFull s.log t (record_length b)
IsUnpushed s t b cant_push.NoMemory = HasRoom s t b × HasNoPlace s b

-- ---- a record that is taken off

-- the link, or none where its commit was given up at the horizon
abbrev pub link_above : ℕ → Option Link → Option Link
link_above h None = None
link_above h (Some l) = cond (is_later h l.holder) (Some l) None

-- the key's link leads to where the previous one of a record did that was taken off
pub record IsGivenBack (old new : UndoState) (t : ℕ) (r : Logged) : Type 0 where
  pub link : Option OwnedLink
  pub set : SetsLink old.links new.links (record_key r.before) link
  pub leads : link_by_now new.log link ≡ link_above (horizon new.log) (link_from (Open t) r.previous)

-- the newest of these records is taken off, and its key's link given back
abbrev pub GivesBack : UndoState → UndoState → ℕ → List Logged → Type 0
GivesBack old new t [] = new.links ≡ old.links
GivesBack old new t (r ∷ rs) = IsGivenBack old new t r
