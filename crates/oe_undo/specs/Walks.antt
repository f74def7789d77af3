-- A walk from a key's link on: each record is read at its address in the segment of its holder, and tells the next
-- link.
use Rattle.std.specs.Prelude.{◌≡◌, ◌-◌, ℕ, suc, Bool, true, false, List, [], get_or, Option, None, Some}
use Rattle.oe_rows.specs.declared.rows.Row.{Row}
use Rattle.oe_model.specs.Changes.{Record, restore}
use Rattle.oe_extent.specs.declared.extents.Address.{Address}
use Rattle.oe_layout.specs.declared.links.Previous.{Previous}
use Rattle.oe_log.specs.Records.{Logged, log_entry, IsAmong}
use Rattle.oe_log.specs.Log.{SegmentLog, records_at, committed_records, total_count}
use Rattle.oe_undo.specs.declared.holders.Link.{Link}
use Rattle.oe_undo.specs.declared.holders.Holder.{Holder}
use Rattle.oe_undo.specs.declared.holders.Holder.TheVariants.{Open, At}
use Rattle.oe_undo.specs.Held.{is_later}
use Rattle.oe_undo.specs.Chains.{link_from}

-- the records of a holder's segment
abbrev pub records_by : SegmentLog → Holder → List Logged
records_by u (Open t) = records_at u t
records_by u (At m) = get_or (committed_records u) (total_count u - m) []

-- the link leads to a record that is later than the moment
abbrev pub leads_later : ℕ → Option Link → Bool
leads_later m None = false
leads_later m (Some l) = is_later m l.holder

-- From this link on, a walk reads this number of records, and puts each back: it is left `past` of the row `now`.
pub data Walks (u : SegmentLog) (m : ℕ) : Option Link → Option Row → ℕ → Option Row → Type 0 where
  Ends : (l : Option Link) (now : Option Row) → leads_later m l ≡ false → Walks u m l now 0 now
  Reads : (a : Address) (h : Holder) (p : Previous) (b : Record) (now : Option Row) (n : ℕ) (past : Option Row)
      → is_later m h ≡ true → IsAmong (log_entry a p b) (records_by u h)
      → Walks u m (link_from h p) (restore b now) n past
      → Walks u m (Some (record { address = a; holder = h })) now (suc n) past
