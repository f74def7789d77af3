-- Where keys lead after records were put back, and the law of a write that is taken back.
use Rattle.std.specs.Prelude.{◌≡◌, ◌⊎◌, ℕ, ◌≤◌, List, [], ◌∷◌, length, take, drop, Option, IsSome}
use Rattle.oe_rows.specs.declared.keys.Key.{Key}
use Rattle.oe_rows.specs.declared.keys.DistrictKey.{DistrictKey}
use Rattle.oe_rows.specs.declared.keys.CustomerKey.{CustomerKey}
use Rattle.oe_model.specs.Changes.{record_key}
use Rattle.oe_model.specs.Choice.{namesakes}
use Rattle.oe_model.specs.Delivery.{oldest}
use Rattle.oe_model.specs.Meets.{Meets}
use Rattle.oe_model.specs.Queries.{orders_of}
use Rattle.oe_store.specs.Places.{Places, rows, HasPlace, SamePlaces}
use Rattle.oe_change.specs.declared.writes.Write.{Write}
use Rattle.oe_change.specs.Writes.{key_written}
use Rattle.oe_log.specs.Records.{Logged}
use Rattle.oe_log.specs.Log.{SegmentLog, active_at, records_at, with_records}
use Rattle.oe_log.specs.Stands.{undo_of}
use Rattle.oe_undo.specs.declared.holders.Link.{Link}
use Rattle.oe_undo.specs.declared.holders.Holder.TheVariants.{Open}
use Rattle.oe_undo.specs.Held.{horizon}
use Rattle.oe_undo.specs.Chains.{link_from, with_link}
use Rattle.oe_undo.specs.Laws.{IsWhole}
use Rattle.oe_undo.specs.Undo.{UndoState, link_seen, link_above}
use Rattle.oe_journal.specs.GoesBack.{CanUnwind, HavePlaces}
use Rattle.oe_journal.specs.Linked.{SameLinks}
use Rattle.oe_journal.specs.Named.{AreExact}
use Rattle.oe_journal.specs.Unwinds.{TakesBack}
use Rattle.oe_journal.specs.Recorded.{HasRecorded}

-- Where the keys lead once these records of a terminal's open segment, the newest first, are taken off: each gives its
-- key the link back that led to the record before, or none where that record's commit was given up
abbrev pub links_behind : ℕ → ℕ → List Logged → (Key → Option Link) → Key → Option Link
links_behind h t [] links = links
links_behind h t (r ∷ rs) links = links_behind h t rs
    (with_link links (record_key r.before) (link_above h (link_from (Open t) r.previous)))

-- the links lead so after the `count` newest records were put back
abbrev pub LeadBack : UndoState → UndoState → ℕ → ℕ → Type 0
LeadBack old new t count = (k : Key) → link_seen new k
    ≡ links_behind (horizon old.log) t (take count (records_at old.log t))
    (link_seen old) k

-- the newest record of the terminal can be put back
pub record MayTakeBack (ts : Places) (u : SegmentLog) (t : ℕ) : Type 0 where
  pub is_open : IsSome (active_at u t)
  pub enough : 1 ≤ length (records_at u t)
  pub places : HavePlaces ts ((undo_of u).active t)
  pub unwinds : CanUnwind (take 1 ((undo_of u).active t)) (rows ts)

-- All is as it was: the rows of the nine tables, each key's link, and the log; and so is what customers and orders are
-- found by. No key but the write's may have a place that it had not; and where places were kept for rows and records
-- alone, the same keys have them
pub record IsAsBefore (ts ts' : Places) (u u' : UndoState) (own : Key) : Type 0 where
  pub same_rows : rows ts' ≡ rows ts
  pub same_links : SameLinks u u'
  pub same_log : u'.log ≡ u.log
  pub fewer : (k : Key) → HasPlace ts' k → HasPlace ts k ⊎ (k ≡ own)
  pub places : AreExact ts (undo_of u.log) → SamePlaces ts ts'
  pub by_name : (h : DistrictKey) (last : List ℕ)
      → namesakes h last (rows ts').customers ≡ namesakes h last (rows ts).customers
  pub by_customer : (c : CustomerKey) → orders_of c (rows ts').orders ≡ orders_of c (rows ts).orders
  pub by_age : (h : DistrictKey) → oldest h (rows ts').new_orders ≡ oldest h (rows ts).new_orders

-- what `write` has made is taken back by `take_back` of one record
pub record Write_then_take_back_is_identity : Type 0 where
  -- which may be called then, on all tables that meet the schema
  pub may : (w : Write) (ts ts' : Places) (u u' : UndoState) (t : ℕ) → IsSome (active_at u.log t) → Meets (rows ts)
      → HavePlaces ts ((undo_of u.log).active t) → HasRecorded w ts ts' u u' t → MayTakeBack ts' u'.log t
  -- and leaves all as it was
  pub identity : (w : Write) (ts ts' ts'' : Places) (u u' u'' : UndoState) (t : ℕ) → IsSome (active_at u.log t)
      → IsWhole u.log
      → HasRecorded w ts ts' u u' t → TakesBack ts' u'.log t 1 ts'' u''.log
      → u''.log ≡ with_records u'.log t (drop 1 (records_at u'.log t)) → LeadBack u' u'' t 1
      → IsAsBefore ts ts'' u u'' (key_written w)
