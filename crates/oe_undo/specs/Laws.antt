-- What each call of a log makes of the chains, and which keys have no record left.
use Rattle.std.specs.Prelude.{◌≡◌, ◌≤◌, ◌↔◌, ℕ, suc, true, List, [], ◌∷◌, length, Option, None, Some}
use Rattle.oe_rows.specs.declared.keys.Key.{Key}
use Rattle.oe_rows.specs.declared.layouts.Layout.{Layout}
use Rattle.oe_model.specs.Changes.{record_key}
use Rattle.oe_model.specs.System.{terminal_limit}
use Rattle.oe_requests.specs.declared.requests.Request.{Request}
use Rattle.oe_requests.specs.declared.replies.Reply.{Reply}
use Rattle.oe_log.specs.Records.{Logged}
use Rattle.oe_log.specs.Log.{SegmentLog, Open as OpenSegment, Committed as CommitSegment, count_at, active_at}
use Rattle.oe_log.specs.Log.{records_at, total_count, no_segments, with_segment, with_record, without_newest}
use Rattle.oe_log.specs.Log.{after_seal, without_segment, with_newest}
use Rattle.oe_log.specs.Log.{with_reopening}
use Rattle.oe_undo.specs.declared.holders.Link.{Link}
use Rattle.oe_undo.specs.declared.holders.Holder.TheVariants.{Open}
use Rattle.oe_extent.specs.declared.extents.Address.{Address}
use Rattle.oe_layout.specs.declared.links.Previous.TheVariants.{Committed}
use Rattle.oe_undo.specs.declared.links.OwnedLink.{OwnedLink}
use Rattle.oe_undo.specs.Held.{all_held, of_key, horizon, is_later}
use Rattle.oe_undo.specs.Owners.{link_by_now}
use Rattle.oe_undo.specs.Undo.{link_above}
use Rattle.oe_undo.specs.Chains.{link_from, IsEnd, AreChained, with_link, holder_after_seal, holder_after_reopening}
use Rattle.oe_undo.specs.Chains.{with_holder}

-- the log has a state of each terminal, and keeps no more commits than were made
pub record IsWhole (u : SegmentLog) : Type 0 where
  pub terminals : length u.terminals ≡ terminal_limit
  pub commits : length u.committed ≤ total_count u

pub record Calls_keep_chains : Type 0 where
  pub none : (e : ℕ) (l : Layout) → AreChained (no_segments e l) (λ k. None)
  pub opens : (u : SegmentLog) (links : Key → Option Link) (t : ℕ) → active_at u t ≡ None → AreChained u links
      → AreChained (with_segment u t) links
  pub drops : (u : SegmentLog) (links : Key → Option Link) (t : ℕ) → records_at u t ≡ [] → AreChained u links
      → AreChained (without_segment u t) links
  -- a record is written with its key's link, which leads to it then
  pub pushes : (u : SegmentLog) (links : Key → Option Link) (t : ℕ) (o : OpenSegment) (r : Logged) → IsWhole u
      → active_at u t ≡ Some o
      → link_from (Open t) r.previous ≡ links (record_key r.before) → AreChained u links
      → AreChained (with_record u t r)
      (with_link links (record_key r.before) (Some (record { address = r.address; holder = Open t })))
  -- a record that is taken off gives its key the link back
  pub pops : (u : SegmentLog) (links : Key → Option Link) (t : ℕ) (r : Logged) (rs : List Logged) → IsWhole u
      → records_at u t ≡ r ∷ rs
      → AreChained u links → AreChained (without_newest u t)
      (with_link links (record_key r.before) (link_from (Open t) r.previous))
  -- a commit gives its moment to the links that lead to its records
  pub seals : (u : SegmentLog) (links : Key → Option Link) (t : ℕ) (o : OpenSegment) (q : Request) (y : Reply)
      → IsWhole u → active_at u t ≡ Some o
      → AreChained u links → AreChained (after_seal u t q y)
      (λ k. with_holder (holder_after_seal t (suc (total_count u))) (links k))
  -- a commit that is opened again takes it back
  pub reopens : (u : SegmentLog) (links : Key → Option Link) (c : CommitSegment) (cs : List CommitSegment) → IsWhole u
      → u.committed ≡ c ∷ cs
      → 1 ≤ count_at u c.terminal → ((t : ℕ) → active_at u t ≡ None) → AreChained u links
      → AreChained (with_reopening u u.committed)
      (λ k. with_holder (holder_after_reopening c.terminal (total_count u)) (links k))
  -- a purge leaves all links
  pub purges : (u : SegmentLog) (links : Key → Option Link) (n : ℕ) → AreChained u links
      → AreChained (with_newest n u) links
  -- a link that is an end may be given up
  pub gives_up : (u : SegmentLog) (links : Key → Option Link) (k : Key) → IsWhole u → IsEnd (horizon u) (links k)
      → AreChained u links → AreChained u (with_link links k None)

-- a key's link is an end exactly where it has no record left
abbrev pub Ends_without_records : Type 0
Ends_without_records = (u : SegmentLog) (links : Key → Option Link) (k : Key) → IsWhole u → AreChained u links
    → IsEnd (horizon u) (links k) ↔ (of_key k (all_held u) ≡ [])

-- Commits begin at moment 1
pub record Moments_begin_at_one : Type 0 where
  -- a link with moment 0 is none, whatever the horizon
  pub none : (h t : ℕ) (a : Address) → link_above h (link_from (Open t) (Committed a 0)) ≡ None
  -- and no key's link has it
  pub later : (u : SegmentLog) (l : Option OwnedLink) (x : Link) → IsWhole u → link_by_now u l ≡ Some x
      → is_later 0 x.holder ≡ true
