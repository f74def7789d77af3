-- Transactions' segments as plain data, and what their calls do to them.
use Rattle.std.specs.Prelude.{◌<◌, ◌≤◌, ℕ, suc, ◌+◌, ◌-◌, ◌==◌, cond, List, [], ◌∷◌, map, get_or, set, take, drop}
use Rattle.std.specs.Prelude.{replicate, option_map, Option, None, Some, is_some}
use Rattle.std.specs.List.{sum_by, count_by, AllByRecursion}
use Rattle.oe_values.specs.declared.numbers.TheConstants.{TERMINALS}
use Rattle.oe_rows.specs.declared.layouts.Layout.{Layout}
use Rattle.oe_requests.specs.declared.requests.Request.{Request}
use Rattle.oe_requests.specs.declared.replies.Reply.{Reply}
use Rattle.oe_extent.specs.Ring.{fill_of}
use Rattle.oe_layout.specs.Records.{IsOfLayout}
use Rattle.oe_extent.specs.declared.extents.Address.{Address}
use Rattle.oe_log.specs.Records.{Logged, lengths, StandElsewhere}
use Rattle.oe_log.specs.declared.heads.SegmentOwner.{SegmentOwner}

-- the open segment of a terminal's transaction with this number: its records are newest first
pub record Open : Type 0 where
  pub terminal : ℕ
  pub number : ℕ
  pub records : List Logged

-- a terminal's commits so far, and its open segment, if it has one
pub record TerminalState : Type 0 where
  pub count : ℕ
  pub active : Option Open

-- the segment of a transaction that has committed: its records are newest first
pub record Committed : Type 0 where
  pub terminal : ℕ
  pub number : ℕ
  pub request : Request
  pub reply : Reply
  pub records : List Logged

-- all that is stored
pub record SegmentLog : Type 0 where
  -- by the terminals' numbers, from 0, which is nobody's, to 64
  pub terminals : List TerminalState
  -- the newest first
  pub committed : List Committed
  pub extents : ℕ
  pub layout : Layout

-- a terminal that has neither committed nor a segment open
abbrev pub idle : TerminalState
idle = record { count = 0; active = None }

abbrev pub state_at : SegmentLog → ℕ → TerminalState
state_at v t = get_or v.terminals t idle

-- a terminal's commits so far
abbrev pub count_at : SegmentLog → ℕ → ℕ
count_at v t = (state_at v t).count

-- a terminal's open segment
abbrev pub active_at : SegmentLog → ℕ → Option Open
active_at v t = (state_at v t).active

abbrev pub records_in : Option Open → List Logged
records_in None = []
records_in (Some o) = o.records

-- the records of its open segment, newest first
abbrev pub records_at : SegmentLog → ℕ → List Logged
records_at v t = records_in (active_at v t)

abbrev pub records_of : Committed → List Logged
records_of c = c.records

-- the records of each commit, the newest commit first
abbrev pub committed_records : SegmentLog → List (List Logged)
committed_records v = map records_of v.committed

-- whose a commit was
abbrev pub owner_of : Committed → SegmentOwner
owner_of c = record { terminal = c.terminal; number = c.number }

-- all commits so far
abbrev pub total_count : SegmentLog → ℕ
total_count v = sum_by (λ s. s.count) v.terminals

-- how many terminals have a segment open
abbrev pub open_total : SegmentLog → ℕ
open_total v = count_by (λ s. is_some s.active) v.terminals

-- how many of these commits are a terminal's
abbrev pub commits_of : ℕ → List Committed → ℕ
commits_of t [] = 0
commits_of t (c ∷ cs) = cond (t == c.terminal) (suc (commits_of t cs)) (commits_of t cs)

-- nobody and the terminals, all idle; shut, so that no proof counts them
unfoldable pub idle_terminals : List TerminalState
idle_terminals = replicate (suc TERMINALS) idle

-- nothing recorded, nothing committed
abbrev pub no_segments : ℕ → Layout → SegmentLog
no_segments e l = record { terminals = idle_terminals; committed = []; extents = e; layout = l }

-- a terminal's state replaced
abbrev pub with_state : SegmentLog → ℕ → TerminalState → SegmentLog
with_state v t s = record v { terminals = set v.terminals t s }

-- a terminal's open segment replaced
abbrev pub with_active : SegmentLog → ℕ → Option Open → SegmentLog
with_active v t a = with_state v t (record { count = count_at v t; active = a })

-- the records of its open segment replaced, where it has one
abbrev pub with_records : SegmentLog → ℕ → List Logged → SegmentLog
with_records v t rs = with_active v t (option_map {T = Open} (λ o. record o { records = rs }) (active_at v t))

-- an empty segment opened, of the terminal's next number
abbrev pub with_segment : SegmentLog → ℕ → SegmentLog
with_segment v t = with_active v t (Some (record { terminal = t; number = suc (count_at v t); records = [] }))

-- one record more
abbrev pub with_record : SegmentLog → ℕ → Logged → SegmentLog
with_record v t r = with_records v t (r ∷ records_at v t)

-- the newest record taken off
abbrev pub without_newest : SegmentLog → ℕ → SegmentLog
without_newest v t = with_records v t (drop 1 (records_at v t))

-- the open segment sealed, so that the newest commit has it
abbrev pub after_seal : SegmentLog → ℕ → Request → Reply → SegmentLog
after_seal v t q y =
    record {
      terminals = set v.terminals t (record { count = suc (count_at v t); active = None });
      committed = record { terminal = t; number = suc (count_at v t); request = q; reply = y; records = records_at v t }
          ∷ v.committed;
      extents = v.extents;
      layout = v.layout;
    }

-- the open segment gone
abbrev pub without_segment : SegmentLog → ℕ → SegmentLog
without_segment v t = with_active v t None

-- the newest n commits alone
abbrev pub with_newest : ℕ → SegmentLog → SegmentLog
with_newest n v = record v { committed = take n v.committed }

-- the first of these commits is its terminal's open segment again, and is no longer counted
abbrev pub with_reopening : SegmentLog → List Committed → SegmentLog
with_reopening v [] = v
with_reopening v (c ∷ cs) =
    record {
      terminals = set v.terminals c.terminal (record {
        count = count_at v c.terminal - 1;
        active = Some (record { terminal = c.terminal; number = c.number; records = c.records });
      });
      committed = cs;
      extents = v.extents;
      layout = v.layout;
    }

-- ---- when a record has no room

-- how many extents all records fill, each segment's in order
abbrev pub used_of : SegmentLog → ℕ
used_of v =
    sum_by (λ s. (fill_of (lengths (records_in s.active))).0) v.terminals
    + sum_by (λ c. (fill_of (lengths c.records)).0) v.committed

-- a record of that length fits neither the rest of the terminal's last extent nor a free one
abbrev pub IsFull : SegmentLog → ℕ → ℕ → Type 0
IsFull v t n = ((fill_of (lengths (records_at v t))).1 < n) × (v.extents ≤ used_of v)

-- no record of a terminal or of a commit is at that address
pub record IsFresh (v : SegmentLog) (a : Address) : Type 0 where
  pub active : (t : ℕ) → StandElsewhere a (records_at v t)
  pub committed : (later : ℕ) → StandElsewhere a (get_or (committed_records v) later [])

-- each of these records may stand in a log of that layout
abbrev pub AreOf : Layout → List Logged → Type 0
AreOf y rs = AllByRecursion (λ r. IsOfLayout y r.before) rs

-- each record of a terminal or of a commit may stand in a log of its layout
pub record AreOfLayout (v : SegmentLog) : Type 0 where
  pub active : (t : ℕ) → AreOf v.layout (records_at v t)
  pub committed : (later : ℕ) → AreOf v.layout (get_or (committed_records v) later [])
