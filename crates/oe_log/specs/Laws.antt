-- What each call makes of the segments, in the words of the theory of transactions.
use Rattle.std.specs.Prelude.{◌≡◌, ◌<◌, ◌≤◌, ◌↔◌, ℕ, suc, List, [], ◌∷◌, length, take, drop, None, Some}
use Rattle.oe_rows.specs.declared.layouts.Layout.{Layout}
use Rattle.oe_requests.specs.declared.requests.Request.{Request}
use Rattle.oe_requests.specs.declared.replies.Reply.{Reply}
use Rattle.oe_model.specs.System.{system, terminal_limit}
use Rattle.oe_theory.specs.World.{set, bump}
use Rattle.oe_theory.specs.Next.{fill_of}
use Rattle.oe_theory.specs.Undo.{Undo, lengths_of, used_of, put_records, no_records}
use Rattle.oe_theory.specs.Store.{counts_before}
use Rattle.oe_log.specs.Records.{Logged}
use Rattle.oe_log.specs.Log.{Open, Committed, SegmentLog, active_at, records_at, no_segments, with_segment}
use Rattle.oe_log.specs.Log.{with_record, without_newest}
use Rattle.oe_log.specs.Log.{after_seal, without_segment, with_newest, with_reopening, IsFull}
use Rattle.oe_log.specs.Stands.{model_records, undo_of, seals_of, counts_of}

-- two logs stand for the same
pub record StandAlike (v w : SegmentLog) : Type 0 where
  pub undo : undo_of v ≡ undo_of w
  pub seals : seals_of v ≡ seals_of w
  pub counts : counts_of v ≡ counts_of w
  pub layout : v.layout ≡ w.layout

-- a log stands for another's commits, with other records of one terminal
pub record StandsWith (w v : SegmentLog) (t : ℕ) (bs : List (system.Record)) : Type 0 where
  pub undo : undo_of w ≡ put_records system t bs (undo_of v)
  pub seals : seals_of w ≡ seals_of v
  pub counts : counts_of w ≡ counts_of v
  pub layout : w.layout ≡ v.layout

-- a log stands for another with one commit more
pub record StandsSealed (w v : SegmentLog) (t : ℕ) (q : Request) (y : Reply) : Type 0 where
  pub undo : undo_of w ≡ record {
    active = set t [] (undo_of v).active;
    history = (undo_of v).active t ∷ (undo_of v).history;
  }
  pub seals : seals_of w ≡ record { tx = record { terminal = t; number = suc (counts_of v t); request = q }; reply = y }
      ∷ seals_of v
  pub counts : counts_of w ≡ bump t (counts_of v)
  pub layout : w.layout ≡ v.layout

-- a log stands for another's newest n commits, with the records of the same open transactions; the others are counted
-- still
pub record StandsCut (w v : SegmentLog) (n : ℕ) : Type 0 where
  pub undo : undo_of w ≡ record { active = (undo_of v).active; history = take n (undo_of v).history }
  pub seals : seals_of w ≡ take n (seals_of v)
  pub counts : counts_of w ≡ counts_of v
  pub layout : w.layout ≡ v.layout

-- a log stands for another without its newest commit, whose records are its terminal's open ones, and which is no
-- longer counted
pub record StandsReopened (w v : SegmentLog) (c : Committed) : Type 0 where
  pub undo : undo_of w ≡ record {
    active = set c.terminal (model_records c.records) (undo_of v).active;
    history = drop 1 (undo_of v).history;
  }
  pub seals : seals_of w ≡ drop 1 (seals_of v)
  pub counts : counts_of w ≡ counts_before system (counts_of v) (take 1 (seals_of v))
  pub layout : w.layout ≡ v.layout

pub record Calls_are_steps : Type 0 where
  pub begun : (e : ℕ) (l : Layout) → (undo_of (no_segments e l) ≡ no_records system)
      × (seals_of (no_segments e l) ≡ []) × (counts_of (no_segments e l) ≡ (λ t. 0))
  pub opens : (v : SegmentLog) (t : ℕ) → active_at v t ≡ None → StandAlike (with_segment v t) v
  pub pushes : (v : SegmentLog) (t : ℕ) (o : Open) (r : Logged) → active_at v t ≡ Some o
      → StandsWith (with_record v t r) v t (r.before ∷ (undo_of v).active t)
  pub pops : (v : SegmentLog) (t : ℕ) (o : Open) → active_at v t ≡ Some o
      → StandsWith (without_newest v t) v t (drop 1 ((undo_of v).active t))
  pub seals : (v : SegmentLog) (t : ℕ) (o : Open) (q : Request) (y : Reply) → active_at v t ≡ Some o
      → StandsSealed (after_seal v t q y) v t q y
  pub drops : (v : SegmentLog) (t : ℕ) → records_at v t ≡ [] → StandAlike (without_segment v t) v
  -- giving up the oldest commits, one after another, is what a purge makes of them
  pub cuts : (v : SegmentLog) (n : ℕ) → StandsCut (with_newest n v) v n
  -- opening the newest again is the first part of what a rewind does with it
  pub reopens : (v : SegmentLog) (c : Committed) (cs : List Committed) → v.committed ≡ c ∷ cs
      → c.terminal < length v.terminals → StandsReopened (with_reopening v v.committed) v c

-- in the machine: a record of that length fits neither the rest of the terminal's last extent nor a free one
abbrev pub IsFullIn : Undo system → ℕ → ℕ → ℕ → Type 0
IsFullIn u extents t n = ((fill_of system (lengths_of system (u.active t))).1 < n) × (extents ≤ used_of system u)

-- the log is full exactly where the machine's ring is
abbrev pub Full_as_the_machine : Type 0
Full_as_the_machine =
    (v : SegmentLog) (t n : ℕ) → length v.terminals ≡ terminal_limit
    → IsFull v t n ↔ IsFullIn (undo_of v) v.extents t n
