-- How segments are kept: their transactions as heads, beside their records, which lie in the ring.
use Rattle.std.specs.Prelude.{◌≡◌, ℕ, suc, ◌+◌, ◌<◌, ◌≤◌, ◌==◌, cond, Bool, false, List, [], ◌∷◌, length, map, take}
use Rattle.std.specs.Prelude.{replicate, slice_get, get_or, option_map, None, Some, is_some}
use Rattle.std.specs.List.{All, sum_by, count_by}
use Rattle.oe_values.specs.declared.numbers.TheConstants.{TERMINALS}
use Rattle.oe_rows.specs.declared.layouts.Layout.{Layout}
use Rattle.oe_extent.specs.Ring as ring
use Rattle.oe_requests.specs.declared.requests.Request.{Request}
use Rattle.oe_requests.specs.declared.replies.Reply.{Reply}
use Rattle.oe_log.specs.Records.{Logged}
use Rattle.oe_log.specs.Strings.{records_in, HoldsRecords}
use Rattle.oe_log.specs.declared.heads.SegmentOwner.{SegmentOwner}
use Rattle.oe_log.specs.declared.heads.TerminalHead.{TerminalHead}
use Rattle.oe_log.specs.Log.{Open, TerminalState, Committed, SegmentLog, AreOfLayout}
use Rattle.oe_log.specs.Stands.{model_records, DeletesNothing}

-- a commit without its records
pub record Head : Type 0 where
  pub terminal : ℕ
  pub number : ℕ
  pub deletes : Bool
  pub len : ℕ
  pub request : Request
  pub reply : Reply

-- ---- what is seen: each with its records

abbrev pub open_with : List Logged → SegmentOwner → Open
open_with rs n = record { terminal = n.terminal; number = n.number; records = rs }

abbrev pub state_with : TerminalHead → List Logged → TerminalState
state_with h rs = record { count = h.count; active = option_map (open_with rs) h.active }

abbrev pub states : List TerminalHead → List (List Logged) → List TerminalState
states [] rss = []
states (h ∷ hs) [] = []
states (h ∷ hs) (rs ∷ rss) = state_with h rs ∷ states hs rss

abbrev pub commit_with : Head → List Logged → Committed
commit_with c rs = record {
  terminal = c.terminal;
  number = c.number;
  request = c.request;
  reply = c.reply;
  records = rs;
}

abbrev pub commits : List Head → List (List Logged) → List Committed
commits [] rss = []
commits (c ∷ cs) [] = []
commits (c ∷ cs) (rs ∷ rss) = commit_with c rs ∷ commits cs rss

abbrev pub log_from : Layout → List TerminalHead → List Head → ring.RingStrings → SegmentLog
log_from y hs cs r =
    record {
      terminals = states hs (map records_in r.active);
      committed = commits cs (map records_in r.committed);
      extents = r.extents;
      layout = y;
    }

-- ---- what is promised

abbrev pub idle_head : TerminalHead
idle_head = record { count = 0; active = None; deletes = false; len = 0 }

-- nobody and the terminals; shut, so that no proof counts them
unfoldable pub idle_heads : List TerminalHead
idle_heads = replicate (suc TERMINALS) idle_head

abbrev pub head_at : List TerminalHead → ℕ → TerminalHead
head_at hs t = get_or hs t idle_head

-- the open transaction of a terminal with this many commits
pub record IsOf (t count : ℕ) (n : SegmentOwner) : Type 0 where
  pub terminal : n.terminal ≡ t
  pub number : n.number ≡ suc count
  pub below : count < 4_294_967_295

-- a commit that its terminal has counted
pub record IsCounted (hs : List TerminalHead) (c : Head) : Type 0 where
  pub first : 1 ≤ c.number
  pub number : c.number ≤ (head_at hs c.terminal).count

-- how many of these commits are a terminal's
abbrev pub heads_of : ℕ → List Head → ℕ
heads_of t [] = 0
heads_of t (c ∷ cs) = cond (t == c.terminal) (suc (heads_of t cs)) (heads_of t cs)

-- the number of each commit, newest first, is its terminal's count less the terminal's newer commits
abbrev pub AreNumbered : (ℕ → ℕ) → List Head → Type 0
AreNumbered counts cs = (later : ℕ) (c : Head) → slice_get cs later ≡ Some c
    → c.number + heads_of c.terminal (take later cs) ≡ counts c.terminal

-- what is kept of the transactions alone
pub record AreHeads (hs : List TerminalHead) (cs : List Head) (capacity newest opens : ℕ) : Type 0 where
  pub size : length hs ≡ suc TERMINALS
  pub nobody : (head_at hs 0).active ≡ None
  pub counts : All (λ h. h.count < 4_294_967_296) hs
  pub active : (t : ℕ) (n : SegmentOwner) → (head_at hs t).active ≡ Some n → IsOf t (head_at hs t).count n
  pub commits : All (IsCounted hs) cs
  pub numbers : AreNumbered (λ t. (head_at hs t).count) cs
  pub moments : newest ≡ sum_by (λ h. h.count) hs
  pub kept : length cs ≤ newest
  pub opens_are : opens ≡ count_by (λ h. is_some h.active) hs
  pub spare : length cs + opens ≤ capacity

-- a commit that does not say that it deletes has no record of a deleted row
abbrev pub CommitsTell : List Head → List (List Logged) → Type 0
CommitsTell cs rss =
    (later : ℕ) (c : Head) → slice_get cs later ≡ Some c → c.deletes ≡ false
    → DeletesNothing (model_records (get_or rss later []))

-- how many records each has
abbrev pub lens_of : List TerminalHead → List ℕ
lens_of hs = map (λ h. h.len) hs

abbrev pub committed_lens_of : List Head → List ℕ
committed_lens_of cs = map (λ c. c.len) cs

-- all that is kept
pub record IsKept (hs : List TerminalHead) (cs : List Head) (capacity : ℕ) (r : ring.RingStrings)
    (opens newest : ℕ) : Type 0 where
  pub heads : AreHeads hs cs capacity newest opens
  pub lie : HoldsRecords r (lens_of hs) (committed_lens_of cs) opens
  -- a terminal without an open segment has no records
  pub empty : (t : ℕ) → (head_at hs t).active ≡ None → get_or (map records_in r.active) t [] ≡ []
  -- what does not say that it deletes has no record of a deleted row
  pub open_deletes : (t : ℕ) → (head_at hs t).deletes ≡ false
      → DeletesNothing (model_records (get_or (map records_in r.active) t []))
  pub commit_deletes : CommitsTell cs (map records_in r.committed)

-- and each record is of the layout
pub record IsLog (y : Layout) (hs : List TerminalHead) (cs : List Head) (capacity : ℕ) (r : ring.RingStrings)
    (opens newest : ℕ) : Type 0 where
  pub kept : IsKept hs cs capacity r opens newest
  pub layout : AreOfLayout (log_from y hs cs r)
