-- Each record stays one of its log's layout.
use Rattle.std.proofs.Common.{ℕ, zero, suc, ◌-◌, List, [], ◌∷◌, map, get_or, set, take, drop, Option, None, Some, sym}
use Rattle.std.proofs.Common.{subst}
use Rattle.std.specs.Prelude.{option_map}
use Rattle.oe_extent.specs.Ring as ring
use Rattle.oe_rows.specs.declared.layouts.Layout.{Layout}
use Rattle.oe_requests.specs.declared.requests.Request.{Request}
use Rattle.oe_requests.specs.declared.replies.Reply.{Reply}
use Rattle.oe_layout.specs.Records.{IsOfLayout}
use Rattle.oe_log.specs.declared.heads.TerminalHead.{TerminalHead}
use Rattle.oe_log.specs.Records.{Logged}
use Rattle.oe_log.specs.Log.{SegmentLog, Open, TerminalState, Committed, idle, idle_terminals, no_segments, AreOf}
use Rattle.oe_log.specs.Log.{AreOfLayout, records_in, records_of, active_at, records_at, committed_records, count_at}
use Rattle.oe_log.specs.Log.{with_state, with_records, with_segment, with_record, without_newest, after_seal}
use Rattle.oe_log.specs.Log.{without_segment, with_newest, with_reopening}
use Rattle.oe_log.specs.Kept.{Head, IsLog}
use Rattle.oe_log.proofs.KeptFacts.{Stands}
use Rattle.oe_log.proofs.LawFacts.{idle_at}

pub log_is : {y : Layout} {hs : List TerminalHead} {cs : List Head} {capacity : ℕ} {r : ring.RingStrings}
    {opens newest : ℕ} {v : SegmentLog} → Stands y hs cs capacity r opens newest v → AreOfLayout v
    → IsLog y hs cs capacity r opens newest
log_is s h = record { kept = s.kept; layout = subst (λ (w : SegmentLog). AreOfLayout w) (sym s.view) h }

-- ---- one terminal

older_of : (y : Layout) (rs : List Logged) → AreOf y rs → AreOf y (drop 1 rs)
older_of y [] h = tt
older_of y (r ∷ rs) h = h.1

state_set : (y : Layout) (ts : List TerminalState) (t : ℕ) (s : TerminalState) → AreOf y (records_in s.active)
    → ((u : ℕ) → AreOf y (records_in (get_or ts u idle).active))
    → (u : ℕ) → AreOf y (records_in (get_or (set ts t s) u idle).active)
state_set y [] t s own h u = h u
state_set y (x ∷ ts) zero s own h zero = own
state_set y (x ∷ ts) zero s own h (suc u) = h (suc u)
state_set y (x ∷ ts) (suc t) s own h zero = h zero
state_set y (x ∷ ts) (suc t) s own h (suc u) = state_set y ts t s own (λ w. h (suc w)) u

state_of : (v : SegmentLog) (t : ℕ) (s : TerminalState) → AreOf v.layout (records_in s.active) → AreOfLayout v
    → AreOfLayout (with_state v t s)
state_of v t s own h = record {
  active = state_set v.layout v.terminals t s own h.active;
  committed = h.committed;
}

those_of : (y : Layout) (rs : List Logged) (a : Option Open) → AreOf y rs
    → AreOf y (records_in (option_map {T = Open} (λ o. record o { records = rs }) a))
those_of y rs None h = tt
those_of y rs (Some o) h = h

with_of : (v : SegmentLog) (t : ℕ) (rs : List Logged) → AreOf v.layout rs → AreOfLayout v
    → AreOfLayout (with_records v t rs)
with_of v t rs own h =
    state_of v t
    (record {
      count = count_at v t;
      active = option_map {T = Open} (λ o. record o { records = rs }) (active_at v t);
    }) (those_of v.layout rs (active_at v t) own) h

-- ---- each call

pub none_of : (e : ℕ) (y : Layout) → AreOfLayout (no_segments e y)
unfolding idle_terminals
none_of e y = record {
  active = λ t. subst (λ (s : TerminalState). AreOf y (records_in s.active)) (sym (idle_at 65 t)) tt;
  committed = λ later. tt;
}

pub opened_of : (v : SegmentLog) (t : ℕ) → AreOfLayout v → AreOfLayout (with_segment v t)
opened_of v t h =
    state_of v t
    (record {
      count = count_at v t;
      active = Some (record { terminal = t; number = suc (count_at v t); records = [] });
    }) tt h

pub dropped_of : (v : SegmentLog) (t : ℕ) → AreOfLayout v → AreOfLayout (without_segment v t)
dropped_of v t h = state_of v t (record { count = count_at v t; active = None }) tt h

pub pushed_of : (v : SegmentLog) (t : ℕ) (r : Logged) → IsOfLayout v.layout r.before → AreOfLayout v
    → AreOfLayout (with_record v t r)
pushed_of v t r own h = with_of v t (r ∷ records_at v t) (own, h.active t) h

pub popped_of : (v : SegmentLog) (t : ℕ) → AreOfLayout v → AreOfLayout (without_newest v t)
popped_of v t h = with_of v t (drop 1 (records_at v t)) (older_of v.layout (records_at v t) (h.active t)) h

pub sealed_of : (v : SegmentLog) (t : ℕ) (q : Request) (y : Reply) → AreOfLayout v → AreOfLayout (after_seal v t q y)
sealed_of v t q y h = record {
  active = state_set v.layout v.terminals t (record { count = suc (count_at v t); active = None }) tt h.active;
  committed = go;
}
  where
    go : (later : ℕ) → AreOf v.layout (get_or (records_at v t ∷ committed_records v) later [])
    go zero = h.active t
    go (suc later) = h.committed later

taken_of : (y : Layout) (n : ℕ) (cs : List Committed)
    → ((later : ℕ) → AreOf y (get_or (map records_of cs) later []))
    → (later : ℕ) → AreOf y (get_or (map records_of (take n cs)) later [])
taken_of y zero cs h later = tt
taken_of y (suc n) [] h later = tt
taken_of y (suc n) (c ∷ cs) h zero = h zero
taken_of y (suc n) (c ∷ cs) h (suc later) = taken_of y n cs (λ i. h (suc i)) later

pub newest_of : (v : SegmentLog) (n : ℕ) → AreOfLayout v → AreOfLayout (with_newest n v)
newest_of v n h = record { active = h.active; committed = taken_of v.layout n v.committed h.committed }

pub reopened_of : (v : SegmentLog) (cs : List Committed)
    → ((later : ℕ) → AreOf v.layout (get_or (map records_of cs) later [])) → AreOfLayout v
    → AreOfLayout (with_reopening v cs)
reopened_of v [] own h = h
reopened_of v (c ∷ cs) own h = record {
  active = state_set v.layout v.terminals c.terminal
      (record {
        count = count_at v c.terminal - 1;
        active = Some (record { terminal = c.terminal; number = c.number; records = c.records });
      }) (own zero) h.active;
  committed = λ later. own (suc later);
}
