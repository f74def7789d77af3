-- A log without its newest commits, which their terminals no longer count, and why a rewind can't be had.
use Rattle.std.specs.Prelude.{◌≡◌, ℕ, zero, suc, ◌-◌, ◌<◌, List, [], ◌∷◌, set, take, drop}
use Rattle.oe_requests.specs.declared.refusals.Refusal.{Refusal}
use Rattle.oe_requests.specs.declared.refusals.Refusal.TheVariants.{NotQuiet}
use Rattle.oe_theory.specs.Store.{counts_before}
use Rattle.oe_model.specs.System.{system}
use Rattle.oe_log.specs.Log.{SegmentLog, Committed, count_at, active_at, open_total}
use Rattle.oe_log.specs.Moments.{IsUnkept}
use Rattle.oe_log.specs.Stands.{undo_of, seals_of, counts_of}

-- the first of these commits gone, which its terminal no longer counts
abbrev pub without_first_commit : SegmentLog → List Committed → SegmentLog
without_first_commit v [] = v
without_first_commit v (c ∷ cs) =
    record {
      terminals = set v.terminals c.terminal
          (record { count = count_at v c.terminal - 1; active = active_at v c.terminal });
      committed = cs;
      extents = v.extents;
      layout = v.layout;
    }

-- the newest n commits gone
abbrev pub without_newest : ℕ → SegmentLog → SegmentLog
without_newest zero v = v
without_newest (suc n) v = without_newest n (without_first_commit v v.committed)

-- a log stands for another without its newest n commits, which are no longer counted
pub record StandsRewound (w v : SegmentLog) (n : ℕ) : Type 0 where
  pub undo : undo_of w ≡ record { active = (undo_of v).active; history = drop n (undo_of v).history }
  pub seals : seals_of w ≡ drop n (seals_of v)
  pub counts : counts_of w ≡ counts_before system (counts_of v) (take n (seals_of v))

-- why a rewind is refused; the first in this order is named: n transactions are open, or the moment is not kept
abbrev pub CantRewind : SegmentLog → ℕ → Refusal → Type 0
CantRewind v m (NotQuiet n) = (n ≡ open_total v) × (0 < n)
CantRewind v m e = (open_total v ≡ 0) × IsUnkept v m e
