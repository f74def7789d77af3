-- One line more.
use Rattle.std.proofs.Common.{◌≡◌, ℕ, suc, List, ◌∷◌, length, ap, ◌∙◌}
use Rattle.oe_busy.specs.declared.happenings.Happening.{Happening}
use Rattle.oe_busy.specs.declared.waits.Waits.{Waits}
use Rattle.oe_busy.specs.Happenings.{wait_starts, counts_in, ends, without_wait, greater, longest, meets, since}
use Rattle.oe_busy.specs.Happenings.{wait_length, AreWaits}

module _ (w : Waits) (mid next : List ℕ) (line most wait : ℕ) (x : Happening) (hs : List Happening) where
  pub waits_more : AreWaits w hs → line ≡ suc w.lines → wait ≡ wait_length (ends x) w.lines (counts_in w.since)
      → most ≡ greater w.longest wait → counts_in mid ≡ without_wait (ends x) (counts_in w.since)
      → counts_in next ≡ wait_starts (meets x) line (counts_in mid)
      → AreWaits (record { since = next; lines = line; longest = most }) (x ∷ hs)
  waits_more h one waits greatest mid_is next_is = record {
    lines_are = lines;
    since_is = next_is ∙ (λ i. wait_starts (meets x) (lines i) (since_mid i));
    longest_is = greatest ∙ (λ i. greater (h.longest_is i) (wait_is i));
  }
    where
      lines : line ≡ suc (length hs)
      lines = one ∙ ap suc h.lines_are

      since_mid : counts_in mid ≡ without_wait (ends x) (since hs)
      since_mid = mid_is ∙ ap (without_wait (ends x)) h.since_is

      wait_is : wait ≡ wait_length (ends x) (length hs) (since hs)
      wait_is = waits ∙ (λ i. wait_length (ends x) (h.lines_are i) (h.since_is i))
