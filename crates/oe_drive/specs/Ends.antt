-- Slots that no desk has taken, and desks whose transactions have ended.
use Rattle.std.specs.Prelude.{◌≡◌, ◌≢◌, ℕ, ◌+◌, ◌<◌, Option, Some, None, List, sum_by, slice_get}
use Rattle.oe_hall.specs.Seats.{ThePlace}
use Rattle.oe_hall.specs.Desks.{TheDesk, begun_by, committed_by, rolled_back_by}

-- the first slots are taken by nobody
abbrev pub AreFree : List (Option ThePlace) → ℕ → Type 0
AreFree seats n = (k : ℕ) → k < n → slice_get seats k ≢ Some None

-- the desks were told as many ends as begins
abbrev pub HaveEnded : List TheDesk → Type 0
HaveEnded desks = sum_by begun_by desks ≡ sum_by committed_by desks + sum_by rolled_back_by desks
