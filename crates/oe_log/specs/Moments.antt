-- The moments that a log keeps, in the words of the theory of transactions, and why another can't be read or gone to.
use Rattle.std.specs.Prelude.{◌≡◌, ℕ, ◌-◌, ◌<◌, ◌≤◌, length, Option}
use Rattle.oe_requests.specs.declared.refusals.Refusal.{Refusal}
use Rattle.oe_requests.specs.declared.refusals.Refusal.TheVariants.{TooOld, Future}
use Rattle.oe_theory.specs.World.{total}
use Rattle.oe_theory.specs.Store.{Slot, Store}
use Rattle.oe_model.specs.Rows.{Rows}
use Rattle.oe_model.specs.System.{system, terminal_limit}
use Rattle.oe_log.specs.Log.{SegmentLog}
use Rattle.oe_log.specs.Stands.{undo_of, seals_of, counts_of}

-- rows and a log as a store of the theory of transactions, beside the slots of open transactions
abbrev pub store_with : Rows → SegmentLog → (ℕ → Option (Slot system)) → Store system
store_with r v slots =
    record {
      tables = r;
      undo = undo_of v;
      slots = slots;
      seals = seals_of v;
      counts = counts_of v;
      extents = v.extents;
      layout = v.layout;
    }

-- the number of all commits so far
abbrev pub newest : SegmentLog → ℕ
newest v = total terminal_limit (counts_of v)

-- as many commits ago as are kept
abbrev pub horizon : SegmentLog → ℕ
horizon v = newest v - length (seals_of v)

-- a moment from the horizon to the newest
pub record IsBetween (low high m : ℕ) : Type 0 where
  pub old : low ≤ m
  pub new : m ≤ high

-- why a moment is none of these
abbrev pub IsOutside : ℕ → ℕ → ℕ → Refusal → Type 0
IsOutside low high m (TooOld h) = (h ≡ low) × (m < h)
IsOutside low high m (Future n) = (n ≡ high) × (n < m)
IsOutside low high m e = ⊥

-- all commits after the moment are kept
abbrev pub IsKeptMoment : SegmentLog → ℕ → Type 0
IsKeptMoment v m = IsBetween (horizon v) (newest v) m

-- why a moment is not kept
abbrev pub IsUnkept : SegmentLog → ℕ → Refusal → Type 0
IsUnkept v m e = IsOutside (horizon v) (newest v) m e
