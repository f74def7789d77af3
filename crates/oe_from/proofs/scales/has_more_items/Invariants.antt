use Rattle.std.proofs.Common.{◌≡◌, ℕ, ◌≤◌, ◌<◌, None}
use Rattle.oe_store.specs.Places.{rows}
use Rattle.oe_from.specs.Scales.{item_row}
use Rattle.oe_from.proofs.scales.has_more_items.Given as goal

-- none so far is there
abbrev pub invariant-loop-before : goal.invariant-loop-before
invariant-loop-before l = (n : ℕ) → l.count < n → n ≤ l.before → item_row (rows l.tables) n ≡ None
