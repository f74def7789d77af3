-- What is kept for each terminal ends as, where a `&mut` to one element is returned.
use Rattle.std.specs.Prelude.{ℕ, List, slice_set}
use Rattle.std.specs.Borrow.{Lends, Fml, RattleType, MutBor}
use Rattle.oe_values.specs.contracts.terminals.PerTerminal.{the_row}

module _ (T : RattleType) where
  -- the terminal's element is what was last written through r, and all others are as they were
  abbrev pub lends_at : MutBor (List T.Denot) → ℕ → MutBor T.Denot → Fml
  lends_at s t r = Lends (the_row T) T s r (slice_set s.now t)
