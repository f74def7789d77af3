-- What a list ends as, where a `&mut` into it is returned.
use Rattle.std.specs.Prelude.{ℕ, List, slice_set}
use Rattle.std.specs.Borrow.{Lends, Fml, RattleType, MutBor}
use Rattle.oe_table.specs.contracts.front_vec.FrontVec.{the_row}

-- the list has at the index what was last written through r
abbrev pub lends_item : (T : RattleType) → MutBor (List T.Denot) → ℕ → MutBor T.Denot → Fml
lends_item T v at r = Lends (the_row T) T v r (λ w. slice_set v.now at w)
