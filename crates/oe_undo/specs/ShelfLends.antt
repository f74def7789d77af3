-- What the places of a shelf end as, where a `&mut` to one is returned.
use Rattle.std.specs.Prelude.{◌≡◌, ℕ, List, slice_set, Option}
use Rattle.std.specs.Borrow.{LendsSo, Fml, RattleType, MutBor}
use Rattle.std.specs.contracts.option.Option.{the_row as option_row}
use Rattle.oe_undo.specs.contracts.shelf.PlaceShelf.{the_row}

module _ (T : RattleType) where
  -- the place has what was last written through r, and without r all are as they were
  abbrev pub lends_place : MutBor (List (Option T.Denot)) → ℕ → Option (MutBor (Option T.Denot)) → Fml
  lends_place s at r = LendsSo (the_row T) (option_row T) s r (λ new w. new ≡ slice_set s.now at w) (λ new. new ≡ s.now)
