-- What places end as, where a `&mut` to one is returned.
use Rattle.std.specs.Prelude.{◌≡◌, ℕ, List, Option}
use Rattle.std.specs.Borrow.{LendsSo, Fml, RattleType, MutBor}
use Rattle.std.specs.contracts.option.Option.{the_row as option_row}
use Rattle.oe_undo.specs.Places.{with_content}
use Rattle.oe_undo.specs.contracts.places.Places.{the_row}

module _ (T : RattleType) where
  -- the place has what was last written through r, and without r all are as they were
  abbrev pub lends_place : MutBor (List (List (Option T.Denot))) → ℕ → ℕ → Option (MutBor (Option T.Denot)) → Fml
  lends_place p shelf number r =
      LendsSo (the_row T) (option_row T) p r (λ new w. new ≡ with_content p.now shelf number w) (λ new. new ≡ p.now)
