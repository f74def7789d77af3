-- What the links of a table end as, where a `&mut` to a key's place is returned.
use Rattle.std.specs.Prelude.{◌≡◌, ℕ, Option}
use Rattle.std.specs.Borrow.{LendsSo, Fml, MutBor}
use Rattle.std.specs.contracts.option.Option.{the_row as option_row}
use Rattle.oe_undo.specs.contracts.places.Places.{the_row as places_row}
use Rattle.oe_undo.specs.declared.links.OwnedLink.{OwnedLink}
use Rattle.oe_undo.specs.contracts.links.OwnedLink.{the_row as link_row}
use Rattle.oe_undo.specs.Tables.{LinkTable, with_number}

-- the place has the link last written through r, and without r the links stay as they are
abbrev pub lends_number : MutBor LinkTable → ℕ → Option ℕ → Option (MutBor (Option OwnedLink)) → Fml
lends_number t shelf number r =
    LendsSo (places_row link_row) (option_row link_row) t r (λ new link. new ≡ with_number t.now shelf number link)
    (λ new. new ≡ t.now)
