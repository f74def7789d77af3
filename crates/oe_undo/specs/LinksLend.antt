-- What the links end as, where a `&mut` to a key's place is returned.
use Rattle.std.specs.Prelude.{◌≡◌, Option}
use Rattle.std.specs.Option.{OnSome}
use Rattle.std.specs.Borrow.{LendsSo, Fml, MutBor}
use Rattle.std.specs.contracts.option.Option.{the_row as option_row}
use Rattle.oe_rows.specs.declared.keys.Key.{Key}
use Rattle.oe_undo.specs.declared.links.OwnedLink.{OwnedLink}
use Rattle.oe_undo.specs.contracts.links.OwnedLink.{the_row as link_row}
use Rattle.oe_undo.specs.contracts.links.Links.{the_row}
use Rattle.oe_undo.specs.Links.{LinkMaps, with_link}

-- the key's place has the link last written through r, and without r the links stay as they are
abbrev pub lends_link : MutBor LinkMaps → Key → Option (MutBor (Option OwnedLink)) → Fml
lends_link t own r =
    LendsSo the_row (option_row link_row) t r (λ new link. OnSome r (new ≡ with_link t.now own link))
    (λ new. new ≡ t.now)
