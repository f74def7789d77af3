-- Where there is no extent there is no string.
use Rattle.std.proofs.Common.{rules, List, sym, ap, ◌∙◌, subst}
use Rattle.oe_extent.specs.Strings.{HasOffset}
use Rattle.oe_extent.specs.Extents.{Contents, contents_of, strings_at}
use Rattle.oe_extent.proofs.ExtentFacts.{none_there}
use Rattle.oe_extent.proofs.extents.ExtentList.at.Goals as goal

pub unreachable-requires : goal.unreachable-requires
unreachable-requires c =
    none_there c.args.address.offset
    (subst (λ (l : List Contents). HasOffset (strings_at c.args.address.extent l) c.args.address.offset)
    (sym c.self.view_is ∙ ap contents_of c.in-None.is) c.requires)

pub returns : goal.returns
returns c s b = c.at.ensures s (search (rules, b))
