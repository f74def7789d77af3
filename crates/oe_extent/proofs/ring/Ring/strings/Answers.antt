-- The strings of the slot.
use Rattle.std.proofs.Common.{◌<◌, ◌∙◌, length, sym, subst}
use Rattle.oe_extent.specs.Ring.{RingStrings}
use Rattle.oe_extent.proofs.StringFacts.{strings_here}
use Rattle.oe_extent.proofs.ring.Ring.strings.Goals as goal

pub returns : goal.returns
returns c =
    let within = subst (λ (v : RingStrings). c.args.slot < length v.active) (sym c.self.view_is) c.requires in
    rw (← c.self.view_is)
    (c.strings.ensures ∙ strings_here c.self.inside.active.items c.args.slot c.index.result.now within c.index.ensures)
