-- The strings of the commit.
use Rattle.std.proofs.Common.{◌<◌, ◌∙◌, length, sym, subst}
use Rattle.oe_extent.specs.Ring.{RingStrings}
use Rattle.oe_extent.proofs.StringFacts.{strings_here}
use Rattle.oe_extent.proofs.ring.Ring.committed_strings.Goals as goal

pub returns : goal.returns
returns c =
    let within = subst (λ (v : RingStrings). c.args.commit < length v.committed) (sym c.self.view_is) c.requires in
    rw (← c.self.view_is)
    (c.strings.ensures ∙ strings_here c.self.inside.committed.items c.args.commit c.index.result.now within
    c.index.ensures)
