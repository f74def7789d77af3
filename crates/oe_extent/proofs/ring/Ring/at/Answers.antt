-- The string at an address of a slot.
use Rattle.std.proofs.Common.{◌<◌, [], length, get_or, sym, subst, arith}
use Rattle.oe_extent.specs.Ring.{RingStrings, StandsAt}
use Rattle.oe_extent.proofs.AddressFacts.{string_at}
use Rattle.oe_extent.proofs.ring.Ring.at.Goals as goal

pub at-requires : goal.at-requires
at-requires c =
    let slot = subst (λ (v : RingStrings). c.args.slot < length v.active) (sym c.self.view_is) c.requires.slot in
    let stands = subst (λ (v : RingStrings). StandsAt c.args.address c.requires.some.bytes
    (get_or v.active c.args.slot [])) (sym c.self.view_is) c.requires.some.stands in
    let begins = string_at c.self.inside.active.items c.args.slot c.index.result.now c.args.address
    c.requires.some.bytes
    (λ e. omega (arith, c.self.invariant.held.once e)) slot c.index.ensures stands in
    record { string = c.requires.some.bytes; begins = begins }

pub returns : goal.returns
returns c s h =
    let slot = subst (λ (v : RingStrings). c.args.slot < length v.active) (sym c.self.view_is) c.requires.slot in
    let stands = subst (λ (v : RingStrings). StandsAt c.args.address s (get_or v.active c.args.slot []))
    (sym c.self.view_is) h in
    let begins = string_at c.self.inside.active.items c.args.slot c.index.result.now c.args.address s
    (λ e. omega (arith, c.self.invariant.held.once e)) slot c.index.ensures stands in
    c.at.ensures s begins
