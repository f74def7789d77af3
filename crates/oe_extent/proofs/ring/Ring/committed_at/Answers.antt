-- The string at an address of a commit.
use Rattle.std.proofs.Common.{◌<◌, [], length, get_or, sym, subst, arith}
use Rattle.oe_extent.specs.Ring.{RingStrings, StandsAt}
use Rattle.oe_extent.proofs.AddressFacts.{string_at}
use Rattle.oe_extent.proofs.ring.Ring.committed_at.Goals as goal

pub at-requires : goal.at-requires
at-requires c =
    let commit = subst (λ (v : RingStrings). c.args.commit < length v.committed) (sym c.self.view_is)
    c.requires.commit in
    let stands = subst (λ (v : RingStrings). StandsAt c.args.address c.requires.some.bytes
    (get_or v.committed c.args.commit [])) (sym c.self.view_is) c.requires.some.stands in
    let begins = string_at c.self.inside.committed.items c.args.commit c.index.result.now c.args.address
    c.requires.some.bytes
    (λ e. omega (arith, c.self.invariant.held.once e)) commit c.index.ensures stands in
    record { string = c.requires.some.bytes; begins = begins }

pub returns : goal.returns
returns c s h =
    let commit = subst (λ (v : RingStrings). c.args.commit < length v.committed) (sym c.self.view_is)
    c.requires.commit in
    let stands = subst (λ (v : RingStrings). StandsAt c.args.address s (get_or v.committed c.args.commit []))
    (sym c.self.view_is) h in
    let begins = string_at c.self.inside.committed.items c.args.commit c.index.result.now c.args.address s
    (λ e. omega (arith, c.self.invariant.held.once e)) commit c.index.ensures stands in
    c.at.ensures s begins
