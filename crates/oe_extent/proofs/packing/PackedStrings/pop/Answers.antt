-- The newest string is gone.
use Rattle.std.proofs.Common.{drop, sym, ap, arith}
use Rattle.oe_extent.proofs.PackedFacts.{popped, long_enough}
use Rattle.oe_extent.proofs.packing.PackedStrings.pop.Goals as goal

pub last_size-requires : goal.last_size-requires
last_size-requires c =
    rw c.deref.ensures.value
    (long_enough c.self.inside.count c.self.inside.fill c.self.inside.bytes.items c.self.invariant
    (rw c.self.view_is c.requires))

pub overflow_sub-self : goal.overflow_sub-self
overflow_sub-self c =
    let p = popped c.self.inside.count c.self.inside.fill c.self.inside.bytes.items c.last_size.result
    c.self.invariant (rw c.self.view_is c.requires) (rw (← c.deref.ensures.value) c.last_size.ensures) in
    p.fits

pub overflow_sub-self-2 : goal.overflow_sub-self-2
overflow_sub-self-2 c =
    let p = popped c.self.inside.count c.self.inside.fill c.self.inside.bytes.items c.last_size.result
    c.self.invariant (rw c.self.view_is c.requires) (rw (← c.deref.ensures.value) c.last_size.ensures) in
    omega (arith, p.some)

pub invariant_of-self : goal.invariant_of-self
invariant_of-self c =
    let p = popped c.self.inside.count c.self.inside.fill c.self.inside.bytes.items c.last_size.result
    c.self.invariant (rw c.self.view_is c.requires) (rw (← c.deref.ensures.value) c.last_size.ensures) in
    p.is_packed

pub returns : goal.returns
returns c =
    let p = popped c.self.inside.count c.self.inside.fill c.self.inside.bytes.items c.last_size.result
    c.self.invariant (rw c.self.view_is c.requires) (rw (← c.deref.ensures.value) c.last_size.ensures) in
    rw (← c.self.view_is) (sym (ap (drop 1) p.cuts))
