-- The newest string.
use Rattle.std.proofs.Common.{◌≡◌, ◌-◌, refl, arith}
use Rattle.oe_extent.proofs.PackedFacts.{popped, long_enough}
use Rattle.oe_extent.proofs.packing.PackedStrings.newest.Goals as goal

pub last_size-size-requires : goal.last_size-size-requires
last_size-size-requires c =
    rw c.deref.ensures.value
    (long_enough c.self.inside.count c.self.inside.fill c.self.inside.bytes.items c.self.invariant
    (rw c.self.view_is c.requires))

pub overflow_sub-result : goal.overflow_sub-result
overflow_sub-result c =
    let p = popped c.self.inside.count c.self.inside.fill c.self.inside.bytes.items c.last_size-size.result
    c.self.invariant (rw c.self.view_is c.requires) (rw (← c.deref.ensures.value) c.last_size-size.ensures) in
    p.fits

pub returns : goal.returns
returns c =
    let p = popped c.self.inside.count c.self.inside.fill c.self.inside.bytes.items c.last_size-size.result
    c.self.invariant (rw c.self.view_is c.requires) (rw (← c.deref.ensures.value) c.last_size-size.ensures) in
    let n : c.self.inside.fill - (c.self.inside.fill - c.last_size-size.result) ≡ c.last_size-size.result =
    omega (arith, p.fits) in
    rw (← c.self.view_is, n, c.deref-2.ensures.value) (rw p.cuts refl)
