-- A string more.
use Rattle.oe_extent.proofs.PackedFacts.{IsPacked-written}
use Rattle.oe_extent.proofs.packing.PackedStrings.push.Goals as goal

pub invariant_of-self : goal.invariant_of-self
invariant_of-self g c =
    let p = IsPacked-written c.self.inside.count c.self.inside.fill c.self.inside.bytes.len c.self.inside.bytes.items
    c.deref_mut.result.now _ c.write-self-inside.new.bytes c.write-self-inside.result c.self.invariant
    c.requires.framed c.deref_mut.ensures.value c.deref_mut.ensures.len c.write-self-inside.ensures in
    p.0

pub returns-clause-pushed : goal.returns-clause-pushed
returns-clause-pushed g c =
    let p = IsPacked-written c.self.inside.count c.self.inside.fill c.self.inside.bytes.len c.self.inside.bytes.items
    c.deref_mut.result.now _ c.write-self-inside.new.bytes c.write-self-inside.result c.self.invariant
    c.requires.framed c.deref_mut.ensures.value c.deref_mut.ensures.len c.write-self-inside.ensures in
    rw (← c.self.view_is) p.1
