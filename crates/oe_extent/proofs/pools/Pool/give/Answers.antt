-- It is free again.
use Rattle.std.proofs.Common.{◌<◌, true, false, Bool, List, length, is_some, sym, ap, ◌∙◌, subst, arith}
use Rattle.oe_extent.specs.Free.{FreeExtents}
use Rattle.oe_extent.specs.Extents.{number_of}
use Rattle.oe_extent.proofs.PoolFacts.{IsPool-given, LieAtNumbers-given, free_given}
use Rattle.oe_extent.proofs.pools.Pool.give.Goals as goal

pub invariant_of-self : goal.invariant_of-self
invariant_of-self c =
    let number = c.get-number.ensures.value ∙ c.number.ensures ∙ ap number_of c.deref.ensures in
    let within = subst (λ (p : FreeExtents). number_of c.args.extent.value < length p.is_free) (sym c.self.view_is)
    c.requires in (
      IsPool-given c.self.inside.extents.items c.self.inside.free_count c.self.inside.cursor c.get-number.result
          c.index_mut.result.now
          c.replace-before.new.self false c.self.invariant.0 (omega (arith, within, number))
          c.index_mut.ensures.value (ap is_some (sym c.replace-before.ensures.value) ∙ c.if-is_none.ensures)
          (ap is_some c.replace-before.ensures.after),
      LieAtNumbers-given c.self.inside.extents.items c.get-number.result c.args.extent c.replace-before.new.self
          c.self.invariant.1 (omega (arith, within, number)) number c.replace-before.ensures.after,
    )

pub invariant_of-self-else-is_none : goal.invariant_of-self-else-is_none
invariant_of-self-else-is_none c =
    let number = c.get-number.ensures.value ∙ c.number.ensures ∙ ap number_of c.deref.ensures in
    let within = subst (λ (p : FreeExtents). number_of c.args.extent.value < length p.is_free) (sym c.self.view_is)
    c.requires in (
      IsPool-given c.self.inside.extents.items c.self.inside.free_count c.self.inside.cursor c.get-number.result
          c.index_mut.result.now
          c.replace-before.new.self true c.self.invariant.0 (omega (arith, within, number))
          c.index_mut.ensures.value (ap is_some (sym c.replace-before.ensures.value) ∙ c.if-is_none.ensures)
          (ap is_some c.replace-before.ensures.after),
      LieAtNumbers-given c.self.inside.extents.items c.get-number.result c.args.extent c.replace-before.new.self
          c.self.invariant.1 (omega (arith, within, number)) number c.replace-before.ensures.after,
    )

pub returns-then-is_none : goal.returns-then-is_none
returns-then-is_none c =
    rw (← c.self.view_is) (ap (λ (l : List Bool). record { is_free = l; cursor = c.self.inside.cursor })
    (free_given c.self.inside.extents.items c.get-number.result (number_of c.args.extent.value)
    c.replace-before.new.self
    (c.get-number.ensures.value ∙ c.number.ensures ∙ ap number_of c.deref.ensures)
    (ap is_some c.replace-before.ensures.after)))

pub returns : goal.returns
returns c =
    rw (← c.self.view_is) (ap (λ (l : List Bool). record { is_free = l; cursor = c.self.inside.cursor })
    (free_given c.self.inside.extents.items c.get-number.result (number_of c.args.extent.value)
    c.replace-before.new.self
    (c.get-number.ensures.value ∙ c.number.ensures ∙ ap number_of c.deref.ensures)
    (ap is_some c.replace-before.ensures.after)))
