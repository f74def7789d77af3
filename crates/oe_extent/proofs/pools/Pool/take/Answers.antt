-- It is free no longer.
use Rattle.std.proofs.Common.{◌≡◌, Bool, List, set, map, is_some, ap, subst, ◌+◌, ◌∙◌, arith}
use Rattle.std.proofs.lemmas.List.{map-set}
use Rattle.oe_extent.specs.Free.{IsNextFree}
use Rattle.oe_extent.specs.Extents.{number_of}
use Rattle.oe_extent.proofs.PoolFacts.{IsPool-taken, LieAtNumbers-set, number_there}
use Rattle.oe_extent.proofs.pools.Pool.take.Goals as goal

-- the extent has the number at which it was found
has_number : (c : goal.After-cleared) → number_of c.cleared.result.value ≡ c.in_ok-found.found
has_number c =
    c.cleared.ensures.number
    ∙ number_there c.self.inside.extents.items c.in_ok-found.found c.index_mut.result.now c.in-Some.extent
    c.self.invariant.1 (omega (arith, c.in_ok-found.ensures.within, c.as_slice.ensures.len)) c.index_mut.ensures.value
    c.in-Some.ensures.value

pub invariant_of-self : goal.invariant_of-self
invariant_of-self c = (
  IsPool-taken c.self.inside.extents.items c.as_slice.result.now c.self.inside.free_count c.self.inside.cursor
      c.in_ok-found.found c.take-taken.new.self c.self.invariant.0 c.as_slice.ensures.value
      c.in_ok-found.ensures.within c.in_ok-found.ensures.next.is_free (ap is_some c.take-taken.ensures.after),
  LieAtNumbers-set c.self.inside.extents.items c.in_ok-found.found c.take-taken.new.self c.self.invariant.1
      (omega (arith, c.in_ok-found.ensures.within, c.as_slice.ensures.len)) (rw c.take-taken.ensures.after tt),
)

pub returns-clause-next : goal.returns-clause-next
returns-clause-next c =
    rw (has_number c, ← c.self.view_is)
    (subst (λ l. IsNextFree (map is_some l) c.self.inside.cursor c.in_ok-found.found) c.as_slice.ensures.value
    c.in_ok-found.ensures.next)

pub returns-clause-taken : goal.returns-clause-taken
returns-clause-taken c =
    rw (has_number c, ← c.self.view_is)
    (ap (λ (l : List Bool). record { is_free = l; cursor = c.in_ok-found.found + 1 })
    (map-set is_some c.self.inside.extents.items c.in_ok-found.found c.take-taken.new.self
    ∙ ap (λ o. set (map is_some c.self.inside.extents.items) c.in_ok-found.found (is_some o))
    c.take-taken.ensures.after))
