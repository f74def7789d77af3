use Rattle.std.proofs.Common.{[], ap, ◌∙◌, get_or}
use Rattle.oe_index.specs.Own.{own_of}
use Rattle.oe_index.proofs.FoundFacts.{by-flag}
use Rattle.oe_index.proofs.OwnerFacts.{all-own}
use Rattle.oe_index.proofs.orders.Orders.of_customer.Goals as goal

pub returns : goal.returns
returns c =
    rw (← c.self.view_is) (by-flag (own_of c.args.customer.now) c.self.inside.is_listed _ _ _
    (λ e. all-own c.args.customer.now _ c.self.inside.lists c.under.result
    (λ t k x at. c.self.invariant e k x at)
    (c.under.ensures.listed ∙ ap (λ n. get_or c.self.inside.lists n [])
    c.owner_number-number.ensures.value) c.under.ensures.ordered)
    (rw (← c.self.view_is) at c.requires))
