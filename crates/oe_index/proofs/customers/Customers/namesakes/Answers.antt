use Rattle.std.proofs.Common.{[], ap, ◌∙◌, get_or}
use Rattle.oe_index.specs.Own.{named_of}
use Rattle.oe_index.proofs.FoundFacts.{by-flag}
use Rattle.oe_index.proofs.NameFacts.{all-met}
use Rattle.oe_index.proofs.customers.Customers.namesakes.Goals as goal

pub returns : goal.returns
returns c =
    rw (← c.self.view_is) (by-flag (named_of c.args.district.now c.args.last.now) c.self.inside.is_listed _ _ _
    (λ e. all-met c.args.district.now c.args.last.now _ c.self.inside.lists c.under.result
    (λ t k x at. c.self.invariant e k x at)
    (c.under.ensures.listed ∙ ap (λ n. get_or c.self.inside.lists n [])
    c.list_number-number.ensures.value) c.under.ensures.ordered)
    (rw (← c.self.view_is) at c.requires))
