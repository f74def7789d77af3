use Rattle.std.proofs.Common.{rules, ap, ◌∙◌}
use Rattle.oe_locks.specs.Marks.{may_hold}
use Rattle.oe_locks.proofs.NotedFacts.{nobody-in}
use Rattle.oe_locks.proofs.marks.Holders.new.Goals as goal

pub returns : goal.returns
returns c k u =
    ap (λ s. may_hold s k u) (c.in_ok-vec.ensures.items_if_clones_equal (λ y same. search rules))
    ∙ nobody-in 64 c.empty.result k u c.empty.ensures
