use Rattle.std.proofs.Common.{◌+◌}
use Rattle.oe_delivery.proofs.StageFacts.{drop_more}
use Rattle.oe_delivery.proofs.remainders.Remainder.pass.Goals as goal

pub returns : goal.returns
returns c = rw (← c.self.view_is) (λ i. record {
  order = c.self.inside.order;
  customer = c.self.inside.customer;
  numbers = drop_more c.self.inside.done c.self.inside.numbers i;
  sum = c.self.inside.sum + c.cents.ensures.value i;
})
