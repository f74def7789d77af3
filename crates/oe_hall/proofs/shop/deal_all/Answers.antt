use Rattle.std.proofs.Common.{rules, ap, arith}
use Rattle.oe_hall.specs.Seats.{ThePlace, waiting}
use Rattle.oe_hall.proofs.SeatFacts.{fresh_snoc, waiting_snoc}
use Rattle.oe_hall.proofs.shop.deal_all.Goals as goal

pub loop-k-preserved : goal.loop-k-preserved
loop-k-preserved c =
    let i = c.loop-k.invariant in
    let place : ThePlace = record { seat = c.deal-seat.result; calls = c.deal-caller.result } in
    let p = c.push_reserved.ensures.items in (
      search rules,
      omega (arith, ap waiting p, waiting_snoc c.loop-k.places.items place, i.1),
      rw p (fresh_snoc _ _ _ i.2 (search rules)),
      search rules,
      search rules,
      search rules,
      search rules,
      search rules,
    )
