use Rattle.std.proofs.Common.{rules, ◌-◌, Some, List, ap, sym, ◌∙◌, refl, subst, arith}
use Rattle.oe_history.specs.declared.views.Entry.{Entry}
use Rattle.oe_hall.specs.Counts.{Tally, tally_of}
use Rattle.oe_hall.specs.Histories.{is_open}
use Rattle.oe_hall.specs.Desks.{IsBalanced}
use Rattle.oe_hall.specs.Seats.{ThePlace, waiting}
use Rattle.oe_hall.proofs.SeatFacts.{fresh_set, waiting_set}
use Rattle.oe_hall.proofs.HistoryFacts.{none_yet}
use Rattle.oe_hall.proofs.shop.Shop.desk.Goals as goal

pub invariant_of-self-2 : goal.invariant_of-self-2
invariant_of-self-2 g c =
    let i = c.self.invariant in
    let t = c.take_seat.ensures in
    let seats = c.self.inside.seats.items in
    let w = waiting_set seats (c.get.result - 1) c.in-Some.place (t.value ∙ ap Some c.in-Some.is) in (
      i.0,
      search rules,
      rw t.after (fresh_set _ _ _ i.2),
      search rules,
      omega (arith, w, ap waiting t.after, i.4),
      search rules,
      i.6,
    )

pub invariant_of-result : goal.invariant_of-result
invariant_of-result g c =
    let is = c.place.view_is
    ∙ c.self.invariant.2 (c.get.result - 1) c.in-Some.place (c.take_seat.ensures.value ∙ ap Some c.in-Some.is) in (
      ap (λ (p : ThePlace). p.seat.words) is ∙ c.self.invariant.6,
      search rules,
      ap (λ (p : ThePlace). p.calls.table) is,
      ap (λ (p : ThePlace). p.calls.by) is ∙ sym (ap (λ (p : ThePlace). p.seat.terminal) is),
      none_yet _ _ (ap (λ (p : ThePlace). p.calls.seen) is),
      subst (λ (t : Tally). IsBalanced t (is_open c.place.inside.caller.mine)) (sym c.split_one-told.ensures.one)
          (subst (λ (m : List Entry). IsBalanced (tally_of 1) (is_open m))
          (sym (ap (λ (p : ThePlace). p.calls.mine) is)) (refl, omega arith)),
    )
