use Rattle.std.proofs.Common.{rules, ◌≡◌, ◌-◌, ap, sym, subst, ◌∙◌}
use Rattle.atomic_table.specs.Seated.{TableId}
use Rattle.std.specs.Arc.{arc_value}
use Rattle.oe_theory.specs.Next.{IsQuiet}
use Rattle.oe_model.specs.System.{system}
use Rattle.oe_history.specs.Calls.{TheCaller}
use Rattle.oe_hall.specs.Naming.{TheNames}
use Rattle.oe_hall.specs.Seats.{AreFresh}
use Rattle.oe_hall.specs.Desks.{TheSeats}
use Rattle.oe_hall.proofs.SeatFacts.{all_there}
use Rattle.oe_hall.proofs.HistoryFacts.{none_yet}
use Rattle.oe_hall.proofs.shop.Shop.over.Goals as goal

pub new-recorded-requires-clause-opened : goal.new-recorded-requires-clause-opened
new-recorded-requires-clause-opened g c = ap (λ (n : TheNames). n.opened) c.requires.names

pub new-recorded-requires-clause-quiet : goal.new-recorded-requires-clause-quiet
new-recorded-requires-clause-quiet g c =
    subst (IsQuiet system) (ap (λ (n : TheNames). n.opened) c.requires.names) c.requires.none

pub invariant_of-shop-2 : goal.invariant_of-shop-2
invariant_of-shop-2 g c =
    let s = c.seats.inside in
    let here : s.history.table ≡ g.J.Naming.names.history = ap (λ (x : TheSeats). x.names.history) c.seats.view_is
    ∙ ap (λ (n : TheNames). n.history) c.requires.names in (
      search rules,
      search rules,
      subst (λ (h : TableId). AreFresh (record { words = arc_value s.moments; history = h; name = s.shop })
          s.desks.items)
          here c.seats.invariant.5,
      search rules,
      search rules,
      search rules,
      search rules,
    )

pub invariant_of-purger : goal.invariant_of-purger
invariant_of-purger g c =
    let silent = c.seats.invariant.8 in
    let here : c.seats.inside.history.table ≡ g.J.Naming.names.history =
    ap (λ (x : TheSeats). x.names.history) c.seats.view_is ∙ ap (λ (n : TheNames). n.history) c.requires.names in (
      ap (λ (x : TheCaller). x.table) silent ∙ here,
      ap (λ (x : TheCaller). x.by) silent,
      none_yet _ _ (ap (λ (x : TheCaller). x.seen) silent),
    )

pub returns-clause-free : goal.returns-clause-free
returns-clause-free g c = λ t e. all_there c.seats.inside.desks.items (c.seats.invariant.4 ∙ sym c.seats.invariant.3)
    (t - 1) e
