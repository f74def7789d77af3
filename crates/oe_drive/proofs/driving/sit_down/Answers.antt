use Rattle.std.proofs.Common.{◌≡◌, ◌+◌, [], length, map, sym, ap, subst, ◌∙◌, suc, rules}
use Rattle.oe_drive.specs.Plans.{errands_in, ArePlansCarriedOut}
use Rattle.oe_drive.specs.Stations.{TheStation}
use Rattle.oe_drive.proofs.SlotFacts.{still_free}
use Rattle.oe_drive.proofs.PostFacts.{plan_seated, none_carried, none_left}
use Rattle.oe_drive.proofs.driving.sit_down.Goals as goal

pub loop-sender-preserved : goal.loop-sender-preserved
loop-sender-preserved g c = (
  search rules,
  search rules,
  search rules,
  search rules,
  search (rules, still_free),
  search rules,
  λ log.
      let number : c.len-slot.result + 1 ≡ suc (length c.pop-in-Some.new.self.items) = search rules in
      let same : c.unwrap.result ≡ c.len-slot.result + 1 = search rules in
      plan_seated log (ArePlansCarriedOut log (map errands_in c.args.plans.items)) _ _ c.in-Some-pop.plan _ _
      c.new-in-Some.result c.in-Some-pop.ensures.items c.push_reserved.ensures.items
      (ap (λ (s : TheStation). s.errands) c.new-in-Some.ensures)
      (ap (λ (s : TheStation). s.desk.seat.terminal) c.new-in-Some.ensures
      ∙ (c.take_desk-desk.ensures.terminal.0 ∙ (same ∙ number)))
      (c.loop-sender.invariant.6 log),
)

pub returns-clause-carried : goal.returns-clause-carried
returns-clause-carried g c log all =
    let none : c.loop-sender.plans.items ≡ [] = none_left _ (search rules) in
    c.loop-sender.invariant.6 log all
    (subst (λ x. ArePlansCarriedOut log (map errands_in x)) (sym none) (none_carried log))
