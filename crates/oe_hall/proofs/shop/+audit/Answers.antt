use Rattle.std.proofs.Common.{rules, ◌≡◌, ap, sym, ◌∙◌, subst}
use Rattle.oe_hall.specs.Counts.{Tally}
use Rattle.oe_hall.specs.Histories.{is_open}
use Rattle.oe_hall.specs.Desks.{IsBalanced}
use Rattle.oe_history.specs.Calls.{TheCaller}
use Rattle.oe_hall.specs.Histories.{HasHappened}
use Rattle.oe_hall.proofs.shop.+audit.Goals as goal

pub audit_first-invariant_of-first : goal.audit_first-invariant_of-first
audit_first-invariant_of-first g n c =
    let f = c.first.invariant in
    let same = c.look.ensures.same.1 in
    let told : c.give-2.new.to ≡ record {
      parts = 1;
      begun = c.first.inside.begun;
      committed = c.first.inside.committed;
      rolled_back = c.first.inside.rolled_back;
    } = search rules in (
      f.0,
      search rules,
      ap (λ (x : TheCaller). x.table) same ∙ f.2,
      ap (λ (x : TheCaller). x.by) same ∙ f.3,
      subst (λ (x : TheCaller). HasHappened g.J.Naming.names.opened x.seen) (sym same) f.4,
      subst (λ (t : Tally). IsBalanced t (is_open c.look.new.caller.mine)) (f.1 ∙ sym told)
          (subst (λ (x : TheCaller). IsBalanced c.first.inside.told (is_open x.mine)) (sym same) f.5),
    )
