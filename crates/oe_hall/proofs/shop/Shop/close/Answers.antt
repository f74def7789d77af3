use Rattle.std.proofs.Common.{rules, ◌≡◌, ℕ, ap, sym, ◌∙◌, subst}
use Rattle.oe_history.specs.Views.{calls_by}
use Rattle.oe_history.specs.Calls.{TheCaller, Knows}
use Rattle.oe_hall.specs.Histories.{HasHappened}
use Rattle.oe_hall.specs.Seats.{HaveCalled}
use Rattle.oe_hall.specs.Desks.{TheShop, IsNobodys}
use Rattle.oe_hall.proofs.SeatFacts.{fresh_here, nobodys_calls}
use Rattle.oe_hall.proofs.shop.Shop.close.Goals as goal

pub look_at_list-requires : goal.look_at_list-requires
look_at_list-requires g c = record { here = fresh_here _ _ c.self.invariant.2 }

pub invariant_of-shop-2 : goal.invariant_of-shop-2
invariant_of-shop-2 g c =
    let i = c.self.invariant in
    let e = c.audit_list-counted.ensures.same.1 in
    let s = c.look_at_list.ensures.same.1 in
    rw (c.front.view_is, e, s) i

pub invariant_of-purger : goal.invariant_of-purger
invariant_of-purger g c =
    let n = g.J.Naming.names in
    subst (λ (x : TheCaller). (x.table ≡ n.history) × (x.by ≡ 0) × HasHappened n.opened x.seen)
    (sym c.look.ensures.same.1) c.purger.invariant

pub returns-clause-back : goal.returns-clause-back
returns-clause-back g c =
    (rw (c.front.view_is, c.look_at_list.ensures.same.1) c.self.view_is, search rules, search rules)

pub returns-then-open-eq0-clause-others : goal.returns-then-open-eq0-clause-others
returns-then-open-eq0-clause-others g c =
    let told : HaveCalled c.into_parts-core.result.1.log c.self.inside.seats.items = search rules in
    λ by nobody. nobodys_calls _ c.self.inside.seats.items c.into_parts-core.result.1.log c.self.invariant.2 told
    c.into_parts-core.ensures.others by (subst (λ (s : TheShop). IsNobodys s.seats by) (sym c.self.view_is) nobody)

pub returns-then-open-eq0-clause-purges : goal.returns-then-open-eq0-clause-purges
returns-then-open-eq0-clause-purges g c =
    let log = c.into_parts-core.result.1.log in
    let told : Knows log c.purger.inside.caller = search rules in
    ap (λ (n : ℕ). calls_by n log) (sym c.purger.invariant.1)
    ∙ (told.1 ∙ ap (λ (x : TheCaller). x.mine) c.purger.view_is)
