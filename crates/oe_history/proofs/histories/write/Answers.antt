use Rattle.std.proofs.Common.{rules, subst, ◌≡◌, ap, sym, ◌∙◌}
use Rattle.oe_history.specs.declared.views.View.{View}
use Rattle.oe_history.specs.Views.{keeper, caller, both, first_view, IsCaller}
use Rattle.oe_history.proofs.Steps.{comes, appends, goes, only}
use Rattle.oe_history.proofs.histories.write.Goals as goal

pub join_seat-requires : goal.join_seat-requires
join_seat-requires g c = (search rules, search rules, search rules, search rules, comes 0 _ _ _ _)

pub load-requires : goal.load-requires
load-requires g c =
    let d = first_view c.args.badge.now.views in
    let m = c.args.chair.now.me.0 in
    let k : m ≡ keeper m.log m.dealt = ap (λ x. x.0) c.requires.keeper in
    let w : c.into_seat-guest.result.me.0 ≡ caller d.by d.seen d.mine =
    only _ _ (sym c.into_seat-guest.ensures.2 ∙ (ap (λ b. b.views) c.replace.ensures.value ∙ c.requires.caller)) in
    let j : c.join_seat.new.seat.me.0 ≡ both (keeper m.log m.dealt) (caller d.by d.seen d.mine) =
    ap (λ x. x.0) c.join_seat.ensures.2 ∙ (λ i. both (k i) (w i)) in (
      search rules,
      search rules,
      appends 0 _ _ _ _ (ap (λ x. x.keeps) j) (ap (λ x. x.calls) j) (c.requires.own
          ∙ sym (ap (λ x. x.by) j)),
    )

pub split_seat-guest-requires : goal.split_seat-guest-requires
split_seat-guest-requires g c = (search rules, search rules, goes 0 _ _)

pub returns-clause-known : goal.returns-clause-known
returns-clause-known g c =
    let d = first_view c.args.badge.now.views in
    let m = c.args.chair.now.me.0 in
    let k : m ≡ keeper m.log m.dealt = ap (λ x. x.0) c.requires.keeper in
    let w : c.into_seat-guest.result.me.0 ≡ caller d.by d.seen d.mine =
    only _ _ (sym c.into_seat-guest.ensures.2 ∙ (ap (λ b. b.views) c.replace.ensures.value ∙ c.requires.caller)) in
    let j : c.join_seat.new.seat.me.0 ≡ both (keeper m.log m.dealt) (caller d.by d.seen d.mine) =
    ap (λ x. x.0) c.join_seat.ensures.2 ∙ (λ i. both (k i) (w i)) in
    let f = subst (λ (v : View). IsCaller v.log v.dealt v) j (c.load.ensures.2).1 in
    record { seen = f.seen; mine = f.mine; known = f.known }
