use Rattle.std.proofs.Common.{rules, ◌≡◌, ◌∙◌, List, [], ◌∷◌, ap, sym}
use Rattle.oe_history.specs.declared.views.View.{View}
use Rattle.oe_history.specs.Views.{caller, calls_by, first_view, next_caller}
use Rattle.oe_history.proofs.Steps.{deals}
use Rattle.oe_history.proofs.histories.History.deal.Goals as goal

pub split_seat-chair-requires : goal.split_seat-chair-requires
split_seat-chair-requires c =
    (search rules, search rules, deals 0 _ _ (ap (λ x. x.0.keeps) c.self.invariant.2))

pub invariant_of-result : goal.invariant_of-result
invariant_of-result c =
    let by = c.self.inside.chair.me.0.dealt in
    let n : c.split_seat-chair.result.me.0 ≡ caller by [] [] =
    ap (λ x. x.0) c.split_seat-chair.ensures.4 ∙ ap (λ x. next_caller x.0) c.self.invariant.2 in
    let vs : c.into_badge.result.views ≡ caller by [] [] ∷ [] = c.into_badge.ensures.2 ∙ (λ j. n j ∷ []) in
    let is = ap (λ (v : List View). (first_view v).by) vs in
    let seen = ap (λ (v : List View). (first_view v).seen) vs in
    let mine = ap (λ (v : List View). (first_view v).mine) vs in (
      vs ∙ (λ j. caller (sym is j) (sym seen j) (sym mine j) ∷ []),
      (λ j. calls_by (is j) (seen j)) ∙ sym mine,
    )
