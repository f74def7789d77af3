use Rattle.std.proofs.Common.{◌≡◌, ◌∙◌, List, [], ◌∷◌, ◌++◌, ap, sym, subst}
use Rattle.oe_history.specs.declared.views.Entry.{Entry}
use Rattle.oe_history.specs.declared.views.View.{View}
use Rattle.oe_history.specs.Views.{caller, calls_by, first_view}
use Rattle.oe_history.specs.Calls.{TheCaller, Extends}
use Rattle.oe_history.proofs.Lists.{calls-own, none-between}
use Rattle.oe_history.proofs.histories.History.write.Goals as goal

pub invariant_of-caller : goal.invariant_of-caller
invariant_of-caller g c =
    let d = c.caller.invariant in
    let w = c.write.ensures in
    let old = first_view c.caller.inside.badge.views in
    let log = c.self.inside.chair.me.0.log in
    let e = g.T.Told.entry in
    let own : e.by ≡ old.by = c.requires.own ∙ sym (ap (λ (x : TheCaller). x.by) c.caller.view_is) in
    let is = ap (λ (v : List View). (first_view v).by) w.caller in
    let seen = ap (λ (v : List View). (first_view v).seen) w.caller in
    let mine = ap (λ (v : List View). (first_view v).mine) w.caller in (
      w.caller ∙ (λ j. caller (sym is j) (sym seen j) (sym mine j) ∷ []),
      (λ j. calls_by (is j) (seen j))
          ∙ (calls-own old.by log e own ∙ (ap (λ (m : List Entry). m ++ e ∷ []) w.known.mine ∙ sym mine)),
    )

pub returns-clause-stands : goal.returns-clause-stands
returns-clause-stands g c =
    let d = c.caller.invariant in
    let w = c.write.ensures in
    let old = first_view c.caller.inside.badge.views in
    let log = c.self.inside.chair.me.0.log in
    let e = g.T.Told.entry in
    let seen = ap (λ (v : List View). (first_view v).seen) w.caller in
    let now = first_view c.write.new.badge.views in
    let new : TheCaller = record {
      table = c.write.new.badge.table_id;
      by = now.by;
      seen = now.seen;
      mine = now.mine;
    } in
    subst (λ (x : TheCaller). Extends x e new) c.caller.view_is (record {
      between = w.known.seen.0;
      seen = seen ∙ (λ j. sym w.known.seen.1 j ++ e ∷ []);
      alone = none-between old.by old.seen log w.known.seen old.mine d.1 w.known.mine;
      mine = ap (λ (v : List View). (first_view v).mine) w.caller;
      by = ap (λ (v : List View). (first_view v).by) w.caller;
    })
