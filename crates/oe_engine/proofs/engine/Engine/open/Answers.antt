use Rattle.std.proofs.Common.{ap, subst, sym, ◌∙◌}
use Rattle.oe_engine.specs.View.{view_of, view_from, opened_view}
use Rattle.std.specs.Prelude.{◌↔◌, IsSome}
use Rattle.oe_model.specs.Rows.{Rows, row_at}
use Rattle.oe_store.specs.Places.{rows, HasPlace}
use Rattle.oe_engine.specs.Kept.{IsKept}
use Rattle.oe_engine.specs.Covered.{IsSafe}
use Rattle.oe_engine.proofs.LogFacts.{first_is}
use Rattle.oe_engine.proofs.KeptFacts.{first_kept}
use Rattle.oe_engine.proofs.SafeFacts.{safe_first}
use Rattle.oe_engine.specs.Renames.{AreNamed}
use Rattle.oe_engine.proofs.RenameFacts.{named_first}
use Rattle.oe_engine.proofs.engine.Engine.open.Goals as goal

pub invariant_of-result : goal.invariant_of-result
invariant_of-result c =
    let quiet = rw c.in-Ok.is at c.beside.ensures.locks in
    let first = rw c.in-Ok.is at c.beside.ensures.log in
    record {
      sound = record {
        kept = subst (λ u. IsKept c.sweep.new.self u c.in-Ok.locks) (sym first)
            (first_kept c.sweep.new.self c.args.extents c.args.layout c.in-Ok.locks
            (λ k. subst (λ (r : Rows). HasPlace c.sweep.new.self k ↔ IsSome (row_at r k)) (sym c.sweep.ensures.rows)
            (c.sweep.ensures.places k)) quiet);
        safe = subst IsSafe (sym (ap (λ u. view_from c.sweep.new.self u c.in-Ok.locks) first
            ∙ first_is c.sweep.new.self c.args.extents c.args.layout c.in-Ok.locks quiet))
            (safe_first (rows c.sweep.new.self) c.args.extents c.args.layout c.schema_holds.ensures);
        linked = rw c.in-Ok.is at c.beside.ensures.linked;
      };
      named = subst (λ v. AreNamed v c.none-renames.result)
          (sym (ap (λ u. view_from c.sweep.new.self u c.in-Ok.locks) first
          ∙ first_is c.sweep.new.self c.args.extents c.args.layout c.in-Ok.locks quiet))
          (named_first (rows c.sweep.new.self) c.args.extents c.args.layout c.none-renames.result);
    }

pub returns-clause-view : goal.returns-clause-view
unfolding view_of
returns-clause-view c =
    let quiet = rw c.in-Ok.is at c.beside.ensures.locks in
    let first = rw c.in-Ok.is at c.beside.ensures.log in
    ap (λ u. view_from c.sweep.new.self u c.in-Ok.locks) first
    ∙ first_is c.sweep.new.self c.args.extents c.args.layout c.in-Ok.locks quiet
    ∙ ap (λ r. opened_view r c.args.extents c.args.layout) c.sweep.ensures.rows
