-- Audits of the moments that are kept.
use Rattle.std.proofs.Common.{◌≡◌, ℕ, ◌<◌, sym, ap, ◌∙◌, subst, refl}
use Rattle.oe_requests.specs.declared.refusals.Refusal.{Refusal}
use Rattle.oe_requests.specs.declared.refusals.Refusal.TheVariants.{TooOld, Future}
use Rattle.oe_requests.specs.declared.audits.Condition.{Condition}
use Rattle.oe_requests.specs.declared.steps.Step.TheVariants as step
use Rattle.oe_theory.specs.World.{newest, tables, total}
use Rattle.oe_theory.specs.Next.{Next, Audit, Audited}
use Rattle.oe_theory.specs.Next as theory
use Rattle.oe_theory.proofs.StoreSteps.{tables_here}
use Rattle.oe_theory.proofs.StoreTheorems.{newest_here}
use Rattle.oe_model.specs.Audits as model
use Rattle.oe_model.specs.System.{system, terminal_limit}
use Rattle.oe_model.proofs.SystemLaws.{laws}
use Rattle.oe_machine.specs.Verdict.{condition_of}
use Rattle.oe_engine.specs.View.{view_from, view_of}
use Rattle.oe_log.specs.Moments.{IsKeptMoment, IsUnkept}
use Rattle.oe_versions.specs.Versions.{VersionState, rows_of}
use Rattle.oe_core.specs.Core.{CoreState, store_of, world_of, IsOrderly}
use Rattle.oe_machine.specs.Steps.{refusal_in}
use Rattle.oe_core.proofs.MoveFacts.{standing, the_steps}
use Rattle.oe_core.proofs.LentFacts.{IsLent}

pub newest_is : (s : CoreState) → IsOrderly s
    → newest system (world_of s) ≡ total terminal_limit (view_of s.engine).counts
unfolding world_of
newest_is s o = newest_here system laws (store_of s) (standing s o)

pub tables_are : (s : CoreState) → IsOrderly s → tables system (world_of s) ≡ (view_of s.engine).rows
unfolding world_of
tables_are s o = tables_here system laws (store_of s) (standing s o)

-- the version that the engine lends, as the core's world has it
module _ (s : CoreState) (o : IsOrderly s) (n : Condition) (m : ℕ) where
  pub audited_here : (v : VersionState) → IsLent s m v → IsKeptMoment s.engine.undo m → (a : model.Verdict)
      → a ≡ model.verdict (condition_of n) (rows_of v)
      → Next system (world_of s) (Audit m (condition_of n)) (Audited a) (world_of s)
  unfolding world_of view_of view_from
  audited_here v is kept a told =
      subst (λ (z : model.Verdict). Next system (world_of s) (Audit m (condition_of n)) (Audited z) (world_of s))
      (sym (told ∙ ap (λ (x : VersionState). model.verdict (condition_of n) (rows_of x)) is))
      (the_steps.audits (store_of s) m (condition_of n) (standing s o) kept.old kept.new).next

  pub refused_here : (e : Refusal) → IsUnkept s.engine.undo m e
      → Next system (world_of s) (Audit m (condition_of n)) (refusal_in (step.Audit n m) e) (world_of s)
  unfolding world_of view_of view_from
  refused_here (TooOld k) i =
      subst (λ (z : ℕ). Next system (world_of s) (Audit m (condition_of n)) (theory.Too_old z) (world_of s)) (sym i.0)
      (the_steps.is_too_old (store_of s) (Audit m (condition_of n)) m (standing s o) refl tt
      (subst (λ (k : ℕ). m < k) i.0 i.1)).next
  refused_here (Future k) i =
      subst (λ (z : ℕ). Next system (world_of s) (Audit m (condition_of n)) (theory.Future z) (world_of s)) (sym i.0)
      (the_steps.is_future (store_of s) (Audit m (condition_of n)) m (standing s o) refl tt
      (subst (λ (k : ℕ). k < m) i.0 i.1)).next
  refused_here _ i = absurd i
