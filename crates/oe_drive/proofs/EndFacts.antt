-- Which condition fails at the end of a drive, and what a rewind leaves.
use Rattle.std.proofs.Common.{◌≡◌, ℕ, Option, Some, None, false, true≢false, sym, ap, subst}
use Rattle.std.proofs.Common.{◌∙◌, refl, arith}
use Rattle.oe_theory.specs.World.{World, latest}
use Rattle.oe_theory.specs.Next as theory
use Rattle.oe_theory.specs.Next.{Next}
use Rattle.oe_model.specs.Rows.{Rows}
use Rattle.oe_model.specs.System.{system}
use Rattle.std.specs.Prelude.{◌≤◌}
use Rattle.oe_requests.specs.Condition.{condition_number}
use Rattle.oe_requests.specs.declared.audits.Condition.{Condition}
use Rattle.oe_requests.specs.declared.audits.Condition.TheVariants as condition
use Rattle.oe_model.specs.Audits as model
use Rattle.oe_model.specs.Headline.{Conditions}
use Rattle.oe_model.proofs.VerdictFacts.{verdicts_are_exact}
use Rattle.oe_report.specs.Verdicts.{fails, IsFirstFailing, names_a_row}
use Rattle.oe_drive.specs.Runs.{IsRewoundToBase}

-- none of conditions 1 to 4 fails where they hold
holds_of : (r : Rows) → Conditions r → (c : Condition) → condition_number c ≤ 4 → fails c r ≡ false
holds_of r h condition.First l = ap names_a_row ((verdicts_are_exact.holds model.First r).1 h.condition_1)
holds_of r h condition.Second l = ap names_a_row ((verdicts_are_exact.holds model.Second r).1 h.condition_2)
holds_of r h condition.Third l = ap names_a_row ((verdicts_are_exact.holds model.Third r).1 h.condition_3)
holds_of r h condition.Fourth l = ap names_a_row ((verdicts_are_exact.holds model.Fourth r).1 h.condition_4)
holds_of r h condition.Fifth l = absurd (omega (arith, l))
holds_of r h condition.Sixth l = absurd (omega (arith, l))
holds_of r h condition.Seventh l = absurd (omega (arith, l))
holds_of r h condition.Eighth l = absurd (omega (arith, l))
holds_of r h condition.Ninth l = absurd (omega (arith, l))
holds_of r h condition.Tenth l = absurd (omega (arith, l))
holds_of r h condition.Twelfth l = absurd (omega (arith, l))

pub none_fails : (r : Rows) (v : Option Condition) → Conditions r → IsFirstFailing r v → v ≡ None
none_fails r None h first = refl
none_fails r (Some c) h first = absurd (true≢false (sym first.1 ∙ holds_of r h c first.0))

pub goes_to_start : (w w' : World system) (m : ℕ) (a : theory.Answer system) (r : Rows) → m ≡ 0
    → Next system w (theory.Rewind m) a w' → r ≡ latest system w' → IsRewoundToBase w r
goes_to_start w w' m a r zero next left =
    (w', a, subst (λ (n : ℕ). Next system w (theory.Rewind n) a w') zero next, left)
