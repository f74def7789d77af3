-- Opening a core on a population, and what its line is answered.
use Rattle.std.proofs.Common.{◌≡◌, ℕ, ◌≤◌, List, length, None, Some, Result, Ok, Err, IfOk, codes, refl, subst, inl}
use Rattle.std.proofs.Common.{true, ap, ◌∙◌}
use Rattle.oe_theory.specs.World.{World}
use Rattle.oe_theory.specs.Theorems.{world_at_opening}
use Rattle.oe_rows.specs.declared.scales.Scale.{Scale}
use Rattle.oe_model.specs.Rows.{Rows}
use Rattle.oe_model.specs.Population.{IsPopulated}
use Rattle.oe_model.specs.System.{system}
use Rattle.oe_rows.specs.declared.layouts.Layout.{Layout}
use Rattle.oe_lines.specs.declared.commands.RingChoice.{RingChoice}
use Rattle.oe_lines.specs.Rings.{layout_of}
use Rattle.oe_lines.specs.declared.commands.Command.{Command}
use Rattle.oe_lines.specs.declared.commands.Command.TheVariants as command
use Rattle.oe_lines.specs.Grammar.{Says}
use Rattle.oe_script.specs.Script.{State, LineAnswer}
use Rattle.oe_script.specs.Hearing.{Takes}

-- a core that was opened on these rows is one that was opened on rows of the scale
pub on_population : {A E : Type 0} (w : A → World system) (scale : Scale) (x : Rows) (n : ℕ) (l m : Layout)
    → l ≡ m → IsPopulated scale x
    → (r : Result A E) → IfOk r (λ c. w c ≡ world_at_opening system x n l)
    → IfOk r (λ c. (y : Rows) × IsPopulated scale y × (w c ≡ world_at_opening system y n m))
on_population w scale x n l m same p (Ok c) e = (x, p, e ∙ ap (world_at_opening system x n) same)
on_population w scale x n l m same p (Err e) h = h

-- so the line that asks for it is answered
pub opened_line : (scale : Scale) (ring : RingChoice) (w : World system) (asked : Command) (s : State)
    → ((y : Rows) × IsPopulated scale y × (w ≡ world_at_opening system y ring.extents (layout_of ring)))
    → asked ≡ command.Open scale ring
    → s ≡ Some w
    → (n : ℕ) (line : List ℕ) → length line ≤ 1_024 → Says line asked
    → LineAnswer None n line (codes "opened\n") s
opened_line scale ring w asked s (y, p, e) is same n line short says =
    inl (
      command.Open scale ring,
      record { short = short; says = subst (λ z. Says line z) is says; allowed = tt },
      inl (y, p, refl, subst (λ z. s ≡ Some z) e same),
    )

-- and it is a command there
pub opening_taken : (scale : Scale) (ring : RingChoice) (asked : Command) → asked ≡ command.Open scale ring
    → (line : List ℕ) → length line ≤ 1_024 → Says line asked → Takes true None line
opening_taken scale ring asked is line short says =
    (command.Open scale ring, record { short = short; says = subst (λ z. Says line z) is says; allowed = tt })
