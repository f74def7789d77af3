-- Sets of terminals, and the waits that are followed to them.
use Rattle.std.specs.Prelude.{ℕ, ◌-◌, Bool, false, not, ◌&&◌, cond, List, [], ◌++◌, codes, get_or}
use Rattle.oe_theory.specs.World.{World}
use Rattle.oe_model.specs.System.{system}
use Rattle.oe_waits.specs.Knots.{any_to}
use Rattle.oe_waits.specs.Waits.{waits_for, waits_through, last_terminal}
use Rattle.oe_waits.specs.Texts.{terminal_text, texts_to}
use Rattle.oe_waits.specs.declared.reaching.Way.{Way}
use Rattle.oe_waits.specs.declared.reaching.Way.TheVariants as way

-- a wait leads from t to u
abbrev pub leads : World system → Way → ℕ → ℕ → Bool
leads w way.Ahead t u = waits_for w t u
leads w way.Back t u = waits_for w u t

-- waits lead from t to u, at once or through others
abbrev pub leads_through : World system → Way → ℕ → ℕ → Bool
leads_through w way.Ahead t u = waits_through w t u
leads_through w way.Back t u = waits_through w u t

-- the set has the terminal
abbrev pub is_in : List Bool → ℕ → Bool
is_in set t = get_or set t false

-- the terminal is in the first set, and none below it is in both
abbrev pub is_least_in : List Bool → List Bool → ℕ → Bool
is_least_in ahead back t = is_in ahead t && not (any_to (λ u. is_in ahead u && is_in back u) (t - 1))

-- the line of those in both sets, at the least of them
abbrev pub line_in : List Bool → List Bool → ℕ → List ℕ
line_in ahead back t =
    cond (is_least_in ahead back t)
    (codes "cycle" ++ texts_to (λ u. cond (is_in ahead u && is_in back u) (terminal_text u) []) last_terminal
    ++ codes "\n")
    []
