-- What determines a script.
use Rattle.std.specs.Prelude.{◌≡◌, ℕ, List, length}
use Rattle.oe_lines.specs.declared.commands.Command.{Command}
use Rattle.oe_terms.specs.declared.plans.Plan.{Plan}
use Rattle.oe_load.specs.declared.origins.Origin.{Origin}
use Rattle.oe_load.specs.Scripts.{State, Lines}
use Rattle.oe_load.specs.Ends.{IsWhole}

-- From one state no two scripts of as many lines differ: whose turn each line is, and what it is, follows.
abbrev pub Turns_are_one : Type 0
Turns_are_one = (p : Plan) (s : State) (cs ds : List Command) (t u : State) → Lines p s cs t → Lines p s ds u
    → length cs ≡ length ds → (cs ≡ ds) × (t ≡ u)

-- A plan, and what it begins on, have one whole script.
abbrev pub Scripts_are_one : Type 0
Scripts_are_one = (p : Plan) (o : Origin) (a b : List ℕ) → IsWhole p o a → IsWhole p o b → a ≡ b
