-- Histories: runs of the machine over entries, and what a caller's own entries make of its transaction.
use Rattle.std.specs.Prelude.{◌≡◌, ℕ, Bool, false, List, [], ◌∷◌}
use Rattle.oe_theory.specs.World.{World}
use Rattle.oe_theory.specs.Next as theory
use Rattle.oe_theory.specs.Next.{Runs}
use Rattle.oe_model.specs.System.{system}
use Rattle.oe_machine.specs.Steps.{step_in, answer_in}
use Rattle.oe_requests.specs.declared.steps.Step.{Step}
use Rattle.oe_requests.specs.declared.steps.Step.TheVariants as step
use Rattle.oe_history.specs.Slots.{after}
use Rattle.oe_history.specs.declared.views.Entry.{Entry}

-- the steps and answers of entries, in the words of the theory
abbrev pub steps_in : List Entry → List (theory.Step system)
steps_in [] = []
steps_in (e ∷ es) = step_in e.step ∷ steps_in es

abbrev pub answers_in : List Entry → List (theory.Answer system)
answers_in [] = []
answers_in (e ∷ es) = answer_in e.step e.answer ∷ answers_in es

-- who has this number may ask for this step: a terminal for its own, the purger, whose number is 0, for a purge
abbrev pub IsStepOf : ℕ → Step → Type 0
IsStepOf n (step.Begin t q) = t ≡ n
IsStepOf n (step.Advance t) = t ≡ n
IsStepOf n (step.Rollback t) = t ≡ n
IsStepOf n (step.Read m q) = Unit {0}
IsStepOf n (step.Purge m) = n ≡ 0
IsStepOf n i = ⊥

abbrev pub IsOwnStep : Entry → Type 0
IsOwnStep e = IsStepOf e.by e.step

abbrev pub AreOwnSteps : List Entry → Type 0
AreOwnSteps [] = Unit {0}
AreOwnSteps (e ∷ es) = IsOwnStep e × AreOwnSteps es

-- The entries lead from w to the last world: they are a run of the machine, in which each step stands under the number
-- of who may ask for it.
pub record IsHistory (w : World system) (log : List Entry) (w' : World system) : Type 0 where
  pub run : Runs system w (steps_in log) (answers_in log) w'
  pub own : AreOwnSteps log

-- they lead somewhere
abbrev pub HasHappened : World system → List Entry → Type 0
HasHappened w log = (w' : World system) × IsHistory w log w'

-- whether a caller's transaction is open after its own entries
abbrev pub opens : Bool → List Entry → Bool
opens b [] = b
opens b (e ∷ es) = opens (after system b (answer_in e.step e.answer)) es

abbrev pub is_open : List Entry → Bool
is_open mine = opens false mine
