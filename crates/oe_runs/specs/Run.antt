-- A run of steps one after another, and what follows of it.
use Rattle.std.specs.Prelude.{◌≡◌, ◌≢◌, ℕ, ◌≤◌, true, map, List, [], ◌∷◌, ◌++◌, length}
use Rattle.oe_theory.specs.World.{World, horizon, newest, at, tables, IsSerial}
use Rattle.oe_theory.specs.Next as theory
use Rattle.oe_theory.specs.Next.{Next, IsQuiet, Begin, Begun, Runs, events, steps_of, answers_of}
use Rattle.oe_theory.specs.Erase.{is_rolled_back, without}
use Rattle.oe_theory.specs.Theorems.{IsReached}
use Rattle.oe_theory.specs.StepTheorems.{IsEnding}
use Rattle.oe_requests.specs.declared.requests.Request.{Request}
use Rattle.oe_requests.specs.declared.steps.Step.{Step}
use Rattle.oe_requests.specs.declared.steps.Step.TheVariants as step
use Rattle.oe_requests.specs.declared.answers.Answer.{Answer}
use Rattle.oe_requests.specs.declared.answers.Answer.TheVariants as answer
use Rattle.oe_model.specs.Rows.{Rows}
use Rattle.oe_model.specs.Headline.{Conditions}
use Rattle.oe_model.specs.FurtherConditions.{More}
use Rattle.oe_model.specs.System.{system}
use Rattle.oe_movements.specs.Kept.{HasMovements}
use Rattle.oe_machine.specs.Steps.{step_in, answer_in}

-- these steps, one after another, were answered so, and left the last world
abbrev pub Served : World system → List Step → List Answer → World system → Type 0
Served w [] [] w' = w ≡ w'
Served w (i ∷ is) (a ∷ ys) w' = (v : World system) × Next system w (step_in i) (answer_in i a) v × Served v is ys w'
Served w [] (a ∷ ys) w' = ⊥
Served w (i ∷ is) [] w' = ⊥

-- the steps, and their answers, in the words of the theory
abbrev pub steps_in : List Step → List (theory.Step system)
steps_in is = map step_in is

abbrev pub answers_in : List Step → List Answer → List (theory.Answer system)
answers_in (i ∷ is) (a ∷ ys) = answer_in i a ∷ answers_in is ys
answers_in [] ys = []
answers_in (i ∷ is) [] = []

-- no answer is that something was purged
abbrev pub AreUnpurged : List Answer → Type 0
AreUnpurged [] = Unit {0}
AreUnpurged (a ∷ ys) = ((m : ℕ) → a ≢ answer.Purged m) × AreUnpurged ys

-- a purge leaves the tables and all versions from its moment on, whose version is then the base; a rewind gives the
-- version of its moment, which at 0 is the base, and leaves those before; any other step leaves the base
abbrev pub PastBy : World system → theory.Answer system → World system → Type 0
PastBy w (theory.Purged m) v =
    (v.base ≡ at system w m)
    × (horizon system v ≡ m) × (newest system v ≡ newest system w) × (tables system v ≡ tables system w)
    × ((k : ℕ) → m ≤ k → k ≤ newest system w → at system v k ≡ at system w k)
PastBy w (theory.Rewound m) v =
    (v.base ≡ w.base)
    × (tables system v ≡ at system w m) × (m ≡ 0 → tables system v ≡ w.base) × (newest system v ≡ m)
    × (horizon system v ≡ horizon system w) × ((k : ℕ) → k ≤ m → at system v k ≡ at system w k)
PastBy w a v = v.base ≡ w.base

-- what holds of each world that a run passes, which began on this base
pub record IsPassed (base : Rows) (w : World system) : Type 0 where
  -- the same transactions, run one at a time, make the same commits
  pub serial : IsSerial system w.counts w.base w.history
  -- conditions 1 to 4 (clauses 3.3.2.1 to 3.3.2.4) hold of the version of each moment, and of the tables when none is
  -- open
  pub conditions : (m : ℕ) → Conditions (at system w m)
  pub when_quiet : IsQuiet system w → Conditions (tables system w)
  -- conditions 5 to 10 and 12 (clauses 3.3.2.5 to 3.3.2.10 and 3.3.2.12) hold of the version of each moment, where they
  -- held of that base
  pub more : More base → (m : ℕ) → More (at system w m)
  -- and so do the seven movements beside them, after a population of so many orders in each district
  pub movements : (initial : ℕ) → HasMovements initial base → (m : ℕ) → HasMovements initial (at system w m)

-- Each world on the way is such a one, of commits that later steps rewind or purge too. A row that ends its transaction
-- commits its whole effect on the newest version and makes the next moment, or rolls it back where that effect is none,
-- with the program's own refusal there. Purges and rewinds are as `PastBy` says
abbrev pub AreWhole : Rows → World system → List Step → List Answer → World system → Type 0
AreWhole base w [] [] w' = IsPassed base w × (w ≡ w')
AreWhole base w (i ∷ is) (a ∷ ys) w' =
    IsPassed base w
    × ((v : World system) × Next system w (step_in i) (answer_in i a) v
    × IsEnding system w (answer_in i a) (step_in i) v × PastBy w (answer_in i a) v × AreWhole base v is ys w')
AreWhole base w [] (a ∷ ys) w' = ⊥
AreWhole base w (i ∷ is) [] w' = ⊥

-- What follows of a run from a world that steps led to. It is a run of the machine; each of its transactions ends
-- whole; and a transaction that is rolled back in it leaves no trace
pub record Ran (w : World system) (is : List Step) (ys : List Answer) (w' : World system) : Type 0 where
  pub runs : Runs system w (steps_in is) (answers_in is ys) w'
  pub reached : IsReached system w'
  pub whole : AreWhole w.base w is ys w'
  pub last : IsPassed w.base w'
  pub no_trace : (before after : List (theory.Step system)) (said later : List (theory.Answer system)) (t : ℕ)
      (q : Request)
      → length before ≡ length said
      → steps_in is ≡ before ++ Begin t q ∷ after → answers_in is ys ≡ said ++ Begun ∷ later
      → is_rolled_back system t (events system after later) ≡ true
      → Runs system w (steps_of system (without system (events system before said) t (events system after later)))
      (answers_of system (without system (events system before said) t (events system after later))) w'
  -- where nothing is purged the base stays, and a rewind to moment 0 gives it: after an opening, the population
  pub base : AreUnpurged ys → w'.base ≡ w.base
  pub to_base : (before : List Step) (said : List Answer) → is ≡ before ++ step.Rewind 0 ∷ []
      → ys ≡ said ++ answer.Rewound 0 ∷ [] → AreUnpurged said → tables system w' ≡ w.base
