-- What each line of a script was.
use Rattle.std.specs.Prelude.{◌≡◌, ◌≢◌, ℕ, zero, suc, ◌+◌, List, [], ◌∷◌, ◌++◌, Option, Some, None}
use Rattle.oe_theory.specs.World.{World}
use Rattle.oe_theory.specs.Next.{Next}
use Rattle.oe_rows.specs.declared.scales.Scale.{Scale}
use Rattle.oe_model.specs.System.{system}
use Rattle.oe_requests.specs.declared.answers.Answer.{Answer}
use Rattle.oe_requests.specs.declared.answers.Answer.TheVariants as answer
use Rattle.oe_requests.specs.declared.steps.Step.{Step}
use Rattle.oe_requests.specs.declared.steps.Step.TheVariants as step
use Rattle.oe_lines.specs.declared.commands.RingChoice.{RingChoice}
use Rattle.oe_lines.specs.declared.commands.Command.{Command}
use Rattle.oe_lines.specs.declared.commands.Command.TheVariants as command
use Rattle.oe_lines.specs.declared.commands.Display.{Display}
use Rattle.oe_machine.specs.Steps.{step_in, answer_in}
use Rattle.oe_io.specs.Lines.{bad_line}
use Rattle.oe_runs.specs.Run.{steps_in, answers_in}
use Rattle.oe_script.specs.Script.{State, moment_in, step_answer, Answers, Asks}
use Rattle.oe_script_laws.specs.Commits.{Transaction, commits_of_steps}

-- what a line was: none of the forms; an opening, or what it showed, with its text; or n times a step that was answered
-- `more`, as a `run` has it, and then that step with this answer
pub data Deed : Type 0 where
  No_form : Deed
  Opening : List ℕ → Deed
  Shown : List ℕ → Deed
  Steps : ℕ → Step → Answer → Deed

-- a line, without its end, and what it was
pub record Entry : Type 0 where
  pub line : List ℕ
  pub deed : Deed

-- the step that a command asks for; an opening and what is only shown are none
abbrev pub step_of : World system → Command → Option Step
step_of w (command.Open scale ring) = None
step_of w (command.Begin t q) = Some (step.Begin t q)
step_of w (command.Next t) = Some (step.Advance t)
step_of w (command.Run t) = Some (step.Advance t)
step_of w (command.Save t) = Some (step.Save t)
step_of w (command.Back t) = Some (step.Back t)
step_of w (command.Rollback t) = Some (step.Rollback t)
step_of w (command.Show b) = None
step_of w (command.Audit c m) = Some (step.Audit c (moment_in w m))
step_of w (command.Read m q) = Some (step.Read (moment_in w m) q)
step_of w (command.Purge m) = Some (step.Purge (moment_in w m))
step_of w (command.Rewind m) = Some (step.Rewind (moment_in w m))

-- a `run` goes on up to an answer that is not `more`; each other command is one step
abbrev pub IsUpTo : Command → ℕ → Answer → Type 0
IsUpTo (command.Run t) n x = x ≢ answer.More
IsUpTo c n x = n ≡ 0

-- the step, n times answered `more`, and then answered so
abbrev pub Takes : ℕ → World system → Step → Answer → World system → Type 0
Takes zero w i x w' = Next system w (step_in i) (answer_in i x) w'
Takes (suc n) w i x w' = (mid : World system) × Next system w (step_in i) (answer_in i answer.More) mid
    × Takes n mid i x w'

-- the line was taken for such steps
abbrev pub Stepped : State → List ℕ → ℕ → Step → Answer → State → Type 0
Stepped None line n i x s = ⊥
Stepped (Some w) line n i x s =
    (c : Command) × (w' : World system) × Asks (Some w) line c × (step_of w c ≡ Some i) × IsUpTo c n x
    × Takes n w i x w' × (s ≡ Some w')

-- in this state the line was this deed, and left that state
abbrev pub Was : State → List ℕ → Deed → State → Type 0
Was s line No_form s' = ((c : Command) → Asks s line c → ⊥) × (s' ≡ s)
Was s line (Opening text) s' = (scale : Scale) × (ring : RingChoice) × Asks s line (command.Open scale ring)
    × Answers s (command.Open scale ring) text s'
Was s line (Shown text) s' = (b : Display) × Asks s line (command.Show b) × Answers s (command.Show b) text s'
Was s line (Steps n i x) s' = Stepped s line n i x s'

-- lines one after another
abbrev pub Passed : State → List Entry → State → Type 0
Passed s [] s' = s' ≡ s
Passed s (e ∷ es) s' = (mid : State) × Was s e.line e.deed mid × Passed mid es s'

-- the answer of the n-th line, counted from 1
abbrev pub text_of : ℕ → Deed → List ℕ
text_of n No_form = bad_line n
text_of n (Opening text) = text
text_of n (Shown text) = text
text_of n (Steps k i x) = step_answer i x

-- the lines, and their answers where n lines came before
abbrev pub lines_of : List Entry → List (List ℕ)
lines_of [] = []
lines_of (e ∷ es) = e.line ∷ lines_of es

abbrev pub texts_of : ℕ → List Entry → List ℕ
texts_of n [] = []
texts_of n (e ∷ es) = text_of (n + 1) e.deed ++ texts_of (n + 1) es

-- the steps of the machine that they were, and their answers
abbrev pub repeats_then : {A : Type 0} → ℕ → A → A → List A
repeats_then zero x last = last ∷ []
repeats_then (suc n) x last = x ∷ repeats_then n x last

abbrev pub steps_in_deed : Deed → List Step
steps_in_deed No_form = []
steps_in_deed (Opening text) = []
steps_in_deed (Shown text) = []
steps_in_deed (Steps n i x) = repeats_then n i i

abbrev pub answers_in_deed : Deed → List Answer
answers_in_deed No_form = []
answers_in_deed (Opening text) = []
answers_in_deed (Shown text) = []
answers_in_deed (Steps n i x) = repeats_then n answer.More x

abbrev pub steps_of : List Entry → List Step
steps_of [] = []
steps_of (e ∷ es) = steps_in_deed e.deed ++ steps_of es

abbrev pub answers_of : List Entry → List Answer
answers_of [] = []
answers_of (e ∷ es) = answers_in_deed e.deed ++ answers_of es

-- the commits that lines behind an opening tell of, with their answers, the newest first
abbrev pub commits_of : List Entry → List Transaction
commits_of es = commits_of_steps (steps_in (steps_of es)) (answers_in (steps_of es) (answers_of es))
