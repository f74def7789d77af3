-- What a line comes to: the text that goes out for it, and the state that it leaves.
use Rattle.std.specs.Prelude.{◌≡◌, ℕ, ◌++◌, Bool, List, Option, Some, Result, MatchResult, IfOk}
use Rattle.oe_theory.specs.World.{World}
use Rattle.oe_theory.specs.Next.{Next}
use Rattle.oe_requests.specs.declared.replies.Reply.{Reply}
use Rattle.oe_requests.specs.declared.steps.Step.{Step}
use Rattle.oe_requests.specs.declared.answers.Answer.{Answer}
use Rattle.oe_requests.specs.declared.answers.Answer.TheVariants as answer
use Rattle.oe_texts.specs.Answer.{answer_line}
use Rattle.oe_model.specs.System.{system}
use Rattle.oe_machine.specs.Steps.{step_in, answer_in}
use Rattle.oe_machine.specs.declared.advances.Advanced.{Advanced}
use Rattle.oe_machine.specs.declared.advances.Advanced.TheVariants as advanced
use Rattle.oe_io.specs.Ports.{Sink, Sent, Cut}
use Rattle.oe_script.specs.Script.{State, step_answer, RunsIn, LineAnswer}
use Rattle.oe_script.specs.Hearing.{Takes}

-- the answer of an Advance that ended so and left its terminal this last reply
abbrev pub IsAnswer : Option Reply → Advanced → Answer → Type 0
IsAnswer last advanced.More x = x ≡ answer.More
IsAnswer last (advanced.Committed m) x = (y : Reply) × (last ≡ Some y) × (x ≡ answer.Committed m y)
IsAnswer last (advanced.Kept e) x = x ≡ answer.Refused e
IsAnswer last (advanced.RolledBack e) x = x ≡ answer.Refused e

-- a step was served, and the line of its answer appended
abbrev pub Tells : World system → Step → World system → List ℕ → List ℕ → Type 0
Tells w i w' old new = (x : Answer) × Next system w (step_in i) (answer_in i x) w' × (new ≡ old ++ step_answer i x)

-- a run's stages were served, and the line of the last answer appended
abbrev pub TellsRun : World system → ℕ → World system → List ℕ → List ℕ → Type 0
TellsRun w t w' old new = (n : ℕ) × (x : Answer) × RunsIn n w t x w' × (new ≡ old ++ answer_line x)

-- the n-th line is answered, and all of its text went out; where a write failed a front of it did, and the state is as
-- before
abbrev pub Replies : {T E : Type 0} → State → ℕ → List ℕ → State → Option Sink → List ℕ → Option Sink → List ℕ
    → Result T E → Type 0
Replies s n line s' old waited new waits r = MatchResult r
    (λ _. (text : List ℕ) × LineAnswer s n line text s' × Sent old waited new waits text)
    (λ _. (s' ≡ s) × (text : List ℕ) × (t : State) × LineAnswer s n line text t × Cut old waited new text)

-- and where it is answered, it is told whether it was a command
abbrev pub Sorts : {E : Type 0} → State → ℕ → List ℕ → State → Option Sink → List ℕ → Option Sink → List ℕ
    → Result Bool E → Type 0
Sorts s n line s' old waited new waits r =
    Replies s n line s' old waited new waits r × IfOk r (λ is_command. Takes is_command s line)
