-- What a script is answered.
use Rattle.std.specs.Prelude.{◌≡◌, ◌≢◌, ℕ, zero, suc, ◌+◌, ◌≤◌, ◌<◌, ◌⊎◌, All, List, [], ◌∷◌, ◌++◌}
use Rattle.std.specs.Prelude.{length, Option, Some, None, codes}
use Rattle.std.specs.List.{flat_map}
use Rattle.oe_filelines.specs.Lines.{IsInLine, with_line_end, Held}
use Rattle.oe_filelines.specs.Lines as lines
use Rattle.oe_theory.specs.World.{World, newest, tables}
use Rattle.oe_theory.specs.Next.{Next}
use Rattle.oe_theory.specs.Theorems.{world_at_opening}
use Rattle.oe_requests.specs.declared.refusals.Refusal.TheVariants as refusal
use Rattle.oe_rows.specs.declared.scales.Scale.{Scale}
use Rattle.oe_model.specs.Rows.{Rows}
use Rattle.oe_model.specs.Population.{IsPopulated}
use Rattle.oe_model.specs.System.{system}
use Rattle.oe_requests.specs.declared.answers.Answer.{Answer}
use Rattle.oe_requests.specs.declared.answers.Answer.TheVariants as answer
use Rattle.oe_requests.specs.declared.audits.Condition.{Condition}
use Rattle.oe_requests.specs.declared.steps.Step.{Step}
use Rattle.oe_requests.specs.declared.steps.Step.TheVariants as step
use Rattle.oe_texts.specs.Answer.{answer_line, audit_line}
use Rattle.oe_lines.specs.declared.commands.RingChoice.{RingChoice}
use Rattle.oe_lines.specs.Rings.{layout_of}
use Rattle.oe_lines.specs.declared.commands.Command.{Command}
use Rattle.oe_lines.specs.declared.commands.Command.TheVariants as command
use Rattle.oe_lines.specs.declared.commands.Display.{Display}
use Rattle.oe_lines.specs.declared.commands.Display.TheVariants as display
use Rattle.oe_lines.specs.declared.commands.MomentChoice.{MomentChoice}
use Rattle.oe_lines.specs.declared.commands.MomentChoice.TheVariants as moment
use Rattle.oe_lines.specs.Grammar.{Says}
use Rattle.oe_machine.specs.Steps.{step_in, answer_in}
use Rattle.oe_dumps.specs.Dump.{dump_text}
use Rattle.oe_waits.specs.Texts.{locks_text, waits_text}
use Rattle.oe_io.specs.Lines.{bad_line}

-- nothing is open yet, or the world that a core stands for
abbrev pub State : Type 0
State = Option (World system)

-- the moment that is asked for: `now` is the newest
abbrev pub moment_in : World system → MomentChoice → ℕ
moment_in w moment.Now = newest system w
moment_in w (moment.At m) = m

-- the text of an audit's answer, which names the condition where there is a verdict
abbrev pub audit_text : Condition → Answer → List ℕ
audit_text c (answer.Audited v) = audit_line c v
audit_text c x = answer_line x

-- the text of a step's answer
abbrev pub step_answer : Step → Answer → List ℕ
step_answer (step.Audit c m) x = audit_text c x
step_answer i x = answer_line x

-- the step may be answered by this text, and this state is left
abbrev pub Stepped : World system → Step → List ℕ → State → Type 0
Stepped w i text s = (x : Answer) × (w' : World system) × Next system w (step_in i) (answer_in i x) w'
    × (text ≡ step_answer i x) × (s ≡ Some w')

-- n advances of terminal t that are answered `more`, and one with this answer, which is another
abbrev pub RunsIn : ℕ → World system → ℕ → Answer → World system → Type 0
RunsIn zero w t x w' = (x ≢ answer.More) × Next system w (step_in (step.Advance t)) (answer_in (step.Advance t) x) w'
RunsIn (suc n) w t x w' = (mid : World system) × Next system w (step_in (step.Advance t))
    (answer_in (step.Advance t) answer.More) mid × RunsIn n mid t x w'

-- a run of the terminal writes the last answer alone
abbrev pub Ran : World system → ℕ → List ℕ → State → Type 0
Ran w t text s = (n : ℕ) × (x : Answer) × (w' : World system) × RunsIn n w t x w' × (text ≡ answer_line x)
    × (s ≡ Some w')

-- an opening gives a population of that scale, or is refused where memory is, and may then be asked for again
abbrev pub Opens : Scale → RingChoice → List ℕ → State → Type 0
Opens scale ring text s =
    ((r : Rows) × IsPopulated scale r × (text ≡ codes "opened\n")
    × (s ≡ Some (world_at_opening system r ring.extents (layout_of ring))))
    ⊎ ((text ≡ answer_line (answer.Refused refusal.NoMemory)) × (s ≡ None))

-- what is shown of a world as it stands: a table's rows, who waits for whom, or who holds what
abbrev pub shown_text : Display → World system → List ℕ
shown_text (display.Rows t) w = dump_text t (tables system w)
shown_text display.Waits w = waits_text w
shown_text display.Locks w = locks_text w

-- before something is open only `open` is in the grammar, and afterwards it is not
abbrev pub IsAllowed : State → Command → Type 0
IsAllowed None (command.Open scale ring) = Unit {0}
IsAllowed None c = ⊥
IsAllowed (Some w) (command.Open scale ring) = ⊥
IsAllowed (Some w) c = Unit {0}

-- the command may be answered by this text, and this state is left
abbrev pub Answers : State → Command → List ℕ → State → Type 0
Answers None (command.Open scale ring) text s = Opens scale ring text s
Answers None c text s = ⊥
Answers (Some w) (command.Open scale ring) text s = ⊥
Answers (Some w) (command.Begin t q) text s = Stepped w (step.Begin t q) text s
Answers (Some w) (command.Next t) text s = Stepped w (step.Advance t) text s
Answers (Some w) (command.Run t) text s = Ran w t text s
Answers (Some w) (command.Save t) text s = Stepped w (step.Save t) text s
Answers (Some w) (command.Back t) text s = Stepped w (step.Back t) text s
Answers (Some w) (command.Rollback t) text s = Stepped w (step.Rollback t) text s
Answers (Some w) (command.Show d) text s = (text ≡ shown_text d w) × (s ≡ Some w)
Answers (Some w) (command.Audit c m) text s = Stepped w (step.Audit c (moment_in w m)) text s
Answers (Some w) (command.Read m q) text s = Stepped w (step.Read (moment_in w m) q) text s
Answers (Some w) (command.Purge m) text s = Stepped w (step.Purge (moment_in w m)) text s
Answers (Some w) (command.Rewind m) text s = Stepped w (step.Rewind (moment_in w m)) text s

-- the line, without its end, is taken for this command
pub record Asks (s : State) (line : List ℕ) (c : Command) : Type 0 where
  pub short : length line ≤ 1_024
  pub says : Says line c
  pub allowed : IsAllowed s c

-- the n-th line is answered: as its command is, or as no command
abbrev pub LineAnswer : State → ℕ → List ℕ → List ℕ → State → Type 0
LineAnswer s n line text s' =
    ((c : Command) × Asks s line c × Answers s c text s')
    ⊎ (((c : Command) → Asks s line c → ⊥) × (text ≡ bad_line n) × (s' ≡ s))

-- lines in order, where n came before
abbrev pub RunOfLines : State → ℕ → List (List ℕ) → List ℕ → State → Type 0
RunOfLines s n [] text s' = (text ≡ []) × (s' ≡ s)
RunOfLines s n (line ∷ lines) text s' =
    (mid : State) × (first : List ℕ) × (rest : List ℕ) × LineAnswer s (n + 1) line first mid
    × RunOfLines mid (n + 1) lines rest s' × (text ≡ first ++ rest)

-- a last line without its end is none of the forms
abbrev pub last_text : ℕ → List ℕ → List ℕ
last_text n [] = []
last_text n (b ∷ bs) = bad_line n

-- the input may be answered by this output, where a script begins in that state: with nothing open, or opened
pub record Output (begun : State) (input out : List ℕ) : Type 0 where
  pub lines : List (List ℕ)
  pub last : List ℕ
  pub answers : List ℕ
  pub state : State
  pub whole : input ≡ flat_map with_line_end lines ++ last
  pub each : All IsInLine lines
  pub tail : IsInLine last
  pub run : RunOfLines begun 0 lines answers state
  pub text : out ≡ answers ++ last_text (length lines + 1) last

-- the bytes of a line so far, of 1,024 at most
abbrev pub Holds : Held → List ℕ → Type 0
Holds = lines.Holds 1_024

-- of the input these lines were answered, by this output, and a beginning of the next line was read
pub record Reached (begun : State) (input out : List ℕ) (state : State) (count : ℕ) (line : List ℕ) : Type 0 where
  pub lines : List (List ℕ)
  pub whole : input ≡ flat_map with_line_end lines ++ line
  pub each : All IsInLine lines
  pub tail : IsInLine line
  pub counted : count ≡ length lines
  pub run : RunOfLines begun 0 lines out state
