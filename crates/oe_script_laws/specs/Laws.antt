-- What every script keeps.
use Rattle.std.specs.Prelude.{◌≡◌, ◌≢◌, ℕ, ◌+◌, ◌≤◌, ◌<◌, ◌⊎◌, true, List, [], ◌∷◌, ◌++◌, length, Some, None, Err}
use Rattle.std.specs.List.{flat_map}
use Rattle.oe_theory.specs.Machine.{Outcome, Here, Missing}
use Rattle.oe_theory.specs.World.{World, counts_at, horizon, newest, at, tables}
use Rattle.oe_theory.specs.Next as theory
use Rattle.oe_theory.specs.Next.{Next, IsQuiet}
use Rattle.oe_theory.specs.Theorems.{IsReached, world_at_opening}
use Rattle.oe_rows.specs.declared.scales.Scale.{Scale}
use Rattle.oe_requests.specs.declared.refusals.Refusal.{Refusal}
use Rattle.oe_requests.specs.declared.refusals.Refusal.TheVariants as refusal
use Rattle.oe_requests.specs.declared.replies.QueryReply.{QueryReply}
use Rattle.oe_requests.specs.declared.requests.Query.{Query}
use Rattle.oe_requests.specs.declared.requests.Request.{Request}
use Rattle.oe_requests.specs.declared.answers.Answer.TheVariants as answer
use Rattle.oe_requests.specs.declared.audits.Condition.{Condition}
use Rattle.oe_requests.specs.declared.audits.Condition.TheVariants as condition
use Rattle.oe_requests.specs.declared.audits.Verdict.{Verdict}
use Rattle.oe_requests.specs.declared.audits.Verdict.TheVariants as verdict
use Rattle.oe_requests.specs.declared.steps.Step.TheVariants as step
use Rattle.oe_rows.specs.declared.layouts.Layout.{Layout}
use Rattle.oe_model.specs.Conditions.{IsPopulation}
use Rattle.oe_model.specs.FurtherConditions.{More}
use Rattle.oe_model.specs.Headline.{Is_consistent}
use Rattle.oe_model.specs.Population.{IsPopulated}
use Rattle.oe_model.specs.Rows.{Rows}
use Rattle.oe_model.specs.Queries.{answer_of}
use Rattle.oe_model.specs.Requests.{query_rejection}
use Rattle.oe_model.specs.System.{system}
use Rattle.oe_lines.specs.declared.commands.RingChoice.{RingChoice}
use Rattle.oe_lines.specs.Rings.{layout_of}
use Rattle.oe_lines.specs.Grammar.{Says}
use Rattle.oe_lines.specs.declared.commands.Command.TheVariants as command
use Rattle.oe_lines.specs.declared.commands.MomentChoice.{MomentChoice}
use Rattle.oe_lines.specs.declared.commands.MomentChoice.TheVariants as moment
use Rattle.oe_movements.specs.Movements.{Movements}
use Rattle.oe_runs.specs.Run.{Ran, AreUnpurged}
use Rattle.oe_texts.specs.Answer.{answer_line, audit_line}
use Rattle.oe_script.specs.declared.session.ScriptFault.TheVariants as fault
use Rattle.oe_io.specs.Ports.{Source, Sink}
use Rattle.oe_script.specs.Session.{ScriptRan}
use Rattle.oe_script.specs.Script.{State, moment_in, Asks, LineAnswer, RunOfLines, last_text, Output}
use Rattle.oe_filelines.specs.Lines.{with_line_end}
use Rattle.oe_script_laws.specs.Deeds.{Deed, No_form, Opening, Shown, Steps, Entry, Passed, lines_of, texts_of}
use Rattle.oe_script_laws.specs.Deeds.{steps_of, answers_of, commits_of}
use Rattle.oe_script_laws.specs.Commits.{Transaction, commits_of_steps}
use Rattle.oe_script_laws.specs.Without.{is_rolled_back, Without}
use Rattle.oe_script_laws.specs.Moments.{IsVersion, IsRewound, IsRewoundTo}

-- each run of lines is lines one after another, and each line is known as a deed; and the other way round
pub record Lines_are_deeds : Type 0 where
  pub each : (s : State) (n : ℕ) (lines : List (List ℕ)) (text : List ℕ) (s' : State) → RunOfLines s n lines text s'
      → (es : List Entry) × Passed s es s' × (lines_of es ≡ lines) × (texts_of n es ≡ text)
  pub back : (s : State) (n : ℕ) (es : List Entry) (s' : State) → Passed s es s'
      → RunOfLines s n (lines_of es) (texts_of n es) s'

-- nothing is open yet, or a world that steps led to from a population
abbrev pub IsReachedState : State → Type 0
IsReachedState None = Unit {0}
IsReachedState (Some w) = IsReached system w

-- each state that the lines of a script pass through is such a one
pub record Worlds_are_reached : Type 0 where
  -- whatever number of lines came before
  pub of_lines : (s : State) (n : ℕ) (lines : List (List ℕ)) (text : List ℕ) (s' : State) → IsReachedState s
      → RunOfLines s n lines text s' → IsReachedState s'
  -- at each place between two lines
  pub between : (begun : State) (before after : List (List ℕ)) (text : List ℕ) (s : State) → IsReachedState begun
      → RunOfLines begun 0 (before ++ after) text s
      → (mid : State) × (first : List ℕ) × (rest : List ℕ) × RunOfLines begun 0 before first mid × IsReachedState mid
      × RunOfLines mid (length before) after rest s × (text ≡ first ++ rest)
  -- at the end
  pub of_output : (begun : State) (input out : List ℕ) (o : Output begun input out) → IsReachedState begun
      → IsReachedState o.state

-- conditions 1 to 4 (clauses 3.3.2.1 to 3.3.2.4) hold there of the version of each moment, and of the tables where
-- nothing is open
abbrev pub IsConsistentState : State → Type 0
IsConsistentState None = Unit {0}
IsConsistentState (Some w) = Is_consistent w

-- conditions 1 to 4
abbrev pub IsOfFour : Condition → Type 0
IsOfFour condition.First = Unit {0}
IsOfFour condition.Second = Unit {0}
IsOfFour condition.Third = Unit {0}
IsOfFour condition.Fourth = Unit {0}
IsOfFour _ = ⊥

-- an audit of a moment that is kept is answered that the condition holds, whatever is open; of any other it is refused
abbrev pub IsAudited : World system → Condition → ℕ → List ℕ → Type 0
IsAudited w c m text =
    ((horizon system w ≤ m) × (m ≤ newest system w) × (text ≡ audit_line c verdict.Holds))
    ⊎ ((m < horizon system w) × (text ≡ answer_line (answer.Refused (refusal.TooOld (horizon system w)))))
    ⊎ ((newest system w < m) × (text ≡ answer_line (answer.Refused (refusal.Future (newest system w)))))

pub record Audits_hold : Type 0 where
  -- at each place between two lines
  pub conditions : (begun : State) (n : ℕ) (lines : List (List ℕ)) (text : List ℕ) (s : State) → IsReachedState begun
      → RunOfLines begun n lines text s → IsConsistentState s
  -- each line that asks for an audit of one of the four
  pub answered : (w : World system) (n : ℕ) (line text : List ℕ) (s : State) (c : Condition) (m : MomentChoice)
      → IsReached system w → IsOfFour c
      → Asks (Some w) line (command.Audit c m) → LineAnswer (Some w) n line text s
      → IsAudited w c (moment_in w m) text × (s ≡ Some w)
  -- one of `now` is never refused
  pub now : (w : World system) (n : ℕ) (line text : List ℕ) (s : State) (c : Condition) → IsReached system w
      → IsOfFour c
      → Asks (Some w) line (command.Audit c moment.Now) → LineAnswer (Some w) n line text s
      → text ≡ audit_line c verdict.Holds
  -- in a script no verdict is that one of them fails
  pub verdicts : (s s' : State) (before after : List Entry) (e : Entry) (n : ℕ) (c : Condition) (m : ℕ) (v : Verdict)
      → IsReachedState s → IsOfFour c
      → Passed s (before ++ e ∷ after) s' → e.deed ≡ Steps n (step.Audit c m) (answer.Audited v) → v ≡ verdict.Holds

-- conditions 5 to 10 and 12 (clauses 3.3.2.5 to 3.3.2.10 and 3.3.2.12) hold there of the version of each moment
abbrev pub HasMore : State → Type 0
HasMore None = Unit {0}
HasMore (Some w) = (m : ℕ) → More (at system w m)

-- A script opens a population of the formulas, and they hold of it. So each of its audits, of any of the eleven
-- conditions, is answered that the condition holds
pub record More_audits_hold : Type 0 where
  -- at each place between two lines
  pub conditions : (n : ℕ) (lines : List (List ℕ)) (text : List ℕ) (s : State) → RunOfLines None n lines text s
      → HasMore s
  -- each line that asks for an audit, behind any lines
  pub answered : (es : List Entry) (w : World system) (n : ℕ) (line text : List ℕ) (s : State) (c : Condition)
      (m : MomentChoice) → Passed None es (Some w)
      → Asks (Some w) line (command.Audit c m) → LineAnswer (Some w) n line text s
      → IsAudited w c (moment_in w m) text × (s ≡ Some w)
  -- one of `now` is never refused
  pub now : (es : List Entry) (w : World system) (n : ℕ) (line text : List ℕ) (s : State) (c : Condition)
      → Passed None es (Some w)
      → Asks (Some w) line (command.Audit c moment.Now) → LineAnswer (Some w) n line text s
      → text ≡ audit_line c verdict.Holds
  -- no verdict is that a condition fails
  pub verdicts : (s : State) (before after : List Entry) (e : Entry) (n : ℕ) (c : Condition) (m : ℕ) (v : Verdict)
      → Passed None (before ++ e ∷ after) s → e.deed ≡ Steps n (step.Audit c m) (answer.Audited v) → v ≡ verdict.Holds

-- A query of a moment is answered what is found in the version of that moment, which the commits up to it leave, run
-- one at a time, each with its effect, and nobody's open work; or what is missed there. It is refused where its
-- warehouse is absent, or where the moment is not kept
abbrev pub Tells : Outcome QueryReply Refusal → List ℕ → Type 0
Tells (Here f) text = text ≡ answer_line (answer.Replied f)
Tells (Missing e) text = text ≡ answer_line (answer.Refused e)

abbrev pub IsReadAt : Rows → List Transaction → World system → Query → ℕ → List ℕ → Type 0
IsReadAt base commits w q m text =
    ((horizon system w ≤ m) × (m ≤ newest system w) × IsVersion base commits w m (at system w m)
    × Tells (answer_of q (at system w m)) text)
    ⊎ ((m < horizon system w) × (text ≡ answer_line (answer.Refused (refusal.TooOld (horizon system w)))))
    ⊎ ((newest system w < m) × (text ≡ answer_line (answer.Refused (refusal.Future (newest system w)))))

abbrev pub IsRead : Rows → List Transaction → World system → Query → ℕ → List ℕ → Type 0
IsRead base commits w q m text =
    ((e : Refusal) × (query_rejection q (tables system w) ≡ Some e) × (text ≡ answer_line (answer.Refused e)))
    ⊎ ((query_rejection q (tables system w) ≡ None) × IsReadAt base commits w q m text)

-- The lines of a script up to its opening, and what follows of those after it. They are one run of the machine, from
-- the population that was opened: each of its transactions ends whole, although others overlap it; the same
-- transactions, run one at a time, make the same commits; conditions 1 to 4 hold all the way
pub record IsOneRun (es : List Entry) (w : World system) : Type 0 where
  pub before : List Entry
  pub opening : Entry
  pub after : List Entry
  pub lines : es ≡ before ++ opening ∷ after
  pub scale : Scale
  pub ring : RingChoice
  pub rows : Rows
  pub says : Says opening.line (command.Open scale ring)
  pub populated : IsPopulated scale rows
  pub closed : Passed None before None
  pub ran : Ran (world_at_opening system rows ring.extents (layout_of ring)) (steps_of after) (answers_of after) w

pub record Scripts_are_runs : Type 0 where
  -- of a whole script
  pub from_start : (es : List Entry) (w : World system) → Passed None es (Some w) → IsOneRun es w
  -- from each world that steps led to
  pub from_world : (w : World system) (es : List Entry) (s : State) → IsReached system w → Passed (Some w) es s
      → (w' : World system) × (s ≡ Some w') × Ran w (steps_of es) (answers_of es) w'

-- A script opens a population of the formulas, which has as many orders in each district as customers, and of which
-- the seven movements hold. So between any two lines they hold of the version of each moment, and of the tables where
-- nothing is open
pub record Movements_hold : Type 0 where
  pub of_versions : (es : List Entry) (w : World system) (r : IsOneRun es w) (m : ℕ)
      → Movements r.scale.customers (at system w m)
  pub when_quiet : (es : List Entry) (w : World system) (r : IsOneRun es w) → IsQuiet system w
      → Movements r.scale.customers (tables system w)

-- each line that asks a query is answered so
pub record Reads_are_of_moments : Type 0 where
  -- in each world that steps led to from a base
  pub of_world : (w : World system) (made : IsReached system w) (n : ℕ) (line text : List ℕ) (s : State)
      (m : MomentChoice) (q : Query)
      → Asks (Some w) line (command.Read m q) → LineAnswer (Some w) n line text s
      → IsRead made.base (commits_of_steps made.steps made.answers) w q (moment_in w m) text × (s ≡ Some w)
  -- and behind each line of a script, from the population that it opened
  pub of_script : (es : List Entry) (w : World system) (r : IsOneRun es w) (n : ℕ) (line text : List ℕ) (s : State)
      (m : MomentChoice) (q : Query)
      → Asks (Some w) line (command.Read m q) → LineAnswer (Some w) n line text s
      → IsRead r.rows (commits_of r.after) w q (moment_in w m) text × (s ≡ Some w)
  -- of each moment that is kept there, whether a line asks or not
  pub of_version : (es : List Entry) (w : World system) (r : IsOneRun es w) (m : ℕ) → horizon system w ≤ m
      → m ≤ newest system w
      → IsVersion r.rows (commits_of r.after) w m (at system w m)

-- what a run goes on from, and where a rewind leads
pub record Rewinds_restore : Type 0 where
  -- a purge makes the version of its moment the base
  pub by_purge : (w v : World system) (m : ℕ) → Next system w (theory.Purge m) (theory.Purged m) v
      → (v.base ≡ at system w m) × (v.counts ≡ counts_at system w m)
  -- which each other step leaves
  pub by_other : (w v : World system) (i : theory.Step system) (a : theory.Answer system) → Next system w i a v
      → ((m : ℕ) → a ≢ theory.Purged m)
      → (v.base ≡ w.base) × (v.counts ≡ w.counts)
  -- so as long as nothing is purged it is the population that was opened
  pub of_population : (es : List Entry) (w : World system) (r : IsOneRun es w) → AreUnpurged (answers_of r.after)
      → (w.base ≡ r.rows) × (horizon system w ≡ 0)
  -- each line that asks for a rewind
  pub answered : (w : World system) (made : IsReached system w) (n : ℕ) (line text : List ℕ) (s : State)
      (m : MomentChoice)
      → Asks (Some w) line (command.Rewind m) → LineAnswer (Some w) n line text s
      → IsRewound made.base (commits_of_steps made.steps made.answers) w (moment_in w m) text s
  -- behind each line of a script too, from the population that it opened
  pub of_script : (es : List Entry) (w : World system) (r : IsOneRun es w) (n : ℕ) (line text : List ℕ) (s : State)
      (m : MomentChoice)
      → Asks (Some w) line (command.Rewind m) → LineAnswer (Some w) n line text s
      → IsRewound r.rows (commits_of r.after) w (moment_in w m) text s
  -- as long as nothing is purged `rewind 0` gives the population back
  pub to_population : (es : List Entry) (w : World system) (r : IsOneRun es w) (n : ℕ) (line text : List ℕ) (s : State)
      → AreUnpurged (answers_of r.after) → Asks (Some w) line (command.Rewind (moment.At 0))
      → LineAnswer (Some w) n line text s → IsRewoundTo r.rows w text s

-- A transaction begins in the line `first`, which leaves the world `begun`, and is rolled back in those that follow.
-- Without its lines the others are answered the same, and leave the same state
abbrev pub Lines_without_rollback : Type 0
Lines_without_rollback =
    (s s' : State) (before after : List Entry) (first : Entry) (t : ℕ) (q : Request) → IsReachedState s
    → first.deed ≡ Steps 0 (step.Begin t q) answer.Begun → Passed s (before ++ first ∷ after) s'
    → is_rolled_back t after ≡ true
    → (begun : World system) × Passed s (before ++ first ∷ []) (Some begun)
    × (left : List Entry) × Without t begun after left × Passed s (before ++ left) s'

-- a script begins with nothing open, or opened on a population
abbrev pub IsBegun : State → Type 0
IsBegun None = Unit {0}
IsBegun (Some w) =
    (r : Rows) × (extents : ℕ) × (layout : Layout) × IsPopulation r × (w ≡ world_at_opening system r extents layout)

-- these are the lines of an output, and its answers
pub record IsOutputOf (begun : State) (input out : List ℕ) (o : Output begun input out) (es : List Entry) : Type
    0 where
  pub passed : Passed begun es o.state
  pub lines : lines_of es ≡ o.lines
  pub answers : texts_of 0 es ≡ o.answers

-- the input may be answered by this output, and leave this state
abbrev pub OutputTo : State → List ℕ → List ℕ → State → Type 0
OutputTo begun input out s = (o : Output begun input out) × (o.state ≡ s)

-- a whole input and its output, without the lines of a transaction that was rolled back
abbrev pub Outputs_without_rollback : Type 0
Outputs_without_rollback =
    (begun : State) (input out : List ℕ) (o : Output begun input out) (before after : List Entry) (first : Entry)
    (t : ℕ) (q : Request) → IsBegun begun
    → IsOutputOf begun input out o (before ++ first ∷ after) → first.deed ≡ Steps 0 (step.Begin t q) answer.Begun
    → is_rolled_back t after ≡ true
    → (w : World system) × Passed begun (before ++ first ∷ []) (Some w)
    × (left : List Entry) × Without t w after left
    × OutputTo begun (flat_map with_line_end (lines_of (before ++ left)) ++ o.last)
    (texts_of 0 (before ++ left) ++ last_text (length (lines_of (before ++ left)) + 1) o.last) o.state

-- the line was not refused memory
abbrev pub HasMemory : Deed → Type 0
HasMemory No_form = Unit {0}
HasMemory (Opening text) = text ≢ answer_line (answer.Refused refusal.NoMemory)
HasMemory (Shown text) = Unit {0}
HasMemory (Steps n i x) = x ≢ answer.Refused refusal.NoMemory

-- no line was
abbrev pub HaveMemory : List Entry → Type 0
HaveMemory [] = Unit {0}
HaveMemory (e ∷ es) = HasMemory e.deed × HaveMemory es

-- Where no line is refused memory, the lines determine what each was and the state that they leave
pub record Answers_are_determined : Type 0 where
  pub of_lines : (s s₁ s₂ : State) (es fs : List Entry) → Passed s es s₁ → Passed s fs s₂ → lines_of es ≡ lines_of fs
      → HaveMemory es → HaveMemory fs
      → (es ≡ fs) × (s₁ ≡ s₂)
  -- so an input determines its output
  pub of_output : (begun : State) (input out out' : List ℕ) (o : Output begun input out)
      (o' : Output begun input out') (es fs : List Entry)
      → IsOutputOf begun input out o es → IsOutputOf begun input out' o' fs
      → HaveMemory es → HaveMemory fs → (out ≡ out') × (o.state ≡ o'.state)

-- from the opening on, or from the tables on that a script begins with, the lines are one run of the machine
abbrev pub IsRunFrom : State → List Entry → World system → Type 0
IsRunFrom None es w = IsOneRun es w
IsRunFrom (Some v) es w = Ran v (steps_of es) (answers_of es) w

-- An output of what was read, and what each whole line of it was. The lines are one run of the machine, whatever
-- transactions overlap in them
pub record IsAnswered (begun : State) (read : List ℕ) : Type 0 where
  pub out : List ℕ
  pub output : Output begun read out
  pub es : List Entry
  pub deeds : IsOutputOf begun read out output es
  pub run : (w : World system) → output.state ≡ Some w → IsRunFrom begun es w

-- Exactly the answers of all whole lines that were read were written, and whatever input follows, an output of all of
-- it begins so
pub record IsCutByReader (begun : State) (a b : Source) (c d : Sink) : Type 0 where
  pub read : List ℕ
  pub were_read : a.remaining ≡ read ++ b.remaining
  pub lines : IsAnswered begun read
  pub written : d.contents ≡ c.contents ++ texts_of 0 lines.es
  pub goes_on : (more : List ℕ) → (rest : List ℕ) × Output begun (read ++ more) (texts_of 0 lines.es ++ rest)

-- what was written is a beginning of an output of what was read
pub record IsCutByWriter (begun : State) (a b : Source) (c d : Sink) : Type 0 where
  pub read : List ℕ
  pub were_read : a.remaining ≡ read ++ b.remaining
  pub lines : IsAnswered begun read
  pub unwritten : List ℕ
  pub written : d.contents ++ unwritten ≡ c.contents ++ lines.out

-- how a fault of the reader and one of the writer cut a script's output
pub record Faults_cut_outputs : Type 0 where
  pub by_reader : (begun : State) (a b : Source) (c d : Sink) → IsBegun begun
      → ScriptRan begun (Some a) (Some b) (Some c) (Some d) (Err fault.Read) → IsCutByReader begun a b c d
  pub by_writer : (begun : State) (a b : Source) (c d : Sink) → IsBegun begun
      → ScriptRan begun (Some a) (Some b) (Some c) (Some d) (Err fault.Write) → IsCutByWriter begun a b c d
