-- Steps and answers as the theory of transactions has them, and what a step may be answered.
use Rattle.std.specs.Prelude.{◌≡◌, ℕ, Option, Some, Result, Ok, Err}
use Rattle.oe_theory.specs.World.{World}
use Rattle.oe_theory.specs.Next as theory
use Rattle.oe_theory.specs.Next.{Next}
use Rattle.oe_theory.specs.Theorems.{IsReached}
use Rattle.oe_requests.specs.declared.refusals.Refusal.{Refusal}
use Rattle.oe_requests.specs.declared.refusals.Refusal.TheVariants as refusal
use Rattle.oe_requests.specs.declared.replies.Reply.{Reply}
use Rattle.oe_requests.specs.declared.steps.Step.{Step}
use Rattle.oe_requests.specs.declared.steps.Step.TheVariants as step
use Rattle.oe_requests.specs.declared.answers.Answer.{Answer}
use Rattle.oe_requests.specs.declared.answers.Answer.TheVariants as answer
use Rattle.oe_machine.specs.Verdict.{condition_of, verdict_of}
use Rattle.oe_model.specs.System.{system}
use Rattle.oe_machine.specs.declared.advances.Advanced.{Advanced}
use Rattle.oe_machine.specs.declared.advances.Advanced.TheVariants as advanced

abbrev pub step_in : Step → theory.Step system
step_in (step.Begin t q) = theory.Begin t q
step_in (step.Advance t) = theory.Advance t
step_in (step.Save t) = theory.Save t
step_in (step.Back t) = theory.Back t
step_in (step.Rollback t) = theory.Rollback t
step_in (step.Read m q) = theory.Read m q
step_in (step.Purge m) = theory.Purge m
step_in (step.Rewind m) = theory.Rewind m
step_in (step.Audit c m) = theory.Audit m (condition_of c)

-- a refusal of an Advance has rolled its transaction back, but for the refusals that change nothing
abbrev pub other_refusal : Step → Refusal → theory.Answer system
other_refusal (step.Advance t) e = theory.Aborted e
other_refusal i e = theory.Rejected e

abbrev pub refusal_in : Step → Refusal → theory.Answer system
refusal_in i (refusal.Busy n u) = theory.Busy n u
refusal_in i refusal.UndoFull = theory.Undo_full
refusal_in i refusal.NoMemory = theory.No_memory
refusal_in i refusal.NotOpen = theory.Not_open
refusal_in i refusal.AlreadyOpen = theory.Already_open
refusal_in i (refusal.TooOld m) = theory.Too_old m
refusal_in i (refusal.Future m) = theory.Future m
refusal_in i (refusal.NotQuiet n) = theory.Not_quiet n
refusal_in i e = other_refusal i e

-- the answer of a step
abbrev pub answer_in : Step → Answer → theory.Answer system
answer_in i answer.Begun = theory.Begun
answer_in i answer.More = theory.More
answer_in i (answer.Committed m y) = theory.Committed m y
answer_in i answer.Saved = theory.Saved
answer_in i answer.Back = theory.Gone_back
answer_in i answer.RolledBack = theory.Rolled_back
answer_in i (answer.Replied f) = theory.Replied f
answer_in i (answer.Purged m) = theory.Purged m
answer_in i (answer.Rewound m) = theory.Rewound m
answer_in i (answer.Audited v) = theory.Audited (verdict_of v)
answer_in i (answer.Refused e) = refusal_in i e

-- a step that was answered so, and steps have led to the world that it leaves
abbrev pub Carries : World system → Step → Answer → World system → Type 0
Carries w i a w' = Next system w (step_in i) (answer_in i a) w' × IsReached system w'

-- the answer of a Begin
abbrev pub begin_answer : Result (Unit {0}) Refusal → Answer
begin_answer (Ok x) = answer.Begun
begin_answer (Err e) = answer.Refused e

-- An Advance that ended so, and left its terminal this last reply, which is a commit's own. A refusal has changed
-- nothing, or it has ended the transaction.
abbrev pub Advances : World system → ℕ → Advanced → World system → Option Reply → Type 0
Advances w t advanced.More w' last = Carries w (step.Advance t) answer.More w'
Advances w t (advanced.Committed m) w' last = (y : Reply) × (last ≡ Some y)
    × Carries w (step.Advance t) (answer.Committed m y) w'
Advances w t (advanced.Kept e) w' last = Carries w (step.Advance t) (answer.Refused e) w' × (w' ≡ w)
Advances w t (advanced.RolledBack e) w' last = Carries w (step.Advance t) (answer.Refused e) w'
    × (refusal_in (step.Advance t) e ≡ theory.Aborted e)
