-- Two answers of one step that are one answer of the machine are the same.
use Rattle.std.proofs.Common.{◌≡◌, refl, sym, ap, ◌∙◌}
use Rattle.oe_theory.specs.Next as theory
use Rattle.oe_requests.specs.declared.refusals.Refusal.{Refusal}
use Rattle.oe_requests.specs.declared.refusals.Refusal.TheVariants as refusal
use Rattle.oe_model.specs.Audits as model
use Rattle.oe_model.specs.System.{system}
use Rattle.oe_requests.specs.declared.answers.Answer.{Answer}
use Rattle.oe_requests.specs.declared.answers.Answer.TheVariants as answer
use Rattle.oe_requests.specs.declared.audits.Verdict.{Verdict}
use Rattle.oe_requests.specs.declared.audits.Verdict.TheVariants as verdict
use Rattle.oe_requests.specs.declared.steps.Step.{Step}
use Rattle.oe_requests.specs.declared.steps.Step.TheVariants as step
use Rattle.oe_machine.specs.Verdict.{verdict_of}
use Rattle.oe_machine.specs.Steps.{answer_in, refusal_in, other_refusal}

-- the way back
abbrev verdict_back : model.Verdict → Verdict
verdict_back model.Holds = verdict.Holds
verdict_back (model.Fails k) = verdict.Fails k

abbrev answer_back : theory.Answer system → Answer
answer_back theory.Begun = answer.Begun
answer_back theory.More = answer.More
answer_back (theory.Committed m y) = answer.Committed m y
answer_back theory.Saved = answer.Saved
answer_back theory.Gone_back = answer.Back
answer_back theory.Rolled_back = answer.RolledBack
answer_back (theory.Replied f) = answer.Replied f
answer_back (theory.Audited v) = answer.Audited (verdict_back v)
answer_back (theory.Purged m) = answer.Purged m
answer_back (theory.Rewound m) = answer.Rewound m
answer_back (theory.Aborted e) = answer.Refused e
answer_back (theory.Rejected e) = answer.Refused e
answer_back (theory.Busy n u) = answer.Refused (refusal.Busy n u)
answer_back theory.Undo_full = answer.Refused refusal.UndoFull
answer_back theory.Not_open = answer.Refused refusal.NotOpen
answer_back theory.Already_open = answer.Refused refusal.AlreadyOpen
answer_back (theory.Too_old m) = answer.Refused (refusal.TooOld m)
answer_back (theory.Future m) = answer.Refused (refusal.Future m)
answer_back (theory.Not_quiet n) = answer.Refused (refusal.NotQuiet n)
answer_back theory.No_memory = answer.Refused refusal.NoMemory

verdict_there : (v : Verdict) → verdict_back (verdict_of v) ≡ v
verdict_there verdict.Holds = refl
verdict_there (verdict.Fails k) = refl

other_there : (i : Step) (e : Refusal) → answer_back (other_refusal i e) ≡ answer.Refused e
other_there (step.Begin t q) e = refl
other_there (step.Advance t) e = refl
other_there (step.Save t) e = refl
other_there (step.Back t) e = refl
other_there (step.Rollback t) e = refl
other_there (step.Read m q) e = refl
other_there (step.Purge m) e = refl
other_there (step.Rewind m) e = refl
other_there (step.Audit c m) e = refl

refusal_there : (i : Step) (e : Refusal) → answer_back (refusal_in i e) ≡ answer.Refused e
refusal_there i (refusal.Busy n u) = refl
refusal_there i refusal.UndoFull = refl
refusal_there i refusal.NoMemory = refl
refusal_there i refusal.NotOpen = refl
refusal_there i refusal.AlreadyOpen = refl
refusal_there i (refusal.TooOld m) = refl
refusal_there i (refusal.Future m) = refl
refusal_there i (refusal.NotQuiet n) = refl
refusal_there i (refusal.NoSuchRow k) = other_there i (refusal.NoSuchRow k)
refusal_there i (refusal.RowExists k) = other_there i (refusal.RowExists k)
refusal_there i (refusal.Overflow c) = other_there i (refusal.Overflow c)
refusal_there i (refusal.Reference k) = other_there i (refusal.Reference k)
refusal_there i refusal.KeyColumn = other_there i refusal.KeyColumn
refusal_there i refusal.InvalidItem = other_there i refusal.InvalidItem
refusal_there i refusal.NoCustomer = other_there i refusal.NoCustomer
refusal_there i (refusal.NotPinned n) = other_there i (refusal.NotPinned n)

answer_there : (i : Step) (x : Answer) → answer_back (answer_in i x) ≡ x
answer_there i answer.Begun = refl
answer_there i answer.More = refl
answer_there i (answer.Committed m y) = refl
answer_there i answer.Saved = refl
answer_there i answer.Back = refl
answer_there i answer.RolledBack = refl
answer_there i (answer.Replied f) = refl
answer_there i (answer.Purged m) = refl
answer_there i (answer.Rewound m) = refl
answer_there i (answer.Audited v) = ap answer.Audited (verdict_there v)
answer_there i (answer.Refused e) = refusal_there i e

pub answer_once : (i : Step) (x y : Answer) → answer_in i x ≡ answer_in i y → x ≡ y
answer_once i x y e = sym (answer_there i x) ∙ (ap answer_back e ∙ answer_there i y)

-- an answer that the machine's rejection stands for
pub rejected_once : (i : Step) (x : Answer) (e : Refusal) → answer_in i x ≡ theory.Rejected e → x ≡ answer.Refused e
rejected_once i x e h = sym (answer_there i x) ∙ ap answer_back h
