-- Each line is answered.
use Rattle.std.proofs.Common.{◌≡◌, Result, Ok, Err, ℕ, ◌+◌, ◌<◌, ◌≤◌, true, Option, None, Some, List, []}
use Rattle.std.proofs.Common.{zero, suc, ◌∷◌, ◌++◌, length, refl, sym, ◌∙◌, subst, inl, inr, arith}
use Rattle.std.specs.Prelude.{◌⊎◌, ◌≢◌}
use Rattle.std.proofs.lemmas.Bool.{cases_order}
use Rattle.oe_theory.specs.Next.{Next}
use Rattle.oe_theory.specs.World.{World}
use Rattle.oe_theory.specs.Theorems.{world_at_opening}
use Rattle.oe_theory.proofs.Theorems.{opening_is_reached}
use Rattle.oe_requests.specs.declared.refusals.Refusal.TheVariants as refusal
use Rattle.oe_requests.specs.declared.replies.Reply.{Reply}
use Rattle.oe_requests.specs.declared.answers.Answer.{Answer}
use Rattle.oe_requests.specs.declared.answers.Answer.TheVariants as answer
use Rattle.oe_requests.specs.declared.steps.Step.{Step}
use Rattle.oe_requests.specs.declared.steps.Step.TheVariants as step
use Rattle.oe_texts.specs.Answer.{answer_line}
use Rattle.oe_lines.specs.declared.commands.RingChoice.{RingChoice}
use Rattle.oe_lines.specs.Rings.{layout_of}
use Rattle.oe_lines.specs.declared.commands.Command.{Command}
use Rattle.oe_lines.specs.declared.commands.Command.TheVariants as command
use Rattle.oe_lines.specs.declared.commands.Display.{Display}
use Rattle.oe_rows.specs.declared.scales.Scale.{Scale}
use Rattle.oe_lines.specs.Grammar.{Says, HasForm}
use Rattle.oe_lines.specs.Reading.{command_of}
use Rattle.oe_lines.proofs.GrammarFacts.{read_is_said, said_is_read}
use Rattle.oe_model.specs.Rows.{Rows}
use Rattle.oe_model.specs.Conditions.{IsPopulation}
use Rattle.oe_rows.specs.declared.layouts.Layout.{Layout}
use Rattle.oe_model.specs.Population.{IsScale, IsPopulated}
use Rattle.oe_model.specs.System.{system}
use Rattle.oe_model.proofs.PopulationFacts.{population_is_one}
use Rattle.oe_model.proofs.SystemLaws.{laws, population_is_good}
use Rattle.oe_machine.specs.Steps.{step_in, answer_in, Advances}
use Rattle.oe_machine.specs.declared.advances.Advanced.{Advanced}
use Rattle.oe_machine.specs.declared.advances.Advanced.TheVariants as advanced
use Rattle.oe_io.specs.Lines.{bad_line}
use Rattle.oe_script.specs.Script.{State, moment_in, step_answer, Stepped, IsAllowed, Answers, Asks, LineAnswer}
use Rattle.oe_script.specs.Script.{RunOfLines}
use Rattle.oe_script.specs.Script.{Holds, shown_text, RunsIn}
use Rattle.oe_filelines.specs.Lines.{Held}
pub use Rattle.oe_admission.specs.Programs.{IsLive}
use Rattle.oe_admission.proofs.LiveFacts.{next_live}
use Rattle.oe_io.specs.Ports.{Sink, Sent, Cut, Streams}
use Rattle.oe_script.specs.Hearing.{Takes}
use Rattle.oe_script.specs.Outcome.{IsAnswer, Replies, Sorts}
use Rattle.oe_io.proofs.Streaming.{sent_waits, cut_more}
use Rattle.oe_script.proofs.AnswerFacts.{IsTold, told_advance, told_save, told_back, told_rollback, told_begin}
use Rattle.oe_script.proofs.AnswerFacts.{told_audit, told_read, told_purge, told_rewind, told_run}

-- THE FORMS OF LINES

-- a line says one thing
pub one_command : (line : List ℕ) (c d : Command) → Says line c → Says line d → c ≡ d
one_command line c d h k =
    let same : ◌≡◌ {A = Option Command} (Some c) (Some d) = sym (said_is_read line c h) ∙ said_is_read line d k in cc

-- WHAT LINES KEEP

live_runs : (n : ℕ) (w : World system) (t : ℕ) (x : Answer) (w' : World system) → IsLive (Some w)
    → RunsIn n w t x w' → IsLive (Some w')
live_runs zero w t x w' l r = next_live w _ _ w' l r.1
live_runs (suc n) w t x w' l r = live_runs n r.0 t x w' (next_live w _ _ r.0 l r.1) r.2

-- a core that is opened on a population is live
pub opened_live : (r : Rows) (n : ℕ) (l : Layout) → IsPopulation r → (w : World system) → w
    ≡ world_at_opening system r n l
    → IsLive (Some w)
opened_live r n l p w is =
    subst (λ (v : World system). IsLive (Some v)) (sym is)
    (opening_is_reached system laws r n l (population_is_good r p), λ t. tt)

live_opened : (s : Scale) (ring : RingChoice) (r : Rows) → IsScale s → IsPopulated s r
    → IsLive (Some (world_at_opening system r ring.extents (layout_of ring)))
live_opened s ring r h p =
    opened_live r ring.extents (layout_of ring) (population_is_one.is_population s r h p) _ refl

live_stepped : (w : World system) (i : Step) (text : List ℕ) (s : State) → IsLive (Some w) → Stepped w i text s
    → IsLive s
live_stepped w i text s l (x, w', serves, e, same) = subst IsLive (sym same) (next_live w _ _ w' l serves)

pub live_answers : (s : State) (c : Command) (text : List ℕ) (s' : State) → HasForm c → IsLive s → Answers s c text s'
    → IsLive s'
live_answers None (command.Open scale ring) text s' f l (inl (r, p, e, same)) =
    subst IsLive (sym same) (live_opened scale ring r f.0 p)
live_answers None (command.Open scale ring) text s' f l (inr (e, same)) = subst IsLive (sym same) tt
live_answers None (command.Begin t q) text s' f l a = absurd a
live_answers None (command.Next t) text s' f l a = absurd a
live_answers None (command.Run t) text s' f l a = absurd a
live_answers None (command.Save t) text s' f l a = absurd a
live_answers None (command.Back t) text s' f l a = absurd a
live_answers None (command.Rollback t) text s' f l a = absurd a
live_answers None (command.Show t) text s' f l a = absurd a
live_answers None (command.Audit c m) text s' f l a = absurd a
live_answers None (command.Read m q) text s' f l a = absurd a
live_answers None (command.Purge m) text s' f l a = absurd a
live_answers None (command.Rewind m) text s' f l a = absurd a
live_answers (Some w) (command.Open scale ring) text s' f l a = absurd a
live_answers (Some w) (command.Begin t q) text s' f l a = live_stepped w (step.Begin t q) text s' l a
live_answers (Some w) (command.Next t) text s' f l a = live_stepped w (step.Advance t) text s' l a
live_answers (Some w) (command.Run t) text s' f l (n, x, w', r, e, same) =
    subst IsLive (sym same) (live_runs n w t x w' l r)
live_answers (Some w) (command.Save t) text s' f l a = live_stepped w (step.Save t) text s' l a
live_answers (Some w) (command.Back t) text s' f l a = live_stepped w (step.Back t) text s' l a
live_answers (Some w) (command.Rollback t) text s' f l a = live_stepped w (step.Rollback t) text s' l a
live_answers (Some w) (command.Show t) text s' f l a = subst IsLive (sym a.1) l
live_answers (Some w) (command.Audit c m) text s' f l a = live_stepped w (step.Audit c (moment_in w m)) text s' l a
live_answers (Some w) (command.Read m q) text s' f l a = live_stepped w (step.Read (moment_in w m) q) text s' l a
live_answers (Some w) (command.Purge m) text s' f l a = live_stepped w (step.Purge (moment_in w m)) text s' l a
live_answers (Some w) (command.Rewind m) text s' f l a = live_stepped w (step.Rewind (moment_in w m)) text s' l a

pub live_line : (s : State) (n : ℕ) (line text : List ℕ) (s' : State) → IsLive s → LineAnswer s n line text s'
    → IsLive s'
live_line s n line text s' l (inl (c, asks, a)) = live_answers s c text s' asks.says.form l a
live_line s n line text s' l (inr (bad, e, same)) = subst IsLive (sym same) l

pub live_lines : (s : State) (n : ℕ) (lines : List (List ℕ)) (text : List ℕ) (s' : State) → IsLive s
    → RunOfLines s n lines text s' → IsLive s'
live_lines s n [] text s' l r = subst IsLive (sym r.1) l
live_lines s n (line ∷ lines) text s' l (mid, first, rest, a, r, e) =
    live_lines mid (n + 1) lines rest s' (live_line s (n + 1) line first mid l a) r

-- EACH LINE IS ANSWERED

abbrev IsAnswered : State → Command → Type 0
IsAnswered s c = (text : List ℕ) × (s' : State) × Answers s c text s'

stepped : (w : World system) (i : Step) → IsTold w i → (text : List ℕ) × (s' : State) × Stepped w i text s'
stepped w i (x, w', serves) = (step_answer i x, Some w', (x, w', serves, refl, refl))

answered : (s : State) (c : Command) → HasForm c → IsLive s → IsAllowed s c → IsAnswered s c
answered None (command.Open scale ring) f l a =
    (answer_line (answer.Refused refusal.NoMemory), None, inr (refl, refl))
answered None (command.Begin t q) f l a = absurd a
answered None (command.Next t) f l a = absurd a
answered None (command.Run t) f l a = absurd a
answered None (command.Save t) f l a = absurd a
answered None (command.Back t) f l a = absurd a
answered None (command.Rollback t) f l a = absurd a
answered None (command.Show t) f l a = absurd a
answered None (command.Audit c m) f l a = absurd a
answered None (command.Read m q) f l a = absurd a
answered None (command.Purge m) f l a = absurd a
answered None (command.Rewind m) f l a = absurd a
answered (Some w) (command.Open scale ring) f l a = absurd a
answered (Some w) (command.Begin t q) f l a = stepped w (step.Begin t q)
    (told_begin w t q f.0.0 f.0.1 f.1)
answered (Some w) (command.Next t) f l a = stepped w (step.Advance t) (told_advance w t l.0)
answered (Some w) (command.Run t) f l a = let r = told_run w t l in
    (answer_line r.1, Some r.2, (r.0, r.1, r.2, r.3, refl, refl))
answered (Some w) (command.Save t) f l a = stepped w (step.Save t) (told_save w t)
answered (Some w) (command.Back t) f l a = stepped w (step.Back t) (told_back w t)
answered (Some w) (command.Rollback t) f l a = stepped w (step.Rollback t) (told_rollback w t)
answered (Some w) (command.Show t) f l a = (shown_text t w, Some w, (refl, refl))
answered (Some w) (command.Audit c m) f l a = stepped w (step.Audit c (moment_in w m)) (told_audit w c (moment_in w m))
answered (Some w) (command.Read m q) f l a = stepped w (step.Read (moment_in w m) q) (told_read w (moment_in w m) q)
answered (Some w) (command.Purge m) f l a = stepped w (step.Purge (moment_in w m)) (told_purge w (moment_in w m))
answered (Some w) (command.Rewind m) f l a = stepped w (step.Rewind (moment_in w m)) (told_rewind w (moment_in w m) l.0)

allowed : (s : State) (c : Command) → IsAllowed s c ⊎ (IsAllowed s c → ⊥)
allowed None (command.Open scale ring) = inl tt
allowed None (command.Begin t q) = inr (λ h. h)
allowed None (command.Next t) = inr (λ h. h)
allowed None (command.Run t) = inr (λ h. h)
allowed None (command.Save t) = inr (λ h. h)
allowed None (command.Back t) = inr (λ h. h)
allowed None (command.Rollback t) = inr (λ h. h)
allowed None (command.Show t) = inr (λ h. h)
allowed None (command.Audit c m) = inr (λ h. h)
allowed None (command.Read m q) = inr (λ h. h)
allowed None (command.Purge m) = inr (λ h. h)
allowed None (command.Rewind m) = inr (λ h. h)
allowed (Some w) (command.Open scale ring) = inr (λ h. h)
allowed (Some w) (command.Begin t q) = inl tt
allowed (Some w) (command.Next t) = inl tt
allowed (Some w) (command.Run t) = inl tt
allowed (Some w) (command.Save t) = inl tt
allowed (Some w) (command.Back t) = inl tt
allowed (Some w) (command.Rollback t) = inl tt
allowed (Some w) (command.Show t) = inl tt
allowed (Some w) (command.Audit c m) = inl tt
allowed (Some w) (command.Read m q) = inl tt
allowed (Some w) (command.Purge m) = inl tt
allowed (Some w) (command.Rewind m) = inl tt

-- the text of a line, and the state after it
abbrev pub IsLineAnswered : State → ℕ → List ℕ → Type 0
IsLineAnswered s n line = (text : List ℕ) × (s' : State) × LineAnswer s n line text s'

-- a line that is none of the forms here
pub refused : (s : State) (n : ℕ) (line : List ℕ) → ((c : Command) → Asks s line c → ⊥)
    → LineAnswer s n line (bad_line n) s
refused s n line bad = inr (bad, refl, refl)

pub line_answered : (s : State) (n : ℕ) (line : List ℕ) → IsLive s → IsLineAnswered s n line
line_answered s n line l = by_length (cases_order (length line) 1_024)
  where
    bad : ((c : Command) → Asks s line c → ⊥) → IsLineAnswered s n line
    bad h = (bad_line n, s, refused s n line h)

    by_right : length line ≤ 1_024 → (c : Command) → Says line c → IsAllowed s c ⊎ (IsAllowed s c → ⊥)
        → IsLineAnswered s n line
    by_right short c says (inl a) = let r = answered s c says.form l a in
        (r.0, r.1, inl (c, record { short = short; says = says; allowed = a }, r.2))
    by_right short c says (inr d) =
        bad (λ e asks. d (subst (IsAllowed s) (one_command line e c asks.says says) asks.allowed))

    by_command : length line ≤ 1_024 → (o : Option Command) → o ≡ command_of line → IsLineAnswered s n line
    by_command short None e =
        bad (λ c asks. let differs : ◌≡◌ {A = Option Command} None (Some c) = e ∙ said_is_read line c asks.says in
        let none : ⊥ = cc in none)
    by_command short (Some c) e = let says : Says line c = read_is_said (Some c) line e in
        by_right short c says (allowed s c)

    by_length : (length line ≡ 1_024) ⊎ ((length line < 1_024) ⊎ (1_024 < length line)) → IsLineAnswered s n line
    by_length (inl e) = by_command (omega (arith, e)) (command_of line) refl
    by_length (inr (inl b)) = by_command (omega (arith, b)) (command_of line) refl
    by_length (inr (inr b)) = bad (λ c asks. let h = asks.short in absurd (omega (arith, b, h)))

-- THE ANSWERS OF ADVANCES

-- an advance has its answer
pub answer_of : (w w' : World system) (t : ℕ) (a : Advanced) (last : Option Reply) → Advances w t a w' last
    → (x : Answer) × IsAnswer last a x × Next system w (step_in (step.Advance t)) (answer_in (step.Advance t) x) w'
answer_of w w' t advanced.More last h = (answer.More, refl, h.0)
answer_of w w' t (advanced.Committed m) last (y, e, (serves, reached)) = (answer.Committed m y, (y, e, refl), serves)
answer_of w w' t (advanced.Kept e) last h = (answer.Refused e, refl, h.0.0)
answer_of w w' t (advanced.RolledBack e) last h = (answer.Refused e, refl, h.0.0)

pub not_more : (last : Option Reply) (a : Advanced) (x : Answer) → IsAnswer last a x → a ≢ advanced.More
    → x ≢ answer.More
not_more last advanced.More x h n e = n refl
not_more last (advanced.Committed m) x (y, k, is) n e = let same : answer.Committed m y ≡ answer.More = sym is ∙ e in cc
not_more last (advanced.Kept r) x is n e = let same : answer.Refused r ≡ answer.More = sym is ∙ e in cc
not_more last (advanced.RolledBack r) x is n e = let same : answer.Refused r ≡ answer.More = sym is ∙ e in cc

-- WHAT GOES OUT

-- a line that is asked for where something is open
pub taken : (w : World system) (n : ℕ) (line : List ℕ) (asked c : Command) (text : List ℕ) (s' : State)
    → length line ≤ 1_024 → Says line asked → asked ≡ c → IsAllowed (Some w) c
    → Answers (Some w) c text s' → LineAnswer (Some w) n line text s'
taken w n line asked c text s' short says e a answers =
    inl (c, record { short = short; says = subst (Says line) e says; allowed = a }, answers)

-- the line was answered, and its text waits
pub told_here : (w w' : World system) (n : ℕ) (line : List ℕ) (asked c : Command) (sink : Option Sink)
    (old new text : List ℕ)
    → length line ≤ 1_024 → Says line asked → asked ≡ c → IsAllowed (Some w) c → Answers (Some w) c text (Some w')
    → new ≡ old ++ text
    → ((x : List ℕ) × LineAnswer (Some w) n line x (Some w') × Sent sink old sink new x) × Takes true (Some w) line
told_here w w' n line asked c sink old new text short says e a answers same = (
  (text, taken w n line asked c text (Some w') short says e a answers, sent_waits sink old new text same),
  (c, record { short = short; says = subst (Says line) e says; allowed = a }),
)

pub shown_cut : {E : Type 0} (w : World system) (n : ℕ) (line : List ℕ) (asked : Command) (t : Display)
    (old new : Option Sink) (waited waits text : List ℕ) (x : E)
    → length line ≤ 1_024 → Says line asked → asked ≡ command.Show t → text ≡ shown_text t w
    → Cut old waited new text
    → Sorts (Some w) n line (Some w) old waited new waits (Err x)
shown_cut w n line asked t old new waited waits text x short says e is h =
    ((refl, text, Some w, taken w n line asked (command.Show t) text (Some w) short says e tt (is, refl), h), tt)

-- once something is open it can't be opened again
pub not_opened : (w : World system) (line : List ℕ) (asked : Command) (scale : Scale) (ring : RingChoice)
    → Says line asked
    → asked ≡ command.Open scale ring → (c : Command) → Asks (Some w) line c → ⊥
not_opened w line asked scale ring says e c asks =
    let same : c ≡ command.Open scale ring = one_command line c asked asks.says says ∙ e in
    subst (IsAllowed (Some w)) same asks.allowed

-- a line that was answered leaves what is live
pub live_replied : {T E : Type 0} (s : State) (n : ℕ) (line : List ℕ) (s' : State) (old new : Option Sink)
    (waited waits : List ℕ) (r : Result T E) → IsLive s → Replies s n line s' old waited new waits r → IsLive s'
live_replied s n line s' old new waited waits (Ok x) l h = live_line s n line h.0 s' l h.1
live_replied s n line s' old new waited waits (Err e) l h = subst IsLive (sym h.0) l

-- there was no room, and none could be made
pub replied_never : (s : State) (n : ℕ) (line : List ℕ) (old new : Option Sink) (waited : List ℕ) → IsLive s
    → Cut old waited new []
    → (s ≡ s) × (text : List ℕ) × (t : State) × LineAnswer s n line text t × Cut old waited new text
replied_never s n line old new waited l h = let a = line_answered s n line l in
    (refl, a.0, a.1, a.2, cut_more old new waited [] a.0 h)

-- a line that is none of the forms
pub replied_bad : {T E : Type 0} (s : State) (n : ℕ) (line : List ℕ) (old new : Option Sink) (waited waits : List ℕ)
    (r : Result T E) → ((c : Command) → Asks s line c → ⊥)
    → Streams old waited new waits (bad_line n) r → Replies s n line s old waited new waits r
replied_bad s n line old new waited waits (Ok x) bad h = (bad_line n, refused s n line bad, h)
replied_bad s n line old new waited waits (Err e) bad h = (refl, bad_line n, s, refused s n line bad, h)

-- a line that is too long is none of them
pub too_long : (s : State) (held : Held) (line : List ℕ) → held ≡ None → Holds held line
    → (c : Command) → Asks s line c → ⊥
too_long s None line e h c asks = let short = asks.short in absurd (omega (arith, h, short))
too_long s (Some bytes) line e h c asks = let no : ⊥ = cc in no
