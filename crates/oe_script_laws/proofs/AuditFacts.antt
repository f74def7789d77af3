-- Audits, and conditions between the lines.
use Rattle.std.proofs.Common.{◌≡◌, ℕ, zero, suc, ◌≤◌, ◌<◌, None, Some, List, [], ◌∷◌, ◌++◌, refl, sym, ap, ◌∙◌, subst}
use Rattle.std.proofs.Common.{inl, inr, arith}
use Rattle.oe_theory.specs.World.{World, horizon, newest, at}
use Rattle.oe_theory.specs.Next as theory
use Rattle.oe_theory.specs.Next.{Next, audits, not_open, too_old, future}
use Rattle.oe_theory.specs.Theorems.{IsReached}
use Rattle.oe_theory.proofs.Sets.{some_inj, some_none}
use Rattle.oe_theory.proofs.Theorems.{holds_from_base}
use Rattle.oe_requests.specs.declared.refusals.Refusal.TheVariants as refusal
use Rattle.oe_requests.specs.declared.answers.Answer.{Answer}
use Rattle.oe_requests.specs.declared.answers.Answer.TheVariants as answer
use Rattle.oe_requests.specs.declared.audits.Condition.{Condition}
use Rattle.oe_requests.specs.declared.audits.Condition.TheVariants as condition
use Rattle.oe_requests.specs.declared.audits.Verdict.{Verdict}
use Rattle.oe_requests.specs.declared.audits.Verdict.TheVariants as verdict
use Rattle.oe_requests.specs.declared.steps.Step.{Step}
use Rattle.oe_requests.specs.declared.steps.Step.TheVariants as step
use Rattle.oe_model.specs.Audits as model
use Rattle.oe_model.specs.FurtherConditions.{More}
use Rattle.oe_model.specs.Headline.{Conditions}
use Rattle.oe_model.specs.Rows.{Rows}
use Rattle.oe_model.specs.System.{system}
use Rattle.oe_model.proofs.ConsistencyFacts.{consistent}
use Rattle.oe_model.proofs.SystemLaws.{laws}
use Rattle.oe_model.proofs.VerdictFacts.{verdicts_are_exact}
use Rattle.oe_machine.specs.Verdict.{condition_of, verdict_of}
use Rattle.oe_texts.specs.Answer.{audit_line}
use Rattle.oe_lines.specs.declared.commands.Command.{Command}
use Rattle.oe_lines.specs.declared.commands.Command.TheVariants as command
use Rattle.oe_lines.specs.declared.commands.MomentChoice.{MomentChoice}
use Rattle.oe_lines.specs.declared.commands.MomentChoice.TheVariants as moment
use Rattle.oe_consistency.proofs.KeptMore.{kept, base_more}
use Rattle.oe_consistency.proofs.PopulationMore.{population_has_more}
use Rattle.oe_machine.specs.Steps.{step_in, answer_in}
use Rattle.oe_script.specs.Script as script
use Rattle.oe_script.specs.Script.{State, moment_in, step_answer, Answers, Asks, LineAnswer, RunOfLines}
use Rattle.oe_script.proofs.LineFacts.{one_command}
use Rattle.oe_script_laws.specs.Deeds.{Deed, No_form, Opening, Shown, Steps, Entry, Takes, Was, Passed}
use Rattle.oe_script_laws.specs.Laws.{IsReachedState, IsConsistentState, IsOfFour, IsAudited, Audits_hold, HasMore}
use Rattle.oe_script_laws.specs.Laws.{More_audits_hold}
use Rattle.oe_runs.proofs.AnswerFacts.{answer_once}
use Rattle.oe_script_laws.proofs.DeedFacts.{lines_are_deeds}
use Rattle.oe_script_laws.proofs.PassFacts.{passed_split, passed_reached, worlds_are_reached}
use Rattle.oe_runs.proofs.RunFacts.{still_reached}
use Rattle.oe_script_laws.proofs.PassFacts.{opened_reached}

-- THE CONDITIONS

consistent_state : (s : State) → IsReachedState s → IsConsistentState s
consistent_state None l = tt
consistent_state (Some w) l = consistent w l

conditions : (begun : State) (n : ℕ) (lines : List (List ℕ)) (text : List ℕ) (s : State) → IsReachedState begun
    → RunOfLines begun n lines text s → IsConsistentState s
conditions begun n lines text s l r = consistent_state s (worlds_are_reached.of_lines begun n lines text s l r)

-- an audit of these rows finds that the condition holds
abbrev IsHeld : Condition → Rows → Type 0
IsHeld c r = model.verdict (condition_of c) r ≡ model.Holds

holds_of : (c : Condition) (r : Rows) → IsOfFour c → Conditions r → IsHeld c r
holds_of condition.First r four h = (verdicts_are_exact.holds model.First r).1 h.condition_1
holds_of condition.Second r four h = (verdicts_are_exact.holds model.Second r).1 h.condition_2
holds_of condition.Third r four h = (verdicts_are_exact.holds model.Third r).1 h.condition_3
holds_of condition.Fourth r four h = (verdicts_are_exact.holds model.Fourth r).1 h.condition_4
holds_of condition.Fifth r four h = absurd four
holds_of condition.Sixth r four h = absurd four
holds_of condition.Seventh r four h = absurd four
holds_of condition.Eighth r four h = absurd four
holds_of condition.Ninth r four h = absurd four
holds_of condition.Tenth r four h = absurd four
holds_of condition.Twelfth r four h = absurd four

-- any of the eleven
all_hold : (c : Condition) (r : Rows) → Conditions r → More r → IsHeld c r
all_hold condition.First r h more = holds_of condition.First r tt h
all_hold condition.Second r h more = holds_of condition.Second r tt h
all_hold condition.Third r h more = holds_of condition.Third r tt h
all_hold condition.Fourth r h more = holds_of condition.Fourth r tt h
all_hold condition.Fifth r h more = (verdicts_are_exact.holds model.Fifth r).1 more.condition_5
all_hold condition.Sixth r h more = (verdicts_are_exact.holds model.Sixth r).1 more.condition_6
all_hold condition.Seventh r h more = (verdicts_are_exact.holds model.Seventh r).1 more.condition_7
all_hold condition.Eighth r h more = (verdicts_are_exact.holds model.Eighth r).1 more.condition_8
all_hold condition.Ninth r h more = (verdicts_are_exact.holds model.Ninth r).1 more.condition_9
all_hold condition.Tenth r h more = (verdicts_are_exact.holds model.Tenth r).1 more.condition_10
all_hold condition.Twelfth r h more = (verdicts_are_exact.holds model.Twelfth r).1 more.condition_12

-- WHAT AN AUDIT IS ANSWERED

-- by the machine
data Audited (w : World system) (m : ℕ) (c : Condition) (a : theory.Answer system) (v : World system) : Type 0 where
  sees : horizon system w ≤ m → m ≤ newest system w
      → a ≡ theory.Audited (model.verdict (condition_of c) (at system w m)) → v ≡ w → Audited w m c a v
  is_old : m < horizon system w → a ≡ theory.Too_old (horizon system w) → v ≡ w → Audited w m c a v
  is_future : newest system w < m → a ≡ theory.Future (newest system w) → v ≡ w → Audited w m c a v

step_audited : (w : World system) (i : theory.Step system) (a : theory.Answer system) (v : World system) (m : ℕ)
    (c : Condition) → Next system w i a v → i ≡ theory.Audit m (condition_of c) → Audited w m c a v
step_audited w _ _ _ m c (audits k d l u) e =
    let here : k ≡ m = cc in
    let same : d ≡ condition_of c = cc in
    sees (subst (λ (z : ℕ). horizon system w ≤ z) here l) (subst (λ (z : ℕ). z ≤ newest system w) here u)
    (ap (λ (z : ℕ). theory.Audited (model.verdict d (at system w z))) here
    ∙ ap (λ z. theory.Audited (model.verdict z (at system w m))) same) refl
step_audited w _ _ _ m c (not_open i t e f) h = absurd (some_none t (sym e ∙ ap (theory.works_on system) h))
step_audited w _ _ _ m c (too_old i k e p l) h =
    let here : k ≡ m = some_inj k m (sym e ∙ ap (theory.moment system) h) in
    is_old (subst (λ (z : ℕ). z < horizon system w) here l) refl refl
step_audited w _ _ _ m c (future i k e p l) h =
    let here : k ≡ m = some_inj k m (sym e ∙ ap (theory.moment system) h) in
    is_future (subst (λ (z : ℕ). newest system w < z) here l) refl refl
step_audited w _ _ _ m c n h = cc

-- in a world of which each version has it
module _ (w : World system) (c : Condition) (holds : (m : ℕ) → IsHeld c (at system w m)) where
  -- so a verdict is that the condition holds
  held : (m : ℕ) (x : Answer) → answer_in (step.Audit c m) x ≡ theory.Audited
      (model.verdict (condition_of c) (at system w m)) → x ≡ answer.Audited verdict.Holds
  held m x h = answer_once (step.Audit c m) x (answer.Audited verdict.Holds) (h ∙ ap theory.Audited (holds m))

  step_told : (m : ℕ) (x : Answer) (w' : World system) (text : List ℕ) → text ≡ step_answer (step.Audit c m) x
      → Audited w m c (answer_in (step.Audit c m) x) w' → IsAudited w c m text × (w' ≡ w)
  step_told m x w' text t (sees l u e same) = (inl (l, u, t ∙ ap (step_answer (step.Audit c m)) (held m x e)), same)
  step_told m x w' text t (is_old l e same) = (
    inr (inl (
      l,
      t ∙ ap (step_answer (step.Audit c m))
          (answer_once (step.Audit c m) x (answer.Refused (refusal.TooOld (horizon system w))) e),
    )),
    same,
  )
  step_told m x w' text t (is_future l e same) = (
    inr (inr (
      l,
      t ∙ ap (step_answer (step.Audit c m))
          (answer_once (step.Audit c m) x (answer.Refused (refusal.Future (newest system w))) e),
    )),
    same,
  )

  answered_so : (n : ℕ) (line text : List ℕ) (s : State) (m : MomentChoice) → Asks (Some w) line (command.Audit c m)
      → LineAnswer (Some w) n line text s → IsAudited w c (moment_in w m) text × (s ≡ Some w)
  answered_so n line text s m asks (inr (bad, e, same)) = absurd (bad (command.Audit c m) asks)
  answered_so n line text s m asks (inl (d, other, a)) =
      go (subst (λ (z : Command). Answers (Some w) z text s)
      (one_command line d (command.Audit c m) other.says asks.says) a)
    where
      go : script.Stepped w (step.Audit c (moment_in w m)) text s → IsAudited w c (moment_in w m) text × (s ≡ Some w)
      go (x, w', next, t, same) =
          let told_so = step_told (moment_in w m) x w' text t (step_audited w _ _ w' (moment_in w m) c next refl) in
          (told_so.0, same ∙ ap Some told_so.1)

  now_so : (n : ℕ) (line text : List ℕ) (s : State) → Asks (Some w) line (command.Audit c moment.Now)
      → LineAnswer (Some w) n line text s → text ≡ audit_line c verdict.Holds
  now_so n line text s asks a = go (answered_so n line text s moment.Now asks a).0
    where
      go : IsAudited w c (newest system w) text → text ≡ audit_line c verdict.Holds
      go (inl (l, u, e)) = e
      go (inr (inl (l, e))) = absurd (omega (arith, l))
      go (inr (inr (l, e))) = absurd (omega (arith, l))

  verdict_held : (m : ℕ) (v : Verdict) (w' : World system) → Audited w m c (theory.Audited (verdict_of v)) w'
      → v ≡ verdict.Holds
  verdict_held m v w' (sees l u e same) =
      let is : answer.Audited v ≡ answer.Audited verdict.Holds = held m (answer.Audited v) e in cc
  verdict_held m v w' (is_old l e same) = cc
  verdict_held m v w' (is_future l e same) = cc

-- IN A SCRIPT

-- nothing is open yet, or a world of which it holds
abbrev IsSo : (World system → Type 0) → State → Type 0
IsSo P None = Unit {0}
IsSo P (Some w) = P w

-- what steps keep, of worlds whose versions have it then
module _ (P : World system → Type 0) (on : (w v : World system) (i : theory.Step system) (a : theory.Answer system)
    → P w → Next system w i a v → P v)
    (c : Condition) (holds : (w : World system) → P w → (m : ℕ) → IsHeld c (at system w m)) where
  taken_verdict : (n : ℕ) (w : World system) (m : ℕ) (v : Verdict) (w' : World system) → P w
      → Takes n w (step.Audit c m) (answer.Audited v) w' → v ≡ verdict.Holds
  taken_verdict zero w m v w' p h = verdict_held w c (holds w p) m v w' (step_audited w _ _ w' m c h refl)
  taken_verdict (suc n) w m v w' p (mid, more, h) = taken_verdict n mid m v w' (on w mid _ _ p more) h

  verdict_of_line : (s : State) (line : List ℕ) (n m : ℕ) (v : Verdict) (s' : State) → IsSo P s
      → Was s line (Steps n (step.Audit c m) (answer.Audited v)) s' → v ≡ verdict.Holds
  verdict_of_line None line n m v s' l h = absurd h
  verdict_of_line (Some w) line n m v s' l (d, w', asks, i, z, h, same) = taken_verdict n w m v w' l h

-- conditions 1 to 4
four_held : (c : Condition) → IsOfFour c → (w : World system) → IsReached system w → (m : ℕ) → IsHeld c (at system w m)
four_held c four w r m = holds_of c (at system w m) four ((consistent w r).of_versions m)

verdicts : (s s' : State) (before after : List Entry) (e : Entry) (n : ℕ) (c : Condition) (m : ℕ) (v : Verdict)
    → IsReachedState s → IsOfFour c
    → Passed s (before ++ e ∷ after) s' → e.deed ≡ Steps n (step.Audit c m) (answer.Audited v) → v ≡ verdict.Holds
verdicts s s' before after e n c m v l four p is =
    let d = passed_split s before (e ∷ after) s' p in
    verdict_of_line (IsReached system) still_reached c (four_held c four) d.0 e.line n m v d.2.0
    (reached_so d.0 (passed_reached s before d.0 l d.1)) (subst (λ z. Was d.0 e.line z d.2.0) is d.2.1)
  where
    reached_so : (z : State) → IsReachedState z → IsSo (IsReached system) z
    reached_so None h = tt
    reached_so (Some w) h = h

pub audits_hold : Audits_hold
audits_hold = record {
  conditions = conditions;
  answered = λ w n line text s c m r four asks a. answered_so w c (four_held c four w r) n line text s m asks a;
  now = λ w n line text s c r four asks a. now_so w c (four_held c four w r) n line text s asks a;
  verdicts = verdicts;
}

-- CONDITIONS 5 TO 10 AND 12

-- a world that steps led to, on a base of which they hold
abbrev HasMoreBase : World system → Type 0
HasMoreBase w = IsReached system w × More w.base

abbrev HasMoreSo : State → Type 0
HasMoreSo s = IsSo HasMoreBase s

next_more : (w v : World system) (i : theory.Step system) (a : theory.Answer system) → HasMoreBase w
    → Next system w i a v → HasMoreBase v
next_more w v i a h n = (still_reached w v i a h.0 n, base_more w v i a h.0 h.1 n)

takes_more : (n : ℕ) (w : World system) (i : Step) (x : Answer) (w' : World system) → HasMoreBase w → Takes n w i x w'
    → HasMoreBase w'
takes_more zero w i x w' h t = next_more w w' (step_in i) (answer_in i x) h t
takes_more (suc n) w i x w' h (mid, more, t) = takes_more n mid i x w'
    (next_more w mid (step_in i) (answer_in i answer.More) h more) t

was_more : (s : State) (line : List ℕ) (d : Deed) (s' : State) → HasMoreSo s → Was s line d s' → HasMoreSo s'
was_more s line No_form s' l (bad, same) = subst HasMoreSo (sym same) l
was_more None line (Opening text) s' l (scale, ring, asks, inl (r, p, e, same)) =
    subst HasMoreSo (sym same)
    (opened_reached scale ring r asks.says.form.0 p, population_has_more scale r asks.says.form.0 p)
was_more None line (Opening text) s' l (scale, ring, asks, inr (e, same)) = subst HasMoreSo (sym same) tt
was_more (Some w) line (Opening text) s' l (scale, ring, asks, a) = absurd a
was_more None line (Shown text) s' l (b, asks, a) = absurd a
was_more (Some w) line (Shown text) s' l (b, asks, (e, same)) = subst HasMoreSo (sym same) l
was_more None line (Steps n i x) s' l h = absurd h
was_more (Some w) line (Steps n i x) s' l (c, w', asks, e, z, h, same) =
    subst HasMoreSo (sym same) (takes_more n w i x w' l h)

passed_more : (s : State) (es : List Entry) (s' : State) → HasMoreSo s → Passed s es s' → HasMoreSo s'
passed_more s [] s' l same = subst HasMoreSo (sym same) l
passed_more s (e ∷ es) s' l (mid, was, rest) = passed_more mid es s' (was_more s e.line e.deed mid l was) rest

versions_more : (w : World system) → HasMoreBase w → (m : ℕ) → More (at system w m)
versions_more w h m = holds_from_base system laws More kept w h.0 h.1 m

eleven_held : (c : Condition) (w : World system) → HasMoreBase w → (m : ℕ) → IsHeld c (at system w m)
eleven_held c w h m = all_hold c (at system w m) ((consistent w h.0).of_versions m) (versions_more w h m)

more_state : (s : State) → HasMoreSo s → HasMore s
more_state None l = tt
more_state (Some w) l = versions_more w l

more_conditions : (n : ℕ) (lines : List (List ℕ)) (text : List ℕ) (s : State) → RunOfLines None n lines text s
    → HasMore s
more_conditions n lines text s r = let d = lines_are_deeds.each None n lines text s r in
    more_state s (passed_more None d.0 s tt d.1)

more_verdicts : (s : State) (before after : List Entry) (e : Entry) (n : ℕ) (c : Condition) (m : ℕ) (v : Verdict)
    → Passed None (before ++ e ∷ after) s → e.deed ≡ Steps n (step.Audit c m) (answer.Audited v) → v ≡ verdict.Holds
more_verdicts s before after e n c m v p is =
    let d = passed_split None before (e ∷ after) s p in
    verdict_of_line HasMoreBase next_more c (eleven_held c) d.0 e.line n m v d.2.0 (passed_more None before d.0 tt d.1)
    (subst (λ z. Was d.0 e.line z d.2.0) is d.2.1)

pub more_audits_hold : More_audits_hold
more_audits_hold = record {
  conditions = more_conditions;
  answered = λ es w n line text s c m p asks a. answered_so w c (eleven_held c w (passed_more None es (Some w) tt p)) n
      line text s m asks a;
  now = λ es w n line text s c p asks a. now_so w c (eleven_held c w (passed_more None es (Some w) tt p)) n line text s
      asks a;
  verdicts = more_verdicts;
}
