-- Queries of a moment.
use Rattle.std.proofs.Common.{◌≡◌, ℕ, ◌≤◌, ◌<◌, None, Some, List, refl, sym, ap, ◌∙◌, subst, inl, inr}
use Rattle.oe_theory.specs.Machine.{Here, Missing}
use Rattle.oe_theory.specs.World.{World, horizon, newest, at, tables}
use Rattle.oe_theory.specs.Next as theory
use Rattle.oe_theory.specs.Next.{Next, reads, query_is_rejected, misses, not_open, too_old, future, IsPast}
use Rattle.oe_theory.specs.Theorems.{IsReached}
use Rattle.oe_theory.proofs.Sets.{some_inj, some_none}
use Rattle.oe_requests.specs.declared.refusals.Refusal.{Refusal}
use Rattle.oe_requests.specs.declared.refusals.Refusal.TheVariants as refusal
use Rattle.oe_requests.specs.declared.replies.QueryReply.{QueryReply}
use Rattle.oe_requests.specs.declared.requests.Query.{Query}
use Rattle.oe_model.specs.Queries.{answer_of}
use Rattle.oe_model.specs.Requests.{query_rejection}
use Rattle.oe_model.specs.System.{system}
use Rattle.oe_model.proofs.PopulationFacts.{population_is_one}
use Rattle.oe_model.proofs.SystemLaws.{population_is_good}
use Rattle.oe_requests.specs.declared.answers.Answer.{Answer}
use Rattle.oe_requests.specs.declared.answers.Answer.TheVariants as answer
use Rattle.oe_requests.specs.declared.steps.Step.TheVariants as step
use Rattle.oe_texts.specs.Answer.{answer_line}
use Rattle.oe_lines.specs.Rings.{layout_of}
use Rattle.oe_lines.specs.declared.commands.Command.{Command}
use Rattle.oe_lines.specs.declared.commands.Command.TheVariants as command
use Rattle.oe_lines.specs.declared.commands.MomentChoice.{MomentChoice}
use Rattle.oe_machine.specs.Steps.{answer_in}
use Rattle.oe_runs.specs.Run.{steps_in, answers_in}
use Rattle.oe_script.specs.Script as script
use Rattle.oe_script.specs.Script.{State, moment_in, Answers, Asks, LineAnswer}
use Rattle.oe_script.proofs.LineFacts.{one_command}
use Rattle.oe_script_laws.specs.Deeds.{Entry, steps_of, answers_of}
use Rattle.oe_script_laws.specs.Commits.{commits_of_steps}
use Rattle.oe_script_laws.specs.Laws.{Tells, IsRead, IsOneRun, Reads_are_of_moments}
use Rattle.oe_script_laws.proofs.MomentFacts.{version_at}
use Rattle.oe_runs.proofs.AnswerFacts.{answer_once, rejected_once}

-- what the machine answers
data Asked (w : World system) (m : ℕ) (q : Query) (a : theory.Answer system) (v : World system) : Type 0 where
  tells : query_rejection q (tables system w) ≡ None → horizon system w ≤ m → m ≤ newest system w → (f : QueryReply)
      → answer_of q (at system w m) ≡ Here f → a ≡ theory.Replied f → v ≡ w
      → Asked w m q a v
  turns : (e : Refusal) → query_rejection q (tables system w) ≡ Some e → a ≡ theory.Rejected e → v ≡ w → Asked w m q a v
  has_none : query_rejection q (tables system w) ≡ None → horizon system w ≤ m → m ≤ newest system w → (e : Refusal)
      → answer_of q (at system w m) ≡ Missing e → a ≡ theory.Rejected e → v ≡ w
      → Asked w m q a v
  is_old : query_rejection q (tables system w) ≡ None → m < horizon system w → a ≡ theory.Too_old (horizon system w)
      → v ≡ w → Asked w m q a v
  is_future : query_rejection q (tables system w) ≡ None → newest system w < m → a ≡ theory.Future (newest system w)
      → v ≡ w → Asked w m q a v

step_asked : (w : World system) (i : theory.Step system) (a : theory.Answer system) (v : World system) (m : ℕ)
    (q : Query) → Next system w i a v → i ≡ theory.Read m q → Asked w m q a v
step_asked w _ _ _ m q (reads k p f n l u h) e =
    let here : k ≡ m = cc in
    let same : p ≡ q = cc in
    tells (subst (λ (z : Query). query_rejection z (tables system w) ≡ None) same n)
    (subst (λ (z : ℕ). horizon system w ≤ z) here l) (subst (λ (z : ℕ). z ≤ newest system w) here u) f
    (subst (λ (z : Query). answer_of z (at system w m) ≡ Here f) same
    (subst (λ (z : ℕ). answer_of p (at system w z) ≡ Here f) here h)) refl refl
step_asked w _ _ _ m q (query_is_rejected k p d r) e =
    let same : p ≡ q = cc in
    turns d (subst (λ (z : Query). query_rejection z (tables system w) ≡ Some d) same r) refl refl
step_asked w _ _ _ m q (misses k p d n l u h) e =
    let here : k ≡ m = cc in
    let same : p ≡ q = cc in
    has_none (subst (λ (z : Query). query_rejection z (tables system w) ≡ None) same n)
    (subst (λ (z : ℕ). horizon system w ≤ z) here l) (subst (λ (z : ℕ). z ≤ newest system w) here u) d
    (subst (λ (z : Query). answer_of z (at system w m) ≡ Missing d) same
    (subst (λ (z : ℕ). answer_of p (at system w z) ≡ Missing d) here h)) refl refl
step_asked w _ _ _ m q (not_open i t e f) h = absurd (some_none t (sym e ∙ ap (theory.works_on system) h))
step_asked w _ _ _ m q (too_old i k e p l) h =
    let here : k ≡ m = some_inj k m (sym e ∙ ap (theory.moment system) h) in
    is_old (subst (IsPast system w) h p) (subst (λ (z : ℕ). z < horizon system w) here l) refl refl
step_asked w _ _ _ m q (future i k e p l) h =
    let here : k ≡ m = some_inj k m (sym e ∙ ap (theory.moment system) h) in
    is_future (subst (IsPast system w) h p) (subst (λ (z : ℕ). newest system w < z) here l) refl refl
step_asked w _ _ _ m q n h = cc

-- and its text
query_told : (w : World system) (q : Query) (m : ℕ) (x : Answer) (w' : World system) (text : List ℕ)
    (made : IsReached system w) → text ≡ answer_line x
    → Asked w m q (answer_in (step.Read m q) x) w'
    → IsRead made.base (commits_of_steps made.steps made.answers) w q m text × (w' ≡ w)
query_told w q m x w' text made t (tells n l u f h e same) = (
  inr (
    n,
    inl (
      l,
      u,
      version_at w m made l u,
      subst (λ z. Tells z text) (sym h)
          (t ∙ ap answer_line (answer_once (step.Read m q) x (answer.Replied f) e)),
    ),
  ),
  same,
)
query_told w q m x w' text made t (turns d r e same) =
    (inl (d, r, t ∙ ap answer_line (rejected_once (step.Read m q) x d e)), same)
query_told w q m x w' text made t (has_none n l u d h e same) = (
  inr (
    n,
    inl (
      l,
      u,
      version_at w m made l u,
      subst (λ z. Tells z text) (sym h)
          (t ∙ ap answer_line (rejected_once (step.Read m q) x d e)),
    ),
  ),
  same,
)
query_told w q m x w' text made t (is_old n l e same) = (
  inr (
    n,
    inr (inl (
      l,
      t
          ∙ ap answer_line (answer_once (step.Read m q) x (answer.Refused (refusal.TooOld (horizon system w))) e),
    )),
  ),
  same,
)
query_told w q m x w' text made t (is_future n l e same) = (
  inr (
    n,
    inr (inr (
      l,
      t
          ∙ ap answer_line (answer_once (step.Read m q) x (answer.Refused (refusal.Future (newest system w))) e),
    )),
  ),
  same,
)

of_world : (w : World system) (made : IsReached system w) (n : ℕ) (line text : List ℕ) (s : State) (m : MomentChoice)
    (q : Query)
    → Asks (Some w) line (command.Read m q) → LineAnswer (Some w) n line text s
    → IsRead made.base (commits_of_steps made.steps made.answers) w q (moment_in w m) text × (s ≡ Some w)
of_world w made n line text s m q asks (inr (bad, e, same)) = absurd (bad (command.Read m q) asks)
of_world w made n line text s m q asks (inl (d, other, a)) =
    go (subst (λ (z : Command). Answers (Some w) z text s) (one_command line d (command.Read m q) other.says asks.says)
    a)
  where
    go : script.Stepped w (step.Read (moment_in w m) q) text s
        → IsRead made.base (commits_of_steps made.steps made.answers) w q (moment_in w m) text × (s ≡ Some w)
    go (x, w', next, t, same) =
        let told_so = query_told w q (moment_in w m) x w' text made t
        (step_asked w _ _ w' (moment_in w m) q next refl) in
        (told_so.0, same ∙ ap Some told_so.1)

-- the population is the base of a script's world
abbrev pub from_population : (es : List Entry) (w : World system) → IsOneRun es w → IsReached system w
from_population es w r = record {
  base = r.rows;
  extents = r.ring.extents;
  layout = layout_of r.ring;
  good = population_is_good r.rows (population_is_one.is_population r.scale r.rows r.says.form.0 r.populated);
  steps = steps_in (steps_of r.after);
  answers = answers_in (steps_of r.after) (answers_of r.after);
  run = r.ran.runs;
}

pub reads_are_of_moments : Reads_are_of_moments
reads_are_of_moments = record {
  of_world = of_world;
  of_script = λ es w r n line text s m q. of_world w (from_population es w r) n line text s m q;
  of_version = λ es w r m. version_at w m (from_population es w r);
}
