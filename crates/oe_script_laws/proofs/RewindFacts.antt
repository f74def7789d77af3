-- Bases, and where a rewind leads.
use Rattle.std.proofs.Common.{◌≡◌, ℕ, suc, ◌≤◌, ◌<◌, Some, List, [], ◌∷◌, refl, sym, ap, ◌∙◌}
use Rattle.std.proofs.Common.{subst, inl, inr, arith}
use Rattle.oe_theory.specs.World.{World, total, version, horizon, newest, at, tables}
use Rattle.oe_theory.specs.Next as theory
use Rattle.oe_theory.specs.Next.{Next, IsQuiet, IsPast, count_open, commits}
use Rattle.oe_theory.specs.Next.{rewinds}
use Rattle.oe_theory.specs.Next.{not_open, too_old}
use Rattle.oe_theory.specs.Next.{future, not_quiet}
use Rattle.oe_theory.specs.Theorems.{IsReached, world_at_opening}
use Rattle.oe_theory.proofs.Sets.{some_inj, some_none}
use Rattle.oe_theory.proofs.Theorems.{rewind_restores}
use Rattle.oe_requests.specs.declared.refusals.Refusal.TheVariants as refusal
use Rattle.oe_requests.specs.declared.answers.Answer.{Answer}
use Rattle.oe_requests.specs.declared.answers.Answer.TheVariants as answer
use Rattle.oe_requests.specs.declared.steps.Step.{Step}
use Rattle.oe_requests.specs.declared.steps.Step.TheVariants as step
use Rattle.oe_model.specs.Rows.{Rows}
use Rattle.oe_model.specs.System.{system}
use Rattle.oe_lines.specs.Rings.{layout_of}
use Rattle.oe_model.proofs.SystemLaws.{laws}
use Rattle.oe_texts.specs.Answer.{answer_line}
use Rattle.oe_lines.specs.declared.commands.Command.{Command}
use Rattle.oe_lines.specs.declared.commands.Command.TheVariants as command
use Rattle.oe_lines.specs.declared.commands.MomentChoice.{MomentChoice}
use Rattle.oe_lines.specs.declared.commands.MomentChoice.TheVariants as moment
use Rattle.oe_machine.specs.Steps.{step_in, answer_in}
use Rattle.oe_runs.specs.Run.{AreUnpurged, AreWhole}
use Rattle.oe_runs.proofs.RunFacts.{first_at}
use Rattle.oe_script.specs.Script as script
use Rattle.oe_script.specs.Script.{State, moment_in, Answers, Asks, LineAnswer}
use Rattle.oe_script.proofs.LineFacts.{one_command}
use Rattle.oe_script_laws.specs.Deeds.{Entry, steps_of, answers_of}
use Rattle.oe_script_laws.specs.Commits.{Transaction, commits_of_steps}
use Rattle.oe_script_laws.specs.Moments.{IsRewound, IsRewoundTo}
use Rattle.oe_script_laws.specs.Laws.{IsOneRun, Rewinds_restore}
use Rattle.oe_runs.proofs.AnswerFacts.{answer_once}
use Rattle.oe_script_laws.proofs.MomentFacts.{purged_step, by_other, total_none, version_at}
use Rattle.oe_script_laws.proofs.ReadFacts.{from_population}

-- WHAT A RUN GOES ON FROM

-- along a run
unpurged : (b : Rows) (w v : World system) (is : List Step) (ys : List Answer) → AreWhole b w is ys v → AreUnpurged ys
    → (v.base ≡ w.base) × (v.counts ≡ w.counts)
unpurged b w v [] [] (good, same) h =
    (ap (λ (z : World system). z.base) (sym same), ap (λ (z : World system). z.counts) (sym same))
unpurged b w v [] (x ∷ ys) r h = absurd r
unpurged b w v (i ∷ is) [] r h = absurd r
unpurged b w v (i ∷ is) (x ∷ ys) (good, (mid, next, ends, past, rest)) h =
    let here = by_other w mid (step_in i) (answer_in i x) next (λ m e. h.0 m (answer_once i x (answer.Purged m) e)) in
    let more = unpurged b mid v is ys rest h.1 in
    (more.0 ∙ here.0, more.1 ∙ here.1)

of_population : (es : List Entry) (w : World system) (r : IsOneRun es w) → AreUnpurged (answers_of r.after)
    → (w.base ≡ r.rows) × (horizon system w ≡ 0)
of_population es w r h =
    let same = unpurged r.rows (world_at_opening system r.rows r.ring.extents (layout_of r.ring)) w (steps_of r.after)
    (answers_of r.after) r.ran.whole h
    in
    (same.0, ap (total system.terminal_limit) same.1 ∙ total_none system.terminal_limit)

-- WHAT A REWIND IS ANSWERED

-- by the machine
data Rewinds (w : World system) (m : ℕ) (a : theory.Answer system) (v : World system) : Type 0 where
  restores : IsQuiet system w → horizon system w ≤ m → m ≤ newest system w → tables system v ≡ at system w m
      → newest system v ≡ m → a ≡ theory.Rewound m → Rewinds w m a v
  has_open : (k : ℕ) → count_open system w.active system.terminal_limit ≡ suc k → a ≡ theory.Not_quiet (suc k) → v ≡ w
      → Rewinds w m a v
  is_old : IsQuiet system w → m < horizon system w → a ≡ theory.Too_old (horizon system w) → v ≡ w → Rewinds w m a v
  is_future : IsQuiet system w → newest system w < m → a ≡ theory.Future (newest system w) → v ≡ w → Rewinds w m a v

step_rewinds : (w : World system) (i : theory.Step system) (a : theory.Answer system) (v : World system) (m : ℕ)
    → Next system w i a v → i ≡ theory.Rewind m → Rewinds w m a v
step_rewinds w _ _ _ m (rewinds k q l u) e =
    let here : k ≡ m = cc in
    let left = rewind_restores system laws w _ k (rewinds k q l u) in
    restores q (subst (λ (z : ℕ). horizon system w ≤ z) here l) (subst (λ (z : ℕ). z ≤ newest system w) here u)
    (left.0 ∙ ap (at system w) here) (left.1 ∙ here) (ap theory.Rewound here)
step_rewinds w _ _ _ m (not_quiet k n c) e = has_open n c refl refl
step_rewinds w _ _ _ m (not_open i t e f) h = absurd (some_none t (sym e ∙ ap (theory.works_on system) h))
step_rewinds w _ _ _ m (too_old i k e p l) h =
    let here : k ≡ m = some_inj k m (sym e ∙ ap (theory.moment system) h) in
    is_old (subst (IsPast system w) h p) (subst (λ (z : ℕ). z < horizon system w) here l) refl refl
step_rewinds w _ _ _ m (future i k e p l) h =
    let here : k ≡ m = some_inj k m (sym e ∙ ap (theory.moment system) h) in
    is_future (subst (IsPast system w) h p) (subst (λ (z : ℕ). newest system w < z) here l) refl refl
step_rewinds w _ _ _ m n h = cc

-- and its text
rewind_told : (w : World system) (m : ℕ) (x : Answer) (w' : World system) (text : List ℕ) (s : State)
    (made : IsReached system w) → text ≡ answer_line x → s ≡ Some w'
    → Rewinds w m (answer_in (step.Rewind m) x) w'
    → IsRewound made.base (commits_of_steps made.steps made.answers) w m text s
rewind_told w m x w' text s made t same (restores q l u rows newest e) =
    inl (
      q,
      l,
      u,
      version_at w m made l u,
      (w', same, rows, newest),
      t
          ∙ ap answer_line (answer_once (step.Rewind m) x (answer.Rewound m) e),
    )
rewind_told w m x w' text s made t same (has_open k c e v) =
    inr (inl (
      (k, c, t ∙ ap answer_line (answer_once (step.Rewind m) x (answer.Refused (refusal.NotQuiet (suc k))) e)),
      same ∙ ap Some v,
    ))
rewind_told w m x w' text s made t same (is_old q l e v) =
    inr (inr (inl (
      q,
      l,
      t
          ∙ ap answer_line (answer_once (step.Rewind m) x (answer.Refused (refusal.TooOld (horizon system w))) e),
      same
          ∙ ap Some v,
    )))
rewind_told w m x w' text s made t same (is_future q l e v) =
    inr (inr (inr (
      q,
      l,
      t
          ∙ ap answer_line (answer_once (step.Rewind m) x (answer.Refused (refusal.Future (newest system w))) e),
      same
          ∙ ap Some v,
    )))

answered : (w : World system) (made : IsReached system w) (n : ℕ) (line text : List ℕ) (s : State) (m : MomentChoice)
    → Asks (Some w) line (command.Rewind m) → LineAnswer (Some w) n line text s
    → IsRewound made.base (commits_of_steps made.steps made.answers) w (moment_in w m) text s
answered w made n line text s m asks (inr (bad, e, same)) = absurd (bad (command.Rewind m) asks)
answered w made n line text s m asks (inl (d, other, a)) =
    go (subst (λ (z : Command). Answers (Some w) z text s) (one_command line d (command.Rewind m) other.says asks.says)
    a)
  where
    go : script.Stepped w (step.Rewind (moment_in w m)) text s
        → IsRewound made.base (commits_of_steps made.steps made.answers) w (moment_in w m) text s
    go (x, w', next, t, same) = rewind_told w (moment_in w m) x w' text s made t same
        (step_rewinds w _ _ w' (moment_in w m) next refl)

-- where nothing was purged
to_population : (es : List Entry) (w : World system) (r : IsOneRun es w) (n : ℕ) (line text : List ℕ) (s : State)
    → AreUnpurged (answers_of r.after)
    → Asks (Some w) line (command.Rewind (moment.At 0)) → LineAnswer (Some w) n line text s
    → IsRewoundTo r.rows w text s
to_population es w r n line text s h asks a = go (answered w r.ran.reached n line text s (moment.At 0) asks a)
  where
    commits : List Transaction
    commits = commits_of_steps r.ran.reached.steps r.ran.reached.answers

    go : IsRewound r.ran.reached.base commits w 0 text s → IsRewoundTo r.rows w text s
    go (inl (q, l, u, version, (v, same, rows, newest), t)) =
        inl (q, (v, same, rows ∙ (first_at w ∙ (of_population es w r h).0), newest), t)
    go (inr (inl refused)) = inr refused
    go (inr (inr (inl (q, l, t, same)))) = let none : horizon system w ≡ 0 = (of_population es w r h).1 in
        absurd (omega (arith, l, none))
    go (inr (inr (inr (q, l, t, same)))) = absurd (omega (arith, l))

pub rewinds_restore : Rewinds_restore
rewinds_restore = record {
  by_purge = λ w v m n. purged_step w (theory.Purge m) (theory.Purged m) v m n refl refl;
  by_other = by_other;
  of_population = of_population;
  answered = answered;
  of_script = λ es w r. answered w (from_population es w r);
  to_population = to_population;
}
