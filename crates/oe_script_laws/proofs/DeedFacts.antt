-- What each line was, and the answers that it gives.
use Rattle.std.proofs.Common.{◌≡◌, ℕ, zero, suc, ◌+◌, Option, None, Some, List, [], ◌∷◌, ◌++◌, refl, sym, ap, ◌∙◌}
use Rattle.std.proofs.Common.{subst, inl, inr}
use Rattle.std.specs.Prelude.{◌≢◌}
use Rattle.oe_theory.specs.World.{World}
use Rattle.oe_theory.proofs.Sets.{some_inj}
use Rattle.oe_model.specs.System.{system}
use Rattle.oe_requests.specs.declared.answers.Answer.{Answer}
use Rattle.oe_requests.specs.declared.answers.Answer.TheVariants as answer
use Rattle.oe_requests.specs.declared.steps.Step.{Step}
use Rattle.oe_requests.specs.declared.steps.Step.TheVariants as step
use Rattle.oe_lines.specs.declared.commands.Command.{Command}
use Rattle.oe_lines.specs.declared.commands.Command.TheVariants as command
use Rattle.oe_script.specs.Script as script
use Rattle.oe_script.specs.Script.{State, step_answer, RunsIn, Answers, Asks, LineAnswer, RunOfLines}
use Rattle.oe_script_laws.specs.Deeds.{Deed, No_form, Opening, Shown, Steps, Entry, step_of, IsUpTo, Takes, Was, Passed}
use Rattle.oe_script_laws.specs.Deeds.{text_of, lines_of, texts_of}
use Rattle.oe_script_laws.specs.Laws.{Lines_are_deeds}

-- FROM A LINE'S ANSWER TO WHAT IT WAS

abbrev IsDeed : State → List ℕ → List ℕ → State → Type 0
IsDeed s line text s' = (d : Deed) × Was s line d s' × ((n : ℕ) → text_of n d ≡ text)

single : (w : World system) (line : List ℕ) (c : Command) (i : Step) (text : List ℕ) (s : State) → Asks (Some w) line c
    → step_of w c ≡ Some i → ((x : Answer) → IsUpTo c 0 x)
    → script.Stepped w i text s → IsDeed (Some w) line text s
single w line c i text s asks e one (x, w', next, t, same) =
    (Steps 0 i x, (c, w', asks, e, one x, next, same), λ n. sym t)

takes_run : (n : ℕ) (w : World system) (t : ℕ) (x : Answer) (w' : World system) → RunsIn n w t x w'
    → (x ≢ answer.More) × Takes n w (step.Advance t) x w'
takes_run zero w t x w' r = r
takes_run (suc n) w t x w' (mid, more, r) = let rest = takes_run n mid t x w' r in (rest.0, (mid, more, rest.1))

pub deed_of : (s : State) (line : List ℕ) (c : Command) (text : List ℕ) (s' : State) → Asks s line c
    → Answers s c text s' → IsDeed s line text s'
deed_of None line (command.Open scale ring) text s' asks a = (Opening text, (scale, ring, asks, a), λ n. refl)
deed_of None line (command.Begin t q) text s' asks a = absurd a
deed_of None line (command.Next t) text s' asks a = absurd a
deed_of None line (command.Run t) text s' asks a = absurd a
deed_of None line (command.Save t) text s' asks a = absurd a
deed_of None line (command.Back t) text s' asks a = absurd a
deed_of None line (command.Rollback t) text s' asks a = absurd a
deed_of None line (command.Show t) text s' asks a = absurd a
deed_of None line (command.Audit c m) text s' asks a = absurd a
deed_of None line (command.Read m q) text s' asks a = absurd a
deed_of None line (command.Purge m) text s' asks a = absurd a
deed_of None line (command.Rewind m) text s' asks a = absurd a
deed_of (Some w) line (command.Open scale ring) text s' asks a = absurd a
deed_of (Some w) line (command.Begin t q) text s' asks a = single w line (command.Begin t q) _ text s' asks refl
    (λ x. refl) a
deed_of (Some w) line (command.Next t) text s' asks a = single w line (command.Next t) _ text s' asks refl (λ x. refl) a
deed_of (Some w) line (command.Run t) text s' asks (n, x, w', runs, e, same) =
    let r = takes_run n w t x w' runs in
    (Steps n (step.Advance t) x, (command.Run t, w', asks, refl, r.0, r.1, same), λ k. sym e)
deed_of (Some w) line (command.Save t) text s' asks a = single w line (command.Save t) _ text s' asks refl (λ x. refl) a
deed_of (Some w) line (command.Back t) text s' asks a = single w line (command.Back t) _ text s' asks refl (λ x. refl) a
deed_of (Some w) line (command.Rollback t) text s' asks a = single w line (command.Rollback t) _ text s' asks refl
    (λ x. refl) a
deed_of (Some w) line (command.Show t) text s' asks a = (Shown text, (t, asks, a), λ n. refl)
deed_of (Some w) line (command.Audit c m) text s' asks a = single w line (command.Audit c m) _ text s' asks refl
    (λ x. refl) a
deed_of (Some w) line (command.Read m q) text s' asks a = single w line (command.Read m q) _ text s' asks refl
    (λ x. refl) a
deed_of (Some w) line (command.Purge m) text s' asks a = single w line (command.Purge m) _ text s' asks refl (λ x. refl)
    a
deed_of (Some w) line (command.Rewind m) text s' asks a = single w line (command.Rewind m) _ text s' asks refl
    (λ x. refl) a

pub line_deed : (s : State) (n : ℕ) (line text : List ℕ) (s' : State) → LineAnswer s n line text s'
    → (d : Deed) × Was s line d s' × (text_of n d ≡ text)
line_deed s n line text s' (inl (c, asks, a)) = let d = deed_of s line c text s' asks a in (d.0, d.1, d.2 n)
line_deed s n line text s' (inr (bad, e, same)) = (No_form, (bad, same), sym e)

each : (s : State) (n : ℕ) (lines : List (List ℕ)) (text : List ℕ) (s' : State) → RunOfLines s n lines text s'
    → (es : List Entry) × Passed s es s' × (lines_of es ≡ lines) × (texts_of n es ≡ text)
each s n [] text s' (e, same) = ([], same, refl, sym e)
each s n (line ∷ lines) text s' (mid, first, rest, a, r, e) =
    let d = line_deed s (n + 1) line first mid a in
    let more = each mid (n + 1) lines rest s' r in (
      record { line = line; deed = d.0 } ∷ more.0,
      (mid, d.1, more.1),
      ap (λ z. line ∷ z) more.2,
      ap
          (λ z. z ++ texts_of (n + 1) more.0) d.2 ∙ (ap (λ z. first ++ z) more.3 ∙ sym e),
    )

-- AND BACK

alone : (w : World system) (j i : Step) (n : ℕ) (x : Answer) (w' : World system) (s : State)
    → ◌≡◌ {A = Option Step} (Some j) (Some i) → n ≡ 0 → Takes n w i x w' → s ≡ Some w'
    → script.Stepped w j (step_answer i x) s
alone w j i n x w' s e z h same =
    let here : j ≡ i = some_inj j i e in
    subst (λ (k : Step). script.Stepped w k (step_answer i x) s) (sym here)
    (x, w', subst (λ (k : ℕ). Takes k w i x w') z h, refl, same)

run_taken : (n : ℕ) (w : World system) (t : ℕ) (x : Answer) (w' : World system) → x ≢ answer.More
    → Takes n w (step.Advance t) x w' → RunsIn n w t x w'
run_taken zero w t x w' ne h = (ne, h)
run_taken (suc n) w t x w' ne (mid, more, h) = (mid, more, run_taken n mid t x w' ne h)

answers_of : (w : World system) (c : Command) (i : Step) (n : ℕ) (x : Answer) (w' : World system) (s : State)
    → step_of w c ≡ Some i → IsUpTo c n x → Takes n w i x w' → s ≡ Some w'
    → Answers (Some w) c (step_answer i x) s
answers_of w (command.Open scale ring) i n x w' s e z h same = let none : ⊥ = cc in absurd none
answers_of w (command.Begin t q) i n x w' s e z h same = alone w _ i n x w' s e z h same
answers_of w (command.Next t) i n x w' s e z h same = alone w _ i n x w' s e z h same
answers_of w (command.Run t) i n x w' s e ne h same =
    let here : step.Advance t ≡ i = some_inj (step.Advance t) i e in (
      n,
      x,
      w',
      run_taken n w t x w' ne (subst (λ (k : Step). Takes n w k x w') (sym here) h),
      ap
          (λ (k : Step). step_answer k x) (sym here),
      same,
    )
answers_of w (command.Save t) i n x w' s e z h same = alone w _ i n x w' s e z h same
answers_of w (command.Back t) i n x w' s e z h same = alone w _ i n x w' s e z h same
answers_of w (command.Rollback t) i n x w' s e z h same = alone w _ i n x w' s e z h same
answers_of w (command.Show b) i n x w' s e z h same = let none : ⊥ = cc in absurd none
answers_of w (command.Audit c m) i n x w' s e z h same = alone w _ i n x w' s e z h same
answers_of w (command.Read m q) i n x w' s e z h same = alone w _ i n x w' s e z h same
answers_of w (command.Purge m) i n x w' s e z h same = alone w _ i n x w' s e z h same
answers_of w (command.Rewind m) i n x w' s e z h same = alone w _ i n x w' s e z h same

pub line_back : (s : State) (n : ℕ) (line : List ℕ) (d : Deed) (s' : State) → Was s line d s'
    → LineAnswer s n line (text_of n d) s'
line_back s n line No_form s' (bad, same) = inr (bad, refl, same)
line_back s n line (Opening text) s' (scale, ring, asks, a) = inl (command.Open scale ring, asks, a)
line_back s n line (Shown text) s' (b, asks, a) = inl (command.Show b, asks, a)
line_back None n line (Steps k i x) s' h = absurd h
line_back (Some w) n line (Steps k i x) s' (c, w', asks, e, z, h, same) =
    inl (c, asks, answers_of w c i k x w' s' e z h same)

pub back : (s : State) (n : ℕ) (es : List Entry) (s' : State) → Passed s es s'
    → RunOfLines s n (lines_of es) (texts_of n es) s'
back s n [] s' same = (refl, same)
back s n (e ∷ es) s' (mid, was, rest) = (
  mid,
  text_of (n + 1) e.deed,
  texts_of (n + 1) es,
  line_back s (n + 1) e.line e.deed mid was,
  back mid (n + 1) es s'
      rest,
  refl,
)

pub lines_are_deeds : Lines_are_deeds
lines_are_deeds = record { each = each; back = back }
