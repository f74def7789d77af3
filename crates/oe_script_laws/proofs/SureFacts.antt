-- Lines determine their answers, where memory is not refused.
use Rattle.std.proofs.Common.{◌≡◌, ℕ, zero, suc, ◌+◌, Option, None, Some, List, [], ◌∷◌, ◌++◌, length, refl, sym, ap}
use Rattle.std.proofs.Common.{◌∙◌, subst, inl, inr, append_assoc, arith}
use Rattle.std.specs.Prelude.{◌⊎◌, ◌≢◌}
use Rattle.std.specs.List.{All, flat_map}
use Rattle.std.proofs.lemmas.List.Elements.{All-head, All-tail}
use Rattle.oe_theory.specs.Next as theory
use Rattle.oe_theory.specs.Next.{Next}
use Rattle.oe_theory.specs.Theorems.{world_at_opening}
use Rattle.oe_theory.specs.World.{World}
use Rattle.oe_theory.proofs.Determined.{determined}
use Rattle.oe_theory.proofs.Sets.{some_inj}
use Rattle.oe_requests.specs.declared.refusals.Refusal.TheVariants as refusal
use Rattle.oe_rows.specs.declared.scales.Scale.{Scale}
use Rattle.oe_model.specs.System.{system}
use Rattle.oe_model.proofs.RowFacts.{same_rows}
use Rattle.oe_requests.specs.declared.answers.Answer.{Answer}
use Rattle.oe_requests.specs.declared.answers.Answer.TheVariants as answer
use Rattle.oe_requests.specs.declared.steps.Step.{Step}
use Rattle.oe_texts.specs.Answer.{answer_line}
use Rattle.oe_lines.specs.declared.commands.RingChoice.{RingChoice}
use Rattle.oe_lines.specs.Rings.{layout_of}
use Rattle.oe_lines.specs.declared.commands.Command.{Command}
use Rattle.oe_lines.specs.declared.commands.Command.TheVariants as command
use Rattle.oe_lines.specs.declared.commands.Display.{Display}
use Rattle.oe_machine.specs.Steps.{step_in, answer_in}
use Rattle.oe_script.specs.Script.{State, shown_text, Opens, Answers, last_text, Output}
use Rattle.oe_filelines.specs.Lines.{IsInLine, with_line_end}
use Rattle.oe_script.proofs.LineFacts.{one_command}
use Rattle.oe_script_laws.specs.Deeds.{Deed, No_form, Opening, Shown, Steps, Entry, step_of, IsUpTo, Takes, Was, Passed}
use Rattle.oe_script_laws.specs.Deeds.{lines_of, texts_of}
use Rattle.oe_script_laws.specs.Laws.{HasMemory, HaveMemory, IsOutputOf, Answers_are_determined}
use Rattle.oe_runs.proofs.AnswerFacts.{answer_once}

-- STEPS

memory_in : (i : Step) (x : Answer) → x ≢ answer.Refused refusal.NoMemory → answer_in i x ≢ theory.No_memory
memory_in i x ne e = ne (answer_once i x (answer.Refused refusal.NoMemory) e)

next_once : (w : World system) (i : Step) (x y : Answer) (v v' : World system)
    → Next system w (step_in i) (answer_in i x) v → Next system w (step_in i) (answer_in i y) v'
    → x ≢ answer.Refused refusal.NoMemory → y ≢ answer.Refused refusal.NoMemory → (x ≡ y) × (v ≡ v')
next_once w i x y v v' n k p q =
    let (a, same) = determined system w (step_in i) (answer_in i x) (answer_in i y) v v' n k (memory_in i x p)
    (memory_in i y q) in
    (answer_once i x y a, same)

more_has : answer.More ≢ answer.Refused refusal.NoMemory
more_has e = cc

-- both are one step, or neither ends with `more`
abbrev AreUpTo : ℕ → Answer → ℕ → Answer → Type 0
AreUpTo n x m y = ((n ≡ 0) × (m ≡ 0)) ⊎ ((x ≢ answer.More) × (y ≢ answer.More))

takes_once : (n m : ℕ) (w : World system) (i : Step) (x y : Answer) (v v' : World system) → Takes n w i x v
    → Takes m w i y v' → AreUpTo n x m y
    → x ≢ answer.Refused refusal.NoMemory → y ≢ answer.Refused refusal.NoMemory → (n ≡ m) × (x ≡ y) × (v ≡ v')
takes_once zero zero w i x y v v' h k up p q = let r = next_once w i x y v v' h k p q in (refl, r.0, r.1)
takes_once zero (suc m) w i x y v v' h (mid, more, k) (inl z) p q = absurd (omega (arith, z.1))
takes_once zero (suc m) w i x y v v' h (mid, more, k) (inr z) p q =
    absurd (z.0 (next_once w i x answer.More v mid h more p more_has).0)
takes_once (suc n) zero w i x y v v' (mid, more, h) k (inl z) p q = absurd (omega (arith, z.0))
takes_once (suc n) zero w i x y v v' (mid, more, h) k (inr z) p q =
    absurd (z.1 (next_once w i y answer.More v' mid k more q more_has).0)
takes_once (suc n) (suc m) w i x y v v' (mid, more, h) (other, again, k) (inl z) p q = absurd (omega (arith, z.0))
takes_once (suc n) (suc m) w i x y v v' (mid, more, h) (other, again, k) (inr z) p q =
    let same : other ≡ mid = sym (next_once w i answer.More answer.More mid other more again more_has more_has).1 in
    let (a, b, c) = takes_once n m mid i x y v v' h (subst (λ (u : World system). Takes m u i y v') same k) (inr z) p
    q in
    (ap suc a, b, c)

up_to : (c : Command) (n m : ℕ) (x y : Answer) → IsUpTo c n x → IsUpTo c m y → AreUpTo n x m y
up_to (command.Open scale ring) n m x y p q = inl (p, q)
up_to (command.Begin t r) n m x y p q = inl (p, q)
up_to (command.Next t) n m x y p q = inl (p, q)
up_to (command.Run t) n m x y p q = inr (p, q)
up_to (command.Save t) n m x y p q = inl (p, q)
up_to (command.Back t) n m x y p q = inl (p, q)
up_to (command.Rollback t) n m x y p q = inl (p, q)
up_to (command.Show b) n m x y p q = inl (p, q)
up_to (command.Audit c k) n m x y p q = inl (p, q)
up_to (command.Read k r) n m x y p q = inl (p, q)
up_to (command.Purge k) n m x y p q = inl (p, q)
up_to (command.Rewind k) n m x y p q = inl (p, q)

-- A LINE

abbrev AreOne : Deed → State → Deed → State → Type 0
AreOne d s₁ f s₂ = (d ≡ f) × (s₁ ≡ s₂)

steps_once : (w : World system) (line : List ℕ) (n m : ℕ) (i j : Step) (x y : Answer) (s₁ s₂ : State)
    → Was (Some w) line (Steps n i x) s₁ → Was (Some w) line (Steps m j y) s₂
    → x ≢ answer.Refused refusal.NoMemory → y ≢ answer.Refused refusal.NoMemory
    → AreOne (Steps n i x) s₁ (Steps m j y) s₂
steps_once w line n m i j x y s₁ s₂ (c, v, asks, e, up, h, same) (d, v', other, f, to, k, is) p q =
    let one : d ≡ c = one_command line d c other.says asks.says in
    let step : j ≡ i = some_inj j i (sym f ∙ (ap (step_of w) one ∙ e)) in
    let ends = up_to c n m x y up (subst (λ (z : Command). IsUpTo z m y) one to) in
    let (a, b, g) = takes_once n m w i x y v v' h (subst (λ (z : Step). Takes m w z y v') step k) ends p q in
    (ap (λ z. Steps z i x) a ∙ (ap (λ z. Steps m z x) (sym step) ∙ ap (Steps m j) b), same ∙ (ap Some g ∙ sym is))

opens_once : (scale : Scale) (ring : RingChoice) (t t' : List ℕ) (s₁ s₂ : State) → Opens scale ring t s₁
    → Opens scale ring t' s₂
    → t ≢ answer_line (answer.Refused refusal.NoMemory) → t' ≢ answer_line (answer.Refused refusal.NoMemory)
    → AreOne (Opening t) s₁ (Opening t') s₂
opens_once scale ring t t' s₁ s₂ (inl (r, p, e, same)) (inl (r', p', e', same')) a b =
    let one : r ≡ r' = same_rows r r' (λ k. p k ∙ sym (p' k)) in (
      ap Opening (e ∙ sym e'),
      same ∙ (ap (λ z. Some (world_at_opening system z ring.extents (layout_of ring))) one
          ∙ sym same'),
    )
opens_once scale ring t t' s₁ s₂ (inl h) (inr (e, same)) a b = absurd (b e)
opens_once scale ring t t' s₁ s₂ (inr (e, same)) h a b = absurd (a e)

was_once : (s : State) (line : List ℕ) (d f : Deed) (s₁ s₂ : State) → Was s line d s₁ → Was s line f s₂ → HasMemory d
    → HasMemory f → AreOne d s₁ f s₂
was_once s line No_form No_form s₁ s₂ (bad, e) (bad', e') p q = (refl, e ∙ sym e')
was_once s line No_form (Opening t) s₁ s₂ (bad, e) (scale, ring, asks, a) p q =
    absurd (bad (command.Open scale ring) asks)
was_once s line No_form (Shown t) s₁ s₂ (bad, e) (b, asks, a) p q = absurd (bad (command.Show b) asks)
was_once None line No_form (Steps n i x) s₁ s₂ (bad, e) h p q = absurd h
was_once (Some w) line No_form (Steps n i x) s₁ s₂ (bad, e) (c, v, asks, is, up, h, same) p q = absurd (bad c asks)
was_once s line (Opening t) No_form s₁ s₂ (scale, ring, asks, a) (bad, e) p q =
    absurd (bad (command.Open scale ring) asks)
was_once None line (Opening t) (Opening t') s₁ s₂ (scale, ring, asks, a) (scale', ring', asks', a') p q =
    let one : command.Open scale' ring' ≡ command.Open scale ring = one_command line _ _ asks'.says asks.says in
    opens_once scale ring t t' s₁ s₂ a (subst (λ (c : Command). Answers None c t' s₂) one a') p q
was_once (Some w) line (Opening t) (Opening t') s₁ s₂ (scale, ring, asks, a) h p q = absurd a
was_once None line (Opening t) (Shown t') s₁ s₂ h (b, asks, a) p q = absurd a
was_once (Some w) line (Opening t) (Shown t') s₁ s₂ (scale, ring, asks, a) h p q = absurd a
was_once None line (Opening t) (Steps n i x) s₁ s₂ h k p q = absurd k
was_once (Some w) line (Opening t) (Steps n i x) s₁ s₂ (scale, ring, asks, a) k p q = absurd a
was_once s line (Shown t) No_form s₁ s₂ (b, asks, a) (bad, e) p q = absurd (bad (command.Show b) asks)
was_once None line (Shown t) (Opening t') s₁ s₂ (b, asks, a) h p q = absurd a
was_once (Some w) line (Shown t) (Opening t') s₁ s₂ h (scale, ring, asks, a) p q = absurd a
was_once None line (Shown t) (Shown t') s₁ s₂ (b, asks, a) h p q = absurd a
was_once (Some w) line (Shown t) (Shown t') s₁ s₂ (b, asks, (e, same)) (b', asks', (e', same')) p q =
    let one : command.Show b ≡ command.Show b' = one_command line _ _ asks.says asks'.says in
    let table : b ≡ b' = cc in
    (ap Shown (e ∙ (ap (λ (z : Display). shown_text z w) table ∙ sym e')), same ∙ sym same')
was_once None line (Shown t) (Steps n i x) s₁ s₂ h k p q = absurd k
was_once (Some w) line (Shown t) (Steps n i x) s₁ s₂ (b, asks, a) (c, v, other, e, up, h, same) p q =
    let one : c ≡ command.Show b = one_command line _ _ other.says asks.says in
    let none : ◌≡◌ {A = Option Step} None (Some i) = ap (step_of w) (sym one) ∙ e in
    cc
was_once None line (Steps n i x) f s₁ s₂ h k p q = absurd h
was_once (Some w) line (Steps n i x) No_form s₁ s₂ (c, v, asks, is, up, h, same) (bad, e) p q = absurd (bad c asks)
was_once (Some w) line (Steps n i x) (Opening t) s₁ s₂ h (scale, ring, asks, a) p q = absurd a
was_once (Some w) line (Steps n i x) (Shown t) s₁ s₂ (c, v, other, e, up, h, same) (b, asks, a) p q =
    let one : c ≡ command.Show b = one_command line _ _ other.says asks.says in
    let none : ◌≡◌ {A = Option Step} None (Some i) = ap (step_of w) (sym one) ∙ e in
    cc
was_once (Some w) line (Steps n i x) (Steps m j y) s₁ s₂ h k p q = steps_once w line n m i j x y s₁ s₂ h k p q

-- LINES

lines_once : (es fs : List Entry) (s s₁ s₂ : State) → Passed s es s₁ → Passed s fs s₂ → lines_of es ≡ lines_of fs
    → HaveMemory es → HaveMemory fs → (es ≡ fs) × (s₁ ≡ s₂)
lines_once [] [] s s₁ s₂ h k e p q = (refl, h ∙ sym k)
lines_once [] (f ∷ fs) s s₁ s₂ h k e p q = cc
lines_once (d ∷ es) [] s s₁ s₂ h k e p q = cc
lines_once (d ∷ es) (f ∷ fs) s s₁ s₂ (mid, was, h) (mid', was', k) e p q =
    let line : f.line ≡ d.line = cc in
    let lines : lines_of es ≡ lines_of fs = cc in
    let (deed, here) = was_once s d.line d.deed f.deed mid mid' was
    (subst (λ (z : List ℕ). Was s z f.deed mid') line was') p.0 q.0 in
    let (rest, last) = lines_once es fs mid s₁ s₂ h (subst (λ (z : State). Passed z fs s₂) (sym here) k) lines p.1
    q.1 in
    (ap (λ z. z ∷ es) (same_entry d f (sym line) deed) ∙ ap (λ z. f ∷ z) rest, last)
  where
    same_entry : (d f : Entry) → d.line ≡ f.line → d.deed ≡ f.deed → d ≡ f
    same_entry d f a b = λ i. record { line = a i; deed = b i }

-- AN INPUT HAS ONE FORM AS LINES

ended_once : (xs ys more rest : List ℕ) → IsInLine xs → IsInLine ys → xs ++ 10 ∷ more ≡ ys ++ 10 ∷ rest
    → (xs ≡ ys) × (more ≡ rest)
ended_once [] [] more rest p q e = let same : more ≡ rest = cc in (refl, same)
ended_once [] (y ∷ ys) more rest p q e = let same : y ≡ 10 = cc in absurd (All-head (λ b. b ≢ 10) y ys q same)
ended_once (x ∷ xs) [] more rest p q e = let same : x ≡ 10 = cc in absurd (All-head (λ b. b ≢ 10) x xs p same)
ended_once (x ∷ xs) (y ∷ ys) more rest p q e =
    let head : x ≡ y = cc in
    let tail : xs ++ 10 ∷ more ≡ ys ++ 10 ∷ rest = cc in
    let r = ended_once xs ys more rest (All-tail (λ b. b ≢ 10) x xs p) (All-tail (λ b. b ≢ 10) y ys q) tail in
    (ap (λ z. z ∷ xs) head ∙ ap (λ z. y ∷ z) r.0, r.1)

no_end : (xs more : List ℕ) → IsInLine (xs ++ 10 ∷ more) → ⊥
no_end [] more h = All-head (λ b. b ≢ 10) 10 more h refl
no_end (x ∷ xs) more h = no_end xs more (All-tail (λ b. b ≢ 10) x (xs ++ 10 ∷ more) h)

spread : (l : List ℕ) (ls : List (List ℕ)) (last : List ℕ) → flat_map with_line_end (l ∷ ls) ++ last ≡ l
    ++ 10 ∷ (flat_map with_line_end ls ++ last)
spread l ls last = append_assoc (l ++ 10 ∷ []) (flat_map with_line_end ls) last
    ∙ append_assoc l (10 ∷ []) (flat_map with_line_end ls ++ last)

input_once : (ls ms : List (List ℕ)) (last end : List ℕ) → All IsInLine ls → All IsInLine ms → IsInLine last
    → IsInLine end
    → flat_map with_line_end ls ++ last ≡ flat_map with_line_end ms ++ end → (ls ≡ ms) × (last ≡ end)
input_once [] [] last end p q a b e = (refl, e)
input_once [] (m ∷ ms) last end p q a b e =
    absurd (no_end m (flat_map with_line_end ms ++ end) (subst IsInLine (e ∙ spread m ms end) a))
input_once (l ∷ ls) [] last end p q a b e =
    absurd (no_end l (flat_map with_line_end ls ++ last) (subst IsInLine (sym e ∙ spread l ls last) b))
input_once (l ∷ ls) (m ∷ ms) last end p q a b e =
    let first = ended_once l m (flat_map with_line_end ls ++ last) (flat_map with_line_end ms ++ end)
    (All-head IsInLine l ls p)
    (All-head IsInLine m ms q) (sym (spread l ls last) ∙ (e ∙ spread m ms end)) in
    let rest = input_once ls ms last end (All-tail IsInLine l ls p) (All-tail IsInLine m ms q) a b first.1 in
    (ap (λ z. z ∷ ls) first.0 ∙ ap (λ z. m ∷ z) rest.0, rest.1)

output_once : (begun : State) (input out out' : List ℕ) (o : Output begun input out) (o' : Output begun input out')
    (es fs : List Entry) → IsOutputOf begun input out o es → IsOutputOf begun input out' o' fs
    → HaveMemory es → HaveMemory fs → (out ≡ out') × (o.state ≡ o'.state)
output_once begun input out out' o o' es fs t u p q =
    let form = input_once o.lines o'.lines o.last o'.last o.each o'.each o.tail o'.tail (sym o.whole ∙ o'.whole) in
    let one = lines_once es fs begun o.state o'.state t.passed u.passed (t.lines ∙ (form.0 ∙ sym u.lines)) p q in
    let answers : o.answers ≡ o'.answers = sym t.answers ∙ (ap (texts_of 0) one.0 ∙ u.answers) in (
      o.text ∙ (ap (λ z. z ++ last_text (length o.lines + 1) o.last) answers
          ∙ (ap (λ z. o'.answers ++ last_text (length z + 1) o.last) form.0
          ∙ (ap (λ z. o'.answers ++ last_text (length o'.lines + 1) z) form.1 ∙ sym o'.text))),
      one.1,
    )

pub answers_are_determined : Answers_are_determined
answers_are_determined = record { of_lines = λ s s₁ s₂ es fs. lines_once es fs s s₁ s₂; of_output = output_once }
