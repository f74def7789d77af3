-- A script without a transaction that was rolled back.
use Rattle.std.proofs.Common.{◌≡◌, ℕ, zero, suc, ◌+◌, ◌/◌, ◌%◌, ◌≤◌, ◌<◌, Bool, true, false, cond, Option, None, Some}
use Rattle.std.proofs.Common.{List, [], ◌∷◌, ◌++◌, length, decimal, refl, sym, ap, ◌∙◌, subst, inl, inr, arith}
use Rattle.std.specs.Prelude.{◌⊎◌, ◌≢◌, codes}
use Rattle.std.specs.Int.{IsInRange}
use Rattle.std.specs.List.{All}
use Rattle.std.proofs.lemmas.Bool.{cases_order, eqb-true, eqb-false, false≢true}
use Rattle.std.proofs.lemmas.Fmt.{decimal_digit, decimal_step}
use Rattle.std.proofs.lemmas.List.Elements.{All-nil, All-cons, All-head, All-tail, All-append}
use Rattle.oe_theory.specs.World.{Open, World}
use Rattle.oe_theory.specs.Next as theory
use Rattle.oe_theory.specs.Next.{Next}
use Rattle.oe_theory.specs.Erase.{is_of, is_rollback, is_commit, names}
use Rattle.oe_theory.specs.Theorems.{IsReached}
use Rattle.oe_theory.proofs.Sets.{some_inj, some_none}
use Rattle.oe_theory.proofs.Theorems.{reached_sound}
use Rattle.oe_requests.specs.declared.requests.Request.{Request}
use Rattle.oe_model.specs.System.{system}
use Rattle.oe_model.proofs.SystemLaws.{laws}
use Rattle.oe_requests.specs.declared.refusals.Refusal.{Refusal}
use Rattle.oe_requests.specs.declared.refusals.Refusal.TheVariants as refusal
use Rattle.oe_requests.specs.declared.answers.Answer.{Answer}
use Rattle.oe_requests.specs.declared.answers.Answer.TheVariants as answer
use Rattle.oe_requests.specs.declared.steps.Step.{Step}
use Rattle.oe_requests.specs.declared.steps.Step.TheVariants as step
use Rattle.oe_lines.specs.Grammar.{Says}
use Rattle.oe_lines.specs.declared.commands.Command.{Command}
use Rattle.oe_lines.specs.declared.commands.Command.TheVariants as command
use Rattle.oe_lines.specs.declared.commands.MomentChoice.{MomentChoice}
use Rattle.oe_lines.specs.declared.commands.MomentChoice.TheVariants as moment
use Rattle.oe_machine.specs.Steps.{step_in, other_refusal, refusal_in, answer_in}
use Rattle.oe_script.specs.Script.{State, moment_in, shown_text, IsAllowed, Asks}
use Rattle.oe_filelines.specs.Lines.{IsInLine}
use Rattle.oe_script_laws.specs.Beside.{gives_way, answer_without, without_open}
use Rattle.oe_script_laws.specs.Deeds.{Deed, No_form, Opening, Shown, Steps, Entry, step_of, IsUpTo, Takes, Stepped}
use Rattle.oe_script_laws.specs.Deeds.{Was}
use Rattle.oe_script_laws.specs.Deeds.{Passed, lines_of, texts_of}
use Rattle.oe_script_laws.specs.Without.{is_own, gave_way, line_answer_without, deed_without, is_rolled_back}
use Rattle.oe_script_laws.specs.Without.{next_line, nexts}
use Rattle.oe_script_laws.specs.Without.{before_last, Without, ends, was_own, went_away, shows, stays}
use Rattle.oe_script_laws.specs.Laws.{IsReachedState, Lines_without_rollback, Outputs_without_rollback}
use Rattle.oe_script_laws.proofs.BesideFacts.{Beside, gave_way as gave_way_here, stands, beside, Own}
use Rattle.oe_script_laws.proofs.BesideFacts.{ended as ended_here}
use Rattle.oe_script_laws.proofs.BesideFacts.{was_committed, went_on, own, began}
use Rattle.oe_script_laws.proofs.DeedFacts.{lines_are_deeds}
use Rattle.oe_script_laws.proofs.FaultFacts.{begun_reached}
use Rattle.oe_script_laws.proofs.PassFacts.{passed_split, passed_append, passed_reached, takes_reached}
use Rattle.oe_runs.proofs.RunFacts.{still_reached}

-- THE LINE `next T`

short_number : (n : ℕ) → n ≤ 64 → IsInLine (decimal n) × (length (decimal n) ≤ 2)
short_number n h = go (cases_order n 10)
  where
    small : (k : ℕ) → k < 10 → IsInLine ((48 + k) ∷ [])
    small k b = All-cons (λ z. z ≢ 10) (48 + k) [] (λ e. absurd (omega (arith, e))) (All-nil (λ z. z ≢ 10))

    one : n < 10 → IsInLine (decimal n) × (length (decimal n) ≤ 2)
    one b = subst (λ (z : List ℕ). IsInLine z × (length z ≤ 2)) (sym (decimal_digit n b)) (small n b, omega arith)

    two : 10 ≤ n → IsInLine (decimal n) × (length (decimal n) ≤ 2)
    two b =
        let front = decimal_digit (n / 10) (omega (arith, h)) in
        let whole = decimal_step n b (omega (arith, h)) ∙ ap (λ z. z ++ (48 + n % 10) ∷ []) front in
        subst (λ (z : List ℕ). IsInLine z × (length z ≤ 2)) (sym whole) (
          All-append (λ z. z ≢ 10) ((48 + n / 10) ∷ []) ((48 + n % 10) ∷ []) (small (n / 10) (omega (arith, h)))
              (small (n % 10) (omega arith)),
          omega arith,
        )

    go : (n ≡ 10) ⊎ ((n < 10) ⊎ (10 < n)) → IsInLine (decimal n) × (length (decimal n) ≤ 2)
    go (inl e) = two (omega (arith, e))
    go (inr (inl b)) = one b
    go (inr (inr b)) = two (omega (arith, b))

next_says : (t : ℕ) → IsInRange 1 64 t → Says (next_line t) (command.Next t)
next_says t h = record { form = h; spelled = refl }

next_short : (t : ℕ) → IsInRange 1 64 t → length (next_line t) ≤ 1_024
next_short t h = let few = (short_number t h.1).1 in omega (arith, few)

next_in_line : (t : ℕ) → IsInRange 1 64 t → IsInLine (next_line t)
next_in_line t h =
    let P : ℕ → Type 0 = λ z. z ≢ 10 in
    let word : All P (codes "next ") =
    All-cons P 110 (101 ∷ 120 ∷ 116 ∷ 32 ∷ []) (λ e. absurd (omega (arith, e)))
    (All-cons P 101 (120 ∷ 116 ∷ 32 ∷ []) (λ e. absurd (omega (arith, e)))
    (All-cons P 120 (116 ∷ 32 ∷ []) (λ e. absurd (omega (arith, e)))
    (All-cons P 116 (32 ∷ []) (λ e. absurd (omega (arith, e)))
    (All-cons P 32 [] (λ e. absurd (omega (arith, e))) (All-nil P))))) in
    All-append P (codes "next ") (decimal t) word (short_number t h.1).0

-- WHAT LINES ASK FOR IN ANOTHER WORLD

allowed_any : (w v : World system) (c : Command) → IsAllowed (Some w) c → IsAllowed (Some v) c
allowed_any w v (command.Open scale ring) h = h
allowed_any w v (command.Begin t q) h = h
allowed_any w v (command.Next t) h = h
allowed_any w v (command.Run t) h = h
allowed_any w v (command.Save t) h = h
allowed_any w v (command.Back t) h = h
allowed_any w v (command.Rollback t) h = h
allowed_any w v (command.Show b) h = h
allowed_any w v (command.Audit c m) h = h
allowed_any w v (command.Read m q) h = h
allowed_any w v (command.Purge m) h = h
allowed_any w v (command.Rewind m) h = h

asks_any : (w v : World system) (line : List ℕ) (c : Command) → Asks (Some w) line c → Asks (Some v) line c
asks_any w v line c a = record { short = a.short; says = a.says; allowed = allowed_any w v c a.allowed }

same_moment : (w : World system) (t : ℕ) (m : MomentChoice) → moment_in w m ≡ moment_in (without_open system t w) m
same_moment w t moment.Now = refl
same_moment w t (moment.At m) = refl

same_step : (w : World system) (t : ℕ) (c : Command) → step_of w c ≡ step_of (without_open system t w) c
same_step w t (command.Open scale ring) = refl
same_step w t (command.Begin u q) = refl
same_step w t (command.Next u) = refl
same_step w t (command.Run u) = refl
same_step w t (command.Save u) = refl
same_step w t (command.Back u) = refl
same_step w t (command.Rollback u) = refl
same_step w t (command.Show b) = refl
same_step w t (command.Audit c m) = ap (λ (k : ℕ). Some (step.Audit c k)) (same_moment w t m)
same_step w t (command.Read m q) = ap (λ (k : ℕ). Some (step.Read k q)) (same_moment w t m)
same_step w t (command.Purge m) = ap (λ (k : ℕ). Some (step.Purge k)) (same_moment w t m)
same_step w t (command.Rewind m) = ap (λ (k : ℕ). Some (step.Rewind k)) (same_moment w t m)

-- THE TRANSACTION'S OWN LINES

works : (t : ℕ) (v : Option ℕ) → names system t v ≡ true → v ≡ Some t
works t None h = absurd (false≢true h)
works t (Some u) h = ap Some (eqb-true u t h)

works_not : (t : ℕ) (v : Option ℕ) → names system t v ≡ false → v ≢ Some t
works_not t None h e = some_none t (sym e)
works_not t (Some u) h e = eqb-false u t h (some_inj u t e)

own_taken : (n : ℕ) (w : World system) (t : ℕ) (o : Open system) → IsReached system w → w.active t ≡ Some o
    → (i : Step) (x : Answer) (w' : World system)
    → theory.works_on system (step_in i) ≡ Some t → Takes n w i x w' → Own system laws w t (answer_in i x) w'
own_taken zero w t o r l i x w' h k = own system laws w (reached_sound system laws w r) t o l (step_in i)
    (answer_in i x) w' h k
own_taken (suc n) w t o r l i x w' h (mid, more, k) =
    go (own system laws w (reached_sound system laws w r) t o l (step_in i) (answer_in i answer.More) mid h more)
    (λ p lives. own_taken n mid t p (still_reached w mid _ _ r more) lives i x w' h k)
  where
    later : without_open system t mid ≡ without_open system t w → Own system laws mid t (answer_in i x) w'
        → Own system laws w t (answer_in i x) w'
    later same (ended_here b e) = ended_here b (e ∙ same)
    later same (was_committed b c) = was_committed b c
    later same (went_on b p l e) = went_on b p l (e ∙ same)

    go : Own system laws w t (answer_in i answer.More) mid
        → ((p : Open system) → mid.active t ≡ Some p → Own system laws mid t (answer_in i x) w')
        → Own system laws w t (answer_in i x) w'
    go (ended_here b e) f = absurd (false≢true b)
    go (was_committed b c) f = absurd (false≢true c)
    go (went_on b p lives same) f = later same (f p lives)

-- LINES OF OTHERS

-- the step, n times answered `more`
abbrev Mores : ℕ → World system → Step → World system → Type 0
Mores zero w i v = w ≡ v
Mores (suc n) w i v = (mid : World system) × Next system w (step_in i) (answer_in i answer.More) mid × Mores n mid i v

-- the answer without the transaction is the machine's
other_without : (i : Step) (e : Refusal) → other_refusal i e ≡ answer_without system (other_refusal i e)
other_without (step.Begin t q) e = refl
other_without (step.Advance t) e = refl
other_without (step.Save t) e = refl
other_without (step.Back t) e = refl
other_without (step.Rollback t) e = refl
other_without (step.Read m q) e = refl
other_without (step.Purge m) e = refl
other_without (step.Rewind m) e = refl
other_without (step.Audit c m) e = refl

refusal_without : (i : Step) (e : Refusal)
    → answer_in i (line_answer_without (answer.Refused e)) ≡ answer_without system (refusal_in i e)
refusal_without i (refusal.Busy n u) = refl
refusal_without i refusal.UndoFull = refl
refusal_without i refusal.NoMemory = refl
refusal_without i refusal.NotOpen = refl
refusal_without i refusal.AlreadyOpen = refl
refusal_without i (refusal.TooOld m) = refl
refusal_without i (refusal.Future m) = refl
refusal_without i (refusal.NotQuiet n) = refl
refusal_without i (refusal.NoSuchRow k) = other_without i (refusal.NoSuchRow k)
refusal_without i (refusal.RowExists k) = other_without i (refusal.RowExists k)
refusal_without i (refusal.Overflow c) = other_without i (refusal.Overflow c)
refusal_without i (refusal.Reference k) = other_without i (refusal.Reference k)
refusal_without i refusal.KeyColumn = other_without i refusal.KeyColumn
refusal_without i refusal.InvalidItem = other_without i refusal.InvalidItem
refusal_without i refusal.NoCustomer = other_without i refusal.NoCustomer
refusal_without i (refusal.NotPinned n) = other_without i (refusal.NotPinned n)

same_without : (i : Step) (x : Answer) → answer_in i (line_answer_without x) ≡ answer_without system (answer_in i x)
same_without i answer.Begun = refl
same_without i answer.More = refl
same_without i (answer.Committed m y) = refl
same_without i answer.Saved = refl
same_without i answer.Back = refl
same_without i answer.RolledBack = refl
same_without i (answer.Replied f) = refl
same_without i (answer.Purged m) = refl
same_without i (answer.Rewound m) = refl
same_without i (answer.Audited v) = refl
same_without i (answer.Refused e) = refusal_without i e

data Other (n : ℕ) (w : World system) (t : ℕ) (o : Open system) (i : Step) (x : Answer) (w' : World system) : Type
    0 where
  away : gives_way system t (Some o) (step_in i) (answer_in i x) ≡ true → w'.active t ≡ Some o
      → Mores n (without_open system t w) i (without_open system t w') → Other n w t o i x w'
  stood : gives_way system t (Some o) (step_in i) (answer_in i x) ≡ false → w'.active t ≡ Some o
      → Takes n (without_open system t w) i (line_answer_without x) (without_open system t w') → Other n w t o i x w'

other_taken : (n : ℕ) (w : World system) (t : ℕ) (o : Open system) → IsReached system w → w.active t ≡ Some o
    → (i : Step) (x : Answer) (w' : World system)
    → theory.works_on system (step_in i) ≢ Some t → Takes n w i x w' → Other n w t o i x w'
other_taken zero w t o r l i x w' h k = go (beside system laws w r t o l (step_in i) (answer_in i x) w' h k)
  where
    go : Beside system laws w t o (step_in i) (answer_in i x) w' → Other zero w t o i x w'
    go (gave_way_here b idle same) = away b (ap (λ (z : World system). z.active t) same ∙ l)
        (ap (without_open system t) (sym same))
    go (stands b lives m) =
        stood b lives
        (subst (λ (a : theory.Answer system). Next system (without_open system t w) (step_in i) a
        (without_open system t w')) (sym (same_without i x)) m)
other_taken (suc n) w t o r l i x w' h (mid, more, k) =
    go (beside system laws w r t o l (step_in i) (answer_in i answer.More) mid h more)
    (λ lives. other_taken n mid t o (still_reached w mid _ _ r more) lives i x w' h k)
  where
    later : Next system (without_open system t w) (step_in i) (answer_in i answer.More) (without_open system t mid)
        → Other n mid t o i x w' → Other (suc n) w t o i x w'
    later m (away b lives q) = away b lives (without_open system t mid, m, q)
    later m (stood b lives q) = stood b lives (without_open system t mid, m, q)

    go : Beside system laws w t o (step_in i) (answer_in i answer.More) mid
        → (mid.active t ≡ Some o → Other n mid t o i x w') → Other (suc n) w t o i x w'
    go (gave_way_here b idle same) f = absurd (false≢true b)
    go (stands b lives m) f = later m (f lives)

-- what a `run` had done, as lines
nexts_passed : (n : ℕ) (t : ℕ) (w v : World system) → IsInRange 1 64 t → Mores n w (step.Advance t) v
    → Passed (Some w) (nexts n t) (Some v)
nexts_passed zero t w v h e = ap Some (sym e)
nexts_passed (suc n) t w v h (mid, more, k) = (
  Some mid,
  (command.Next t, mid, record { short = next_short t h; says = next_says t h; allowed = tt }, refl, refl, more, refl),
  nexts_passed n t mid v h k,
)

nexts_in_line : (n t : ℕ) → IsInRange 1 64 t → All IsInLine (lines_of (nexts n t))
nexts_in_line zero t h = All-nil IsInLine
nexts_in_line (suc n) t h = All-cons IsInLine (next_line t) (lines_of (nexts n t)) (next_in_line t h)
    (nexts_in_line n t h)

abbrev IsBefore : World system → Deed → World system → Type 0
IsBefore w d v = Passed (Some w) (before_last d) (Some v) × All IsInLine (lines_of (before_last d))

-- of other commands nothing comes before their step
nothing_before : (n : ℕ) (w v : World system) (i : Step) (x : Answer) → n ≡ 0 → Mores n w i v
    → IsBefore w (Steps n i x) v
nothing_before zero w v (step.Begin t q) x z k = (ap Some (sym k), All-nil IsInLine)
nothing_before zero w v (step.Advance t) x z k = (ap Some (sym k), All-nil IsInLine)
nothing_before zero w v (step.Save t) x z k = (ap Some (sym k), All-nil IsInLine)
nothing_before zero w v (step.Back t) x z k = (ap Some (sym k), All-nil IsInLine)
nothing_before zero w v (step.Rollback t) x z k = (ap Some (sym k), All-nil IsInLine)
nothing_before zero w v (step.Read m q) x z k = (ap Some (sym k), All-nil IsInLine)
nothing_before zero w v (step.Purge m) x z k = (ap Some (sym k), All-nil IsInLine)
nothing_before zero w v (step.Rewind m) x z k = (ap Some (sym k), All-nil IsInLine)
nothing_before zero w v (step.Audit c m) x z k = (ap Some (sym k), All-nil IsInLine)
nothing_before (suc n) w v i x z k = absurd (omega (arith, z))

done_before : (u : World system) (c : Command) (line : List ℕ) (n : ℕ) (i : Step) (x : Answer) (w v : World system)
    → Asks (Some u) line c → step_of u c ≡ Some i → IsUpTo c n x → Mores n w i v
    → IsBefore w (Steps n i x) v
done_before u (command.Open scale ring) line n i x w v a e z k = absurd a.allowed
done_before u (command.Begin t q) line n i x w v a e z k = nothing_before n w v i x z k
done_before u (command.Next t) line n i x w v a e z k = nothing_before n w v i x z k
done_before u (command.Run t) line n i x w v a e z k =
    let here : step.Advance t ≡ i = some_inj (step.Advance t) i e in
    subst (λ (j : Step). IsBefore w (Steps n j x) v) here
    (nexts_passed n t w v a.says.form (subst (λ (j : Step). Mores n w j v) (sym here) k), nexts_in_line n t a.says.form)
done_before u (command.Save t) line n i x w v a e z k = nothing_before n w v i x z k
done_before u (command.Back t) line n i x w v a e z k = nothing_before n w v i x z k
done_before u (command.Rollback t) line n i x w v a e z k = nothing_before n w v i x z k
done_before u (command.Show b) line n i x w v a e z k = let none : ⊥ = cc in absurd none
done_before u (command.Audit c m) line n i x w v a e z k = nothing_before n w v i x z k
done_before u (command.Read m q) line n i x w v a e z k = nothing_before n w v i x z k
done_before u (command.Purge m) line n i x w v a e z k = nothing_before n w v i x z k
done_before u (command.Rewind m) line n i x w v a e z k = nothing_before n w v i x z k

-- a `run` ends so without the transaction too
ends_without : (x : Answer) → x ≢ answer.More → line_answer_without x ≢ answer.More
ends_without answer.Begun ne e = cc
ends_without answer.More ne e = ne refl
ends_without (answer.Committed m y) ne e = cc
ends_without answer.Saved ne e = cc
ends_without answer.Back ne e = cc
ends_without answer.RolledBack ne e = cc
ends_without (answer.Replied f) ne e = cc
ends_without (answer.Purged m) ne e = cc
ends_without (answer.Rewound m) ne e = cc
ends_without (answer.Audited v) ne e = cc
ends_without (answer.Refused (refusal.NotQuiet n)) ne e = cc
ends_without (answer.Refused f) ne e = cc

up_without : (c : Command) (n : ℕ) (x : Answer) → IsUpTo c n x → IsUpTo c n (line_answer_without x)
up_without (command.Open scale ring) n x up = up
up_without (command.Begin t q) n x up = up
up_without (command.Next t) n x up = up
up_without (command.Run t) n x up = ends_without x up
up_without (command.Save t) n x up = up
up_without (command.Back t) n x up = up
up_without (command.Rollback t) n x up = up
up_without (command.Show b) n x up = up
up_without (command.Audit c m) n x up = up
up_without (command.Read m q) n x up = up
up_without (command.Purge m) n x up = up
up_without (command.Rewind m) n x up = up

-- LINE BY LINE

-- what is left of these lines, from the world in which the transaction is forgotten
abbrev IsLeft : ℕ → World system → List Entry → State → Type 0
IsLeft t w es s = (left : List Entry) × Without t w es left × Passed (Some (without_open system t w)) left s
    × (All IsInLine (lines_of es) → All IsInLine (lines_of left))

-- and of those that follow
abbrev IsLeftAfter : ℕ → State → List Entry → State → Type 0
IsLeftAfter t mid es s = (v : World system) (o : Open system) → mid ≡ Some v → IsReached system v → v.active t ≡ Some o
    → is_rolled_back t es ≡ true → IsLeft t v es s

lines_append : (xs ys : List Entry) → lines_of (xs ++ ys) ≡ lines_of xs ++ lines_of ys
lines_append [] ys = refl
lines_append (x ∷ xs) ys = ap (λ z. x.line ∷ z) (lines_append xs ys)

module _ (t : ℕ) (w : World system) (o : Open system) (r : IsReached system w) (l : w.active t ≡ Some o) (line : List ℕ)
    (es : List Entry) (mid s : State)
    (rest : Passed mid es s) (more : IsLeftAfter t mid es s) where
  -- a line that stays
  kept : (d : Deed) → is_own t d ≡ false → gave_way t (Some o) d ≡ false → (v : World system)
      → Was (Some w) line d (Some v)
      → Was (Some (without_open system t w)) line (deed_without d) (Some (without_open system t v)) → IsLeft t v es s
      → IsLeft t w (record { line = line; deed = d } ∷ es) s
  kept d a b v was so (left, gone, passed, each) = (
    record { line = line; deed = deed_without d } ∷ left,
    stays w v (record { line = line; deed = d }) es left a (ap (λ z. gave_way t z d) l ∙ b) was gone,
    (Some (without_open system t v), so, passed),
    λ h. All-cons IsInLine line (lines_of left) (All-head IsInLine line (lines_of es) h)
        (each (All-tail IsInLine line (lines_of es) h)),
  )

  -- one that was none of the forms
  bad_here : ((c : Command) → Asks (Some w) line c → ⊥) → mid ≡ Some w → is_rolled_back t es ≡ true
      → IsLeft t w (record { line = line; deed = No_form } ∷ es) s
  bad_here bad same h =
      kept No_form refl refl w (bad, refl) (λ c a. bad c (asks_any (without_open system t w) w line c a), refl)
      (more w o same r l h)

  -- a line that shows something
  shown_here : (text : List ℕ) → Was (Some w) line (Shown text) mid → is_rolled_back t es ≡ true
      → IsLeft t w (record { line = line; deed = Shown text } ∷ es) s
  shown_here text (b, asks, (e, same)) h =
      let (left, gone, passed, each) = more w o same r l h in
      let other = shown_text b (without_open system t w) in (
        record { line = line; deed = Shown other } ∷ left,
        shows w line text other es left gone,
        (
          Some (without_open system t w),
          (b, asks_any w (without_open system t w) line (command.Show b) asks, (refl, refl)),
          passed,
        ),
        λ h. All-cons IsInLine line (lines_of left) (All-head IsInLine line (lines_of es) h)
            (each (All-tail IsInLine line (lines_of es) h)),
      )

  module _ (n : ℕ) (i : Step) (x : Answer) (c : Command) (w' : World system) (asks : Asks (Some w) line c)
      (e : step_of w c ≡ Some i) (up : IsUpTo c n x) (takes : Takes n w i x w') (same : mid ≡ Some w') where
    abbrev here : Entry
    here = record { line = line; deed = Steps n i x }

    reached : IsReached system w'
    reached = takes_reached n w i x w' r takes

    was_here : Was (Some w) line (Steps n i x) (Some w')
    was_here = (c, w', asks, e, up, takes, refl)

    -- one of its own
    own_here : is_of system t (step_in i) ≡ true → Own system laws w t (answer_in i x) w'
        → cond (is_rollback system (answer_in i x)) true
        (cond (is_commit system (answer_in i x)) false (is_rolled_back t es)) ≡ true → IsLeft t w (here ∷ es) s
    own_here mine (ended_here b gone) h = (
      es,
      ends w here es mine b,
      subst (λ (z : State). Passed z es s) (same ∙ ap Some gone) rest,
      λ all. All-tail IsInLine line (lines_of es) all,
    )
    own_here mine (was_committed b d) h =
        absurd (false≢true (subst (λ (z : Bool). cond z false (is_rolled_back t es) ≡ true) d
        (subst (λ (z : Bool). cond z true (cond (is_commit system (answer_in i x)) false (is_rolled_back t es))
        ≡ true) b h)))
    own_here mine (went_on b p lives kept_so) h =
        let (left, gone, passed, each) = more w' p same reached lives
        (later (is_commit system (answer_in i x))
        (subst (λ (z : Bool). cond z true (cond (is_commit system (answer_in i x)) false (is_rolled_back t es))
        ≡ true) b h)) in (
          left,
          was_own w w' here es left mine b was_here gone,
          subst (λ (z : World system). Passed (Some z) left s) kept_so passed,
          λ all. each (All-tail IsInLine line (lines_of es) all),
        )
      where
        later : (b : Bool) → cond b false (is_rolled_back t es) ≡ true → is_rolled_back t es ≡ true
        later true q = absurd (false≢true q)
        later false q = q

    -- one of others
    other_here : is_of system t (step_in i) ≡ false → Other n w t o i x w' → is_rolled_back t es ≡ true
        → IsLeft t w (here ∷ es) s
    other_here theirs (stood b lives took) h =
        kept (Steps n i x) theirs b w' was_here (
          c,
          without_open system t w',
          asks_any w (without_open system t w) line c asks,
          sym (same_step w t c)
              ∙ e,
          up_without c n x up,
          took,
          refl,
        ) (more w' o same reached lives h)
    other_here theirs (away b lives k) h =
        let (left, gone, passed, each) = more w' o same reached lives h in
        let before = done_before w c line n i x (without_open system t w) (without_open system t w') asks e up k in (
          before_last (Steps n i x) ++ left,
          went_away w w' here es left theirs (ap (λ z. gave_way t z (Steps n i x)) l ∙ b) was_here gone,
          passed_append (Some (without_open system t w)) (before_last (Steps n i x)) left
              (Some (without_open system t w')) s before.0 passed,
          λ all. subst (All IsInLine) (sym (lines_append (before_last (Steps n i x)) left))
              (All-append IsInLine (lines_of (before_last (Steps n i x))) (lines_of left) before.1
              (each (All-tail IsInLine line (lines_of es) all))),
        )

    step_here : (b : Bool) → is_of system t (step_in i) ≡ b
        → cond b (cond (is_rollback system (answer_in i x)) true
        (cond (is_commit system (answer_in i x)) false (is_rolled_back t es))) (is_rolled_back t es) ≡ true
        → IsLeft t w (here ∷ es) s
    step_here true q h = own_here q
        (own_taken n w t o r l i x w' (works t (theory.works_on system (step_in i)) q) takes) h
    step_here false q h =
        other_here q (other_taken n w t o r l i x w' (works_not t (theory.works_on system (step_in i)) q) takes) h

  line_here : (d : Deed) → Was (Some w) line d mid → is_rolled_back t (record { line = line; deed = d } ∷ es) ≡ true
      → IsLeft t w (record { line = line; deed = d } ∷ es) s
  line_here No_form (bad, same) h = bad_here bad same h
  line_here (Opening text) (scale, ring, asks, a) h = absurd a
  line_here (Shown text) was h = shown_here text was h
  line_here (Steps n i x) (c, w', asks, e, up, takes, same) h = step_here n i x c w' asks e up takes same
      (is_of system t (step_in i)) refl h

lines_left : (es : List Entry) (t : ℕ) (w : World system) (o : Open system) (s : State) → IsReached system w
    → w.active t ≡ Some o → Passed (Some w) es s → is_rolled_back t es ≡ true
    → IsLeft t w es s
lines_left [] t w o s r l p h = absurd (false≢true h)
lines_left (e ∷ es) t w o s r l (mid, was, rest) h =
    line_here t w o r l e.line es mid s rest
    (λ v p same reached lives later. lines_left es t v p s reached lives
    (subst (λ (z : State). Passed z es s) same rest) later) e.deed was h

-- FROM ITS BEGIN ON

-- what is left of the lines after its begin, from the world on that this leaves
abbrev IsLeftOf : ℕ → State → List Entry → World system → State → Type 0
IsLeftOf t mid after w s = (begun : World system) × (mid ≡ Some begun) × (left : List Entry)
    × Without t begun after left × Passed (Some w) left s
    × (All IsInLine (lines_of after) → All IsInLine (lines_of left))

begins_so : (w : World system) (t : ℕ) (q : Request) (line : List ℕ) (after : List Entry) (mid s : State)
    → IsReached system w
    → Stepped (Some w) line 0 (step.Begin t q) answer.Begun mid → Passed mid after s → is_rolled_back t after ≡ true
    → IsLeftOf t mid after w s
begins_so w t q line after mid s r (c, w', asks, e, up, next, same) p h =
    let (o, lives, gone) = began system laws w (reached_sound system laws w r) t q w' next in
    let (left, without, passed, each) = lines_left after t w' o s (still_reached w w' _ _ r next) lives
    (subst (λ (z : State). Passed z after s) same p) h in
    (w', same, left, without, subst (λ (z : World system). Passed (Some z) left s) gone passed, each)

-- and of a whole script
abbrev IsLeftWhole : State → List Entry → Entry → ℕ → List Entry → State → Type 0
IsLeftWhole s before first t after s' = (begun : World system) × Passed s (before ++ first ∷ []) (Some begun)
    × (left : List Entry) × Without t begun after left × Passed s (before ++ left) s'
    × (All IsInLine (lines_of after) → All IsInLine (lines_of left))

left_whole : (s s' : State) (before after : List Entry) (first : Entry) (t : ℕ) (q : Request) → IsReachedState s
    → first.deed ≡ Steps 0 (step.Begin t q) answer.Begun → Passed s (before ++ first ∷ after) s'
    → is_rolled_back t after ≡ true
    → IsLeftWhole s before first t after s'
left_whole s s' before after first t q l is p h =
    let (here, passed, (mid, was, rest)) = passed_split s before (first ∷ after) s' p in
    go here passed (passed_reached s before here l passed) mid was
    (subst (λ (d : Deed). Was here first.line d mid) is was) rest
  where
    go : (here : State) → Passed s before here → IsReachedState here → (mid : State)
        → Was here first.line first.deed mid
        → Was here first.line (Steps 0 (step.Begin t q) answer.Begun) mid → Passed mid after s'
        → IsLeftWhole s before first t after s'
    go None passed r mid whole was rest = absurd was
    go (Some w) passed r mid whole was rest =
        let (begun, same, left, without, more, each) = begins_so w t q first.line after mid s' r was rest h in (
          begun,
          passed_append s before (first ∷ []) (Some w) (Some begun) passed (mid, whole, sym same),
          left,
          without,
          passed_append s before left (Some w) s' passed more,
          each,
        )

pub lines_without_rollback : Lines_without_rollback
lines_without_rollback s s' before after first t q l is p h =
    let (begun, here, left, without, passed, each) = left_whole s s' before after first t q l is p h in
    (begun, here, left, without, passed)

-- OF A WHOLE INPUT

pub outputs_without_rollback : Outputs_without_rollback
outputs_without_rollback begun input out o before after first t q is_begun told is h =
    let (w, here, left, without, passed, each) = left_whole begun o.state before after first t q
    (begun_reached begun is_begun) is told.passed h in
    let run = lines_are_deeds.back begun 0 (before ++ left) o.state passed in
    let old : All IsInLine (lines_of before ++ first.line ∷ lines_of after) =
    subst (All IsInLine) (sym told.lines ∙ lines_append before (first ∷ after)) o.each in
    let all : All IsInLine (lines_of (before ++ left)) =
    subst (All IsInLine) (sym (lines_append before left))
    (All-append IsInLine (lines_of before) (lines_of left) (front (lines_of before) old)
    (each (All-tail IsInLine first.line (lines_of after) (back (lines_of before) old)))) in (
      w,
      here,
      left,
      without,
      (
        record {
          lines = lines_of (before ++ left);
          last = o.last;
          answers = texts_of 0 (before ++ left);
          state = o.state;
          whole = refl;
          each = all;
          tail = o.tail;
          run = run;
          text = refl;
        },
        refl,
      ),
    )
  where
    front : (xs : List (List ℕ)) → All IsInLine (xs ++ first.line ∷ lines_of after) → All IsInLine xs
    front [] h = All-nil IsInLine
    front (x ∷ xs) h = All-cons IsInLine x xs (All-head IsInLine x (xs ++ first.line ∷ lines_of after) h)
        (front xs (All-tail IsInLine x (xs ++ first.line ∷ lines_of after) h))

    back : (xs : List (List ℕ)) → All IsInLine (xs ++ first.line ∷ lines_of after)
        → All IsInLine (first.line ∷ lines_of after)
    back [] h = h
    back (x ∷ xs) h = back xs (All-tail IsInLine x (xs ++ first.line ∷ lines_of after) h)
