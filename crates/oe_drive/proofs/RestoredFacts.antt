-- A history in which nobody purges keeps the population, and a rewind to moment 0 gives it back.
use Rattle.std.proofs.lemmas.List.{drop_all}
use Rattle.std.proofs.Common.{◌≡◌, ◌≢◌, ℕ, zero, suc, ◌-◌, ◌==◌, true, cond, Bool, List, [], ◌∷◌}
use Rattle.std.proofs.Common.{Option}
use Rattle.std.proofs.Common.{◌++◌, Some, None, sym, ap, ◌∙◌, refl, arith}
use Rattle.std.proofs.Common.{false, subst}
use Rattle.std.proofs.lemmas.Bool.Decides.{nat_tests}
use Rattle.oe_theory.specs.World.{World, version, newest, horizon, latest, total}
use Rattle.oe_theory.specs.Next as theory
use Rattle.oe_theory.specs.Next.{Next, Runs, begins, goes_on, commits, saves, goes_back, rolls_back, reads, audits}
use Rattle.oe_theory.specs.Next.{purges}
use Rattle.oe_theory.specs.Next.{rewinds, stops, fails, is_busy, is_full, is_rejected, is_open, number_is_rejected}
use Rattle.oe_theory.specs.Next.{query_is_rejected, misses, not_open, too_old, future, not_quiet, lacks_memory_at_begin}
use Rattle.oe_theory.specs.Next.{lacks_memory, moment, works_on}
use Rattle.oe_theory.specs.Theorems.{world_at_opening}
use Rattle.oe_requests.specs.declared.steps.Step.{Step}
use Rattle.oe_requests.specs.declared.steps.Step.TheVariants as step
use Rattle.oe_numbers.specs.declared.drives.DriveNumbers.{DriveNumbers}
use Rattle.oe_rows.specs.declared.scales.Scale.{Scale}
use Rattle.oe_rows.specs.declared.layouts.Layout.TheVariants as layout
use Rattle.oe_model.specs.Rows.{Rows}
use Rattle.oe_model.specs.Population.{IsPopulated}
use Rattle.oe_model.specs.System.{system, terminal_limit}
use Rattle.oe_model.proofs.RowFacts.{same_rows}
use Rattle.oe_machine.specs.Steps.{step_in}
use Rattle.oe_history.specs.declared.views.Entry.{Entry}
use Rattle.oe_history.specs.Views.{calls_by}
use Rattle.oe_hall.specs.Histories.{IsStepOf, AreOwnSteps, steps_in, answers_in}
use Rattle.oe_hall.specs.Turns.{open_count}
use Rattle.oe_hall.proofs.OpenFacts.{horizon_opened}
use Rattle.oe_requests.specs.declared.audits.Condition.{Condition}
use Rattle.oe_report.specs.Reports.{report_of, status_of}
use Rattle.oe_drive.specs.Runs.{IsRewoundToBase, IsDriven, ending_lines}

-- a scale has one population
one_population : (s : Scale) (a b : Rows) → IsPopulated s a → IsPopulated s b → a ≡ b
one_population s a b p q = same_rows a b (λ k. p k ∙ sym (q k))

-- two worlds on one base
abbrev HasBase : World system → World system → Type 0
HasBase w v = (v.base ≡ w.base) × (v.counts ≡ w.counts)

-- each step but a purge leaves the base
stays : (w v : World system) (i : theory.Step system) (a : theory.Answer system) → ((m : ℕ) → i ≢ theory.Purge m)
    → Next system w i a v → HasBase w v
stays w _ _ _ other (begins t q m) = (refl, refl)
stays w _ _ _ other (goes_on t o c p e g r room) = (refl, refl)
stays w _ _ _ other (commits t o reply e g r) = (refl, refl)
stays w _ _ _ other (saves t o e) = (refl, refl)
stays w _ _ _ other (goes_back t o e) = (refl, refl)
stays w _ _ _ other (rolls_back t o e) = (refl, refl)
stays w _ _ _ other (reads m q f a l u k) = (refl, refl)
stays w _ _ _ other (audits m c l u) = (refl, refl)
stays w _ _ _ other (purges m l u) = absurd (other m refl)
stays w _ _ _ other (rewinds m q l u) = (refl, refl)
stays w _ _ _ other (stops t o e f r) = (refl, refl)
stays w _ _ _ other (fails t o e f g r) = (refl, refl)
stays w _ _ _ other (is_busy t o n m u e r g) = (refl, refl)
stays w _ _ _ other (is_full t o c p e g r f) = (refl, refl)
stays w _ _ _ other (is_rejected t q e r) = (refl, refl)
stays w _ _ _ other (is_open t q o r e) = (refl, refl)
stays w _ _ _ other (number_is_rejected t q e r c k) = (refl, refl)
stays w _ _ _ other (query_is_rejected m q e r) = (refl, refl)
stays w _ _ _ other (misses m q e r l u k) = (refl, refl)
stays w _ _ _ other (not_open s t e f) = (refl, refl)
stays w _ _ _ other (too_old s m e p l) = (refl, refl)
stays w _ _ _ other (future s m e p l) = (refl, refl)
stays w _ _ _ other (not_quiet m n e) = (refl, refl)
stays w _ _ _ other (lacks_memory_at_begin t q m) = (refl, refl)
stays w _ _ _ other (lacks_memory t o e m) = (refl, refl)

-- who is not the purger asks for no purge
no_purge : (n : ℕ) (i : Step) → IsStepOf n i → n ≢ 0 → (m : ℕ) → step_in i ≢ theory.Purge m
no_purge n (step.Begin t q) own other m = λ e. cc
no_purge n (step.Advance t) own other m = λ e. cc
no_purge n (step.Save t) own other m = absurd own
no_purge n (step.Back t) own other m = absurd own
no_purge n (step.Rollback t) own other m = λ e. cc
no_purge n (step.Read k q) own other m = λ e. cc
no_purge n (step.Purge k) own other m = absurd (other own)
no_purge n (step.Rewind k) own other m = absurd own
no_purge n (step.Audit c k) own other m = absurd own

-- an entry of a history without the purger's is another's
of_others : (n : ℕ) (e : Entry) (xs ys : List Entry) → cond (n == 0) (e ∷ xs) ys ≡ [] → (n ≢ 0) × (ys ≡ [])
of_others zero e xs ys h = cc
of_others (suc n) e xs ys h =
    let other : (suc n == 0) ≡ false = grind (arith, nat_tests) in
    ((λ z. absurd (omega (arith, z))), subst (λ (b : Bool). cond b (e ∷ xs) ys ≡ []) other h)

all_stay : (w v : World system) (log : List Entry) → Runs system w (steps_in log) (answers_in log) v → AreOwnSteps log
    → calls_by 0 log ≡ [] → HasBase w v
all_stay w v [] r own none = (ap (λ (u : World system). u.base) (sym r), ap (λ (u : World system). u.counts) (sym r))
all_stay w v (e ∷ es) r own none =
    let other = of_others e.by e (calls_by 0 es) (calls_by 0 es) none in
    let first = stays w r.0 _ _ (no_purge e.by e.step own.0 other.0) r.1 in
    let more = all_stay r.0 v es r.2 own.1 other.1 in
    (more.0 ∙ first.0, more.1 ∙ first.1)

-- a quiet world that was never purged goes back to its base
to_base : (w v : World system) (i : theory.Step system) (a : theory.Answer system) → i ≡ theory.Rewind 0
    → open_count w ≡ 0 → horizon system w ≡ 0 → Next system w i a v → latest system v ≡ w.base
to_base w _ _ _ is quiet whole (rewinds m q l u) =
    let first : m ≡ 0 = cc in
    ap (version system w.base) (drop_all (newest system w - m) w.history (omega (arith, first, whole)))
to_base w _ _ _ is quiet whole (not_quiet m n e) = absurd (omega (arith, quiet, e))
to_base w _ _ _ is quiet whole (too_old s m e p l) =
    let first : Some m ≡ Some 0 = sym e ∙ ap (moment system) is in
    let same : m ≡ 0 = cc in
    absurd (omega (arith, same, l))
to_base w _ _ _ is quiet whole (future s m e p l) =
    let first : Some m ≡ Some 0 = sym e ∙ ap (moment system) is in
    let same : m ≡ 0 = cc in
    absurd (omega (arith, same, l))
to_base w _ _ _ is quiet whole (not_open s t e f) =
    let none : Some t ≡ None = sym e ∙ ap (works_on system) is in
    cc
to_base w _ _ _ is quiet whole n = cc

-- what a rewind leaves of a drive is the population of its scale
pub gives_back : (d : DriveNumbers) (w : World system) (left fresh : Rows) → IsDriven d w → open_count w ≡ 0
    → IsRewoundToBase w left → IsPopulated d.scale fresh → left ≡ fresh
gives_back d w left fresh driven quiet back populated =
    let (base, log, of_scale, history, unpurged, carried) = driven in
    let first = world_at_opening system base d.extents layout.ChangedColumns in
    let same = all_stay first w log history.run history.own unpurged in
    let whole : horizon system w ≡ 0 =
    ap (λ (c : ℕ → ℕ). total terminal_limit c) same.1
    ∙ horizon_opened first base d.extents layout.ChangedColumns refl in
    let (v, a, next, is) = back in
    is ∙ (to_base w v _ a refl quiet whole next ∙ (same.0 ∙ one_population d.scale base fresh of_scale populated))

-- what a report says of a drive in which nothing fails
pub told_so : (before after : List ℕ) (v : Option Condition) (b : Bool) → after ≡ before ++ report_of v b → before ≡ []
    → v ≡ None → b ≡ true → after ≡ ending_lines
told_so before after v b appended empty none restored =
    appended
    ∙ (ap (λ (x : List ℕ). x ++ report_of v b) empty
    ∙ (ap (λ (x : Option Condition). report_of x b) none ∙ ap (λ (x : Bool). report_of None x) restored))

pub told_well : (v : Option Condition) (b : Bool) → v ≡ None → b ≡ true → status_of v b ≡ 0
told_well v b none restored =
    ap (λ (x : Option Condition). status_of x b) none ∙ ap (λ (x : Bool). status_of None x) restored
