-- What lines that follow one another pass through.
use Rattle.std.proofs.Common.{◌≡◌, ℕ, zero, suc, ◌+◌, None, Some, List, [], ◌∷◌, ◌++◌, length, refl, sym, ap, ◌∙◌}
use Rattle.std.proofs.Common.{subst, inl, inr, append_assoc, arith}
use Rattle.oe_theory.specs.World.{World}
use Rattle.oe_theory.specs.Theorems.{IsReached, world_at_opening}
use Rattle.oe_theory.proofs.Sets.{some_inj}
use Rattle.oe_theory.proofs.Theorems.{opening_is_reached}
use Rattle.oe_rows.specs.declared.scales.Scale.{Scale}
use Rattle.oe_model.specs.Rows.{Rows}
use Rattle.oe_model.specs.Population.{IsScale, IsPopulated}
use Rattle.oe_model.specs.System.{system}
use Rattle.oe_model.proofs.PopulationFacts.{population_is_one}
use Rattle.oe_model.proofs.SystemLaws.{laws, population_is_good}
use Rattle.oe_requests.specs.declared.answers.Answer.{Answer}
use Rattle.oe_requests.specs.declared.answers.Answer.TheVariants as answer
use Rattle.oe_requests.specs.declared.steps.Step.{Step}
use Rattle.oe_lines.specs.declared.commands.RingChoice.{RingChoice}
use Rattle.oe_lines.specs.Rings.{layout_of}
use Rattle.oe_lines.specs.Grammar.{Says}
use Rattle.oe_lines.specs.declared.commands.Command.TheVariants as command
use Rattle.oe_machine.specs.Steps.{step_in, answer_in}
use Rattle.oe_runs.specs.Run.{Served, Ran}
use Rattle.oe_runs.proofs.RunFacts.{ran_so, still_reached}
use Rattle.oe_script.specs.Script.{State, RunOfLines}
use Rattle.oe_script_laws.specs.Deeds.{Deed, No_form, Opening, Shown, Steps, Entry, Takes, Was, Passed, repeats_then}
use Rattle.oe_script_laws.specs.Deeds.{steps_in_deed, answers_in_deed, steps_of, answers_of}
use Rattle.oe_script_laws.specs.Laws.{IsReachedState, Worlds_are_reached, IsOneRun, Scripts_are_runs}
use Rattle.oe_script_laws.proofs.DeedFacts.{lines_are_deeds}

-- ONE AFTER ANOTHER

pub passed_split : (s : State) (xs ys : List Entry) (s' : State) → Passed s (xs ++ ys) s'
    → (mid : State) × Passed s xs mid × Passed mid ys s'
passed_split s [] ys s' p = (s, refl, p)
passed_split s (x ∷ xs) ys s' (mid, was, p) = let r = passed_split mid xs ys s' p in (r.0, (mid, was, r.1), r.2)

pub passed_append : (s : State) (xs ys : List Entry) (mid s' : State) → Passed s xs mid → Passed mid ys s'
    → Passed s (xs ++ ys) s'
passed_append s [] ys mid s' e p = subst (λ (z : State). Passed z ys s') e p
passed_append s (x ∷ xs) ys mid s' (next, was, r) p = (next, was, passed_append next xs ys mid s' r p)

-- STEPS LEAD TO THEM

pub takes_reached : (n : ℕ) (w : World system) (i : Step) (x : Answer) (w' : World system) → IsReached system w
    → Takes n w i x w' → IsReached system w'
takes_reached zero w i x w' r h = still_reached w w' (step_in i) (answer_in i x) r h
takes_reached (suc n) w i x w' r (mid, more, h) = takes_reached n mid i x w'
    (still_reached w mid (step_in i) (answer_in i answer.More) r more) h

pub opened_reached : (scale : Scale) (ring : RingChoice) (r : Rows) → IsScale scale → IsPopulated scale r
    → IsReached system (world_at_opening system r ring.extents (layout_of ring))
opened_reached scale ring r h p = opening_is_reached system laws r ring.extents (layout_of ring)
    (population_is_good r (population_is_one.is_population scale r h p))

pub was_reached : (s : State) (line : List ℕ) (d : Deed) (s' : State) → IsReachedState s → Was s line d s'
    → IsReachedState s'
was_reached s line No_form s' l (bad, same) = subst IsReachedState (sym same) l
was_reached None line (Opening text) s' l (scale, ring, asks, inl (r, p, e, same)) =
    subst IsReachedState (sym same) (opened_reached scale ring r asks.says.form.0 p)
was_reached None line (Opening text) s' l (scale, ring, asks, inr (e, same)) = subst IsReachedState (sym same) tt
was_reached (Some w) line (Opening text) s' l (scale, ring, asks, a) = absurd a
was_reached None line (Shown text) s' l (b, asks, a) = absurd a
was_reached (Some w) line (Shown text) s' l (b, asks, (e, same)) = subst IsReachedState (sym same) l
was_reached None line (Steps n i x) s' l h = absurd h
was_reached (Some w) line (Steps n i x) s' l (c, w', asks, e, z, h, same) =
    subst IsReachedState (sym same) (takes_reached n w i x w' l h)

pub passed_reached : (s : State) (es : List Entry) (s' : State) → IsReachedState s → Passed s es s' → IsReachedState s'
passed_reached s [] s' l same = subst IsReachedState (sym same) l
passed_reached s (e ∷ es) s' l (mid, was, rest) = passed_reached mid es s' (was_reached s e.line e.deed mid l was) rest

of_lines : (s : State) (n : ℕ) (lines : List (List ℕ)) (text : List ℕ) (s' : State) → IsReachedState s
    → RunOfLines s n lines text s' → IsReachedState s'
of_lines s n lines text s' l r = let d = lines_are_deeds.each s n lines text s' r in passed_reached s d.0 s' l d.1

-- between two lines
lines_split : (s : State) (n : ℕ) (xs ys : List (List ℕ)) (text : List ℕ) (s' : State)
    → RunOfLines s n (xs ++ ys) text s'
    → (mid : State) × (first : List ℕ) × (rest : List ℕ) × RunOfLines s n xs first mid
    × RunOfLines mid (n + length xs) ys rest s' × (text ≡ first ++ rest)
lines_split s n [] ys text s' r =
    (s, [], text, (refl, refl), subst (λ (z : ℕ). RunOfLines s z ys text s') (omega arith) r, refl)
lines_split s n (x ∷ xs) ys text s' (next, here, more, a, r, e) =
    let p = lines_split next (n + 1) xs ys more s' r in (
      p.0,
      here ++ p.1,
      p.2,
      (next, here, p.1, a, p.3, refl),
      subst (λ (z : ℕ). RunOfLines p.0 z ys p.2 s') (omega arith) p.4,
      e ∙ (ap (λ z. here ++ z) p.5 ∙ sym (append_assoc here p.1 p.2)),
    )

between : (begun : State) (before after : List (List ℕ)) (text : List ℕ) (s : State) → IsReachedState begun
    → RunOfLines begun 0 (before ++ after) text s
    → (mid : State) × (first : List ℕ) × (rest : List ℕ) × RunOfLines begun 0 before first mid × IsReachedState mid
    × RunOfLines mid (length before) after rest s × (text ≡ first ++ rest)
between begun before after text s l r =
    let p = lines_split begun 0 before after text s r in
    let count : 0 + length before ≡ length before = omega arith in (
      p.0,
      p.1,
      p.2,
      p.3,
      of_lines begun 0 before p.1 p.0 l p.3,
      subst (λ (z : ℕ). RunOfLines p.0 z after p.2 s) count
          p.4,
      p.5,
    )

pub worlds_are_reached : Worlds_are_reached
worlds_are_reached = record {
  of_lines = of_lines;
  between = between;
  of_output = λ begun input out o l. of_lines begun 0 o.lines o.answers o.state l o.run;
}

-- ONE RUN

served_append : (w v w' : World system) (is js : List Step) (ys zs : List Answer) → Served w is ys v → Served v js zs w'
    → Served w (is ++ js) (ys ++ zs) w'
served_append w v w' [] js [] zs e h = subst (λ (z : World system). Served z js zs w') (sym e) h
served_append w v w' [] js (a ∷ ys) zs e h = absurd e
served_append w v w' (i ∷ is) js [] zs e h = absurd e
served_append w v w' (i ∷ is) js (a ∷ ys) zs (next, n, r) h = (next, n, served_append next v w' is js ys zs r h)

served_taken : (n : ℕ) (w : World system) (i : Step) (x : Answer) (w' : World system) → Takes n w i x w'
    → Served w (repeats_then n i i) (repeats_then n answer.More x) w'
served_taken zero w i x w' h = (w', h, refl)
served_taken (suc n) w i x w' (mid, more, h) = (mid, more, served_taken n mid i x w' h)

abbrev IsServed : World system → List Step → List Answer → State → Type 0
IsServed w is ys s = (w' : World system) × (s ≡ Some w') × Served w is ys w'

served_from : (w v : World system) (is : List Step) (ys : List Answer) (mid : State) (es : List Entry) (s : State)
    → mid ≡ Some v → Served w is ys v
    → ((u : World system) → mid ≡ Some u → IsServed u (steps_of es) (answers_of es) s)
    → IsServed w (is ++ steps_of es) (ys ++ answers_of es) s
served_from w v is ys mid es s same h f = let r = f v same in
    (r.0, r.1, served_append w v r.0 is (steps_of es) ys (answers_of es) h r.2)

served : (w : World system) (s₀ : State) (es : List Entry) (s : State) → s₀ ≡ Some w → Passed s₀ es s
    → IsServed w (steps_of es) (answers_of es) s
served w s₀ [] s z same = (w, same ∙ z, refl)
served w None (e ∷ es) s z p = let none : ⊥ = cc in absurd none
served w (Some u) (e ∷ es) s z (mid, was, rest) = go e.deed was (λ v same. served v mid es s same rest)
  where
    go : (d : Deed) → Was (Some u) e.line d mid
        → ((v : World system) → mid ≡ Some v → IsServed v (steps_of es) (answers_of es) s)
        → IsServed w (steps_in_deed d ++ steps_of es) (answers_in_deed d ++ answers_of es) s
    go No_form (bad, same) more = more w (same ∙ z)
    go (Opening text) (scale, ring, asks, a) more = absurd a
    go (Shown text) (b, asks, (e, same)) more = more w (same ∙ z)
    go (Steps n i x) (c, w', asks, e, k, h, same) more =
        let here : u ≡ w = some_inj u w z in
        served_from w w' _ _ mid es s same
        (subst (λ (v : World system). Served v (repeats_then n i i) (repeats_then n answer.More x) w') here
        (served_taken n u i x w' h)) more

from_world : (w : World system) (es : List Entry) (s : State) → IsReached system w → Passed (Some w) es s
    → (w' : World system) × (s ≡ Some w') × Ran w (steps_of es) (answers_of es) w'
from_world w es s r p =
    let d = served w (Some w) es s refl p in
    (d.0, d.1, ran_so w d.0 (steps_of es) (answers_of es) r d.2)

-- one more line before the opening
earlier : (e : Entry) (es : List Entry) (mid : State) (w : World system) → Was None e.line e.deed mid → mid ≡ None
    → IsOneRun es w → IsOneRun (e ∷ es) w
earlier e es mid w was closed r =
    record {
      before = e ∷ r.before;
      opening = r.opening;
      after = r.after;
      lines = ap (λ z. e ∷ z) r.lines;
      scale = r.scale;
      ring = r.ring;
      rows = r.rows;
      says = r.says;
      populated = r.populated;
      closed = (mid, was, subst (λ (z : State). Passed z r.before None) (sym closed) r.closed);
      ran = r.ran;
    }

opened_here : (e : Entry) (es : List Entry) (mid : State) (w : World system) (scale : Scale) (ring : RingChoice)
    (rows : Rows)
    → Says e.line (command.Open scale ring)
    → IsPopulated scale rows → mid ≡ Some (world_at_opening system rows ring.extents (layout_of ring))
    → Passed mid es (Some w)
    → IsOneRun (e ∷ es) w
opened_here e es mid w scale ring rows says populated same p =
    let r = opened_reached scale ring rows says.form.0 populated in
    let (v, is, ran) = from_world (world_at_opening system rows ring.extents (layout_of ring)) es (Some w) r
    (subst (λ (z : State). Passed z es (Some w)) same p) in
    record {
      before = [];
      opening = e;
      after = es;
      lines = refl;
      scale = scale;
      ring = ring;
      rows = rows;
      says = says;
      populated = populated;
      closed = refl;
      ran = subst
          (λ (z : World system). Ran (world_at_opening system rows ring.extents (layout_of ring)) (steps_of es)
          (answers_of es) z)
          (sym (some_inj w v is)) ran;
    }

from_start : (es : List Entry) (w : World system) → Passed None es (Some w) → IsOneRun es w
from_start [] w same = let none : ⊥ = cc in absurd none
from_start (e ∷ es) w (mid, was, rest) = go e.deed was
    (λ same. earlier e es mid w was same (from_start es w (subst (λ (z : State). Passed z es (Some w)) same rest)))
  where
    go : (d : Deed) → Was None e.line d mid → (mid ≡ None → IsOneRun (e ∷ es) w) → IsOneRun (e ∷ es) w
    go No_form (bad, same) f = f same
    go (Opening text) (scale, ring, asks, inl (rows, populated, t, same)) f =
        opened_here e es mid w scale ring rows asks.says populated same rest
    go (Opening text) (scale, ring, asks, inr (t, same)) f = f same
    go (Shown text) (b, asks, a) f = absurd a
    go (Steps n i x) h f = absurd h

pub scripts_are_runs : Scripts_are_runs
scripts_are_runs = record { from_start = from_start; from_world = from_world }
