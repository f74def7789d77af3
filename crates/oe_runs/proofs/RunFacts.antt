-- What follows of a run of steps.
use Rattle.std.proofs.lemmas.List.{drop_all}
use Rattle.std.proofs.Common.{◌≡◌, ◌≢◌, ℕ, zero, suc, ◌-◌, ◌<◌, ◌≤◌, List, [], ◌∷◌, ◌++◌, take, length, get_or}
use Rattle.std.proofs.Common.{sym}
use Rattle.std.proofs.Common.{ap, subst, ◌∙◌, refl, arith}
use Rattle.oe_theory.specs.World.{World, version, newest, at, tables}
use Rattle.oe_theory.specs.Next as theory
use Rattle.oe_theory.specs.Next.{Next, Runs, Begun, begins, goes_on, commits, saves, goes_back, rolls_back, reads}
use Rattle.oe_theory.specs.Next.{audits, purges, rewinds, stops, fails, is_busy, is_full, is_rejected, is_open}
use Rattle.oe_theory.specs.Next.{number_is_rejected, query_is_rejected, misses, not_open, too_old, future, not_quiet}
use Rattle.oe_theory.specs.Next.{lacks_memory_at_begin, lacks_memory}
use Rattle.oe_theory.specs.Theorems.{IsReached}
use Rattle.oe_theory.proofs.Theorems.{run_is_reached, history_is_serial, rollback_leaves_no_trace, rewind_restores}
use Rattle.oe_theory.proofs.Theorems.{purge_leaves_later, holds_from_base}
use Rattle.oe_theory.proofs.StepTheorems.{endings_are_whole}
use Rattle.oe_requests.specs.declared.steps.Step.{Step}
use Rattle.oe_requests.specs.declared.steps.Step.TheVariants as step
use Rattle.oe_requests.specs.declared.answers.Answer.{Answer}
use Rattle.oe_requests.specs.declared.answers.Answer.TheVariants as answer
use Rattle.oe_model.specs.Rows.{Rows}
use Rattle.oe_model.specs.FurtherConditions.{More}
use Rattle.oe_model.specs.System.{system}
use Rattle.oe_model.proofs.SystemLaws.{laws}
use Rattle.oe_model.proofs.ConsistencyFacts.{consistent}
use Rattle.oe_consistency.proofs.KeptMore.{kept, base_more}
use Rattle.oe_movements.specs.Kept.{HasMovements}
use Rattle.oe_movements.proofs.KeptMoves as movements
use Rattle.oe_movements.proofs.KeptMoves.{base_moves}
use Rattle.oe_machine.specs.Steps.{step_in, answer_in}
use Rattle.oe_runs.specs.Run.{Served, steps_in, answers_in, AreUnpurged, PastBy, IsPassed, AreWhole, Ran}
use Rattle.oe_runs.proofs.AnswerFacts.{answer_once}

-- one more step at the end
served_more : (w v w' : World system) (is : List Step) (ys : List Answer) (i : Step) (a : Answer) → Served w is ys v
    → Next system v (step_in i) (answer_in i a) w'
    → Served w (is ++ i ∷ []) (ys ++ a ∷ []) w'
served_more w v w' [] [] i a h n =
    (w', subst (λ (z : World system). Next system z (step_in i) (answer_in i a) w') (sym h) n, refl)
served_more w v w' [] (b ∷ ys) i a h n = absurd h
served_more w v w' (j ∷ is) [] i a h n = absurd h
served_more w v w' (j ∷ is) (b ∷ ys) i a h n = (h.0, h.1, served_more h.0 v w' is ys i a h.2 n)

take_more : (is : List Step) (n : ℕ) (i : Step) → n < length is → i ≡ get_or is n i
    → take (suc n) is ≡ take n is ++ i ∷ []
take_more [] n i h e = absurd (omega (arith, h))
take_more (j ∷ is) zero i h e = ap (λ (z : Step). z ∷ []) (sym e)
take_more (j ∷ is) (suc n) i h e = ap (λ z. j ∷ z) (take_more is n i (omega (arith, h)) e)

take_all : (is : List Step) (n : ℕ) → length is ≤ n → take n is ≡ is
take_all [] zero h = refl
take_all [] (suc n) h = refl
take_all (j ∷ is) zero h = absurd (omega (arith, h))
take_all (j ∷ is) (suc n) h = ap (λ z. j ∷ z) (take_all is n (omega (arith, h)))

-- the next of a list of steps
pub served_next : (w v w' : World system) (is : List Step) (n k : ℕ) (ys zs : List Answer) (i j : Step) (a : Answer)
    → Served w (take n is) ys v → n < length is → i ≡ get_or is n i → j ≡ i
    → Next system v (step_in j) (answer_in j a) w' → k ≡ suc n → zs ≡ ys ++ a ∷ [] → Served w (take k is) zs w'
served_next w v w' is n k ys zs i j a h l e c s p q =
    subst (λ (z : ℕ). Served w (take z is) zs w') (sym p)
    (subst (λ (z : List Answer). Served w (take (suc n) is) z w') (sym q)
    (subst (λ (z : List Step). Served w z (ys ++ a ∷ []) w') (sym (take_more is n i l e))
    (served_more w v w' (take n is) ys i a h (subst (λ (z : Step). Next system v (step_in z) (answer_in z a) w') c s))))

pub served_all : (w v : World system) (is : List Step) (n : ℕ) (ys : List Answer) → length is ≤ n
    → Served w (take n is) ys v → Served w is ys v
served_all w v is n ys l h = subst (λ (z : List Step). Served w z ys v) (take_all is n l) h

runs_of : (w w' : World system) (is : List Step) (ys : List Answer) → Served w is ys w'
    → Runs system w (steps_in is) (answers_in is ys) w'
runs_of w w' [] [] h = h
runs_of w w' [] (a ∷ ys) h = absurd h
runs_of w w' (i ∷ is) [] h = absurd h
runs_of w w' (i ∷ is) (a ∷ ys) h = (h.0, h.1, runs_of h.0 w' is ys h.2)

-- each step leads on, and a commit is whole
pub still_reached : (w v : World system) (i : theory.Step system) (a : theory.Answer system) → IsReached system w
    → Next system w i a v → IsReached system v
still_reached w v i a r n = run_is_reached system laws w v (i ∷ []) (a ∷ []) r (v, n, refl)

-- moment 0 is the base
pub first_at : (w : World system) → at system w 0 ≡ w.base
first_at w = ap (version system w.base) (drop_all (newest system w - 0) w.history (omega arith))

-- what a step leaves of the base, and a purge and a rewind besides
past_by : (w v : World system) (i : theory.Step system) (a : theory.Answer system) → IsReached system w
    → Next system w i a v → PastBy w a v
past_by w _ _ _ reached (begins t q m) = refl
past_by w _ _ _ reached (goes_on t o c p e g r room) = refl
past_by w _ _ _ reached (commits t o reply e g r) = refl
past_by w _ _ _ reached (saves t o e) = refl
past_by w _ _ _ reached (goes_back t o e) = refl
past_by w _ _ _ reached (rolls_back t o e) = refl
past_by w _ _ _ reached (reads m q f a l u k) = refl
past_by w _ _ _ reached (audits m c l u) = refl
past_by w _ _ _ reached (purges m l u) =
    let left = purge_leaves_later system laws w _ m reached (purges m l u) in
    (refl, left.0, left.1, left.2, left.3)
past_by w _ _ _ reached (rewinds m q l u) =
    let left = rewind_restores system laws w _ m (rewinds m q l u) in
    (refl, left.0, (λ e. left.0 ∙ ap (at system w) e ∙ first_at w), left.1, left.2, left.3)
past_by w _ _ _ reached (stops t o e f r) = refl
past_by w _ _ _ reached (fails t o e f g r) = refl
past_by w _ _ _ reached (is_busy t o n m u e r g) = refl
past_by w _ _ _ reached (is_full t o c p e g r f) = refl
past_by w _ _ _ reached (is_rejected t q e r) = refl
past_by w _ _ _ reached (is_open t q o r e) = refl
past_by w _ _ _ reached (number_is_rejected t q e r c k) = refl
past_by w _ _ _ reached (query_is_rejected m q e r) = refl
past_by w _ _ _ reached (misses m q e r l u k) = refl
past_by w _ _ _ reached (not_open s t e f) = refl
past_by w _ _ _ reached (too_old s m e p l) = refl
past_by w _ _ _ reached (future s m e p l) = refl
past_by w _ _ _ reached (not_quiet m n e) = refl
past_by w _ _ _ reached (lacks_memory_at_begin t q m) = refl
past_by w _ _ _ reached (lacks_memory t o e m) = refl

-- a world of a run that began on this base, which is its own or one before
record Follows (base : Rows) (w : World system) : Type 0 where
  reached : IsReached system w
  more : More base → More w.base
  movements : (initial : ℕ) → HasMovements initial base → HasMovements initial w.base

follows : (base : Rows) (w v : World system) (i : theory.Step system) (a : theory.Answer system) → Follows base w
    → Next system w i a v → Follows base v
follows base w v i a f n = record {
  reached = still_reached w v i a f.reached n;
  more = λ m. base_more w v i a f.reached (f.more m) n;
  movements = λ initial m. base_moves initial w v i a f.reached (f.movements initial m) n;
}

is_passed : (base : Rows) (w : World system) → Follows base w → IsPassed base w
is_passed base w f = record {
  serial = history_is_serial system laws w f.reached;
  conditions = (consistent w f.reached).of_versions;
  when_quiet = (consistent w f.reached).when_quiet;
  more = λ more m. holds_from_base system laws More kept w f.reached (f.more more) m;
  movements = λ initial more m.
      holds_from_base system laws (HasMovements initial) (movements.kept initial) w f.reached
      (f.movements initial more) m;
}

are_whole : (base : Rows) (w w' : World system) (is : List Step) (ys : List Answer) → Follows base w → Served w is ys w'
    → AreWhole base w is ys w'
are_whole base w w' [] [] f h = (is_passed base w f, h)
are_whole base w w' [] (a ∷ ys) f h = absurd h
are_whole base w w' (i ∷ is) [] f h = absurd h
are_whole base w w' (i ∷ is) (a ∷ ys) f h = (
  is_passed base w f,
  (
    h.0,
    h.1,
    endings_are_whole system laws w h.0 (step_in i) (answer_in i a) f.reached h.1,
    past_by w h.0 (step_in i) (answer_in i a) f.reached h.1,
    are_whole base h.0 w' is ys (follows base w h.0 (step_in i) (answer_in i a) f h.1) h.2,
  ),
)

last_of : (base : Rows) (w w' : World system) (is : List Step) (ys : List Answer) → AreWhole base w is ys w'
    → IsPassed base w'
last_of base w w' [] [] h = subst (IsPassed base) h.1 h.0
last_of base w w' [] (a ∷ ys) h = absurd h
last_of base w w' (i ∷ is) [] h = absurd h
last_of base w w' (i ∷ is) (a ∷ ys) h = let (passed, (v, next, ends, past, rest)) = h in last_of base v w' is ys rest

-- a step that purges nothing leaves the base
base_stays : (w v : World system) (a : theory.Answer system) → ((m : ℕ) → a ≢ theory.Purged m) → PastBy w a v
    → v.base ≡ w.base
base_stays w v (theory.Purged m) other h = absurd (other m refl)
base_stays w v (theory.Rewound m) other h = h.0
base_stays w v theory.Begun other h = h
base_stays w v theory.More other h = h
base_stays w v (theory.Committed m y) other h = h
base_stays w v theory.Saved other h = h
base_stays w v theory.Gone_back other h = h
base_stays w v theory.Rolled_back other h = h
base_stays w v (theory.Replied f) other h = h
base_stays w v (theory.Audited x) other h = h
base_stays w v (theory.Aborted e) other h = h
base_stays w v (theory.Rejected e) other h = h
base_stays w v (theory.Busy n u) other h = h
base_stays w v theory.Undo_full other h = h
base_stays w v theory.Not_open other h = h
base_stays w v theory.Already_open other h = h
base_stays w v (theory.Too_old m) other h = h
base_stays w v (theory.Future m) other h = h
base_stays w v (theory.Not_quiet n) other h = h
base_stays w v theory.No_memory other h = h

not_purged : (i : Step) (a : Answer) → ((m : ℕ) → a ≢ answer.Purged m) → (m : ℕ) → answer_in i a ≢ theory.Purged m
not_purged i a other m e = other m (answer_once i a (answer.Purged m) e)

base_kept : (base : Rows) (w w' : World system) (is : List Step) (ys : List Answer) → AreWhole base w is ys w'
    → AreUnpurged ys → w'.base ≡ w.base
base_kept base w w' [] [] h u = ap (λ (z : World system). z.base) (sym h.1)
base_kept base w w' [] (a ∷ ys) h u = absurd h
base_kept base w w' (i ∷ is) [] h u = absurd h
base_kept base w w' (i ∷ is) (a ∷ ys) h u =
    let (passed, (v, next, ends, past, rest)) = h in
    base_kept base v w' is ys rest u.1 ∙ base_stays w v (answer_in i a) (not_purged i a u.0) past

-- a rewind to moment 0 behind steps that purge nothing
rewound_to_base : (base : Rows) (w w' : World system) (before : List Step) (said : List Answer)
    → AreWhole base w (before ++ step.Rewind 0 ∷ []) (said ++ answer.Rewound 0 ∷ []) w' → AreUnpurged said
    → tables system w' ≡ w.base
rewound_to_base base w w' [] [] h u =
    let (passed, (v, next, ends, past, rest)) = h in
    ap (tables system) (sym rest.1) ∙ past.2 refl
rewound_to_base base w w' [] (a ∷ []) h u = let (passed, (v, next, ends, past, rest)) = h in absurd rest
rewound_to_base base w w' [] (a ∷ b ∷ said) h u = let (passed, (v, next, ends, past, rest)) = h in absurd rest
rewound_to_base base w w' (i ∷ []) [] h u = let (passed, (v, next, ends, past, rest)) = h in absurd rest
rewound_to_base base w w' (i ∷ j ∷ before) [] h u = let (passed, (v, next, ends, past, rest)) = h in absurd rest
rewound_to_base base w w' (i ∷ before) (a ∷ said) h u =
    let (passed, (v, next, ends, past, rest)) = h in
    rewound_to_base base v w' before said rest u.1 ∙ base_stays w v (answer_in i a) (not_purged i a u.0) past

pub ran_so : (w w' : World system) (is : List Step) (ys : List Answer) → IsReached system w → Served w is ys w'
    → Ran w is ys w'
ran_so w w' is ys r h =
    let runs = runs_of w w' is ys h in
    let begun : Follows w.base w = record { reached = r; more = λ m. m; movements = λ initial m. m } in
    let whole : AreWhole w.base w is ys w' = are_whole w.base w w' is ys begun h in
    record {
      runs = runs;
      reached = run_is_reached system laws w w' (steps_in is) (answers_in is ys) r runs;
      whole = whole;
      last = last_of w.base w w' is ys whole;
      no_trace = λ before after said later t q l e g k.
          rollback_leaves_no_trace system laws w w' before after said later t q r l
          (subst (λ z. Runs system w z (said ++ Begun ∷ later) w') e
          (subst (λ z. Runs system w (steps_in is) z w') g runs)) k;
      base = base_kept w.base w w' is ys whole;
      to_base = λ before said e g u.
          rewound_to_base w.base w w' before said
          (subst (λ z. AreWhole w.base w (before ++ step.Rewind 0 ∷ []) z w') g
          (subst (λ z. AreWhole w.base w z ys w') e whole)) u;
    }
