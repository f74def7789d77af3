-- The theorems, for every machine that meets the local laws.
use Rattle.std.proofs.Common.{◌≡◌, ℕ, suc, ◌-◌, ◌≤◌, get_or, take, true, Some, List, [], ◌∷◌, ◌++◌, refl, sym, ap, ◌∙◌}
use Rattle.std.proofs.Common.{subst, arith, inl, inr}
use Rattle.oe_theory.specs.Machine.{Machine, Stop, Fail}
use Rattle.oe_theory.specs.World.{Open, World, tx_of, overlay, counts_now, map_after, horizon, newest, at, latest}
use Rattle.oe_theory.specs.World.{tables, layers}
use Rattle.oe_theory.specs.Next.{IsGranted, after_commit, Step, Begin, Advance, Purge, Rewind, Answer, Begun, Committed}
use Rattle.oe_theory.specs.Next.{Aborted, Purged, Rewound, Undo_full, after_rewind, Next, commits, purges, rewinds}
use Rattle.oe_theory.specs.Next.{stops}
use Rattle.oe_theory.specs.Next.{fails, Event, Run, events}
use Rattle.oe_theory.specs.Laws.{Laws, Sound}
use Rattle.oe_theory.specs.Erase.{without}
use Rattle.oe_theory.specs.Undo.{Undo, Keeps, unwind, unwind_open, unwind_commits, row_before_commits, no_records}
use Rattle.oe_theory.specs.Undo.{undo_after}
use Rattle.oe_theory.specs.Theorems.{world_at_opening, IsReached, Opening_is_reached, Run_is_reached}
use Rattle.oe_theory.specs.Theorems.{Rollback_leaves_no_trace}
use Rattle.oe_theory.specs.Theorems.{Is_whole, Commit_is_whole, Is_none, Abort_has_no_effect, Is_refused}
use Rattle.oe_theory.specs.Theorems.{Abort_is_its_own, Changes_are_accepted, IsKeptByChanges, Holds_of_tables}
use Rattle.oe_theory.specs.Theorems.{Holds_while_undone, Holds_while_rewound, Open_is_known, History_is_serial}
use Rattle.oe_theory.specs.Theorems.{Quiet_tables, Rewind_restores, Purge_leaves_later, IsKept, Holds_of_versions}
use Rattle.oe_theory.specs.Theorems.{Holds_from_base, Tests_hold_from_base, Versions_are_good, Answers_are_determined}
use Rattle.oe_theory.specs.Theorems.{Scripts_are_answered, Nothing_is_recorded, Records_follow, World_has_records}
use Rattle.oe_theory.specs.Theorems.{Tables_follow, Undo_forgets, Undo_goes_back, Base_is_unwound, Version_is_unwound}
use Rattle.oe_theory.specs.Theorems.{Row_is_unwound, Used_is_of_records, Extents_suffice, Full_is_full, Want_stands_for}
use Rattle.oe_theory.specs.Theorems.{Each_is_answered}
use Rattle.oe_theory.proofs.Sets.{some_none}
use Rattle.oe_theory.proofs.Runs.{run_events, events_run, events-append, runs-append}
use Rattle.oe_theory.proofs.Steps.{change_accepted, next_sound, commit_whole, fail_whole, stop_whole, run_sound}
use Rattle.oe_theory.proofs.Steps.{purged_latest, good_latest, to_alone, reads_alone, fail_alone}
use Rattle.oe_theory.proofs.Endings.{stop_cause_law, fail_cause_law}
use Rattle.oe_theory.proofs.Kept.{tables_keep, unwinding_keeps, rewinding_keeps}
use Rattle.oe_theory.proofs.Erase.{run_without}
use Rattle.oe_theory.proofs.Determined.{determined_runs}
use Rattle.oe_theory.proofs.Records.{keeps_opened, keeps_next, forgets, goes_to_mark, open_unwound, commits_unwound}
use Rattle.oe_theory.proofs.Records.{all_unwound, at_restored_open, at_restored_commits}
use Rattle.oe_theory.proofs.InPlace.{tables_next}
use Rattle.oe_theory.proofs.Ring.{used_same, none_used, run_within, full_step}
use Rattle.oe_theory.proofs.Wants.{want_stands_for}
use Rattle.oe_theory.proofs.Total.{each_answered}
use Rattle.oe_theory.proofs.Past.{quiet_tables, latest_at, rewound_newest, rewound_at, purged_horizon, purged_newest}
use Rattle.oe_theory.proofs.Past.{purged_at, good_at, kept_at}

module _ (M : Machine) (L : Laws M) where
  pub sound_opened : (b : M.Map) (n : ℕ) (l : M.Layout) → M.Good (λ _. 0) b → Sound M (world_at_opening M b n l)
  sound_opened b n l g = record {
    good = g;
    serial = tt;
    apart = λ t u o p ne e f. absurd (some_none o (sym e));
    each = λ t o e. absurd (some_none o (sym e));
  }

  pub reached_sound : (w : World M) → IsReached M w → Sound M w
  reached_sound w r =
      run_sound M L (world_at_opening M r.base r.extents r.layout) (sound_opened r.base r.extents r.layout r.good)
      (events M r.steps r.answers) w
      (run_events M (world_at_opening M r.base r.extents r.layout) r.steps r.answers w r.run)

  pub opening_is_reached : Opening_is_reached M
  opening_is_reached b n l g = record
      { base = b; extents = n; layout = l; good = g; steps = []; answers = []; run = refl }

  pub run_is_reached : Run_is_reached M
  run_is_reached w w' is ys r q =
      record {
        base = r.base;
        extents = r.extents;
        layout = r.layout;
        good = r.good;
        steps = r.steps ++ is;
        answers = r.answers ++ ys;
        run = runs-append M (world_at_opening M r.base r.extents r.layout) w w' r.steps is r.answers ys r.run q;
      }

  pub rollback_leaves_no_trace : Rollback_leaves_no_trace M
  rollback_leaves_no_trace w w' is is' ys ys' t q r e x h =
      events_run M w (without M (events M is ys) t (events M is' ys')) w'
      (run_without M L w (reached_sound w r) (events M is ys) t q (events M is' ys') w'
      (subst (λ (z : List (Event M)). Run M w z w') (events-append M is (Begin t q ∷ is') ys (Begun ∷ ys') e)
      (run_events M w (is ++ Begin t q ∷ is') (ys ++ Begun ∷ ys') w' x)) h)

  whole_step : (w : World M) → Sound M w → (i : Step M) (a : Answer M) (w' : World M) (t m : ℕ) (reply : M.Reply)
      → Next M w i a w' → i ≡ Advance t → a ≡ Committed m reply
      → Is_whole M w t reply w' × (m ≡ newest M w') × (newest M w' ≡ suc (newest M w))
  whole_step w s _ _ _ t m reply (commits u o y e g r) i a =
      let same : u ≡ t = cc in
      let said : y ≡ reply = cc in
      let count : suc (newest M w) ≡ m = cc in
      let q = commit_whole M L w s u o y e g r in
      let one_more : newest M (after_commit M w u o y) ≡ suc (newest M w) = omega arith in (
        record {
          was = o;
          is_open = ap w.active (sym same) ∙ e;
          effect = ap (λ z. M.whole (tx_of M z o) (latest M w)) (sym same)
              ∙ (q ∙ ap (λ z. Some (overlay M o.now.changes (latest M w), z)) said);
          next = ap (λ z. map_after M z (latest M w)) q;
        },
        sym count ∙ sym one_more,
        one_more,
      )
  whole_step w s _ _ _ t m reply n i a = cc

  pub commit_is_whole : Commit_is_whole M
  commit_is_whole w w' t m reply r x = whole_step w (reached_sound w r) (Advance t) (Committed m reply) w' t m reply x
      refl refl

  none_step : (w : World M) → Sound M w → (i : Step M) (a : Answer M) (w' : World M) (t : ℕ) (x : M.Refusal)
      → Next M w i a w' → i ≡ Advance t → a ≡ Aborted x → Is_none M w t
  none_step w s _ _ _ t x (stops u o y e r) i a =
      let same : u ≡ t = cc in
      record {
        was = o;
        is_open = ap w.active (sym same) ∙ e;
        effect = ap (λ z. M.whole (tx_of M z o) (latest M w))
            (sym same) ∙ stop_whole M L w s u o y e r;
      }
  none_step w s _ _ _ t x (fails u o y e g r) i a =
      let same : u ≡ t = cc in
      record {
        was = o;
        is_open = ap w.active (sym same) ∙ e;
        effect = ap (λ z. M.whole (tx_of M z o) (latest M w))
            (sym same) ∙ fail_whole M L w s u o y e g r;
      }
  none_step w s _ _ _ t x n i a = cc

  pub abort_has_no_effect : Abort_has_no_effect M
  abort_has_no_effect w w' t x r y = none_step w (reached_sound w r) (Advance t) (Aborted x) w' t x y refl refl

  -- a refusal is one that its program may end with
  stop_cause_here : (w : World M) → Sound M w → (t : ℕ) (o : Open M) (x : M.Refusal) → w.active t ≡ Some o
      → M.ask (tx_of M t o) o.now.position (tables M w) ≡ Stop x → M.MayRefuse o.request x
  stop_cause_here w s t o x e r =
      stop_cause_law M (M.MayRefuse o.request) M.Accepts (tx_of M t o) (latest M w) o.now x _
      (L.ends (counts_now M w) (tx_of M t o) (latest M w) (good_latest M L w s t o e))
      (to_alone M L w s t o e) (sym (reads_alone M L w s t o e) ∙ r)

  fail_cause_here : (w : World M) → Sound M w → (t : ℕ) (o : Open M) (x : M.Refusal) → w.active t ≡ Some o
      → IsGranted M w t (M.ask (tx_of M t o) o.now.position (tables M w))
      → M.act (tx_of M t o) o.now.position (tables M w) ≡ Fail x → M.MayRefuse o.request x
  fail_cause_here w s t o x e g r =
      let f = fail_alone M L w s t o x e g r in
      fail_cause_law M (M.MayRefuse o.request) M.Accepts (tx_of M t o) (latest M w) o.now x _
      (L.ends (counts_now M w) (tx_of M t o) (latest M w) (good_latest M L w s t o e))
      (to_alone M L w s t o e) f.0 f.1

  refused_step : (w : World M) → Sound M w → (i : Step M) (a : Answer M) (w' : World M) (t : ℕ) (x : M.Refusal)
      → Next M w i a w' → i ≡ Advance t → a ≡ Aborted x → Is_refused M w t x
  refused_step w s _ _ _ t x (stops u o y e r) i a =
      let same : u ≡ t = cc in
      let cause : y ≡ x = cc in
      subst (λ z. Is_refused M w z x) same (subst (Is_refused M w u) cause
      (record {
        was = o;
        is_open = e;
        known = (s.each u o e).known;
        good = good_latest M L w s u o e;
        alone = to_alone M L w s u o e;
        cause = stop_cause_here w s u o y e r;
        refuses =
            inl (sym (reads_alone M L w s u o e) ∙ r);
      }))
  refused_step w s _ _ _ t x (fails u o y e g r) i a =
      let same : u ≡ t = cc in
      let cause : y ≡ x = cc in
      subst (λ z. Is_refused M w z x) same (subst (Is_refused M w u) cause
      (record {
        was = o;
        is_open = e;
        known = (s.each u o e).known;
        good = good_latest M L w s u o e;
        alone = to_alone M L w s u o e;
        cause = fail_cause_here w s u o y e g r;
        refuses =
            inr (fail_alone M L w s u o y e g r);
      }))
  refused_step w s _ _ _ t x n i a = cc

  pub abort_is_its_own : Abort_is_its_own M
  abort_is_its_own w w' t x r y = refused_step w (reached_sound w r) (Advance t) (Aborted x) w' t x y refl refl

  pub changes_are_accepted : Changes_are_accepted M
  changes_are_accepted w t o c p r e g d = change_accepted M L w (reached_sound w r) t o c p e g d

  pub open_is_known : Open_is_known M
  open_is_known w t o r e = ((reached_sound w r).each t o e).known

  pub history_is_serial : History_is_serial M
  history_is_serial w r = (reached_sound w r).serial

  pub tables_when_quiet : Quiet_tables M
  tables_when_quiet w q = quiet_tables M L w q ∙ latest_at M L w

  rewound_step : (w : World M) (i : Step M) (a : Answer M) (w' : World M) (m : ℕ) → Next M w i a w' → i ≡ Rewind m
      → a ≡ Rewound m
      → (tables M w' ≡ at M w m) × (newest M w' ≡ m) × (horizon M w' ≡ horizon M w)
      × ((k : ℕ) → k ≤ m → at M w' k ≡ at M w k)
  rewound_step w _ _ _ m (rewinds n quiet l h) i a =
      let same : n ≡ m = cc in (
        quiet_tables M L (after_rewind M w n) quiet ∙ ap (at M w) same,
        rewound_newest M L w n l h
            ∙ same,
        refl,
        λ k b. rewound_at M L w n k l h (omega (arith, b, same)),
      )
  rewound_step w _ _ _ m n i a = cc

  pub rewind_restores : Rewind_restores M
  rewind_restores w w' m n = rewound_step w (Rewind m) (Rewound m) w' m n refl refl

  purged_step : (w : World M) → Sound M w → (i : Step M) (a : Answer M) (w' : World M) (m : ℕ) → Next M w i a w'
      → i ≡ Purge m → a ≡ Purged m
      → (horizon M w' ≡ m) × (newest M w' ≡ newest M w) × (tables M w' ≡ tables M w)
      × ((k : ℕ) → m ≤ k → k ≤ newest M w → at M w' k ≡ at M w k)
  purged_step w s _ _ _ m (purges n l h) i a =
      let same : n ≡ m = cc in (
        purged_horizon M L w s n l h ∙ same,
        purged_newest M L w s n l h,
        ap (layers M w.active M.terminal_limit) (purged_latest M L w n),
        λ k b c. purged_at M L w s n k l (omega (arith, b, same)) c,
      )
  purged_step w s _ _ _ m n i a = cc

  pub purge_leaves_later : Purge_leaves_later M
  purge_leaves_later w w' m r x = purged_step w (reached_sound w r) (Purge m) (Purged m) w' m x refl refl

  -- undo records
  pub nothing_is_recorded : Nothing_is_recorded M
  nothing_is_recorded b n l = keeps_opened M L b n l

  pub records_follow : Records_follow M
  records_follow w v u i a r k x = keeps_next M L w (reached_sound w r) u k i a v x

  run_keeps : (w : World M) → Sound M w → (u : Undo M) → Keeps M w u → (es : List (Event M)) (w' : World M)
      → Run M w es w' → (u' : Undo M) × Keeps M w' u'
  run_keeps w s u k [] w' r = (u, subst (λ (z : World M). Keeps M z u) r k)
  run_keeps w s u k (e ∷ es) w' r =
      run_keeps r.0 (next_sound M L w s e.step e.answer r.0 r.1) (undo_after M w u e.answer e.step)
      (keeps_next M L w s u k e.step e.answer r.0 r.1) es w' r.2

  pub world_has_records : World_has_records M
  world_has_records w r =
      run_keeps (world_at_opening M r.base r.extents r.layout) (sound_opened r.base r.extents r.layout r.good)
      (no_records M)
      (keeps_opened M L r.base r.extents r.layout) (events M r.steps r.answers) w
      (run_events M (world_at_opening M r.base r.extents r.layout) r.steps r.answers w r.run)

  pub tables_follow : Tables_follow M
  tables_follow w v u i a r k x = tables_next M L w (reached_sound w r) u k i a v x

  pub undo_forgets : Undo_forgets M
  undo_forgets w u t r k = forgets M L w (reached_sound w r) u k t

  pub undo_goes_back : Undo_goes_back M
  undo_goes_back w u t o r k e = goes_to_mark M L w (reached_sound w r) u k t o e

  pub base_is_unwound : Base_is_unwound M
  base_is_unwound w u ts r k all = ap (unwind_commits M u.history) (open_unwound M L ts w (reached_sound w r) u k all)
      ∙ all_unwound M L w.layout w.base w.history u.history k.commits

  pub version_is_unwound : Version_is_unwound M
  version_is_unwound w u ts m r k all =
      ap (unwind_commits M (take (newest M w - m) u.history)) (open_unwound M L ts w (reached_sound w r) u k all)
      ∙ commits_unwound M L w.layout w.base (newest M w - m) w.history u.history k.commits

  pub row_is_unwound : Row_is_unwound M
  row_is_unwound w u ts m k r h all =
      sym (at_restored_commits M L (take (newest M w - m) u.history) (unwind_open M u.active ts (tables M w)) k
      ∙ ap (row_before_commits M k (take (newest M w - m) u.history)) (at_restored_open M L u.active ts (tables M w) k))
      ∙ ap (λ z. M.row_at z k) (version_is_unwound w u ts m r h all)

  module _ (P : M.Map → Type 0) (kept : IsKeptByChanges M P) where
    pub holds_of_tables : Holds_of_tables M P
    holds_of_tables w r = tables_keep M L P kept.between kept.kept w (reached_sound w r)

    pub holds_while_undone : Holds_while_undone M P
    holds_while_undone w u t n r k = unwinding_keeps M L P kept.between kept.kept w (reached_sound w r) u k t n

    pub holds_while_rewound : Holds_while_rewound M P
    holds_while_rewound w u j n r q k =
        let s = reached_sound w r in
        subst (λ z. P (unwind M (take n (get_or u.history j [])) z))
        (sym (ap (unwind_commits M (take j u.history)) (quiet_tables M L w q)
        ∙ commits_unwound M L w.layout w.base j w.history u.history k.commits))
        (rewinding_keeps M L P kept.between kept.kept w.layout w.counts w.base w.history u.history s.good s.serial
        k.commits j n)

  pub used_is_of_records : Used_is_of_records M
  used_is_of_records w u k = used_same M L w u k

  pub extents_suffice : Extents_suffice M
  extents_suffice w r =
      run_within M L (world_at_opening M r.base r.extents r.layout) (sound_opened r.base r.extents r.layout r.good)
      (no_records M)
      (keeps_opened M L r.base r.extents r.layout) (omega (arith, none_used M L M.terminal_limit))
      (events M r.steps r.answers) w (run_events M
      (world_at_opening M r.base r.extents r.layout) r.steps r.answers w r.run)

  pub full_is_full : Full_is_full M
  full_is_full w w' t r x = full_step M L w (extents_suffice w r) (Advance t) Undo_full w' t x refl refl

  pub want_means : Want_stands_for M
  want_means w w' i x = want_stands_for M w w' i x

  pub each_is_answered : Each_is_answered M
  each_is_answered w i r b = each_answered M w (reached_sound w r) i b

  pub answers_are_determined : Answers_are_determined M
  answers_are_determined w v v' is ys ys' r r' n n' = determined_runs M w v v' is ys ys' r r' n n'

  pub scripts_are_answered : Scripts_are_answered M
  scripts_are_answered w [] r b =
      record {
        answers = [];
        last = w;
        run = refl;
        memory = tt;
        only = λ ys v q n. answers_are_determined w v w [] ys []
            q refl n tt;
      }
  scripts_are_answered w (i ∷ is) r b =
      let x = each_is_answered w i r b.0 in
      let y = scripts_are_answered x.after is
      (run_is_reached w x.after (i ∷ []) (x.answer ∷ []) r (x.after, x.next, refl)) b.1 in
      record {
        answers = x.answer ∷ y.answers;
        last = y.last;
        run = (x.after, x.next, y.run);
        memory = (x.other, y.memory);
        only = λ ys v q n. answers_are_determined w v y.last (i ∷ is) ys (x.answer ∷ y.answers) q
            (x.after, x.next, y.run) n (x.other, y.memory);
      }

  pub versions_are_good : Versions_are_good M
  versions_are_good w r m = good_at M L w (reached_sound w r) m

  module _ (P : M.Map → Type 0) (keeps : IsKept M P) where
    base_kept : (w : World M) → Sound M w → P w.base → (i : Step M) (a : Answer M) (w' : World M) → Next M w i a w'
        → P w'.base
    base_kept w s p _ _ _ (purges n l h) = kept_at M L P keeps w s p n
    base_kept w s p _ _ _ n = p

    run_kept : (w : World M) → Sound M w → P w.base → (es : List (Event M)) (w' : World M) → Run M w es w' → P w'.base
    run_kept w s p [] w' r = subst (λ (z : World M). P z.base) r p
    run_kept w s p (e ∷ es) w' r = run_kept r.0 (next_sound M L w s e.step e.answer r.0 r.1)
        (base_kept w s p e.step e.answer r.0 r.1) es w' r.2

    pub holds_from_base : Holds_from_base M P
    holds_from_base w r p m = kept_at M L P keeps w (reached_sound w r) p m

    pub holds_of_versions : Holds_of_versions M P
    holds_of_versions w r p m =
        kept_at M L P keeps w (reached_sound w r)
        (run_kept (world_at_opening M r.base r.extents r.layout) (sound_opened r.base r.extents r.layout r.good) p
        (events M r.steps r.answers) w
        (run_events M (world_at_opening M r.base r.extents r.layout) r.steps r.answers w r.run)) m

  pub tests_hold_from_base : Tests_hold_from_base M
  tests_hold_from_base p keeps = holds_from_base (λ r. p r ≡ true) keeps
