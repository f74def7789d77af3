-- Bases, and that the version of a moment is what the first commits leave, which are those that steps told of.
use Rattle.std.proofs.Common.{◌≡◌, ℕ, zero, suc, ◌+◌, ◌-◌, ◌≤◌, ◌==◌, Bool, true, false, cond, Option, None, Some, map}
use Rattle.std.proofs.Common.{List, [], ◌∷◌, ◌++◌, length, take, drop, append_assoc, refl, sym, ap, ◌∙◌, subst, inl}
use Rattle.std.proofs.Common.{inr}
use Rattle.std.proofs.Common.{arith}
use Rattle.std.specs.Prelude.{◌≢◌, ◌⊎◌}
use Rattle.std.proofs.lemmas.Bool.{eqb-true}
use Rattle.std.proofs.lemmas.List.{length-append, length-drop, length-map, take-append-drop, drop-append-le, drop-map}
use Rattle.oe_theory.specs.World.{Open, World, Commit, IsCommit, IsSerial, set, bump, total, tx_of, map_after, version}
use Rattle.oe_theory.specs.World.{counts_after, counts_at, horizon, newest, at}
use Rattle.oe_theory.specs.Next as theory
use Rattle.oe_theory.specs.Next.{open_at_begin, after_commit, after_purge, after_rewind, Next, Runs, begins, goes_on}
use Rattle.oe_theory.specs.Next.{commits, saves}
use Rattle.oe_theory.specs.Next.{goes_back, rolls_back, reads, audits, purges, rewinds, stops, fails, is_busy, is_full}
use Rattle.oe_theory.specs.Next.{is_rejected, is_open, number_is_rejected, query_is_rejected, misses, not_open, too_old}
use Rattle.oe_theory.specs.Next.{future, not_quiet, lacks_memory_at_begin, lacks_memory}
use Rattle.oe_theory.specs.Theorems.{IsReached, world_at_opening}
use Rattle.oe_theory.proofs.Sets.{set_same, set_other, set_cases, some_inj, some_none}
use Rattle.oe_theory.proofs.Theorems.{reached_sound, opening_is_reached, run_is_reached, history_is_serial}
use Rattle.oe_theory.proofs.Theorems.{purge_leaves_later}
use Rattle.oe_requests.specs.declared.replies.Reply.{Reply}
use Rattle.oe_requests.specs.declared.requests.Request.{Request}
use Rattle.oe_rows.specs.declared.layouts.Layout.{Layout}
use Rattle.oe_model.specs.Rows.{Rows}
use Rattle.oe_model.specs.System.{system}
use Rattle.oe_model.proofs.SystemLaws.{laws}
use Rattle.oe_script_laws.specs.Commits.{transaction_of, count_of, CommitLog, with_commit, log_after_step}
use Rattle.oe_script_laws.specs.Commits.{log_of_steps}
use Rattle.oe_script_laws.specs.Commits.{empty_log, commits_of_steps}
use Rattle.oe_script_laws.specs.Moments.{Leaves, IsVersion}

-- WHAT A RUN GOES ON FROM

pub purged_step : (w : World system) (i : theory.Step system) (a : theory.Answer system) (v : World system) (m : ℕ)
    → Next system w i a v → i ≡ theory.Purge m → a ≡ theory.Purged m
    → (v.base ≡ at system w m) × (v.counts ≡ counts_at system w m)
purged_step w _ _ _ m (purges k l u) i a = let here : k ≡ m = cc in
    (ap (at system w) here, ap (counts_at system w) here)
purged_step w _ _ _ m n i a = cc

-- a step purges, or leaves the base
purges_or_not : (w v : World system) (i : theory.Step system) (a : theory.Answer system) → Next system w i a v
    → ((m : ℕ) × (horizon system w ≤ m) × (m ≤ newest system w) × (a ≡ theory.Purged m) × (v ≡ after_purge system w m))
    ⊎ ((v.base ≡ w.base) × (v.counts ≡ w.counts))
purges_or_not w _ _ _ (begins t q m) = inr (refl, refl)
purges_or_not w _ _ _ (goes_on t o c p e g r room) = inr (refl, refl)
purges_or_not w _ _ _ (commits t o reply e g r) = inr (refl, refl)
purges_or_not w _ _ _ (saves t o e) = inr (refl, refl)
purges_or_not w _ _ _ (goes_back t o e) = inr (refl, refl)
purges_or_not w _ _ _ (rolls_back t o e) = inr (refl, refl)
purges_or_not w _ _ _ (reads m q f a l u k) = inr (refl, refl)
purges_or_not w _ _ _ (audits m c l u) = inr (refl, refl)
purges_or_not w _ _ _ (purges m l u) = inl (m, l, u, refl, refl)
purges_or_not w _ _ _ (rewinds m q l u) = inr (refl, refl)
purges_or_not w _ _ _ (stops t o e f r) = inr (refl, refl)
purges_or_not w _ _ _ (fails t o e f g r) = inr (refl, refl)
purges_or_not w _ _ _ (is_busy t o n m u e r g) = inr (refl, refl)
purges_or_not w _ _ _ (is_full t o c p e g r f) = inr (refl, refl)
purges_or_not w _ _ _ (is_rejected t q e r) = inr (refl, refl)
purges_or_not w _ _ _ (is_open t q o r e) = inr (refl, refl)
purges_or_not w _ _ _ (number_is_rejected t q e r c k) = inr (refl, refl)
purges_or_not w _ _ _ (query_is_rejected m q e r) = inr (refl, refl)
purges_or_not w _ _ _ (misses m q e r l u k) = inr (refl, refl)
purges_or_not w _ _ _ (not_open s t e f) = inr (refl, refl)
purges_or_not w _ _ _ (too_old s m e p l) = inr (refl, refl)
purges_or_not w _ _ _ (future s m e p l) = inr (refl, refl)
purges_or_not w _ _ _ (not_quiet m n e) = inr (refl, refl)
purges_or_not w _ _ _ (lacks_memory_at_begin t q m) = inr (refl, refl)
purges_or_not w _ _ _ (lacks_memory t o e m) = inr (refl, refl)

pub by_other : (w v : World system) (i : theory.Step system) (a : theory.Answer system) → Next system w i a v
    → ((m : ℕ) → a ≢ theory.Purged m) → (v.base ≡ w.base) × (v.counts ≡ w.counts)
by_other w v i a n h = elim (purges_or_not w v i a n) [ inl p ↦ absurd (h p.0 p.3) | inr same ↦ same ]

pub total_none : (n : ℕ) → total n (λ _. 0) ≡ 0
total_none zero = refl
total_none (suc n) = omega (arith, total_none n)

-- WHAT COMMITS LEAVE

-- those before them are counted
counts_append : (f : ℕ → ℕ) (cs ds : List (Commit system))
    → counts_after system f (cs ++ ds) ≡ counts_after system (counts_after system f ds) cs
counts_append f [] ds = refl
counts_append f (c ∷ cs) ds = ap (bump c.tx.terminal) (counts_append f cs ds)

-- commits on what earlier ones left
leaves_on : (f : ℕ → ℕ) (b r : Rows) (cs ds : List (Commit system)) → Leaves f b ds r
    → IsSerial system (counts_after system f ds) r cs → Leaves f b (cs ++ ds) (version system r cs)
leaves_on f b r [] ds h s = h
leaves_on f b r (c ∷ cs) ds h s = (
  version system r cs,
  leaves_on f b r cs ds h s.1,
  subst (λ (g : ℕ → ℕ). IsCommit system g (version system r cs) c) (sym (counts_append f cs ds)) s.0,
  made (subst (λ (g : ℕ → ℕ). IsCommit system g (version system r cs) c) (sym (counts_append f cs ds)) s.0),
)
  where
    made : {g : ℕ → ℕ} (k : IsCommit system g (version system r cs) c)
        → map_after system (system.whole c.tx (version system r cs)) (version system r cs) ≡ k.after
    made k = ap (λ o. map_after system o (version system r cs)) k.effect

serial_drop : (f : ℕ → ℕ) (b : Rows) (n : ℕ) (cs : List (Commit system)) → IsSerial system f b cs
    → IsSerial system f b (drop n cs)
serial_drop f b zero cs h = h
serial_drop f b (suc n) [] h = h
serial_drop f b (suc n) (c ∷ cs) h = serial_drop f b n cs h.1

-- WHAT STEPS TELL

-- each terminal's commits are as many as are told
count_told : (cs : List (Commit system)) (t : ℕ)
    → counts_after system (λ _. 0) cs t ≡ count_of t (map transaction_of cs)
count_told [] t = refl
count_told (c ∷ cs) t = go (count_told cs t) (t == c.tx.terminal) refl
  where
    before : ℕ → ℕ
    before = counts_after system (λ _. 0) cs

    now : ℕ
    now = count_of t (map transaction_of cs)

    go : before t ≡ now → (b : Bool) → (t == c.tx.terminal) ≡ b
        → cond b (suc (before c.tx.terminal)) (before t) ≡ cond b (suc now) now
    go same true e = ap suc (ap before (sym (eqb-true t c.tx.terminal e)) ∙ same)
    go same false e = same

-- what a world has forgotten since it began with this base, and what the steps since have told
record HasPast (b : Rows) (h : CommitLog) (w : World system) : Type 0 where
  past : List (Commit system)
  number : length past ≡ horizon system w
  left : Leaves (λ _. 0) b past w.base
  counts : w.counts ≡ counts_after system (λ _. 0) past
  told : map transaction_of (w.history ++ past) ≡ h.commits
  requests : (t : ℕ) (o : Open system) → w.active t ≡ Some o → h.requests t ≡ Some o.request

begins_so : (b : Rows) (n : ℕ) (l : Layout) → HasPast b empty_log (world_at_opening system b n l)
begins_so b n l =
    record {
      past = [];
      number = sym (total_none system.terminal_limit);
      left = refl;
      counts = refl;
      told = refl;
      requests = λ t o e. absurd (some_none o (sym e));
    }

-- a moment's commits, those that were forgotten too
module _ (b : Rows) (h : CommitLog) (w : World system) (p : HasPast b h w) (made : IsReached system w) (m : ℕ)
    (l : horizon system w ≤ m) (u : m ≤ newest system w) where
  abbrev kept_to : List (Commit system)
  kept_to = drop (newest system w - m) w.history

  left_to : Leaves (λ _. 0) b (kept_to ++ p.past) (at system w m)
  left_to =
      leaves_on (λ _. 0) b w.base kept_to p.past p.left
      (subst (λ (f : ℕ → ℕ). IsSerial system f w.base kept_to) p.counts
      (serial_drop w.counts w.base (newest system w - m) w.history (history_is_serial system laws w made)))

  number_to : length (kept_to ++ p.past) ≡ m
  number_to =
      counted (horizon system w) (length w.history) m (length kept_to) (length p.past) (length (kept_to ++ p.past)) l u
      (length-drop (newest system w - m) w.history) p.number
      (length-append kept_to p.past)
    where
      counted : (h k m d e n : ℕ) → h ≤ m → m ≤ h + k → d ≡ k - (h + k - m) → e ≡ h → n ≡ d + e → n ≡ m
      counted h k m d e n l u is same all = omega (arith, l, u, is, same, all)

  is_version : IsVersion b h.commits w m (at system w m)
  is_version = record {
    later = take (newest system w - m) w.history;
    kept = kept_to;
    forgotten = p.past;
    order = sym (take-append-drop (newest system w - m) w.history);
    gone = p.number;
    all = p.told;
    number = number_to;
    left = left_to;
  }

  -- a purge
  purged_past : HasPast b (log_after_step h (theory.Purged m) (theory.Purge m)) (after_purge system w m)
  purged_past =
      record {
        past = kept_to ++ p.past;
        number = number_to ∙ sym (purge_leaves_later system laws w (after_purge system w m) m made (purges m l u)).0;
        left = left_to;
        counts = ap (λ f. counts_after system f kept_to) p.counts ∙ sym (counts_append (λ _. 0) kept_to p.past);
        told = ap (map transaction_of) (sym (append_assoc (take (newest system w - m) w.history) kept_to p.past)
            ∙ ap (λ z. z ++ p.past) (take-append-drop (newest system w - m) w.history)) ∙ p.told;
        requests = p.requests;
      }

  -- a rewind takes back those after its moment
  rewound_told : map transaction_of (kept_to ++ p.past) ≡ drop (length h.commits - m) h.commits
  rewound_told =
      ap (map transaction_of) (sym (drop-append-le (newest system w - m) w.history p.past (omega (arith, l))))
      ∙ (sym (drop-map transaction_of (newest system w - m) (w.history ++ p.past))
      ∙ (ap (λ z. drop z (map transaction_of (w.history ++ p.past))) many
      ∙ ap (λ z. drop (length z - m) z) p.told))
    where
      all : length (map transaction_of (w.history ++ p.past)) ≡ newest system w
      all = length-map (w.history ++ p.past) transaction_of
          ∙ omega (arith, length-append w.history p.past, p.number)

      many : newest system w - m ≡ length (map transaction_of (w.history ++ p.past)) - m
      many = ap (λ z. z - m) (sym all)

  rewound_past : HasPast b (log_after_step h (theory.Rewound m) (theory.Rewind m)) (after_rewind system w m)
  rewound_past = record {
    past = p.past;
    number = p.number;
    left = p.left;
    counts = p.counts;
    told = rewound_told;
    requests = p.requests;
  }

-- which goes on from step to step
module _ (b : Rows) (h : CommitLog) (w : World system) (p : HasPast b h w) where
  -- the world with other open transactions
  abbrev with_active : (ℕ → Option (Open system)) → World system
  with_active f = record {
    base = w.base;
    counts = w.counts;
    history = w.history;
    active = f;
    extents = w.extents;
    layout = w.layout;
  }

  -- where the commits stay
  beside : (g : ℕ → Option Request) (active : ℕ → Option (Open system))
      → ((u : ℕ) (o : Open system) → active u ≡ Some o → g u ≡ Some o.request)
      → HasPast b (record { commits = h.commits; requests = g }) (with_active active)
  beside g active requests = record {
    past = p.past;
    number = p.number;
    left = p.left;
    counts = p.counts;
    told = p.told;
    requests = requests;
  }

  -- a transaction began
  begun_past : (t : ℕ) (q : Request) (o : Open system) → o.request ≡ q
      → (u : ℕ) (r : Open system) → set t (Some o) w.active u ≡ Some r → set t (Some q) h.requests u ≡ Some r.request
  begun_past t q o is u r e = go (set_cases t (Some o) w.active u r e)
    where
      go : ((u ≡ t) × (Some o ≡ Some r)) ⊎ ((u ≢ t) × (w.active u ≡ Some r))
          → set t (Some q) h.requests u ≡ Some r.request
      go (inl (same, is_it)) =
          set_same t (Some q) h.requests u same
          ∙ ap Some (sym is ∙ ap (λ (z : Open system). z.request) (some_inj o r is_it))
      go (inr (other, lives)) = set_other t (Some q) h.requests u other ∙ p.requests u r lives

  -- one went on, as it is now
  gone_on : (t : ℕ) (o o' : Open system) → w.active t ≡ Some o → o'.request ≡ o.request
      → (u : ℕ) (r : Open system) → set t (Some o') w.active u ≡ Some r → h.requests u ≡ Some r.request
  gone_on t o o' lives is u r e = go (set_cases t (Some o') w.active u r e)
    where
      go : ((u ≡ t) × (Some o' ≡ Some r)) ⊎ ((u ≢ t) × (w.active u ≡ Some r)) → h.requests u ≡ Some r.request
      go (inl (same, is_it)) =
          ap h.requests same ∙ (p.requests t o lives
          ∙ ap Some (sym is ∙ ap (λ (z : Open system). z.request) (some_inj o' r is_it)))
      go (inr (other, here)) = p.requests u r here

  -- one ended
  end_kept : (t u : ℕ) (r : Open system) → set t None w.active u ≡ Some r → h.requests u ≡ Some r.request
  end_kept t u r e = go (set_cases t None w.active u r e)
    where
      go : ((u ≡ t) × (None ≡ Some r)) ⊎ ((u ≢ t) × (w.active u ≡ Some r)) → h.requests u ≡ Some r.request
      go (inl (same, no_such)) = absurd (some_none r (sym no_such))
      go (inr (other, here)) = p.requests u r here

  -- the number of a commit is told
  number_told : (made : IsReached system w) (t : ℕ) (o : Open system) → w.active t ≡ Some o
      → o.number ≡ suc (count_of t h.commits)
  number_told made t o e =
      ((reached_sound system laws w made).each t o e).number
      ∙ ap suc (ap (λ (f : ℕ → ℕ). counts_after system f w.history t) p.counts
      ∙ (ap (λ (f : ℕ → ℕ). f t) (sym (counts_append (λ _. 0) w.history p.past))
      ∙ (count_told (w.history ++ p.past) t ∙ ap (count_of t) p.told)))

  commit_told : (made : IsReached system w) (t : ℕ) (o : Open system) (y : Reply) → w.active t ≡ Some o
      → map transaction_of ((after_commit system w t o y).history ++ p.past)
      ≡ with_commit t (h.requests t) y h.commits
  commit_told made t o y e =
      ap (λ z. record { tx = tx_of system t o; reply = y } ∷ z) p.told
      ∙ (ap (λ (n : ℕ). record { tx = record { terminal = t; number = n; request = o.request }; reply = y } ∷ h.commits)
      (number_told made t o e)
      ∙ ap (λ z. with_commit t z y h.commits) (sym (p.requests t o e)))

  committed_past : (made : IsReached system w) (m t : ℕ) (o : Open system) (y : Reply) → w.active t ≡ Some o
      → HasPast b (log_after_step h (theory.Committed m y) (theory.Advance t)) (after_commit system w t o y)
  committed_past made m t o y e = record {
    past = p.past;
    number = p.number;
    left = p.left;
    counts = p.counts;
    told = commit_told made t o y e;
    requests = end_kept t;
  }

  next_past : (made : IsReached system w) (i : theory.Step system) (a : theory.Answer system) (v : World system)
      → Next system w i a v → HasPast b (log_after_step h a i) v
  next_past made _ _ _ (begins t q c) = beside (set t (Some q) h.requests) _
      (begun_past t q (open_at_begin system w t q) refl)
  next_past made _ _ _ (goes_on t o c q e g r room) = beside h.requests _ (gone_on t o _ e refl)
  next_past made _ _ _ (commits t o y e g r) = committed_past made (suc (newest system w)) t o y e
  next_past made _ _ _ (saves t o e) = beside h.requests _ (gone_on t o _ e refl)
  next_past made _ _ _ (goes_back t o e) = beside h.requests _ (gone_on t o _ e refl)
  next_past made _ _ _ (rolls_back t o e) = beside h.requests _ (end_kept t)
  next_past made _ _ _ (purges m l u) = purged_past b h w p made m l u
  next_past made _ _ _ (rewinds m q l u) = rewound_past b h w p made m l u
  next_past made _ _ _ (stops t o e f r) = beside h.requests _ (end_kept t)
  next_past made _ _ _ (fails t o e f g r) = beside h.requests _ (end_kept t)
  next_past made _ _ _ n = p

run_past : (b : Rows) (h : CommitLog) (w v : World system) (is : List (theory.Step system))
    (ys : List (theory.Answer system))
    → HasPast b h w → IsReached system w → Runs system w is ys v → HasPast b (log_of_steps h is ys) v
run_past b h w v [] [] p made same = subst (HasPast b h) same p
run_past b h w v [] (a ∷ ys) p made r = absurd r
run_past b h w v (i ∷ is) [] p made r = absurd r
run_past b h w v (i ∷ is) (a ∷ ys) p made (mid, n, rest) =
    run_past b (log_after_step h a i) mid v is ys (next_past b h w p made i a mid n)
    (run_is_reached system laws w mid (i ∷ []) (a ∷ []) made (mid, n, refl)) rest

pub version_at : (w : World system) (m : ℕ) (made : IsReached system w) → horizon system w ≤ m → m ≤ newest system w
    → IsVersion made.base (commits_of_steps made.steps made.answers) w m (at system w m)
version_at w m made l u =
    let first = opening_is_reached system laws made.base made.extents made.layout made.good in
    is_version made.base (log_of_steps empty_log made.steps made.answers) w
    (run_past made.base empty_log (world_at_opening system made.base made.extents made.layout) w made.steps made.answers
    (begins_so made.base made.extents made.layout) first made.run) made m l u
