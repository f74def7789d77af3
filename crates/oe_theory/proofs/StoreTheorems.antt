-- The store's moments, what it shows of its world, and all its steps.
use Rattle.std.proofs.Common.{◌≡◌, ℕ, suc, zero, ◌+◌, ◌-◌, ◌<◌, ◌≤◌, Option, None, Some, List, [], ◌∷◌, take, drop}
use Rattle.std.proofs.Common.{length, refl, sym, ap, ◌∙◌, subst, arith}
use Rattle.std.proofs.lemmas.List.{take-append-drop}
use Rattle.oe_theory.specs.Machine.{Machine}
use Rattle.oe_theory.specs.World.{bump, total, Commit, World, counts_after, counts_now, counts_at, horizon, newest, at}
use Rattle.oe_theory.specs.World.{latest, tables}
use Rattle.oe_theory.specs.Next.{count_open, IsPast, Step, Begin, Advance, Save, Back, Rollback, Read, Audit, Purge}
use Rattle.oe_theory.specs.Next.{Rewind, Committed, Audited, Purged, Rewound, Too_old, Future, commits, reads, audits}
use Rattle.oe_theory.specs.Next.{purges, rewinds, query_is_rejected, misses, too_old, future, not_quiet}
use Rattle.oe_theory.specs.Laws.{Sound, Laws}
use Rattle.oe_theory.specs.Undo.{unwind_open, unwind_commits}
use Rattle.oe_theory.specs.Store.{Slot, Store, tx_in, open_of, seals_of, counts_before, world_of, newest_version}
use Rattle.oe_theory.specs.Store.{newest_of, horizon_of, version_of, counts_of, after_seal, after_purge, after_rewind}
use Rattle.oe_theory.specs.Store.{count_slots, IsPastIn, all_below}
use Rattle.oe_theory.specs.StoreTheorems.{IsStanding, Leads, Commits_here, Reads_here, Misses_here}
use Rattle.oe_theory.specs.StoreTheorems.{Query_is_rejected_here, Audits_here, Purges_here, Rewinds_here}
use Rattle.oe_theory.specs.StoreTheorems.{Is_not_quiet_here, Is_too_old_here, Is_future_here, Steps_of_the_store}
use Rattle.oe_theory.specs.StoreTheorems.{World_is_shown}
use Rattle.oe_theory.proofs.Steps.{counts-append, purged_counts}
use Rattle.oe_theory.proofs.Past.{purged_horizon}
use Rattle.oe_theory.proofs.Records.{commits_unwound}
use Rattle.oe_theory.proofs.StoreFacts.{counts_same, latest_same}
use Rattle.oe_theory.proofs.StoreSteps.{leads, tables_here, slots_here, seals_here, counts_here, open_in, is_open_in}
use Rattle.oe_theory.proofs.StoreSteps.{is_shut_in, used_here, granted_here, acts_here, slots_put, begins_here}
use Rattle.oe_theory.proofs.StoreSteps.{is_rejected_here, is_open_here, number_is_rejected_here}
use Rattle.oe_theory.proofs.StoreSteps.{lacks_memory_at_begin_here, goes_on_here, is_room_here, stops_here, fails_here}
use Rattle.oe_theory.proofs.StoreSteps.{is_busy_here, is_full_here, lacks_memory_here, saves_here, goes_back_here}
use Rattle.oe_theory.proofs.StoreSteps.{rolls_back_here, is_not_open_here}
use Rattle.oe_theory.proofs.Theorems.{reached_sound}

module _ (M : Machine) (L : Laws M) where
  open M use {Map, Record, Request, terminal_limit}

  -- moments
  newest_counted : (w : World M) → Sound M w → newest M w ≡ total terminal_limit (counts_now M w)
  newest_counted w s =
      let h = purged_horizon M L w s (newest M w) (omega arith) (omega arith) in
      let none : newest M w - newest M w ≡ 0 = omega arith in
      sym h ∙ ap (λ (j : ℕ). total terminal_limit (counts_after M w.counts (drop j w.history))) none

  pub newest_here : (s : Store M) → IsStanding M s → newest M (world_of M s) ≡ newest_of M s
  newest_here s h = newest_counted (world_of M s) (reached_sound M L (world_of M s) h.reached)
      ∙ ap (total terminal_limit) (counts_here M L s h)

  length-seals : (cs : List (Commit M)) → length (seals_of M cs) ≡ length cs
  length-seals [] = refl
  length-seals (c ∷ cs) = ap suc (length-seals cs)

  pub commits_here_are : (s : Store M) → IsStanding M s → length s.seals ≡ length (world_of M s).history
  commits_here_are s h = sym (ap length (seals_here M L s h)) ∙ length-seals (world_of M s).history

  pub horizon_here : (s : Store M) → IsStanding M s → horizon M (world_of M s) ≡ horizon_of M s
  horizon_here s h = go (horizon M (world_of M s)) (newest_of M s) (length (world_of M s).history) (length s.seals)
      (newest_here s h) (commits_here_are s h)
    where
      go : (a b c d : ℕ) → a + c ≡ b → d ≡ c → a ≡ b - d
      go a b c d p q = omega arith

  pub latest_here : (s : Store M) → IsStanding M s → latest M (world_of M s) ≡ newest_version M s
  latest_here s h =
      sym (latest_same M L (world_of M s) (reached_sound M L (world_of M s) h.reached) s.undo h.keeps)
      ∙ ap (unwind_open M s.undo.active (all_below M terminal_limit)) (tables_here M L s h)

  pub version_here : (s : Store M) → IsStanding M s → (m : ℕ) → at M (world_of M s) m ≡ version_of M s m
  version_here s h m =
      let w = world_of M s in
      sym (commits_unwound M L w.layout w.base (newest M w - m) w.history s.undo.history h.keeps.commits)
      ∙ (ap (unwind_commits M (take (newest M w - m) s.undo.history)) (latest_here s h)
      ∙ ap (λ (n : ℕ). unwind_commits M (take (n - m) s.undo.history) (newest_version M s)) (newest_here s h))

  -- the seals and counts up to a moment
  seals-take : (j : ℕ) (cs : List (Commit M)) → seals_of M (take j cs) ≡ take j (seals_of M cs)
  seals-take zero cs = refl
  seals-take (suc j) [] = refl
  seals-take (suc j) (c ∷ cs) = ap (λ z. record { tx = c.tx; reply = c.reply } ∷ z) (seals-take j cs)

  seals-drop : (j : ℕ) (cs : List (Commit M)) → seals_of M (drop j cs) ≡ drop j (seals_of M cs)
  seals-drop zero cs = refl
  seals-drop (suc j) [] = refl
  seals-drop (suc j) (c ∷ cs) = seals-drop j cs

  counts_dropped : (f : ℕ → ℕ) (j : ℕ) (cs : List (Commit M))
      → counts_after M f (drop j cs) ≡ counts_before M (counts_after M f cs) (take j (seals_of M cs))
  counts_dropped f j cs =
      sym (counts_same M L (counts_after M f (drop j cs)) (take j cs))
      ∙ (ap (λ (g : ℕ → ℕ). counts_before M g (seals_of M (take j cs)))
      (counts-append M L f (take j cs) (drop j cs) ∙ ap (counts_after M f) (take-append-drop j cs))
      ∙ ap (counts_before M (counts_after M f cs)) (seals-take j cs))

  pub counts_at_here : (s : Store M) → IsStanding M s → (m : ℕ) → counts_at M (world_of M s) m ≡ counts_of M s m
  counts_at_here s h m =
      let w = world_of M s in
      counts_dropped w.counts (newest M w - m) w.history
      ∙ (ap (λ (f : ℕ → ℕ). counts_before M f (take (newest M w - m) (seals_of M w.history))) (counts_here M L s h)
      ∙ (ap (λ z. counts_before M s.counts (take (newest M w - m) z)) (seals_here M L s h)
      ∙ ap (λ (n : ℕ). counts_before M s.counts (take (n - m) s.seals)) (newest_here s h)))

  pub world_is_shown : World_is_shown M
  world_is_shown s h =
      record {
        tables = tables_here M L s h;
        counts = counts_here M L s h;
        newest = newest_here s h;
        horizon = horizon_here s h;
        latest = latest_here s h;
        versions = version_here s h;
        counts_at = counts_at_here s h;
        used = used_here M L s h;
      }

  -- a commit
  pub commits_here : Commits_here M
  commits_here s t p y h e g r =
      subst (λ (n : ℕ). Leads M s (Advance t) (Committed (suc n) y) (after_seal M t p y s)) (newest_here s h)
      (leads M L s h (Advance t) (Committed (suc (newest M (world_of M s))) y) _
      (commits t (open_in M L s t p) y (is_open_in M L s t p e) (granted_here M L s h t p g)
      (acts_here M L s h t p ∙ r))
      (after_seal M t p y s) refl (tables_here M L s h) (slots_put M L s h t None None refl)
      (ap (λ z. record { tx = tx_in M t p; reply = y } ∷ z) (seals_here M L s h)) (ap (bump t) (counts_here M L s h))
      refl refl)

  -- a moment that can be read
  not_before : (s : Store M) → IsStanding M s → (m : ℕ) → horizon_of M s ≤ m → horizon M (world_of M s) ≤ m
  not_before s h m b = subst (λ (n : ℕ). n ≤ m) (sym (horizon_here s h)) b

  not_after : (s : Store M) → IsStanding M s → (m : ℕ) → m ≤ newest_of M s → m ≤ newest M (world_of M s)
  not_after s h m b = subst (λ (n : ℕ). m ≤ n) (sym (newest_here s h)) b

  pub asked : (s : Store M) → IsStanding M s → (q : M.Query)
      → M.query_rejection q (tables M (world_of M s)) ≡ M.query_rejection q s.tables
  asked s h q = ap (M.query_rejection q) (tables_here M L s h)

  found_here : (s : Store M) → IsStanding M s → (q : M.Query) (m : ℕ)
      → M.find q (at M (world_of M s) m) ≡ M.find q (version_of M s m)
  found_here s h q m = ap (M.find q) (version_here s h m)

  pub reads_here : Reads_here M
  reads_here s m q f h e a b r =
      record {
        next = reads m q f (asked s h q ∙ e) (not_before s h m a) (not_after s h m b) (found_here s h q m ∙ r);
        stands = h;
      }

  pub misses_here : Misses_here M
  misses_here s m q x h e a b r =
      record {
        next = misses m q x (asked s h q ∙ e) (not_before s h m a) (not_after s h m b) (found_here s h q m ∙ r);
        stands = h;
      }

  pub query_is_rejected_here : Query_is_rejected_here M
  query_is_rejected_here s m q x h e = record { next = query_is_rejected m q x (asked s h q ∙ e); stands = h }

  pub audits_here : Audits_here M
  audits_here s m c h a b =
      subst (λ (r : Map). Leads M s (Audit m c) (Audited (M.verdict c r)) s) (version_here s h m)
      (record { next = audits m c (not_before s h m a) (not_after s h m b); stands = h })

  pub past_here : (s : Store M) → IsStanding M s → (i : Step M) → IsPastIn M s i → IsPast M (world_of M s) i
  past_here s h (Begin t q) x = x
  past_here s h (Advance t) x = x
  past_here s h (Save t) x = x
  past_here s h (Back t) x = x
  past_here s h (Rollback t) x = x
  past_here s h (Read m q) x = asked s h q ∙ x
  past_here s h (Audit m c) x = x
  past_here s h (Purge m) x = x
  past_here s h (Rewind m) x = λ t. is_shut_in M L s t (x t)

  pub is_too_old_here : Is_too_old_here M
  is_too_old_here s i m h e x b =
      subst (λ (n : ℕ). Leads M s i (Too_old n) s) (horizon_here s h)
      (record {
        next = too_old i m e (past_here s h i x) (subst (λ (n : ℕ). m < n) (sym (horizon_here s h)) b);
        stands = h;
      })

  pub is_future_here : Is_future_here M
  is_future_here s i m h e x b =
      subst (λ (n : ℕ). Leads M s i (Future n) s) (newest_here s h)
      (record {
        next = future i m e (past_here s h i x) (subst (λ (n : ℕ). n < m) (sym (newest_here s h)) b);
        stands = h;
      })

  -- purge and rewind
  pub purges_here : Purges_here M
  purges_here s m h a b =
      let w = world_of M s in
      leads M L s h (Purge m) (Purged m) _ (purges m (not_before s h m a) (not_after s h m b)) (after_purge M m s)
      (ap (λ (n : ℕ). record { active = s.undo.active; history = take (n - m) s.undo.history }) (newest_here s h))
      (tables_here M L s h) (slots_here M L s h)
      (seals-take (newest M w - m) w.history
      ∙ (ap (take (newest M w - m)) (seals_here M L s h) ∙ ap (λ (n : ℕ). take (n - m) s.seals) (newest_here s h)))
      (purged_counts M L w m ∙ counts_here M L s h) refl refl

  pub rewinds_here : Rewinds_here M
  rewinds_here s m h quiet a b =
      let w = world_of M s in
      leads M L s h (Rewind m) (Rewound m) _
      (rewinds m (λ t. is_shut_in M L s t (quiet t)) (not_before s h m a) (not_after s h m b)) (after_rewind M m s)
      (ap (λ (n : ℕ). record { active = s.undo.active; history = drop (n - m) s.undo.history }) (newest_here s h))
      (ap (unwind_commits M (take (newest M w - m) s.undo.history)) (tables_here M L s h)
      ∙ ap (λ (n : ℕ). unwind_commits M (take (n - m) s.undo.history) s.tables) (newest_here s h))
      (slots_here M L s h)
      (seals-drop (newest M w - m) w.history
      ∙ (ap (drop (newest M w - m)) (seals_here M L s h) ∙ ap (λ (n : ℕ). drop (n - m) s.seals) (newest_here s h)))
      (counts_at_here s h m) refl refl

  pub open_count : (s : Store M) (n : ℕ) → count_open M (world_of M s).active n ≡ count_slots M s.slots n
  open_count s zero = refl
  open_count s (suc n) = go (s.slots n) (count_open M (world_of M s).active n) (count_slots M s.slots n)
      (open_count s n)
    where
      go : (v : Option (Slot M)) (a b : ℕ) → a ≡ b
          → elim (open_of M (s.undo.active n) s.tables v) as (λ _. ℕ) [ None ↦ a | Some o ↦ suc a ] ≡ elim v as (λ _. ℕ)
          [ None ↦ b | Some p ↦ suc b ]
      go None a b e = e
      go (Some p) a b e = ap suc e

  pub is_not_quiet_here : Is_not_quiet_here M
  is_not_quiet_here s m n h e = record { next = not_quiet m n (open_count s terminal_limit ∙ e); stands = h }

  pub steps_of_the_store : Steps_of_the_store M
  steps_of_the_store =
      record {
        begins = begins_here M L;
        is_rejected = is_rejected_here M L;
        is_open = is_open_here M L;
        number_is_rejected = number_is_rejected_here M L;
        lacks_memory_at_begin = lacks_memory_at_begin_here M L;
        goes_on = goes_on_here M L;
        is_room = is_room_here M L;
        commits = commits_here;
        stops = stops_here M L;
        fails = fails_here M L;
        is_busy = is_busy_here M L;
        is_full = is_full_here M L;
        lacks_memory = lacks_memory_here M L;
        saves = saves_here M L;
        goes_back = goes_back_here M L;
        rolls_back = rolls_back_here M L;
        is_not_open = is_not_open_here M L;
        reads = reads_here;
        misses = misses_here;
        query_is_rejected = query_is_rejected_here;
        audits = audits_here;
        purges = purges_here;
        rewinds = rewinds_here;
        is_not_quiet = is_not_quiet_here;
        is_too_old = is_too_old_here;
        is_future = is_future_here;
      }
