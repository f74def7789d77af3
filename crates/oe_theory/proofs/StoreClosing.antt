-- What holds of every store that stands, and what is left of it once its open transactions were rolled back.
use Rattle.std.proofs.Common.{◌≡◌, ℕ, suc, zero, ◌+◌, ◌-◌, ◌<◌, ◌≤◌, Option, None, Some, List, [], ◌∷◌, ◌++◌, take}
use Rattle.std.proofs.Common.{length, length-drop, refl, sym, ap, ◌∙◌, subst, inl, inr, arith}
use Rattle.std.specs.Prelude.{◌⊎◌, ◌≢◌}
use Rattle.std.proofs.lemmas.Bool.{cases_eq}
use Rattle.oe_theory.specs.Machine.{Machine}
use Rattle.oe_theory.specs.World.{overlay, Commit, latest, set}
use Rattle.oe_theory.specs.Next.{fill_of}
use Rattle.oe_theory.specs.Laws.{IsGood, Alone, Sound, Laws}
use Rattle.oe_theory.specs.Undo.{unwind, unwind_open, unwind_commits, row_before_commits, HasRecordIn, GoesBack}
use Rattle.oe_theory.specs.Undo.{open_records, commit_records, IsAmong, AreAll, AreOfCommits, lengths_of, used_open}
use Rattle.oe_theory.specs.Store.{Slot, Store, tx_in, changes_of, world_of, newest_version, newest_of, version_of}
use Rattle.oe_theory.specs.Store.{commits_after, without_slot, all_below, IsQuietIn, count_slots}
use Rattle.oe_theory.specs.StoreTheorems.{IsStanding, AreAllIn, Store_is_orderly, Runs_alone_here, Version_is_here}
use Rattle.oe_theory.specs.StoreTheorems.{Row_is_here, Row_without_record_here, Records_are_apart_here}
use Rattle.oe_theory.specs.StoreTheorems.{Each_goes_back_here, Closing_leaves_newest, Facts_of_the_store}
use Rattle.oe_theory.specs.StoreTheorems.{Rollback_leaves_versions, Used_is_a_sum, Sealing_uses_the_same}
use Rattle.oe_theory.proofs.Sets.{set_idle, set_cases, some_none, set_same, set_other}
use Rattle.oe_theory.proofs.Steps.{good_latest, to_alone, reads_alone, acts_alone}
use Rattle.oe_theory.proofs.Records.{open_unwound, at_restored_open, at_restored_commits}
use Rattle.oe_theory.proofs.StoreFacts.{below}
use Rattle.oe_theory.proofs.StoreSteps.{tables_here, counts_here, open_in, is_open_in, is_shut_in, found, mark_here}
use Rattle.oe_theory.proofs.StoreSteps.{length_here, used_here, granted_here, asks_here, acts_here, rolls_back_here}
use Rattle.oe_theory.proofs.StoreTheorems.{newest_here, latest_here, version_here, counts_at_here, commits_here_are}
use Rattle.oe_theory.proofs.StoreTheorems.{world_is_shown}
use Rattle.oe_theory.proofs.StoreConditions.{conditions_are_exact}
use Rattle.oe_theory.specs.Theorems.{IsKeptByChanges}
use Rattle.oe_theory.proofs.Theorems.{reached_sound, extents_suffice, versions_are_good}
use Rattle.oe_theory.proofs.RecordKeys.{row_without_record, records_are_apart}
use Rattle.oe_theory.proofs.InTurn.{each_goes_back}

module _ (M : Machine) (L : Laws M) where
  open M use {Map, Record, terminal_limit}

  sound_here : (s : Store M) → IsStanding M s → Sound M (world_of M s)
  sound_here s h = reached_sound M L (world_of M s) h.reached

  -- the newest version, by the open transactions in any order
  all_open : (s : Store M) (ts : List ℕ) → AreAllIn M s ts → AreAll M (world_of M s) ts
  all_open s ts all t o e = let f = found M L (s.undo.active t) s.tables (s.slots t) o e in all t f.0 f.1

  newest_unwound : (s : Store M) → IsStanding M s → (ts : List ℕ) → AreAllIn M s ts
      → unwind_open M s.undo.active ts s.tables ≡ newest_version M s
  newest_unwound s h ts all =
      ap (unwind_open M s.undo.active ts) (sym (tables_here M L s h))
      ∙ (open_unwound M L ts (world_of M s) (sound_here s h) s.undo h.keeps (all_open s ts all) ∙ latest_here M L s h)

  pub version_is_here : Version_is_here M
  version_is_here s ts m h all = ap (unwind_commits M (take (commits_after M s m) s.undo.history))
      (newest_unwound s h ts all)

  pub row_is_here : Row_is_here M
  row_is_here s ts m k h all =
      sym (at_restored_commits M L (take (commits_after M s m) s.undo.history) (unwind_open M s.undo.active ts s.tables)
      k
      ∙ ap (row_before_commits M k (take (commits_after M s m) s.undo.history))
      (at_restored_open M L s.undo.active ts s.tables k))
      ∙ ap (λ (z : Map). M.row_at z k) (version_is_here s ts m h all)

  pub row_without_record_here : Row_without_record_here M
  row_without_record_here s m k h no_open no_commit =
      sym (ap (λ (z : Map). M.row_at z k) (version_here M L s h m))
      ∙ (row_without_record M L (world_of M s) s.undo m k h.reached h.keeps no_open
      (λ x. no_commit (subst (λ (n : ℕ). HasRecordIn M k (take (n - m) s.undo.history)) (newest_here M L s h) x))
      ∙ ap (λ (z : Map). M.row_at z k) (tables_here M L s h))

  pub records_are_apart_here : Records_are_apart_here M
  records_are_apart_here s t v k h a b = records_are_apart M L (world_of M s) s.undo t v k h.reached h.keeps a b

  pub each_goes_back_here : (P : Map → Type 0) → IsKeptByChanges M P → Each_goes_back_here M P
  each_goes_back_here P kept s ts h all =
      subst (λ (z : Map). GoesBack M s.layout P (open_records M s.undo.active ts ++ commit_records M s.undo.history) z)
      (tables_here M L s h)
      (each_goes_back M L P kept (world_of M s) s.undo ts h.reached h.keeps (all_open s ts all))

  -- what holds of every store
  terminal_here : (s : Store M) → IsStanding M s → (t : ℕ) (p : Slot M) → s.slots t ≡ Some p → t < terminal_limit
  terminal_here s h t p e = ((sound_here s h).each t (open_in M L s t p) (is_open_in M L s t p e)).terminal.1

  length-history : (l : M.Layout) (b : Map) (cs : List (Commit M)) (ss : List (List Record))
      → AreOfCommits M l b cs ss
      → length ss ≡ length cs
  length-history l b [] [] h = refl
  length-history l b [] (s ∷ ss) h = absurd h
  length-history l b (c ∷ cs) [] h = absurd h
  length-history l b (c ∷ cs) (s ∷ ss) h = ap suc (length-history l b cs ss h.1)

  mark_within : (s : Store M) → IsStanding M s → (t : ℕ) (p : Slot M) → s.slots t ≡ Some p
      → p.mark_count ≤ length (s.undo.active t)
  mark_within s h t p e =
      let bs = s.undo.active t in
      omega (
        arith,
        mark_here M L s h t p e,
        length-drop (length bs - p.mark_count) (changes_of M bs s.tables),
        length_here M L s h t p e,
      )

  some_counted : (slots : ℕ → Option (Slot M)) (n t : ℕ) (p : Slot M) → t < n → slots t ≡ Some p
      → 0 < count_slots M slots n
  some_counted slots zero t p l e = absurd (omega (arith, l))
  some_counted slots (suc n) t p l e = go (slots n) refl (cases_eq t n) (λ i. some_counted slots n t p i e)
    where
      go : (v : Option (Slot M)) → slots n ≡ v → (t ≡ n) ⊎ (t ≢ n) → (t < n → 0 < count_slots M slots n)
          → 0 < elim v as (λ _. ℕ) [ None ↦ count_slots M slots n | Some p ↦ suc (count_slots M slots n) ]
      go (Some q) i c f = omega arith
      go None i (inl c) f = absurd (some_none p (sym e ∙ (ap slots c ∙ i)))
      go None i (inr c) f = f (omega (arith, l, c))

  none_open : (s : Store M) → IsStanding M s → count_slots M s.slots terminal_limit ≡ 0 → IsQuietIn M s.slots
  none_open s h z t = go (s.slots t) refl
    where
      go : (v : Option (Slot M)) → s.slots t ≡ v → v ≡ None
      go None e = refl
      go (Some p) e = absurd (omega (arith, z, some_counted s.slots terminal_limit t p (terminal_here s h t p e) e))

  tables_quiet : (s : Store M) → IsStanding M s → IsQuietIn M s.slots → s.tables ≡ newest_version M s
  tables_quiet s h quiet = newest_unwound s h [] (λ t p e. absurd (some_none p (sym e ∙ quiet t)))

  none_after : (n : ℕ) → 0 ≡ n - n
  none_after n = omega arith

  pub store_is_orderly : Store_is_orderly M
  store_is_orderly s h =
      let w = world_of M s in
      record {
        terminal = λ t p e. ((sound_here s h).each t (open_in M L s t p) (is_open_in M L s t p e)).terminal;
        number = λ t p e. ((sound_here s h).each t (open_in M L s t p) (is_open_in M L s t p e)).number
            ∙ ap (λ (f : ℕ → ℕ). suc (f t)) (counts_here M L s h);
        mark = mark_within s h;
        others = λ t e. h.keeps.others t (is_shut_in M L s t e);
        sealed = length-history w.layout w.base w.history s.undo.history h.keeps.commits
            ∙ sym (commits_here_are M L s h);
        kept = omega (arith, newest_here M L s h, commits_here_are M L s h);
        within = subst (λ (n : ℕ). n ≤ s.extents) (used_here M L s h) (extents_suffice M L w h.reached);
        quiet = none_open s h;
        quiet_tables = tables_quiet s h;
        newest = ap (λ (j : ℕ). unwind_commits M (take j s.undo.history) (newest_version M s))
            (none_after (newest_of M s));
        good = λ m. subst (λ (f : ℕ → ℕ). M.Good f (version_of M s m)) (counts_at_here M L s h m)
            (subst (M.Good _) (version_here M L s h m) (versions_are_good M L w h.reached m));
      }

  -- an open transaction is where its program alone would be
  pub runs_alone_here : Runs_alone_here M
  runs_alone_here s t p h e =
      let w = world_of M s in
      let o = open_in M L s t p in
      let i = is_open_in M L s t p e in
      let sound = sound_here s h in
      let there = latest_here M L s h in
      record {
        known = subst (λ (r : Map). M.rejection p.request r ≡ None) there (sound.each t o i).known;
        good = subst (IsGood M s.counts (tx_in M t p)) there
            (subst (λ (f : ℕ → ℕ). IsGood M f (tx_in M t p) (latest M w)) (counts_here M L s h)
            (good_latest M L w sound t o i));
        alone = subst (λ (r : Map). Alone M (tx_in M t p) r o.now) there (to_alone M L w sound t o i);
        asks = sym (asks_here M L s h t p)
            ∙ (reads_alone M L w sound t o i
            ∙ ap (λ (r : Map). M.ask (tx_in M t p) p.position (overlay M o.now.changes r)) there);
        acts = λ g. sym (acts_here M L s h t p)
            ∙ (acts_alone M L w sound t o i (granted_here M L s h t p g)
            ∙ ap (λ (r : Map). M.act (tx_in M t p) p.position (overlay M o.now.changes r)) there);
      }

  -- a rollback, also where none is open, leaves the newest version
  dropped_idle : (s : Store M) → IsStanding M s → (t : ℕ) → s.slots t ≡ None → s ≡ without_slot M t s
  dropped_idle s h t e =
      let none = h.keeps.others t (is_shut_in M L s t e) in
      λ i. record {
        tables = ap (λ (bs : List Record). unwind M bs s.tables) (sym none) i;
        undo = record { active = sym (set_idle t [] s.undo.active none) i; history = s.undo.history };
        slots = sym (set_idle t None s.slots e) i;
        seals = s.seals;
        counts = s.counts;
        extents = s.extents;
        layout = s.layout;
      }

  dropped_stands : (s : Store M) → IsStanding M s → (t : ℕ) → IsStanding M (without_slot M t s)
  dropped_stands s h t = go (s.slots t) refl
    where
      go : (v : Option (Slot M)) → s.slots t ≡ v → IsStanding M (without_slot M t s)
      go None e = subst (IsStanding M) (dropped_idle s h t e) h
      go (Some p) e = (rolls_back_here M L s t p h e).stands

  all_here : (s : Store M) → IsStanding M s → AreAllIn M s (all_below M terminal_limit)
  all_here s h t p e = below M L terminal_limit t (terminal_here s h t p e)

  dropped_newest : (s : Store M) → IsStanding M s → (t : ℕ) → newest_version M (without_slot M t s) ≡ newest_version M s
  dropped_newest s h t = newest_unwound s h (t ∷ all_below M terminal_limit) (λ u p e. inr (all_here s h u p e))

  pub rollback_leaves_versions : Rollback_leaves_versions M
  rollback_leaves_versions s t h =
      record {
        stands = dropped_stands s h t;
        versions = λ m. ap (unwind_commits M (take (commits_after M s m) s.undo.history)) (dropped_newest s h t);
        newest = dropped_newest s h t;
        idle = λ e. sym (dropped_idle s h t e);
      }

  still_all : (s : Store M) (t : ℕ) (ts : List ℕ) → AreAllIn M s (t ∷ ts) → AreAllIn M (without_slot M t s) ts
  still_all s t ts all u p e = go (set_cases t None s.slots u p e)
    where
      rest : u ≢ t → (u ≡ t) ⊎ IsAmong M u ts → IsAmong M u ts
      rest ne (inl i) = absurd (ne i)
      rest ne (inr i) = i

      go : ((u ≡ t) × (None ≡ Some p)) ⊎ ((u ≢ t) × (s.slots u ≡ Some p)) → IsAmong M u ts
      go (inl x) = absurd (some_none p (sym x.1))
      go (inr x) = rest x.0 (all u p x.1)

  pub closing_leaves_newest : Closing_leaves_newest M
  closing_leaves_newest s [] h all =
      record {
        stands = h;
        quiet = nobody;
        tables = tables_quiet s h nobody;
        versions = λ m. refl;
        seals = refl;
        counts = refl;
      }
    where
      none : (t : ℕ) (v : Option (Slot M)) → s.slots t ≡ v → v ≡ None
      none t None e = refl
      none t (Some p) e = absurd (all t p e)

      nobody : IsQuietIn M s.slots
      nobody t = none t (s.slots t) refl
  closing_leaves_newest s (t ∷ ts) h all =
      let c = closing_leaves_newest (without_slot M t s) ts (dropped_stands s h t) (still_all s t ts all) in
      record {
        stands = c.stands;
        quiet = c.quiet;
        tables = c.tables ∙ dropped_newest s h t;
        versions = λ m. c.versions m ∙ ap (unwind_commits M (take (commits_after M s m) s.undo.history))
            (dropped_newest s h t);
        seals = c.seals;
        counts = c.counts;
      }

  -- one terminal's share in what is used
  used_above : (active : ℕ → List Record) (t n : ℕ) (bs : List Record) → n ≤ t
      → used_open M (set t bs active) n ≡ used_open M active n
  used_above active t zero bs h = refl
  used_above active t (suc n) bs h =
      let e = ap (λ (z : List Record). (fill_of M (lengths_of M z)).0)
      (set_other t bs active n (λ q. omega (arith, q, h))) in
      omega (arith, used_above active t n bs (omega (arith, h)), e)

  used_set : (active : ℕ → List Record) (t n : ℕ) (bs : List Record) → t < n
      → used_open M (set t bs active) n + (fill_of M (lengths_of M (active t))).0 ≡ used_open M active
      n + (fill_of M (lengths_of M bs)).0
  used_set active t zero bs h = absurd (omega (arith, h))
  used_set active t (suc n) bs h = go (cases_eq n t) (used_set active t n bs)
    where
      fills : List Record → ℕ
      fills z = (fill_of M (lengths_of M z)).0

      go : (n ≡ t) ⊎ (n ≢ t)
          → (t < n → used_open M (set t bs active) n + fills (active t) ≡ used_open M active n + fills bs)
          → (used_open M (set t bs active) n + fills (set t bs active n)) + fills
          (active t) ≡ (used_open M active n + fills (active n)) + fills bs
      go (inl q) i =
          omega (
            arith,
            ap fills (set_same t bs active n q),
            ap (λ (z : ℕ). fills (active z)) q,
            used_above active t n
                bs (omega (arith, q)),
          )
      go (inr ne) i = omega (arith, ap fills (set_other t bs active n ne), i (omega (arith, h, ne)))

  pub used_is_a_sum : Used_is_a_sum M
  used_is_a_sum u t bs h = omega (arith, used_set u.active t terminal_limit bs h)

  pub sealing_uses_the_same : Sealing_uses_the_same M
  sealing_uses_the_same s t p y h = omega (arith, used_set s.undo.active t terminal_limit [] h)

  pub facts_of_the_store : Facts_of_the_store M
  facts_of_the_store =
      record {
        exact = conditions_are_exact M L;
        shown = world_is_shown M L;
        orderly = store_is_orderly;
        alone = runs_alone_here;
        version = version_is_here;
        row = row_is_here;
        without_record = row_without_record_here;
        apart = records_are_apart_here;
        rollback = rollback_leaves_versions;
        closing = closing_leaves_newest;
        used = used_is_a_sum;
        sealing = sealing_uses_the_same;
      }
