-- No more extents are used than there are, so where a record finds no room all are used.
use Rattle.std.proofs.Common.{◌≡◌, ℕ, suc, zero, ◌+◌, ◌-◌, ◌<◌, ◌≤◌, Bool, true, false, cond, Option, None, Some, List}
use Rattle.std.proofs.Common.{[], ◌∷◌, ◌++◌, take, drop, refl, sym, ap, ◌∙◌, subst, inl, inr, arith}
use Rattle.std.specs.Prelude.{◌⊎◌, ◌≢◌, nat_le}
use Rattle.std.proofs.lemmas.Bool.{cases_eq, leb-false}
use Rattle.oe_theory.specs.Machine.{Machine}
use Rattle.oe_theory.specs.World.{set, Open, Commit, World, overlay, newest, latest, tables}
use Rattle.oe_theory.specs.Next.{record_on, add_length, open_at_begin, fill_of, used_by, used_active, used_history}
use Rattle.oe_theory.specs.Next.{extents_used}
use Rattle.oe_theory.specs.Next.{HasRoom, put_active, Step, Advance, Answer, Undo_full, Next, begins, goes_on, commits}
use Rattle.oe_theory.specs.Next.{saves, goes_back, rolls_back, purges, rewinds, stops, fails, is_full, Event, Run}
use Rattle.oe_theory.specs.Laws.{Sound, Laws}
use Rattle.oe_theory.specs.Undo.{Undo, records_of, lengths_of, AreOfCommits, Keeps, used_open, used_commits, used_of}
use Rattle.oe_theory.specs.Undo.{undo_after}
use Rattle.oe_theory.specs.Theorems.{Is_full}
use Rattle.oe_theory.proofs.Sets.{set_same, set_other}
use Rattle.oe_theory.proofs.Steps.{next_sound}
use Rattle.oe_theory.proofs.Records.{keeps_next, records-append, lengths-append}

module _ (M : Machine) (L : Laws M) where
  open M use {Change, Record, size_of, terminal_limit}

  -- records put further fill no fewer extents
  filled_more : (xs ys : List ℕ) → (fill_of M ys).0 ≤ (fill_of M (xs ++ ys)).0
  filled_more [] ys = omega arith
  filled_more (x ∷ xs) ys = go (nat_le x (fill_of M (xs ++ ys)).1) (filled_more xs ys)
    where
      go : (b : Bool) → (fill_of M ys).0 ≤ (fill_of M (xs ++ ys)).0
          → (fill_of M ys).0 ≤ (cond {A = ℕ × ℕ} b ((fill_of M (xs ++ ys)).0, (fill_of M (xs ++ ys)).1 - x)
          (suc (fill_of M (xs ++ ys)).0, M.extent - x)).0
      go true h = h
      go false h = omega (arith, h)

  -- a record that has room takes at most an extent that is free
  filled_one : (l : ℕ) (ls : List ℕ) → ((fill_of M (l ∷ ls)).0 ≤ suc (fill_of M ls).0)
      × (l ≤ (fill_of M ls).1 → (fill_of M (l ∷ ls)).0 ≡ (fill_of M ls).0)
  filled_one l ls = go (nat_le l (fill_of M ls).1) refl
    where
      go : (b : Bool) → nat_le l (fill_of M ls).1 ≡ b
          → ((cond {A = ℕ × ℕ} b ((fill_of M ls).0, (fill_of M ls).1 - l) (suc (fill_of M ls).0, M.extent - l)).0 ≤ suc
          (fill_of M ls).0)
          × (l ≤ (fill_of M ls).1
          → (cond {A = ℕ × ℕ} b ((fill_of M ls).0, (fill_of M ls).1 - l) (suc (fill_of M ls).0, M.extent - l)).0
          ≡ (fill_of M ls).0)
      go true e = (omega arith, λ h. refl)
      go false e = (omega arith, λ h. absurd (let k = leb-false l (fill_of M ls).1 e in omega (arith, k, h)))

  -- one transaction's share in the sum
  used_above : (active : ℕ → Option (Open M)) (t n : ℕ) (v : Option (Open M)) → n ≤ t
      → used_active M (set t v active) n ≡ used_active M active n
  used_above active t zero v h = refl
  used_above active t (suc n) v h =
      let e : used_by M (set t v active n) ≡ used_by M (active n) = ap (used_by M)
      (set_other t v active n (λ q. omega (arith, q, h))) in
      omega (arith, used_above active t n v (omega (arith, h)), e)

  used_set : (active : ℕ → Option (Open M)) (t n : ℕ) (v : Option (Open M)) → t < n
      → used_active M (set t v active) n + used_by M (active t) ≡ used_active M active n + used_by M v
  used_set active t zero v h = absurd (omega (arith, h))
  used_set active t (suc n) v h = go (cases_eq n t) (used_set active t n v)
    where
      go : (n ≡ t) ⊎ (n ≢ t)
          → (t < n → used_active M (set t v active) n + used_by M (active t) ≡ used_active M active n + used_by M v)
          → (used_active M (set t v active) n + used_by M (set t v active n)) + used_by M
          (active t) ≡ (used_active M active n + used_by M (active n)) + used_by M v
      go (inl q) i =
          let a : used_by M (set t v active n) ≡ used_by M v = ap (used_by M) (set_same t v active n q) in
          let b : used_by M (active n) ≡ used_by M (active t) = ap (λ z. used_by M (active z)) q in
          omega (arith, a, b, used_above active t n v (omega (arith, q)))
      go (inr ne) i =
          let a : used_by M (set t v active n) ≡ used_by M (active n) = ap (used_by M) (set_other t v active n ne) in
          omega (arith, a, i (omega (arith, h, ne)))

  pub none_used : (n : ℕ) → used_active M (λ _. None) n ≡ 0
  none_used zero = refl
  none_used (suc n) = omega (arith, none_used n)

  -- what is used is what the records fill
  used_open_same : (w : World M) (u : Undo M) → Keeps M w u → (n : ℕ)
      → used_active M w.active n ≡ used_open M u.active n
  used_open_same w u k zero = refl
  used_open_same w u k (suc n) = go (w.active n) refl (used_open_same w u k n)
    where
      go : (v : Option (Open M)) → w.active n ≡ v → used_active M w.active n ≡ used_open M u.active n
          → used_active M w.active n + used_by M v ≡ used_open M u.active n + (fill_of M (lengths_of M (u.active n))).0
      go None e i =
          let z : (fill_of M (lengths_of M (u.active n))).0 ≡ 0 =
          ap (λ (bs : List Record). (fill_of M (lengths_of M bs)).0) (k.others n e) in
          omega arith
      go (Some o) e i =
          let z : (fill_of M o.lengths).0 ≡ (fill_of M (lengths_of M (u.active n))).0 =
          ap (λ ls. (fill_of M ls).0) (k.opens n o e).lengths in
          omega arith

  used_commits_same : (l : M.Layout) (b : M.Map) (cs : List (Commit M)) (ss : List (List Record))
      → AreOfCommits M l b cs ss
      → used_history M cs ≡ used_commits M ss
  used_commits_same l b [] [] h = refl
  used_commits_same l b [] (s ∷ ss) h = absurd h
  used_commits_same l b (c ∷ cs) [] h = absurd h
  used_commits_same l b (c ∷ cs) (s ∷ ss) h =
      let z : (fill_of M c.lengths).0 ≡ (fill_of M (lengths_of M s)).0 = ap (λ ls. (fill_of M ls).0) h.0.lengths in
      omega (arith, z, used_commits_same l b cs ss h.1)

  pub used_same : (w : World M) (u : Undo M) → Keeps M w u → extents_used M w ≡ used_of M u
  used_same w u k = omega
      (arith, used_open_same w u k terminal_limit, used_commits_same w.layout w.base w.history u.history k.commits)

  used_put : (w : World M) (t : ℕ) (v : Option (Open M)) → t < terminal_limit
      → extents_used M (put_active M t v w) + used_by M (w.active t) ≡ extents_used M w + used_by M v
  used_put w t v h = omega (arith, used_set w.active t terminal_limit v h)

  used_take : (j : ℕ) (cs : List (Commit M)) → used_history M (take j cs) ≤ used_history M cs
  used_take zero cs = omega arith
  used_take (suc j) [] = omega arith
  used_take (suc j) (c ∷ cs) = omega (arith, used_take j cs)

  used_drop : (j : ℕ) (cs : List (Commit M)) → used_history M (drop j cs) ≤ used_history M cs
  used_drop zero cs = omega arith
  used_drop (suc j) [] = omega arith
  used_drop (suc j) (c ∷ cs) = omega (arith, used_drop j cs)

  room_goes : (w : World M) (t : ℕ) (o o' : Open M) (c : Option Change) → t < terminal_limit → w.active t ≡ Some o
      → o'.lengths ≡ add_length M w.layout c (tables M w) o.lengths → HasRoom M w o c
      → extents_used M w ≤ w.extents → extents_used M (put_active M t (Some o') w) ≤ w.extents
  room_goes w t o o' c b e q room h = go c q room
    where
      was : used_by M (w.active t) ≡ (fill_of M o.lengths).0
      was = ap (used_by M) e

      go : (c : Option Change) → o'.lengths ≡ add_length M w.layout c (tables M w) o.lengths → HasRoom M w o c
          → extents_used M (put_active M t (Some o') w) ≤ w.extents
      go None q room =
          let a : (fill_of M o'.lengths).0 ≡ (fill_of M o.lengths).0 = ap (λ ls. (fill_of M ls).0) q in
          omega (arith, used_put w t (Some o') b, was, a, h)
      go (Some c) q (inl fits) =
          let a : (fill_of M o'.lengths).0 ≡ (fill_of M (size_of (record_on M w.layout c (tables M w)) ∷ o.lengths)).0 =
          ap (λ ls. (fill_of M ls).0) q in
          let d = (filled_one (size_of (record_on M w.layout c (tables M w))) o.lengths).1 fits in
          omega (arith, used_put w t (Some o') b, was, a, d, h)
      go (Some c) q (inr free) =
          let a : (fill_of M o'.lengths).0 ≡ (fill_of M (size_of (record_on M w.layout c (tables M w)) ∷ o.lengths)).0 =
          ap (λ ls. (fill_of M ls).0) q in
          let d = (filled_one (size_of (record_on M w.layout c (tables M w))) o.lengths).0 in
          omega (arith, used_put w t (Some o') b, was, a, d, free)

  drops : (w : World M) → Sound M w → (t : ℕ) (o : Open M) → w.active t ≡ Some o → extents_used M w ≤ w.extents
      → extents_used M (put_active M t None w) ≤ w.extents
  drops w s t o e h = omega (arith, used_put w t None (s.each t o e).terminal.1, h)

  -- at its mark a transaction fills no more extents
  marked_less : (w : World M) → Sound M w → (u : Undo M) → Keeps M w u → (t : ℕ) (o : Open M) → w.active t ≡ Some o
      → (fill_of M o.mark_lengths).0 ≤ (fill_of M o.lengths).0
  marked_less w s u k t o e =
      let c = s.each t o e in
      let h = k.opens t o e in
      let later = records_of M w.layout (overlay M o.mark.changes (latest M w)) c.since in
      let marked = records_of M w.layout (latest M w) o.mark.changes in
      let all : o.lengths ≡ lengths_of M later ++ o.mark_lengths =
      h.lengths ∙ (ap (lengths_of M)
      (h.records ∙ (ap (records_of M w.layout (latest M w)) c.split ∙ records-append M L w.layout c.since o.mark.changes
      (latest M w)))
      ∙ (lengths-append M L later marked ∙ ap (λ z. lengths_of M later ++ z) (sym h.mark_lengths))) in
      subst (λ z. (fill_of M o.mark_lengths).0 ≤ (fill_of M z).0) (sym all)
      (filled_more (lengths_of M later) o.mark_lengths)

  next_within : (w : World M) → Sound M w → (u : Undo M) → Keeps M w u → extents_used M w ≤ w.extents
      → (i : Step M) (a : Answer M) (v : World M) → Next M w i a v → extents_used M v ≤ v.extents
  next_within w s u k h _ _ _ (begins t q b) =
      let z : used_by M (w.active t) ≡ 0 = ap (used_by M) b.closed in
      omega (arith, used_put w t (Some (open_at_begin M w t q)) b.terminal.1, z, h)
  next_within w s u k h _ _ _ (goes_on t o c p e g r room) = room_goes w t o _ c (s.each t o e).terminal.1 e refl room h
  next_within w s u k h _ _ _ (commits t o y e g r) =
      let z : used_by M (w.active t) ≡ (fill_of M o.lengths).0 = ap (used_by M) e in
      omega (arith, used_put w t None (s.each t o e).terminal.1, z, h)
  next_within w s u k h _ _ _ (saves t o e) =
      let z : used_by M (w.active t) ≡ (fill_of M o.lengths).0 = ap (used_by M) e in
      omega (
        arith,
        used_put w t (Some (record o { mark = o.now; mark_lengths = o.lengths })) (s.each t o e).terminal.1,
        z,
        h,
      )
  next_within w s u k h _ _ _ (goes_back t o e) =
      let z : used_by M (w.active t) ≡ (fill_of M o.lengths).0 = ap (used_by M) e in
      omega (
        arith,
        used_put w t (Some (record o { now = o.mark; lengths = o.mark_lengths })) (s.each t o e).terminal.1,
        z,
        marked_less w s u k t o e,
        h,
      )
  next_within w s u k h _ _ _ (rolls_back t o e) = drops w s t o e h
  next_within w s u k h _ _ _ (purges m a b) = omega (arith, used_take (newest M w - m) w.history, h)
  next_within w s u k h _ _ _ (rewinds m q a b) = omega (arith, used_drop (newest M w - m) w.history, h)
  next_within w s u k h _ _ _ (stops t o x e r) = drops w s t o e h
  next_within w s u k h _ _ _ (fails t o x e g r) = drops w s t o e h
  next_within w s u k h _ _ _ n = h

  pub run_within : (w : World M) → Sound M w → (u : Undo M) → Keeps M w u → extents_used M w ≤ w.extents
      → (es : List (Event M)) (w' : World M) → Run M w es w' → extents_used M w' ≤ w'.extents
  run_within w s u k h [] w' r = subst (λ (z : World M). extents_used M z ≤ z.extents) r h
  run_within w s u k h (e ∷ es) w' r =
      run_within r.0 (next_sound M L w s e.step e.answer r.0 r.1) (undo_after M w u e.answer e.step)
      (keeps_next M L w s u k e.step e.answer r.0 r.1)
      (next_within w s u k h e.step e.answer r.0 r.1) es w' r.2

  pub full_step : (w : World M) → extents_used M w ≤ w.extents → (i : Step M) (a : Answer M) (v : World M) (t : ℕ)
      → Next M w i a v → i ≡ Advance t → a ≡ Undo_full → Is_full M w t
  full_step w h _ _ _ t (is_full u o c p e g r full) i a =
      let same : u ≡ t = cc in
      subst (Is_full M w) same
      (record {
        was = o;
        is_open = e;
        change = c;
        position = p;
        makes = r;
        too_long = full.0;
        all_used = omega (arith, full.1, h);
      })
  full_step w h _ _ _ t n i a = cc
