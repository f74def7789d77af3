-- Beside an open transaction others are answered as without it.
use Rattle.std.proofs.Common.{◌≡◌, ℕ, zero, suc, ◌+◌, ◌-◌, ◌<◌, ◌≤◌, Bool, true, false, cond, Option, None, Some, List}
use Rattle.std.proofs.Common.{[], ◌∷◌, refl, sym, ap, ◌∙◌, subst, inl, inr, arith}
use Rattle.std.specs.Prelude.{◌⊎◌, ◌≢◌}
use Rattle.std.proofs.lemmas.Bool.{cases_eq, eq-eqb, ne_eqb, eqb-true, leb-true, leb-false, lt-leb, false≢true}
use Rattle.oe_theory.specs.Machine.{Machine, Mode, Ask, Stop, Plain, Take, Go}
use Rattle.oe_theory.specs.World.{set, Open, World, tx_of, tables}
use Rattle.oe_theory.specs.Next.{Step, Begin, Advance, Save, Back, Rollback, Read, Audit, Purge, Rewind, Answer, Begun}
use Rattle.oe_theory.specs.Next.{Rolled_back, Busy, Undo_full, Already_open, Not_quiet, works_on, IsPast, put_active}
use Rattle.oe_theory.specs.Next.{open_at_begin, open_after, fill_of, used_by, used_active, extents_used, count_open}
use Rattle.oe_theory.specs.Next.{IsFull, IsGranted}
use Rattle.oe_theory.specs.Next.{IsInTheWay, GivesWay, MayLackMemory, MayBegin, Next, begins, goes_on, commits, saves}
use Rattle.oe_theory.specs.Next.{goes_back, rolls_back, reads, audits, purges, rewinds, stops, fails, is_busy, is_full}
use Rattle.oe_theory.specs.Next.{is_rejected, is_open, number_is_rejected, query_is_rejected, misses, not_open, too_old}
use Rattle.oe_theory.specs.Next.{future, not_quiet, lacks_memory_at_begin, lacks_memory, Event, Run}
use Rattle.oe_theory.specs.Laws.{IsSameEver, Sound, Laws}
use Rattle.oe_theory.specs.Erase.{is_idle, is_rollback, is_commit, names, is_of, tidy, events_without, is_rolled_back}
use Rattle.oe_theory.proofs.Sets.{set_same, set_other, set_cases, some_inj, some_none}
use Rattle.oe_theory.proofs.Tables.{same_ever}
use Rattle.oe_theory.specs.Theorems.{IsReached}
use Rattle.oe_theory.proofs.Steps.{row_alone, reads_alone, acts_alone, sound_drop}
use Rattle.oe_theory.proofs.Erase.{run_erased, run_without}
use Rattle.oe_theory.proofs.StepTheorems.{steps_are_counted}
use Rattle.oe_theory.proofs.Theorems.{reached_sound, extents_suffice}
use Rattle.oe_script_laws.specs.Beside.{holds_extent, gives_way, answer_without, without_open, Others_see_nothing}

module _ (M : Machine) (L : Laws M) where
  open M use {
    row_at,
    key_of,
    record_of,
    size_of,
    Change,
    Name,
    Request,
    Query,
    Position,
    Refusal,
    ask,
    act,
    rejection,
    query_rejection,
    yields,
    terminal_limit,
  }
  open L use {rejection_same, query_rejection_same}

  -- WHAT IS THE SAME WITHOUT IT

  granted_without : (w : World M) (t u : ℕ) (a : Ask Name Refusal) → IsGranted M w u a
      → IsGranted M (without_open M t w) u a
  granted_without w t u (Stop e) g = g
  granted_without w t u Plain g = g
  granted_without w t u (Take n m) g = λ v p ne h. g v p ne (go p v (set_cases t None w.active v p h))
    where
      go : (p : Open M) (v : ℕ) → ((v ≡ t) × (None ≡ Some p)) ⊎ ((v ≢ t) × (w.active v ≡ Some p)) → w.active v ≡ Some p
      go p v (inl h) = absurd (some_none p (sym h.1))
      go p v (inr h) = h.1

  live_without : (w : World M) (t u : ℕ) (v : Option (Open M)) → u ≢ t → w.active u ≡ v
      → (without_open M t w).active u ≡ v
  live_without w t u v ne e = set_other t None w.active u ne ∙ e

  ever_without : (w : World M) → Sound M w → (t : ℕ) → IsSameEver M (tables M w) (tables M (without_open M t w))
  ever_without w s t f e = same_ever M L w s f e ∙ sym (same_ever M L (without_open M t w) (sound_drop M L w s t) f e)

  same_turned : (w : World M) → Sound M w → (t : ℕ) (q : Request)
      → rejection q (tables M w) ≡ rejection q (tables M (without_open M t w))
  same_turned w s t q = rejection_same q (tables M w) (tables M (without_open M t w)) (ever_without w s t)

  same_unasked : (w : World M) → Sound M w → (t : ℕ) (q : Query)
      → query_rejection q (tables M w) ≡ query_rejection q (tables M (without_open M t w))
  same_unasked w s t q = query_rejection_same q (tables M w) (tables M (without_open M t w)) (ever_without w s t)

  same_ask : (w : World M) → Sound M w → (t u : ℕ) (o : Open M) → u ≢ t → w.active u ≡ Some o
      → ask (tx_of M u o) o.now.position (tables M w) ≡ ask (tx_of M u o) o.now.position (tables M (without_open M t w))
  same_ask w s t u o ne e = reads_alone M L w s u o e
      ∙ sym (reads_alone M L (without_open M t w) (sound_drop M L w s t) u o (live_without w t u (Some o) ne e))

  granted : (w : World M) → Sound M w → (t u : ℕ) (o : Open M) → u ≢ t → w.active u ≡ Some o
      → IsGranted M w u (ask (tx_of M u o) o.now.position (tables M w))
      → IsGranted M (without_open M t w) u (ask (tx_of M u o) o.now.position (tables M (without_open M t w)))
  granted w s t u o ne e g = subst (IsGranted M (without_open M t w) u) (same_ask w s t u o ne e)
      (granted_without w t u (ask (tx_of M u o) o.now.position (tables M w)) g)

  same_act : (w : World M) → Sound M w → (t u : ℕ) (o : Open M) → u ≢ t → w.active u ≡ Some o
      → IsGranted M w u (ask (tx_of M u o) o.now.position (tables M w))
      → act (tx_of M u o) o.now.position (tables M w) ≡ act (tx_of M u o) o.now.position (tables M (without_open M t w))
  same_act w s t u o ne e g =
      acts_alone M L w s u o e g
      ∙ sym (acts_alone M L (without_open M t w) (sound_drop M L w s t) u o (live_without w t u (Some o) ne e)
      (granted w s t u o ne e g))

  -- WHAT IS LESS WITHOUT IT

  -- the extents that are used
  used_above : (active : ℕ → Option (Open M)) (t n : ℕ) → n ≤ t
      → used_active M (set t None active) n ≡ used_active M active n
  used_above active t zero h = refl
  used_above active t (suc n) h =
      let e : used_by M (set t None active n) ≡ used_by M (active n) = ap (used_by M)
      (set_other t None active n (λ q. omega (arith, q, h))) in
      omega (arith, used_above active t n (omega (arith, h)), e)

  used_below : (active : ℕ → Option (Open M)) (t n : ℕ) → t < n
      → used_active M (set t None active) n + used_by M (active t) ≡ used_active M active n
  used_below active t zero h = absurd (omega (arith, h))
  used_below active t (suc n) h = go (cases_eq n t) (used_below active t n)
    where
      go : (n ≡ t) ⊎ (n ≢ t)
          → (t < n → used_active M (set t None active) n + used_by M (active t) ≡ used_active M active n)
          → (used_active M (set t None active) n + used_by M (set t None active n)) + used_by M
          (active t) ≡ used_active M active n + used_by M (active n)
      go (inl q) i =
          let a : used_by M (set t None active n) ≡ 0 = ap (used_by M) (set_same t None active n q) in
          let b : used_by M (active n) ≡ used_by M (active t) = ap (λ z. used_by M (active z)) q in
          omega (arith, a, b, used_above active t n (omega (arith, q)))
      go (inr ne) i =
          let a : used_by M (set t None active n) ≡ used_by M (active n) = ap (used_by M) (set_other t None active n ne)
          in
          omega (arith, a, i (omega (arith, h, ne)))

  used_without : (w : World M) → Sound M w → (t : ℕ) (o : Open M) → w.active t ≡ Some o
      → extents_used M (without_open M t w) + used_by M (Some o) ≡ extents_used M w
  used_without w s t o l =
      let here : used_by M (w.active t) ≡ used_by M (Some o) = ap (used_by M) l in
      omega (arith, used_below w.active t terminal_limit (s.each t o l).terminal.1, here)

  -- the transactions that are open
  one_fewer : (w : World M) → IsReached M w → (t : ℕ) (o : Open M) → w.active t ≡ Some o
      → count_open M w.active terminal_limit ≡ suc (count_open M (without_open M t w).active terminal_limit)
  one_fewer w r t o l =
      let c = steps_are_counted M L w (without_open M t w) (Rollback t) Rolled_back r (rolls_back t o l) in
      c.open_count

  -- REFUSALS

  full_without : (w : World M) → Sound M w → (t u : ℕ) (o p : Open M) (c : Change) (q : Position) → u ≢ t
      → w.active t ≡ Some o → w.active u ≡ Some p
      → IsGranted M w u (ask (tx_of M u p) p.now.position (tables M w))
      → act (tx_of M u p) p.now.position (tables M w) ≡ Go (Some c) q
      → holds_extent M (Some o) ≡ false → IsFull M w p c → IsFull M (without_open M t w) p c
  full_without w s t u o p c q ne l e g r none f = (
    subst (λ v. (fill_of M p.lengths).1 < size_of (record_of w.layout c v)) same f.0,
    let few = leb-false 1 (used_by M (Some o)) none in omega (arith, f.1, used_without w s t o l, few),
  )
    where
      same : row_at (tables M w) (key_of c) ≡ row_at (tables M (without_open M t w)) (key_of c)
      same =
          row_alone M L w s u p c q e g r
          ∙ sym (row_alone M L (without_open M t w) (sound_drop M L w s t) u p c q (live_without w t u (Some p) ne e)
          (granted w s t u p ne e g) (sym (same_act w s t u p ne e g) ∙ r))

  busy_without : (w : World M) (t u : ℕ) (n : Name) (m : Mode) (x : ℕ) → x ≢ t → IsInTheWay M w u n m x
      → IsInTheWay M (without_open M t w) u n m x
  busy_without w t u n m x ne g =
      record {
        other = g.other;
        who = g.who;
        is_open = live_without w t x (Some g.who) ne g.is_open;
        conflicts = g.conflicts;
        least = λ v o less other h. g.least v o less other (go v o (set_cases t None w.active v o h));
      }
    where
      go : (v : ℕ) (o : Open M) → ((v ≡ t) × (None ≡ Some o)) ⊎ ((v ≢ t) × (w.active v ≡ Some o)) → w.active v ≡ Some o
      go v o (inl h) = absurd (some_none o (sym h.1))
      go v o (inr h) = h.1

  may_begin : (w : World M) → Sound M w → (t u : ℕ) (q : Request) → u ≢ t → MayBegin M w u q
      → MayBegin M (without_open M t w) u q
  may_begin w s t u q ne b =
      record {
        terminal = b.terminal;
        valid = b.valid;
        known = sym (same_turned w s t q) ∙ b.known;
        closed = live_without w t u None ne b.closed;
        counted = b.counted;
      }

  may_lack : (w : World M) → Sound M w → (t u : ℕ) (o : Open M) → u ≢ t → w.active u ≡ Some o
      → (a : Ask Name Refusal) → ask (tx_of M u o) o.now.position (tables M w) ≡ a → MayLackMemory M w u o a
      → MayLackMemory M (without_open M t w) u o a
  may_lack w s t u o ne e (Stop x) r m = m
  may_lack w s t u o ne e Plain r m = (
    tt,
    m.1,
    subst (GivesWay M (yields (tx_of M u o) o.now.position))
        (same_act w s t u o ne e (subst (IsGranted M w u) (sym r) tt)) m.2,
  )
  may_lack w s t u o ne e (Take n d) r m = (
    granted_without w t u (Take n d) m.0,
    m.1,
    subst (GivesWay M (yields (tx_of M u o) o.now.position))
        (same_act w s t u o ne e (subst (IsGranted M w u) (sym r) m.0)) m.2,
  )

  -- the step gets as far without it
  past_without : (w : World M) → Sound M w → (t : ℕ) (o : Open M) → w.active t ≡ Some o → (i : Step M) → IsPast M w i
      → IsPast M (without_open M t w) i
  past_without w s t o l (Begin u q) p = p
  past_without w s t o l (Advance u) p = p
  past_without w s t o l (Save u) p = p
  past_without w s t o l (Back u) p = p
  past_without w s t o l (Rollback u) p = p
  past_without w s t o l (Read m q) p = sym (same_unasked w s t q) ∙ p
  past_without w s t o l (Audit m c) p = p
  past_without w s t o l (Purge m) p = p
  past_without w s t o l (Rewind m) quiet = absurd (some_none o (sym l ∙ quiet t))

  -- STEPS OF OTHERS

  -- what a step of others does beside the transaction: it is refused and gives way, or is answered so without it too
  pub data Beside (w : World M) (t : ℕ) (o : Open M) (i : Step M) (a : Answer M) (v : World M) : Type 0 where
    gave_way : gives_way M t (Some o) i a ≡ true → is_idle M a ≡ true → v ≡ w → Beside w t o i a v
    stands : gives_way M t (Some o) i a ≡ false → v.active t ≡ Some o
        → Next M (without_open M t w) i (answer_without M a) (without_open M t v) → Beside w t o i a v

  still_open : (w : World M) (t u : ℕ) (o : Open M) (v : Option (Open M)) → u ≢ t → w.active t ≡ Some o
      → set u v w.active t ≡ Some o
  still_open w t u o v ne l = set_other u v w.active t (λ z. ne (sym z)) ∙ l

  not_of : (t : ℕ) (v : Option ℕ) → v ≢ Some t → names M t v ≡ false
  not_of t None h = refl
  not_of t (Some u) h = ne_eqb u t (λ z. h (ap Some z))

  -- an accepted step is one by the theory's law of a rollback, where the rollback comes next
  accepted : (w : World M) → Sound M w → (t : ℕ) (o p : Open M) → w.active t ≡ Some o
      → (i : Step M) (a : Answer M) (v : World M) → works_on M i ≢ Some t
      → Next M w i a v → is_idle M a ≡ false → v.active t ≡ Some p
      → Next M (without_open M t w) i a (without_open M t v)
  accepted w s t o p l i a v h n idle k = at_end
      (subst (λ (z : List (Event M)). Run M (without_open M t w) z (without_open M t v)) left run)
    where
      first : Event M
      first = record { step = i; answer = a }

      last : Event M
      last = record { step = Rollback t; answer = Rolled_back }

      apart : is_of M t i ≡ false
      apart = not_of t (works_on M i) h

      own : is_of M t (Rollback t) ≡ true
      own = eq-eqb t t refl

      ends : is_rolled_back M t (last ∷ []) ≡ true
      ends = ap (λ (z : Bool). cond z true false) own

      over : is_rolled_back M t (first ∷ last ∷ []) ≡ true
      over = ap (λ (z : Bool). cond z
          (cond (is_rollback M a) true (cond (is_commit M a) false (is_rolled_back M t (last ∷ []))))
          (is_rolled_back M t (last ∷ []))) apart ∙ ends

      gone : events_without M t (last ∷ []) ≡ []
      gone = ap (λ (z : Bool). cond z [] (last ∷ [])) own

      left : events_without M t (first ∷ last ∷ []) ≡ first ∷ []
      left =
          ap (λ (z : Bool). cond z (cond (is_rollback M a) (tidy M (last ∷ [])) (events_without M t (last ∷ [])))
          (cond (is_idle M a) (events_without M t (last ∷ [])) (first ∷ events_without M t (last ∷ [])))) apart
          ∙ (ap (λ (z : Bool). cond z (events_without M t (last ∷ [])) (first ∷ events_without M t (last ∷ []))) idle
          ∙ ap (λ z. first ∷ z) gone)

      run : Run M (without_open M t w) (events_without M t (first ∷ last ∷ [])) (without_open M t v)
      run = run_erased M L w s t o l (first ∷ last ∷ []) (without_open M t v)
          (v, n, (without_open M t v, rolls_back t p k, refl)) over

      at_end : Run M (without_open M t w) (first ∷ []) (without_open M t v)
          → Next M (without_open M t w) i a (without_open M t v)
      at_end (x, m, e) = subst (Next M (without_open M t w) i a) e m

  beside_sound : (w : World M) → IsReached M w → Sound M w → (t : ℕ) (o : Open M) → w.active t ≡ Some o
      → (i : Step M) (a : Answer M) (v : World M) → works_on M i ≢ Some t → Next M w i a v → Beside w t o i a v
  beside_sound w r' s t o l _ _ _ h (begins u q b) =
      let ne : u ≢ t = λ z. some_none o (sym l ∙ (ap w.active (sym z) ∙ b.closed)) in
      let k = still_open w t u o (Some (open_at_begin M w u q)) ne l in
      stands refl k (accepted w s t o o l _ _ _ h (begins u q b) refl k)
  beside_sound w r' s t o l _ _ _ h (goes_on u p c q e g r room) =
      let k = still_open w t u o
      (Some (open_after M w.layout p (ask (tx_of M u p) p.now.position (tables M w)) c q (tables M w)))
      (λ z. h (ap Some z)) l in
      stands refl k (accepted w s t o o l _ _ _ h (goes_on u p c q e g r room) refl k)
  beside_sound w r' s t o l _ _ _ h (commits u p reply e g r) =
      let k = still_open w t u o None (λ z. h (ap Some z)) l in
      stands refl k (accepted w s t o o l _ _ _ h (commits u p reply e g r) refl k)
  beside_sound w r' s t o l _ _ _ h (saves u p e) =
      let k = still_open w t u o (Some (record p { mark = p.now; mark_lengths = p.lengths })) (λ z. h (ap Some z)) l in
      stands refl k (accepted w s t o o l _ _ _ h (saves u p e) refl k)
  beside_sound w r' s t o l _ _ _ h (goes_back u p e) =
      let k = still_open w t u o (Some (record p { now = p.mark; lengths = p.mark_lengths })) (λ z. h (ap Some z)) l in
      stands refl k (accepted w s t o o l _ _ _ h (goes_back u p e) refl k)
  beside_sound w r' s t o l _ _ _ h (rolls_back u p e) =
      let k = still_open w t u o None (λ z. h (ap Some z)) l in
      stands refl k (accepted w s t o o l _ _ _ h (rolls_back u p e) refl k)
  beside_sound w r' s t o l _ _ _ h (reads m q f n b c e) =
      stands refl l (accepted w s t o o l _ _ _ h (reads m q f n b c e) refl l)
  beside_sound w r' s t o l _ _ _ h (audits m c b k) = stands refl l
      (accepted w s t o o l _ _ _ h (audits m c b k) refl l)
  beside_sound w r' s t o l _ _ _ h (purges m b c) = stands refl l (accepted w s t o o l _ _ _ h (purges m b c) refl l)
  beside_sound w r' s t o l _ _ _ h (rewinds m quiet b c) = absurd (some_none o (sym l ∙ quiet t))
  beside_sound w r' s t o l _ _ _ h (stops u p x e r) =
      let k = still_open w t u o None (λ z. h (ap Some z)) l in
      stands refl k (accepted w s t o o l _ _ _ h (stops u p x e r) refl k)
  beside_sound w r' s t o l _ _ _ h (fails u p x e g r) =
      let k = still_open w t u o None (λ z. h (ap Some z)) l in
      stands refl k (accepted w s t o o l _ _ _ h (fails u p x e g r) refl k)
  beside_sound w r' s t o l _ _ _ h (is_busy u p n m x e r g) = go (cases_eq x t)
    where
      ne : u ≢ t
      ne = λ z. h (ap Some z)

      go : (x ≡ t) ⊎ (x ≢ t) → Beside w t o (Advance u) (Busy n x) w
      go (inl same) = gave_way (eq-eqb x t same) refl refl
      go (inr other) =
          stands (ne_eqb x t other) l
          (is_busy u p n m x (live_without w t u (Some p) ne e) (sym (same_ask w s t u p ne e) ∙ r)
          (busy_without w t u n m x other g))
  beside_sound w r' s t o l _ _ _ h (is_full u p c q e g r f) = go (holds_extent M (Some o)) refl
    where
      ne : u ≢ t
      ne = λ z. h (ap Some z)

      go : (b : Bool) → holds_extent M (Some o) ≡ b → Beside w t o (Advance u) Undo_full w
      go true holds = gave_way holds refl refl
      go false none =
          stands none l
          (is_full u p c q (live_without w t u (Some p) ne e) (granted w s t u p ne e g)
          (sym (same_act w s t u p ne e g) ∙ r) (full_without w s t u o p c q ne l e g r none f))
  beside_sound w r' s t o l _ _ _ h (is_rejected u q e r) = stands refl l
      (is_rejected u q e (sym (same_turned w s t q) ∙ r))
  beside_sound w r' s t o l _ _ _ h (is_open u q p r e) = go (cases_eq u t)
    where
      go : (u ≡ t) ⊎ (u ≢ t) → Beside w t o (Begin u q) Already_open w
      go (inl same) = gave_way (eq-eqb u t same) refl refl
      go (inr other) = stands (ne_eqb u t other) l
          (is_open u q p (sym (same_turned w s t q) ∙ r) (live_without w t u (Some p) other e))
  beside_sound w r' s t o l _ _ _ h (number_is_rejected u q e r c k) =
      let ne : u ≢ t = λ z. some_none o (sym l ∙ (ap w.active (sym z) ∙ c)) in
      stands refl l (number_is_rejected u q e (sym (same_turned w s t q) ∙ r) (live_without w t u None ne c) k)
  beside_sound w r' s t o l _ _ _ h (query_is_rejected m q e r) = stands refl l
      (query_is_rejected m q e (sym (same_unasked w s t q) ∙ r))
  beside_sound w r' s t o l _ _ _ h (misses m q e r b c k) = stands refl l
      (misses m q e (sym (same_unasked w s t q) ∙ r) b c k)
  beside_sound w r' s t o l _ _ _ h (not_open i u e f) =
      stands refl l (not_open i u e (live_without w t u None (λ z. h (e ∙ ap Some z)) f))
  beside_sound w r' s t o l _ _ _ h (too_old i m e p b) = stands refl l (too_old i m e (past_without w s t o l i p) b)
  beside_sound w r' s t o l _ _ _ h (future i m e p b) = stands refl l (future i m e (past_without w s t o l i p) b)
  beside_sound w r' s t o l _ _ _ h (not_quiet m zero e) = gave_way refl refl refl
  beside_sound w r' s t o l _ _ _ h (not_quiet m (suc n) e) =
      let fewer : count_open M (without_open M t w).active terminal_limit ≡ suc n =
      omega (arith, e, one_fewer w r' t o l) in
      let told : suc n ≡ suc (suc n) - 1 = omega arith in
      stands (lt-leb (suc (suc n)) 1 (omega arith)) l
      (subst (λ (k : ℕ). Next M (without_open M t w) (Rewind m) (Not_quiet k) (without_open M t w)) told
      (not_quiet m n fewer))
  beside_sound w r' s t o l _ _ _ h (lacks_memory_at_begin u q b) =
      let ne : u ≢ t = λ z. some_none o (sym l ∙ (ap w.active (sym z) ∙ b.closed)) in
      stands refl l (lacks_memory_at_begin u q (may_begin w s t u q ne b))
  beside_sound w r' s t o l _ _ _ h (lacks_memory u p e m) =
      let ne : u ≢ t = λ z. h (ap Some z) in
      let a = ask (tx_of M u p) p.now.position (tables M w) in
      stands refl l
      (lacks_memory u p (live_without w t u (Some p) ne e)
      (subst (MayLackMemory M (without_open M t w) u p) (same_ask w s t u p ne e) (may_lack w s t u p ne e a refl m)))

  pub beside : (w : World M) → IsReached M w → (t : ℕ) (o : Open M) → w.active t ≡ Some o
      → (i : Step M) (a : Answer M) (v : World M) → works_on M i ≢ Some t → Next M w i a v → Beside w t o i a v
  beside w r t o l i a v h n = beside_sound w r (reached_sound M L w r) t o l i a v h n

  others : (w v : World M) (i : Step M) (a : Answer M) (t : ℕ) (o : Open M) → IsReached M w → w.active t ≡ Some o
      → works_on M i ≢ Some t → Next M w i a v → gives_way M t (Some o) i a ≡ false
      → Next M (without_open M t w) i (answer_without M a) (without_open M t v)
  others w v i a t o r l h n b = go (beside w r t o l i a v h n)
    where
      go : Beside w t o i a v → Next M (without_open M t w) i (answer_without M a) (without_open M t v)
      go (gave_way c idle same) = absurd (false≢true (sym b ∙ c))
      go (stands c k m) = m

  -- so many are open
  open_told : (w : World M) (i : Step M) (a : Answer M) (v : World M) (n : ℕ) → Next M w i a v → a ≡ Not_quiet n
      → count_open M w.active terminal_limit ≡ n
  open_told w _ _ _ n (not_quiet m k e) a = let here : suc k ≡ n = cc in e ∙ here
  open_told w _ _ _ n x a = cc

  -- why a step gives way
  data Cause (w : World M) (t : ℕ) (o : Open M) (a : Answer M) : Type 0 where
    has_open : (p : Open M) → w.active t ≡ Some p → Cause w t o a
    has_all : holds_extent M (Some o) ≡ true → w.extents ≤ extents_used M w → Cause w t o a
    counts : (n : ℕ) → a ≡ Not_quiet n → count_open M w.active terminal_limit ≡ n → Cause w t o a

  cause : (w : World M) (i : Step M) (a : Answer M) (v : World M) (t : ℕ) (o : Open M) → Next M w i a v
      → gives_way M t (Some o) i a ≡ true → Cause w t o a
  cause w _ _ _ t o (is_busy u p m k x e g f) b =
      has_open f.who (ap w.active (sym (eqb-true x t b)) ∙ f.is_open)
  cause w _ _ _ t o (is_full u p c q e g f full) b = has_all b full.1
  cause w _ _ _ t o (is_open u q p e f) b = has_open p (ap w.active (sym (eqb-true u t b)) ∙ f)
  cause w _ _ _ t o (not_quiet m k e) b = counts (suc k) refl e
  cause w _ _ _ t o n b = absurd (false≢true b)

  -- a step that gives way is answered otherwise without the transaction
  ways : (w v : World M) (i : Step M) (a : Answer M) (t : ℕ) (o : Open M) → IsReached M w → w.active t ≡ Some o
      → Next M w i a v → gives_way M t (Some o) i a ≡ true
      → (u : World M) → Next M (without_open M t w) i a u → ⊥
  ways w v i a t o r l n b u k = go (cause (without_open M t w) i a u t o k b)
    where
      go : Cause (without_open M t w) t o a → ⊥
      go (has_open p e) = some_none p (sym e ∙ set_same t None w.active t refl)
      go (has_all holds all) =
          let more = leb-true 1 (used_by M (Some o)) holds in
          omega (arith, all, more, used_without w (reached_sound M L w r) t o l, extents_suffice M L w r)
      go (counts m told e) = omega (arith, e, open_told w i a v m n told, one_fewer w r t o l)

  pub others_see_nothing : Others_see_nothing M
  others_see_nothing = record { others = others; ways = ways }

  -- STEPS OF ITS OWN

  -- what a step of the transaction itself does
  pub data Own (w : World M) (t : ℕ) (a : Answer M) (v : World M) : Type 0 where
    ended : is_rollback M a ≡ true → v ≡ without_open M t w → Own w t a v
    was_committed : is_rollback M a ≡ false → is_commit M a ≡ true → Own w t a v
    went_on : is_rollback M a ≡ false → (p : Open M) → v.active t ≡ Some p → without_open M t v ≡ without_open M t w
        → Own w t a v

  of_own : (t : ℕ) (i : Step M) → works_on M i ≡ Some t → is_of M t i ≡ true
  of_own t i e = ap (names M t) e ∙ eq-eqb t t refl

  -- one that rolls it back
  drops : (w : World M) → Sound M w → (t : ℕ) (o : Open M) → w.active t ≡ Some o
      → (i : Step M) (a : Answer M) (v : World M) → works_on M i ≡ Some t
      → Next M w i a v → is_rollback M a ≡ true → v ≡ without_open M t w
  drops w s t o l i a v h n b =
      sym (subst (λ (z : List (Event M)). Run M (without_open M t w) z v) left
      (run_erased M L w s t o l (first ∷ []) v (v, n, refl) over))
    where
      first : Event M
      first = record { step = i; answer = a }

      over : is_rolled_back M t (first ∷ []) ≡ true
      over = ap (λ (z : Bool). cond z (cond (is_rollback M a) true (cond (is_commit M a) false false)) false)
          (of_own t i h) ∙ ap (λ (z : Bool). cond z true (cond (is_commit M a) false false)) b

      left : events_without M t (first ∷ []) ≡ []
      left =
          ap (λ (z : Bool). cond z (cond (is_rollback M a) [] []) (cond (is_idle M a) [] (first ∷ []))) (of_own t i h)
          ∙ ap (λ (z : Bool). cond z [] []) b

  -- one after which it goes on
  keeps : (w : World M) → Sound M w → (t : ℕ) (o p : Open M) → w.active t ≡ Some o
      → (i : Step M) (a : Answer M) (v : World M) → works_on M i ≡ Some t
      → Next M w i a v → is_rollback M a ≡ false → is_commit M a ≡ false → v.active t ≡ Some p
      → without_open M t v ≡ without_open M t w
  keeps w s t o p l i a v h n b c k =
      sym (subst (λ (z : List (Event M)). Run M (without_open M t w) z (without_open M t v)) left
      (run_erased M L w s t o l (first ∷ last ∷ []) (without_open M t v)
      (v, n, (without_open M t v, rolls_back t p k, refl)) over))
    where
      first : Event M
      first = record { step = i; answer = a }

      last : Event M
      last = record { step = Rollback t; answer = Rolled_back }

      own : is_of M t (Rollback t) ≡ true
      own = eq-eqb t t refl

      ends : is_rolled_back M t (last ∷ []) ≡ true
      ends = ap (λ (z : Bool). cond z true false) own

      over : is_rolled_back M t (first ∷ last ∷ []) ≡ true
      over =
          ap (λ (z : Bool). cond z
          (cond (is_rollback M a) true (cond (is_commit M a) false (is_rolled_back M t (last ∷ []))))
          (is_rolled_back M t (last ∷ []))) (of_own t i h)
          ∙ (ap (λ (z : Bool). cond z true (cond (is_commit M a) false (is_rolled_back M t (last ∷ [])))) b
          ∙ (ap (λ (z : Bool). cond z false (is_rolled_back M t (last ∷ []))) c ∙ ends))

      gone : events_without M t (last ∷ []) ≡ []
      gone = ap (λ (z : Bool). cond z [] (last ∷ [])) own

      left : events_without M t (first ∷ last ∷ []) ≡ []
      left =
          ap (λ (z : Bool). cond z (cond (is_rollback M a) (tidy M (last ∷ [])) (events_without M t (last ∷ [])))
          (cond (is_idle M a) (events_without M t (last ∷ [])) (first ∷ events_without M t (last ∷ [])))) (of_own t i h)
          ∙ (ap (λ (z : Bool). cond z (tidy M (last ∷ [])) (events_without M t (last ∷ []))) b ∙ gone)

  own_place : (w : World M) (t u : ℕ) (o : Open M) → ◌≡◌ {A = Option ℕ} (Some u) (Some t)
      → set u (Some o) w.active t ≡ Some o
  own_place w t u o h = set_same u (Some o) w.active t (sym (some_inj u t h))

  pub own : (w : World M) → Sound M w → (t : ℕ) (o : Open M) → w.active t ≡ Some o
      → (i : Step M) (a : Answer M) (v : World M) → works_on M i ≡ Some t → Next M w i a v → Own w t a v
  own w s t o l _ _ _ h (begins u q b) = absurd (some_none t (sym h))
  own w s t o l _ _ _ h (goes_on u p c q e g r room) =
      let p' = open_after M w.layout p (ask (tx_of M u p) p.now.position (tables M w)) c q (tables M w) in
      went_on refl p' (own_place w t u p' h)
      (keeps w s t o p' l _ _ _ h (goes_on u p c q e g r room) refl refl (own_place w t u p' h))
  own w s t o l _ _ _ h (commits u p reply e g r) = was_committed refl refl
  own w s t o l _ _ _ h (saves u p e) =
      let p' : Open M = record p { mark = p.now; mark_lengths = p.lengths } in
      went_on refl p' (own_place w t u p' h) (keeps w s t o p' l _ _ _ h (saves u p e) refl refl (own_place w t u p' h))
  own w s t o l _ _ _ h (goes_back u p e) =
      let p' : Open M = record p { now = p.mark; lengths = p.mark_lengths } in
      went_on refl p' (own_place w t u p' h)
      (keeps w s t o p' l _ _ _ h (goes_back u p e) refl refl (own_place w t u p' h))
  own w s t o l _ _ _ h (rolls_back u p e) = ended refl (drops w s t o l _ _ _ h (rolls_back u p e) refl)
  own w s t o l _ _ _ h (purges m b c) = absurd (some_none t (sym h))
  own w s t o l _ _ _ h (rewinds m quiet b c) = absurd (some_none t (sym h))
  own w s t o l _ _ _ h (stops u p x e r) = ended refl (drops w s t o l _ _ _ h (stops u p x e r) refl)
  own w s t o l _ _ _ h (fails u p x e g r) = ended refl (drops w s t o l _ _ _ h (fails u p x e g r) refl)
  own w s t o l _ _ _ h n = went_on refl o l refl

  -- what its beginning does
  pub began : (w : World M) → Sound M w → (t : ℕ) (q : Request) (v : World M) → Next M w (Begin t q) Begun v
      → (o : Open M) × (v.active t ≡ Some o) × (without_open M t v ≡ w)
  began w s t q v n = go _ _ v n refl refl
    where
      last : Event M
      last = record { step = Rollback t; answer = Rolled_back }

      mine : is_of M t (Rollback t) ≡ true
      mine = eq-eqb t t refl

      over : is_rolled_back M t (last ∷ []) ≡ true
      over = ap (λ (z : Bool). cond z true false) mine

      left : events_without M t (last ∷ []) ≡ []
      left = ap (λ (z : Bool). cond z [] (last ∷ [])) mine

      back : (o : Open M) (v : World M) → Next M w (Begin t q) Begun v → v.active t ≡ Some o → without_open M t v ≡ w
      back o v n k =
          sym (subst (λ (z : List (Event M)). Run M w z (without_open M t v)) left
          (run_without M L w s [] t q (last ∷ []) (without_open M t v)
          (v, n, (without_open M t v, rolls_back t o k, refl)) over))

      go : (i : Step M) (a : Answer M) (v : World M) → Next M w i a v → i ≡ Begin t q → a ≡ Begun
          → (o : Open M) × (v.active t ≡ Some o) × (without_open M t v ≡ w)
      go _ _ _ (begins u p b) i a =
          let same : u ≡ t = cc in
          let k = set_same u (Some (open_at_begin M w u p)) w.active t (sym same) in (
            open_at_begin M w u p,
            k,
            back (open_at_begin M w u p) _
                (subst (λ (z : Step M). Next M w z Begun (put_active M u (Some (open_at_begin M w u p)) w)) i
                (begins u p b)) k,
          )
      go _ _ _ n i a = cc
