-- What is left of a run when a transaction that was rolled back is left out is a run between the same worlds.
use Rattle.std.proofs.Common.{◌≡◌, ℕ, suc, zero, ◌+◌, ◌≤◌, Bool, true, false, cond, Option, None, Some, List, [], ◌∷◌}
use Rattle.std.proofs.Common.{◌++◌, refl, sym, ap, ◌∙◌, subst, inl, inr, arith}
use Rattle.std.specs.Prelude.{◌⊎◌, ◌≢◌}
use Rattle.std.proofs.lemmas.Bool.{cases_eq, eqb-true, eqb-false, false≢true}
use Rattle.oe_theory.specs.Machine.{Machine, Ask, Stop, Plain, Take, Go}
use Rattle.oe_theory.specs.World.{set, Open, World, tx_of, tables, newest}
use Rattle.oe_theory.specs.Next.{Step, Begin, Advance, Save, Back, Rollback, Answer, Begun, More, Committed, Saved}
use Rattle.oe_theory.specs.Next.{Gone_back, Rolled_back, Aborted, works_on, put_active, open_at_begin, open_after}
use Rattle.oe_theory.specs.Next.{add_length}
use Rattle.oe_theory.specs.Next.{fill_of, used_by, used_active, HasRoom, IsGranted, after_commit, Next, begins, goes_on}
use Rattle.oe_theory.specs.Next.{commits, saves, goes_back, rolls_back, reads, audits, purges, rewinds, stops, fails}
use Rattle.oe_theory.specs.Next.{Event, Run}
use Rattle.oe_theory.specs.Laws.{IsSameEver, Sound, Laws}
use Rattle.oe_theory.specs.Erase.{is_idle, is_rollback, is_commit, names, is_of, tidy, is_rolled_back, events_without}
use Rattle.oe_theory.specs.Erase.{without}
use Rattle.oe_theory.proofs.Sets.{set_same, set_other, set_swap, set_twice, set_idle, set_cases, some_inj, some_none}
use Rattle.oe_theory.proofs.Tables.{same_ever}
use Rattle.oe_theory.proofs.Steps.{row_alone, reads_alone, acts_alone, sound_drop, next_sound}

module _ (M : Machine) (L : Laws M) where
  open M use {
    row_at,
    key_of,
    record_of,
    size_of,
    Change,
    Name,
    Request,
    Query,
    Position,
    Refusal,
    ask,
    act,
    rejection,
    query_rejection,
  }
  open L use {rejection_same, query_rejection_same}

  abbrev pub forget : ℕ → World M → World M
  forget t w = put_active M t None w

  abbrev with_active : World M → (ℕ → Option (Open M)) → World M
  with_active w f = record {
    base = w.base;
    counts = w.counts;
    history = w.history;
    active = f;
    extents = w.extents;
    layout = w.layout;
  }

  -- what a step of the transaction itself has done
  data Own_step (w : World M) (t : ℕ) (a : Answer M) (v : World M) : Type 0 where
    ended : is_rollback M a ≡ true → v ≡ forget t w → Own_step w t a v
    was_committed : is_rollback M a ≡ false → is_commit M a ≡ true → Own_step w t a v
    went_on : is_rollback M a ≡ false → (o : Open M) → v.active t ≡ Some o → forget t v ≡ forget t w → Own_step w t a v

  same_number : (t u : ℕ) → ◌≡◌ {A = Option ℕ} (Some u) (Some t) → u ≡ t
  same_number t u e = some_inj u t e

  put_own : (w : World M) (t u : ℕ) (o : Open M) → u ≡ t → forget t (put_active M u (Some o) w) ≡ forget t w
  put_own w t u o e = ap (with_active w)
      (subst (λ z. set t None (set z (Some o) w.active) ≡ set t None w.active) (sym e)
      (set_twice t None (Some o) w.active))

  own_step : (w : World M) (t : ℕ) (o : Open M) → w.active t ≡ Some o → (i : Step M) (a : Answer M) (v : World M)
      → works_on M i ≡ Some t → Next M w i a v → Own_step w t a v
  own_step w t o l _ _ _ h (begins u q b) = absurd (some_none t (sym h))
  own_step w t o l _ _ _ h (goes_on u p c q e g r room) =
      let p' = open_after M w.layout p (ask (tx_of M u p) p.now.position (tables M w)) c q (tables M w) in
      went_on refl p' (set_same u (Some p') w.active t (sym (some_inj u t h))) (put_own w t u p' (some_inj u t h))
  own_step w t o l _ _ _ h (commits u p reply e g r) = was_committed refl refl
  own_step w t o l _ _ _ h (saves u p e) =
      let p' : Open M = record p { mark = p.now; mark_lengths = p.lengths } in
      went_on refl p' (set_same u (Some p') w.active t (sym (some_inj u t h))) (put_own w t u p' (some_inj u t h))
  own_step w t o l _ _ _ h (goes_back u p e) =
      let p' : Open M = record p { now = p.mark; lengths = p.mark_lengths } in
      went_on refl p' (set_same u (Some p') w.active t (sym (some_inj u t h))) (put_own w t u p' (some_inj u t h))
  own_step w t o l _ _ _ h (rolls_back u p e) = ended refl (ap (λ (z : ℕ). forget z w) (some_inj u t h))
  own_step w t o l _ _ _ h (purges m b c) = absurd (some_none t (sym h))
  own_step w t o l _ _ _ h (rewinds m quiet b c) = absurd (some_none t (sym h))
  own_step w t o l _ _ _ h (stops u p x e r) = ended refl (ap (λ (z : ℕ). forget z w) (some_inj u t h))
  own_step w t o l _ _ _ h (fails u p x e g r) = ended refl (ap (λ (z : ℕ). forget z w) (some_inj u t h))
  own_step w t o l _ _ _ h n = went_on refl o l refl

  -- what a step of anybody else has done
  data Other_step (w : World M) (t : ℕ) (i : Step M) (a : Answer M) (v : World M) : Type 0 where
    idle : is_idle M a ≡ true → v ≡ w → Other_step w t i a v
    stands : is_idle M a ≡ false → (o : Open M) → v.active t ≡ Some o → Next M (forget t w) i a (forget t v)
        → Other_step w t i a v

  granted_without : (w : World M) (t u : ℕ) (a : Ask Name Refusal) → IsGranted M w u a → IsGranted M (forget t w) u a
  granted_without w t u (Stop e) g = g
  granted_without w t u Plain g = g
  granted_without w t u (Take n m) g = λ v p ne h. g v p ne (go p v (set_cases t None w.active v p h))
    where
      go : (p : Open M) (v : ℕ) → ((v ≡ t) × (None ≡ Some p)) ⊎ ((v ≢ t) × (w.active v ≡ Some p)) → w.active v ≡ Some p
      go p v (inl h) = absurd (some_none p (sym h.1))
      go p v (inr h) = h.1

  live_without : (w : World M) (t u : ℕ) (v : Option (Open M)) → u ≢ t → w.active u ≡ v → (forget t w).active u ≡ v
  live_without w t u v ne e = set_other t None w.active u ne ∙ e

  -- what never changes is the same without it
  ever_without : (w : World M) → Sound M w → (t : ℕ) → IsSameEver M (tables M w) (tables M (forget t w))
  ever_without w s t f e = same_ever M L w s f e ∙ sym (same_ever M L (forget t w) (sound_drop M L w s t) f e)

  same_turned : (w : World M) → Sound M w → (t : ℕ) (q : Request)
      → rejection q (tables M w) ≡ rejection q (tables M (forget t w))
  same_turned w s t q = rejection_same q (tables M w) (tables M (forget t w)) (ever_without w s t)

  same_unasked : (w : World M) → Sound M w → (t : ℕ) (q : Query)
      → query_rejection q (tables M w) ≡ query_rejection q (tables M (forget t w))
  same_unasked w s t q = query_rejection_same q (tables M w) (tables M (forget t w)) (ever_without w s t)

  same_ask : (w : World M) → Sound M w → (t u : ℕ) (o : Open M) → u ≢ t → w.active u ≡ Some o
      → ask (tx_of M u o) o.now.position (tables M w) ≡ ask (tx_of M u o) o.now.position (tables M (forget t w))
  same_ask w s t u o ne e = reads_alone M L w s u o e
      ∙ sym (reads_alone M L (forget t w) (sound_drop M L w s t) u o (live_without w t u (Some o) ne e))

  granted : (w : World M) → Sound M w → (t u : ℕ) (o : Open M) → u ≢ t → w.active u ≡ Some o
      → IsGranted M w u (ask (tx_of M u o) o.now.position (tables M w))
      → IsGranted M (forget t w) u (ask (tx_of M u o) o.now.position (tables M (forget t w)))
  granted w s t u o ne e g = subst (IsGranted M (forget t w) u) (same_ask w s t u o ne e)
      (granted_without w t u (ask (tx_of M u o) o.now.position (tables M w)) g)

  same_act : (w : World M) → Sound M w → (t u : ℕ) (o : Open M) → u ≢ t → w.active u ≡ Some o
      → IsGranted M w u (ask (tx_of M u o) o.now.position (tables M w))
      → act (tx_of M u o) o.now.position (tables M w) ≡ act (tx_of M u o) o.now.position (tables M (forget t w))
  same_act w s t u o ne e g =
      acts_alone M L w s u o e g
      ∙ sym (acts_alone M L (forget t w) (sound_drop M L w s t) u o (live_without w t u (Some o) ne e)
      (granted w s t u o ne e g))

  same_row : (w : World M) → Sound M w → (t u : ℕ) (o : Open M) (c : Change) (p : Position) → u ≢ t
      → w.active u ≡ Some o
      → IsGranted M w u (ask (tx_of M u o) o.now.position (tables M w))
      → act (tx_of M u o) o.now.position (tables M w) ≡ Go (Some c) p
      → row_at (tables M w) (key_of c) ≡ row_at (tables M (forget t w)) (key_of c)
  same_row w s t u o c p ne e g r =
      row_alone M L w s u o c p e g r
      ∙ sym (row_alone M L (forget t w) (sound_drop M L w s t) u o c p (live_without w t u (Some o) ne e)
      (granted w s t u o ne e g) (sym (same_act w s t u o ne e g) ∙ r))

  same_lengths : (w : World M) → Sound M w → (t u : ℕ) (o : Open M) (c : Option Change) (p : Position) → u ≢ t
      → w.active u ≡ Some o
      → IsGranted M w u (ask (tx_of M u o) o.now.position (tables M w))
      → act (tx_of M u o) o.now.position (tables M w) ≡ Go c p
      → add_length M w.layout c (tables M w) o.lengths ≡ add_length M w.layout c (tables M (forget t w)) o.lengths
  same_lengths w s t u o None p ne e g r = refl
  same_lengths w s t u o (Some c) p ne e g r = ap (λ v. size_of (record_of w.layout c v) ∷ o.lengths)
      (same_row w s t u o c p ne e g r)

  -- without it no more extents are used
  fewer_used : (t n : ℕ) (active : ℕ → Option (Open M)) → used_active M (set t None active) n ≤ used_active M active n
  fewer_used t zero active = omega arith
  fewer_used t (suc n) active = go (cases_eq n t) (fewer_used t n active)
    where
      go : (n ≡ t) ⊎ (n ≢ t) → used_active M (set t None active) n ≤ used_active M active n
          → used_active M (set t None active) n + used_by M (set t None active n) ≤ used_active M active n + used_by M
          (active n)
      go (inl q) i = let z : used_by M (set t None active n) ≡ 0 = ap (used_by M) (set_same t None active n q) in
          omega arith
      go (inr ne) i = let z : used_by M (set t None active n) ≡ used_by M (active n) =
          ap (used_by M) (set_other t None active n ne) in omega arith

  same_room : (w : World M) → Sound M w → (t u : ℕ) (o : Open M) (c : Option Change) (p : Position) → u ≢ t
      → w.active u ≡ Some o
      → IsGranted M w u (ask (tx_of M u o) o.now.position (tables M w))
      → act (tx_of M u o) o.now.position (tables M w) ≡ Go c p
      → HasRoom M w o c → HasRoom M (forget t w) o c
  same_room w s t u o None p ne e g r room = room
  same_room w s t u o (Some c) p ne e g r (inl fits) =
      inl (subst (λ v. size_of (record_of w.layout c v) ≤ (fill_of M o.lengths).1)
      (same_row w s t u o c p ne e g r) fits)
  same_room w s t u o (Some c) p ne e g r (inr free) = inr (omega (arith, free, fewer_used t M.terminal_limit w.active))

  put_other : (w : World M) (t u : ℕ) (v : Option (Open M)) → u ≢ t
      → put_active M u v (forget t w) ≡ forget t (put_active M u v w)
  put_other w t u v ne = ap (with_active w) (set_swap u t v None w.active (λ z. ne (sym z)))

  still_open : (w : World M) (t u : ℕ) (o : Open M) (v : Option (Open M)) → u ≢ t → w.active t ≡ Some o
      → set u v w.active t ≡ Some o
  still_open w t u o v ne l = set_other u v w.active t (λ z. ne (sym z)) ∙ l

  other_step : (w : World M) → Sound M w → (t : ℕ) (o : Open M) → w.active t ≡ Some o
      → (i : Step M) (a : Answer M) (v : World M) → works_on M i ≢ Some t → Next M w i a v → Other_step w t i a v
  other_step w s t o l _ _ _ h (begins u q b) =
      let ne : u ≢ t = λ z. some_none o (sym l ∙ (ap w.active (sym z) ∙ b.closed)) in
      let p = open_at_begin M w u q in
      stands refl o (still_open w t u o (Some p) ne l)
      (subst (Next M (forget t w) (Begin u q) Begun) (put_other w t u (Some p) ne)
      (begins u q (record {
        terminal = b.terminal;
        valid = b.valid;
        known = sym (same_turned w s t q) ∙ b.known;
        closed = live_without w t u None ne b.closed;
        counted = b.counted;
      })))
  other_step w s t o l _ _ _ h (goes_on u p c q e g r room) =
      let ne : u ≢ t = λ z. h (ap Some z) in
      let a = ask (tx_of M u p) p.now.position (tables M w) in
      let p' = open_after M w.layout p a c q (tables M w) in
      stands refl o (still_open w t u o (Some p') ne l)
      (subst (Next M (forget t w) (Advance u) More) (put_other w t u (Some p') ne)
      (subst (λ (z : List ℕ). Next M (forget t w) (Advance u) More
      (put_active M u (Some (record p' { lengths = z })) (forget t w))) (sym (same_lengths w s t u p c q ne e g r))
      (subst (λ (z : Ask Name Refusal). Next M (forget t w) (Advance u) More
      (put_active M u (Some (open_after M w.layout p z c q (tables M (forget t w)))) (forget t w))) (sym
      (same_ask w s t u p ne e))
      (goes_on u p c q (live_without w t u (Some p) ne e) (granted w s t u p ne e g)
      (sym (same_act w s t u p ne e g) ∙ r) (same_room w s t u p c q ne e g r room)))))
  other_step w s t o l _ _ _ h (commits u p reply e g r) =
      let ne : u ≢ t = λ z. h (ap Some z) in
      stands refl o (still_open w t u o None ne l)
      (subst (Next M (forget t w) (Advance u) (Committed (suc (newest M w)) reply))
      (ap (with_active (after_commit M w u p reply)) (set_swap u t None None w.active (λ z. ne (sym z))))
      (commits u p reply (live_without w t u (Some p) ne e) (granted w s t u p ne e g)
      (sym (same_act w s t u p ne e g) ∙ r)))
  other_step w s t o l _ _ _ h (saves u p e) =
      let ne : u ≢ t = λ z. h (ap Some z) in
      let p' : Open M = record p { mark = p.now; mark_lengths = p.lengths } in
      stands refl o (still_open w t u o (Some p') ne l)
      (subst (Next M (forget t w) (Save u) Saved) (put_other w t u (Some p') ne)
      (saves u p (live_without w t u (Some p) ne e)))
  other_step w s t o l _ _ _ h (goes_back u p e) =
      let ne : u ≢ t = λ z. h (ap Some z) in
      let p' : Open M = record p { now = p.mark; lengths = p.mark_lengths } in
      stands refl o (still_open w t u o (Some p') ne l)
      (subst (Next M (forget t w) (Back u) Gone_back) (put_other w t u (Some p') ne)
      (goes_back u p (live_without w t u (Some p) ne e)))
  other_step w s t o l _ _ _ h (rolls_back u p e) =
      let ne : u ≢ t = λ z. h (ap Some z) in
      stands refl o (still_open w t u o None ne l)
      (subst (Next M (forget t w) (Rollback u) Rolled_back) (put_other w t u None ne)
      (rolls_back u p (live_without w t u (Some p) ne e)))
  other_step w s t o l _ _ _ h (reads m q f n b c e) = stands refl o l
      (reads m q f (sym (same_unasked w s t q) ∙ n) b c e)
  other_step w s t o l _ _ _ h (audits m c b k) = stands refl o l (audits m c b k)
  other_step w s t o l _ _ _ h (purges m b c) = stands refl o l (purges m b c)
  other_step w s t o l _ _ _ h (rewinds m quiet b c) = absurd (some_none o (sym l ∙ quiet t))
  other_step w s t o l _ _ _ h (stops u p x e r) =
      let ne : u ≢ t = λ z. h (ap Some z) in
      stands refl o (still_open w t u o None ne l)
      (subst (Next M (forget t w) (Advance u) (Aborted x)) (put_other w t u None ne)
      (stops u p x (live_without w t u (Some p) ne e) (sym (same_ask w s t u p ne e) ∙ r)))
  other_step w s t o l _ _ _ h (fails u p x e g r) =
      let ne : u ≢ t = λ z. h (ap Some z) in
      stands refl o (still_open w t u o None ne l)
      (subst (Next M (forget t w) (Advance u) (Aborted x)) (put_other w t u None ne)
      (fails u p x (live_without w t u (Some p) ne e) (granted w s t u p ne e g) (sym (same_act w s t u p ne e g) ∙ r)))
  other_step w s t o l _ _ _ h n = idle refl refl

  -- a refusal that is not a rollback leaves the world
  idle_stays : (w : World M) (i : Step M) (a : Answer M) (v : World M) → Next M w i a v → is_idle M a ≡ true → v ≡ w
  idle_stays w _ _ _ (begins u q b) h = absurd (false≢true h)
  idle_stays w _ _ _ (goes_on u p c q e g r room) h = absurd (false≢true h)
  idle_stays w _ _ _ (commits u p reply e g r) h = absurd (false≢true h)
  idle_stays w _ _ _ (saves u p e) h = absurd (false≢true h)
  idle_stays w _ _ _ (goes_back u p e) h = absurd (false≢true h)
  idle_stays w _ _ _ (rolls_back u p e) h = absurd (false≢true h)
  idle_stays w _ _ _ (purges m b c) h = absurd (false≢true h)
  idle_stays w _ _ _ (rewinds m quiet b c) h = absurd (false≢true h)
  idle_stays w _ _ _ (stops u p x e r) h = absurd (false≢true h)
  idle_stays w _ _ _ (fails u p x e g r) h = absurd (false≢true h)
  idle_stays w _ _ _ n h = refl

  pub run_tidy : (w : World M) (es : List (Event M)) (w' : World M) → Run M w es w' → Run M w (tidy M es) w'
  run_tidy w [] w' r = r
  run_tidy w (e ∷ es) w' r = go (is_idle M e.answer) refl (run_tidy r.0 es w' r.2)
    where
      go : (b : Bool) → is_idle M e.answer ≡ b → Run M r.0 (tidy M es) w'
          → Run M w (cond b (tidy M es) (e ∷ tidy M es)) w'
      go true h t = subst (λ (z : World M). Run M z (tidy M es) w') (idle_stays w e.step e.answer r.0 r.1 h) t
      go false h t = (r.0, r.1, t)

  works : (t : ℕ) (v : Option ℕ) → names M t v ≡ true → v ≡ Some t
  works t None h = absurd (false≢true h)
  works t (Some u) h = ap Some (eqb-true u t h)

  works_not : (t : ℕ) (v : Option ℕ) → names M t v ≡ false → v ≢ Some t
  works_not t None h e = some_none t (sym e)
  works_not t (Some u) h e = eqb-false u t h (some_inj u t e)

  -- while the transaction is open
  pub run_erased : (w : World M) → Sound M w → (t : ℕ) (o : Open M) → w.active t ≡ Some o
      → (es : List (Event M)) (w' : World M)
      → Run M w es w' → is_rolled_back M t es ≡ true → Run M (forget t w) (events_without M t es) w'
  run_erased w s t o l [] w' r h = absurd (false≢true h)
  run_erased w s t o l (e ∷ es) w' r h =
      go (is_of M t e.step) refl h (λ p k. run_erased r.0 (next_sound M L w s e.step e.answer r.0 r.1) t p k es w' r.2)
    where
      own : Own_step w t e.answer r.0 → cond (is_rollback M e.answer) true
          (cond (is_commit M e.answer) false (is_rolled_back M t es)) ≡ true
          → ((p : Open M) → r.0.active t ≡ Some p → is_rolled_back M t es ≡ true
          → Run M (forget t r.0) (events_without M t es) w')
          → Run M (forget t w) (cond (is_rollback M e.answer) (tidy M es) (events_without M t es)) w'
      own (ended a b) h f =
          subst (λ (z : Bool). Run M (forget t w) (cond z (tidy M es) (events_without M t es)) w') (sym a)
          (subst (λ (z : World M). Run M z (tidy M es) w') b (run_tidy r.0 es w' r.2))
      own (was_committed a b) h f =
          absurd (false≢true (subst (λ (z : Bool). cond z false (is_rolled_back M t es) ≡ true) b
          (subst (λ (z : Bool). cond z true (cond (is_commit M e.answer) false (is_rolled_back M t es)) ≡ true) a
          h)))
      own (went_on a p k b) h f =
          subst (λ (z : Bool). Run M (forget t w) (cond z (tidy M es) (events_without M t es)) w') (sym a)
          (subst (λ (z : World M). Run M z (events_without M t es) w') b
          (f p k (later (is_commit M e.answer)
          (subst (λ (z : Bool). cond z true (cond (is_commit M e.answer) false (is_rolled_back M t es)) ≡ true) a
          h))))
        where
          later : (c : Bool) → cond c false (is_rolled_back M t es) ≡ true → is_rolled_back M t es ≡ true
          later true q = absurd (false≢true q)
          later false q = q

      other : Other_step w t e.step e.answer r.0 → is_rolled_back M t es ≡ true
          → ((p : Open M) → r.0.active t ≡ Some p → is_rolled_back M t es ≡ true
          → Run M (forget t r.0) (events_without M t es) w')
          → Run M (forget t w) (cond (is_idle M e.answer) (events_without M t es) (e ∷ events_without M t es)) w'
      other (idle a b) h f =
          subst (λ (z : Bool). Run M (forget t w) (cond z (events_without M t es) (e ∷ events_without M t es)) w')
          (sym a)
          (subst (λ (z : World M). Run M (forget t z) (events_without M t es) w') b
          (f o (ap (λ (z : World M). z.active t) b ∙ l) h))
      other (stands a p k n) h f =
          subst (λ (z : Bool). Run M (forget t w) (cond z (events_without M t es) (e ∷ events_without M t es)) w')
          (sym a)
          (forget t r.0, n, f p k h)

      go : (b : Bool) → is_of M t e.step ≡ b
          → cond b (cond (is_rollback M e.answer) true (cond (is_commit M e.answer) false (is_rolled_back M t es)))
          (is_rolled_back M t es) ≡ true
          → ((p : Open M) → r.0.active t ≡ Some p → is_rolled_back M t es ≡ true
          → Run M (forget t r.0) (events_without M t es) w')
          → Run M (forget t w) (cond b (cond (is_rollback M e.answer) (tidy M es) (events_without M t es))
          (cond (is_idle M e.answer) (events_without M t es) (e ∷ events_without M t es))) w'
      go true q h f = own (own_step w t o l e.step e.answer r.0 (works t (works_on M e.step) q) r.1) h f
      go false q h f = other (other_step w s t o l e.step e.answer r.0 (works_not t (works_on M e.step) q) r.1) h f

  -- what a beginning has done
  begin_step : (w : World M) (t : ℕ) (q : Request) (i : Step M) (a : Answer M) (v : World M) → Next M w i a v
      → i ≡ Begin t q → a ≡ Begun
      → (o : Open M) × (v.active t ≡ Some o) × (forget t v ≡ w)
  begin_step w t q _ _ _ (begins u p b) i a =
      let same : u ≡ t = cc in
      let o = open_at_begin M w u p in (
        o,
        set_same u (Some o) w.active t (sym same),
        put_own w t u o same
            ∙ ap (with_active w) (set_idle t None w.active (ap w.active (sym same) ∙ b.closed)),
      )
  begin_step w t q _ _ _ n i a = cc

  -- from its beginning on
  pub run_without : (w : World M) → Sound M w
      → (before : List (Event M)) (t : ℕ) (q : Request) (after : List (Event M)) (w' : World M)
      → Run M w (before ++ record { step = Begin t q; answer = Begun } ∷ after) w' → is_rolled_back M t after ≡ true
      → Run M w (without M before t after) w'
  run_without w s [] t q after w' r h =
      let b = begin_step w t q (Begin t q) Begun r.0 r.1 refl refl in
      subst (λ (z : World M). Run M z (events_without M t after) w') b.2
      (run_erased r.0 (next_sound M L w s (Begin t q) Begun r.0 r.1) t b.0 b.1 after w' r.2 h)
  run_without w s (e ∷ before) t q after w' r h = go (is_idle M e.answer) refl
      (run_without r.0 (next_sound M L w s e.step e.answer r.0 r.1) before t q after w' r.2 h)
    where
      go : (b : Bool) → is_idle M e.answer ≡ b → Run M r.0 (without M before t after) w'
          → Run M w (cond b (tidy M before) (e ∷ tidy M before) ++ events_without M t after) w'
      go true i x = subst (λ (z : World M). Run M z (without M before t after) w')
          (idle_stays w e.step e.answer r.0 r.1 i) x
      go false i x = (r.0, r.1, x)
