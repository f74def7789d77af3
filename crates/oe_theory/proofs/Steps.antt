-- Each step keeps a world sound, and each commit is the whole effect.
use Rattle.std.proofs.Common.{◌≡◌, ℕ, suc, ◌-◌, Bool, true, false, cond, Option, None, Some, List, [], ◌∷◌, ◌++◌, take}
use Rattle.std.proofs.Common.{drop, refl, sym, ap, ◌∙◌, subst, inl, inr}
use Rattle.std.specs.Prelude.{◌⊎◌, ◌≢◌}
use Rattle.std.proofs.lemmas.List.{take-append-drop}
use Rattle.std.proofs.lemmas.Bool.{cond-true}
use Rattle.oe_theory.specs.Machine.{Machine, Mode, Shared, Exclusive, Guard, Free, Under, Own, Ask, Stop, Plain, Take}
use Rattle.oe_theory.specs.Machine.{Fail, Go, Ready, Tx}
use Rattle.oe_theory.specs.World.{IsEnough, go_together, greater_mode, set, bump, Open, Commit, World, tx_of, overlay}
use Rattle.oe_theory.specs.World.{add}
use Rattle.oe_theory.specs.World.{map_after, version, counts_after, counts_now, newest, latest, IsCommit, IsSerial}
use Rattle.oe_theory.specs.World.{tables}
use Rattle.oe_theory.specs.Next.{Step, Answer, put_active, open_at_begin, held_after, open_after, IsGranted}
use Rattle.oe_theory.specs.Next.{after_commit, after_purge}
use Rattle.oe_theory.specs.Next.{after_rewind, IsQuiet, Next, begins, goes_on, commits, saves, goes_back, rolls_back}
use Rattle.oe_theory.specs.Next.{reads}
use Rattle.oe_theory.specs.Next.{audits, purges, rewinds, stops, fails, is_busy, is_full, is_rejected, is_open}
use Rattle.oe_theory.specs.Next.{number_is_rejected, query_is_rejected, misses, not_open, too_old, future, not_quiet}
use Rattle.oe_theory.specs.Next.{lacks_memory_at_begin, lacks_memory, Event, Run}
use Rattle.oe_theory.specs.Laws.{Holds, with_asked, MayRead, MayReadPart, MayWrite, Alike, IsSameEver, held_of, IsAsked}
use Rattle.oe_theory.specs.Laws.{Reached, at_start, one_more, all_held, IsGood, IsOnCourse, AreApart, Sound, Laws}
use Rattle.oe_theory.proofs.Sets.{enough_shared, set_other, set_cases, some_inj, some_none, risen_enough, risen_keeps}
use Rattle.oe_theory.proofs.Sets.{risen_exclusive, together_shared, together_exclusive}
use Rattle.oe_theory.proofs.Replay.{write_more, alike_fewer, asked_held, asked_all, taken_held, ask_alike, act_alike}
use Rattle.oe_theory.proofs.Replay.{reached_alike, reached_more}
use Rattle.oe_theory.proofs.Endings.{ready_law, fail_law, stop_law, change_law}
use Rattle.oe_theory.proofs.Tables.{alike_tables, alike_other, same_ever}

module _ (M : Machine) (L : Laws M) where
  open M use {
    Map,
    Change,
    row_at,
    key_of,
    Name,
    is_name,
    governs,
    Request,
    Position,
    Reply,
    Refusal,
    ask,
    act,
    marks,
    taken,
    whole,
    Good,
  }
  open L use {name_true, name_refl, may_write, ends, stays_good}

  -- versions are good
  pub good_version : (f : ℕ → ℕ) (b : Map) (cs : List (Commit M)) → Good f b → IsSerial M f b cs
      → Good (counts_after M f cs) (version M b cs)
  good_version f b [] g s = g
  good_version f b (c ∷ cs) g s =
      let e = s.0.effect in
      subst (λ p. Good (bump c.tx.terminal (counts_after M f cs)) (map_after M p (version M b cs))) (sym e)
      (stays_good (counts_after M f cs) c.tx (version M b cs) s.0.after c.reply
      (record {
        good = good_version f b cs g s.1;
        valid = s.0.valid;
        known = s.0.known;
        terminal = s.0.terminal;
        number = s.0.number;
      }) e)

  pub good_latest : (w : World M) → Sound M w → (t : ℕ) (o : Open M) → w.active t ≡ Some o
      → IsGood M (counts_now M w) (tx_of M t o) (latest M w)
  good_latest w s t o e =
      record {
        good = good_version w.counts w.base w.history s.good s.serial;
        valid = (s.each t o e).valid;
        known = (s.each t o e).known;
        terminal = (s.each t o e).terminal;
        number = (s.each t o e).number;
      }

  -- locks that were granted are held afterwards, beside those held before, and no other may write under them
  after_keeps : (a : Ask Name Refusal) (held : Name → Option Mode) (n : Name) (m : Mode) → IsEnough (held n) m
      → IsEnough (held_after M a held n) m
  after_keeps (Stop e) held n m h = h
  after_keeps Plain held n m h = h
  after_keeps (Take p q) held n m h = go (is_name n p)
    where
      go : (b : Bool) → IsEnough (cond b (Some (greater_mode q (held n))) (held n)) m
      go true = risen_keeps q m (held n) h
      go false = h

  after_asked : (w : World M) (t : ℕ) (a : Ask Name Refusal) (held : Name → Option Mode) → IsGranted M w t a
      → IsAsked M (held_after M a held) a
  after_asked w t (Stop e) held g = g
  after_asked w t Plain held g = g
  after_asked w t (Take p q) held g = subst (λ v. IsEnough v q)
      (sym (cond-true (is_name p p) (Some (greater_mode q (held p))) (held p) (name_refl p))) (risen_enough q (held p))

  after_apart : (w : World M) (t : ℕ) (a : Ask Name Refusal) (held : Name → Option Mode) → IsGranted M w t a
      → (u : ℕ) (p : Open M) → t ≢ u → w.active u ≡ Some p → AreApart M held p.held
      → AreApart M (held_after M a held) p.held
  after_apart w t (Stop e) held g u p ne q f n x y = f n x y
  after_apart w t Plain held g u p ne q f n x y = f n x y
  after_apart w t (Take i m) held g u p ne q f n x y = go (is_name n i) refl y
    where
      go : (b : Bool) → is_name n i ≡ b → IsEnough (cond b (Some (greater_mode m (held n))) (held n)) Shared → ⊥
      go true e y = together_shared m (p.held i) (g u p (λ z. ne (sym z)) q)
          (subst (λ z. IsEnough (p.held z) Exclusive) (name_true n i e) x)
      go false e y = f n x y

  after_apart' : (w : World M) (t : ℕ) (a : Ask Name Refusal) (held : Name → Option Mode) → IsGranted M w t a
      → (u : ℕ) (p : Open M) → t ≢ u → w.active u ≡ Some p → AreApart M p.held held
      → AreApart M p.held (held_after M a held)
  after_apart' w t (Stop e) held g u p ne q f n x y = f n x y
  after_apart' w t Plain held g u p ne q f n x y = f n x y
  after_apart' w t (Take i m) held g u p ne q f n x y = go (is_name n i) refl x
    where
      rose : n ≡ i → (m ≡ Exclusive) ⊎ (IsEnough (held n) Exclusive) → ⊥
      rose e (inl k) =
          together_exclusive (p.held i) (subst (λ z. go_together z (p.held i) ≡ true) k (g u p (λ z. ne (sym z)) q))
          (subst (λ z. IsEnough (p.held z) Shared) e y)
      rose e (inr h) = f n h y

      go : (b : Bool) → is_name n i ≡ b → IsEnough (cond b (Some (greater_mode m (held n))) (held n)) Exclusive → ⊥
      go true e x = rose (name_true n i e) (risen_exclusive m (held n) x)
      go false e x = f n x y

  -- what a step of an open transaction reads is what its program alone would read
  pub reads_alone : (w : World M) → Sound M w → (t : ℕ) (o : Open M) → w.active t ≡ Some o
      → ask (tx_of M t o) o.now.position (tables M w) ≡ ask (tx_of M t o) o.now.position
      (overlay M o.now.changes (latest M w))
  reads_alone w s t o e =
      ask_alike M L o.held (tx_of M t o) (latest M w) o.now (s.each t o e).now (tables M w)
      (overlay M o.now.changes (latest M w))
      (alike_tables M L w s t o e o.held (λ u p ne q. s.apart t u o p ne e q))

  -- the locks after the step that the tables ask for
  pub held_next : World M → ℕ → Open M → Name → Option Mode
  held_next w t o = held_after M (ask (tx_of M t o) o.now.position (tables M w)) o.held

  pub acts_alone : (w : World M) → Sound M w → (t : ℕ) (o : Open M) → w.active t ≡ Some o
      → IsGranted M w t (ask (tx_of M t o) o.now.position (tables M w))
      → act (tx_of M t o) o.now.position (tables M w) ≡ act (tx_of M t o) o.now.position
      (overlay M o.now.changes (latest M w))
  unfolding held_next
  acts_alone w s t o e g =
      let a = ask (tx_of M t o) o.now.position (tables M w) in
      act_alike M L (held_next w t o) (tx_of M t o) (latest M w) o.now
      (reached_more M L o.held (held_next w t o) (tx_of M t o) (latest M w) (after_keeps a o.held) o.now
      (s.each t o e).now)
      (tables M w) (overlay M o.now.changes (latest M w))
      (alike_tables M L w s t o e (held_next w t o)
      (λ u p ne q. after_apart w t a o.held g u p ne q (s.apart t u o p ne e q)))
      (after_asked w t a o.held g)

  write_to_read : (held : Name → Option Mode) (x : Tx Request) (g : Guard Name) → MayWrite M (held_of M held) x g
      → MayRead M (held_of M held) x g
  write_to_read held x Free h = h
  write_to_read held x (Under n) h = enough_shared (held n) Exclusive h
  write_to_read held x (Own i j) h = h

  -- and the row that it changes is the one that its program alone would find
  pub row_alone : (w : World M) → Sound M w → (t : ℕ) (o : Open M) (c : Change) (p : Position) → w.active t ≡ Some o
      → IsGranted M w t (ask (tx_of M t o) o.now.position (tables M w))
      → act (tx_of M t o) o.now.position (tables M w) ≡ Go (Some c) p
      → row_at (tables M w) (key_of c) ≡ row_at (overlay M o.now.changes (latest M w)) (key_of c)
  unfolding held_next
  row_alone w s t o c p e g r =
      let x = tx_of M t o in
      let a = ask x o.now.position (tables M w) in
      let held = held_next w t o in
      let asked = after_asked w t a o.held g in
      let way = reached_more M L o.held held x (latest M w) (after_keeps a o.held) o.now (s.each t o e).now in
      let like = alike_tables M L w s t o e held
      (λ u q ne h. after_apart w t a o.held g u q ne h (s.apart t u o q ne e h)) in
      like.rows (key_of c)
      (write_to_read held x (governs (key_of c))
      (write_more M L (Holds M (with_asked M a (taken x o.now.position))) (held_of M held) x
      (λ n. asked_held M L held a (taken x o.now.position) asked (taken_held M L held x (latest M w) o.now way) n
      Exclusive)
      (governs (key_of c))
      (may_write x o.now.position (tables M w) c p (asked_all M L held a asked) r)))

  alike_back : (P : Name → Mode → Type 0) (x : Tx Request) (r r' : Map) → Alike M P x r r' → Alike M P x r' r
  alike_back P x r r' a = record { rows = λ k h. sym (a.rows k h); parts = λ f h. sym (a.parts f h) }

  -- each lock is granted to one who is alone
  pub alone_asked : (w : World M) (t : ℕ) (a : Ask Name Refusal) → IsGranted M w t a → IsAsked M (all_held M) a
  alone_asked w t (Stop e) g = g
  alone_asked w t Plain g = g
  alone_asked w t (Take n m) g = tt

  pub to_alone : (w : World M) → Sound M w → (t : ℕ) (o : Open M) → w.active t ≡ Some o
      → Reached M (all_held M) (tx_of M t o) (latest M w) o.now
  to_alone w s t o e = reached_more M L o.held (all_held M) (tx_of M t o) (latest M w) (λ n m h. tt) o.now
      (s.each t o e).now

  -- the tables accept the change of a row, as the newest version with one's own changes does
  pub change_accepted : (w : World M) → Sound M w → (t : ℕ) (o : Open M) (c : Change) (p : Position)
      → w.active t ≡ Some o
      → IsGranted M w t (ask (tx_of M t o) o.now.position (tables M w))
      → act (tx_of M t o) o.now.position (tables M w) ≡ Go (Some c) p
      → M.Accepts c (tables M w)
  unfolding held_next
  change_accepted w s t o c p e g r =
      let x = tx_of M t o in
      let own = overlay M o.now.changes (latest M w) in
      let held = held_next w t o in
      let asked : IsAsked M held (ask x o.now.position own) = subst (IsAsked M held) (reads_alone w s t o e)
      (after_asked w t (ask x o.now.position (tables M w)) o.held g) in
      let way = reached_more M L o.held held x (latest M w) (after_keeps (ask x o.now.position (tables M w)) o.held)
      o.now (s.each t o e).now in
      let like = alike_tables M L w s t o e held
      (λ u q ne h. after_apart w t (ask x o.now.position (tables M w)) o.held g u q ne h
      (s.apart t u o q ne e h)) in
      let does = sym (acts_alone w s t o e g) ∙ r in
      L.accepts_same x o.now.position own (tables M w) c p (asked_all M L held _ asked)
      (alike_fewer M L _ _ x own (tables M w)
      (λ n. asked_held M L held (ask x o.now.position own) (taken x o.now.position) asked
      (taken_held M L held x (latest M w) o.now way) n Shared)
      (alike_back (held_of M held) x (tables M w) own like))
      does
      (change_law M (M.MayRefuse o.request) M.Accepts x (latest M w) o.now c p _
      (ends (counts_now M w) x (latest M w) (good_latest w s t o e)) (to_alone w s t o e)
      (asked_all M L held _ asked) does)

  -- at a commit the changes made step by step are the whole effect on the newest version
  pub commit_whole : (w : World M) → Sound M w → (t : ℕ) (o : Open M) (reply : Reply) → w.active t ≡ Some o
      → IsGranted M w t (ask (tx_of M t o) o.now.position (tables M w))
      → act (tx_of M t o) o.now.position (tables M w) ≡ Ready reply
      → whole (tx_of M t o) (latest M w) ≡ Some (overlay M o.now.changes (latest M w), reply)
  commit_whole w s t o reply e g r =
      ready_law M (M.MayRefuse o.request) M.Accepts (tx_of M t o) (latest M w) o.now reply _
      (ends (counts_now M w) (tx_of M t o) (latest M w) (good_latest w s t o e)) (to_alone w s t o e)
      (subst (IsAsked M (all_held M)) (reads_alone w s t o e) (alone_asked w t _ g))
      (sym (acts_alone w s t o e g) ∙ r)

  -- and where its program fails or stops the whole effect is none
  pub fail_whole : (w : World M) → Sound M w → (t : ℕ) (o : Open M) (x : Refusal) → w.active t ≡ Some o
      → IsGranted M w t (ask (tx_of M t o) o.now.position (tables M w))
      → act (tx_of M t o) o.now.position (tables M w) ≡ Fail x
      → whole (tx_of M t o) (latest M w) ≡ None
  fail_whole w s t o x e g r =
      fail_law M (M.MayRefuse o.request) M.Accepts (tx_of M t o) (latest M w) o.now x _
      (ends (counts_now M w) (tx_of M t o) (latest M w) (good_latest w s t o e)) (to_alone w s t o e)
      (subst (IsAsked M (all_held M)) (reads_alone w s t o e) (alone_asked w t _ g))
      (sym (acts_alone w s t o e g) ∙ r)

  pub stop_whole : (w : World M) → Sound M w → (t : ℕ) (o : Open M) (x : Refusal) → w.active t ≡ Some o
      → ask (tx_of M t o) o.now.position (tables M w) ≡ Stop x
      → whole (tx_of M t o) (latest M w) ≡ None
  stop_whole w s t o x e r =
      stop_law M (M.MayRefuse o.request) M.Accepts (tx_of M t o) (latest M w) o.now x _
      (ends (counts_now M w) (tx_of M t o) (latest M w) (good_latest w s t o e)) (to_alone w s t o e)
      (sym (reads_alone w s t o e) ∙ r)

  -- its program alone comes to the same refusal
  pub fail_alone : (w : World M) → Sound M w → (t : ℕ) (o : Open M) (x : Refusal) → w.active t ≡ Some o
      → IsGranted M w t (ask (tx_of M t o) o.now.position (tables M w))
      → act (tx_of M t o) o.now.position (tables M w) ≡ Fail x
      → IsAsked M (all_held M) (ask (tx_of M t o) o.now.position (overlay M o.now.changes (latest M w)))
      × (act (tx_of M t o) o.now.position (overlay M o.now.changes (latest M w)) ≡ Fail x)
  fail_alone w s t o x e g r =
      (subst (IsAsked M (all_held M)) (reads_alone w s t o e) (alone_asked w t _ g), sym (acts_alone w s t o e g) ∙ r)

  -- a transaction that changes, and one that ends, leave a sound world
  pub sound_put : (w : World M) → Sound M w → (t : ℕ) (o : Open M) → IsOnCourse M (counts_now M w) (latest M w) t o
      → ((u : ℕ) (p : Open M) → t ≢ u → w.active u ≡ Some p → AreApart M o.held p.held × AreApart M p.held o.held)
      → Sound M (put_active M t (Some o) w)
  sound_put w s t o c f =
      record {
        good = s.good;
        serial = s.serial;
        apart = λ i j x y ne p q. two i j x y ne (set_cases t (Some o) w.active i x p)
            (set_cases t (Some o) w.active j y q);
        each = λ i x p. one i x (set_cases t (Some o) w.active i x p);
      }
    where
      one : (i : ℕ) (x : Open M) → ((i ≡ t) × (Some o ≡ Some x)) ⊎ ((i ≢ t) × (w.active i ≡ Some x))
          → IsOnCourse M (counts_now M w) (latest M w) i x
      one i x (inl h) =
          subst (λ (z : Open M). IsOnCourse M (counts_now M w) (latest M w) i z) (some_inj o x h.1)
          (subst (λ (z : ℕ). IsOnCourse M (counts_now M w) (latest M w) z o) (sym h.0) c)
      one i x (inr h) = s.each i x h.1

      two : (i j : ℕ) (x y : Open M) → i ≢ j → ((i ≡ t) × (Some o ≡ Some x)) ⊎ ((i ≢ t) × (w.active i ≡ Some x))
          → ((j ≡ t) × (Some o ≡ Some y)) ⊎ ((j ≢ t) × (w.active j ≡ Some y)) → AreApart M x.held y.held
      two i j x y ne (inl h) (inl k) = absurd (ne (h.0 ∙ sym k.0))
      two i j x y ne (inl h) (inr k) = subst (λ (z : Open M). AreApart M z.held y.held) (some_inj o x h.1)
          (f j y (λ z. k.0 (sym z)) k.1).0
      two i j x y ne (inr h) (inl k) = subst (λ (z : Open M). AreApart M x.held z.held) (some_inj o y k.1)
          (f i x (λ z. h.0 (sym z)) h.1).1
      two i j x y ne (inr h) (inr k) = s.apart i j x y ne h.1 k.1

  pub sound_drop : (w : World M) → Sound M w → (t : ℕ) → Sound M (put_active M t None w)
  sound_drop w s t =
      record {
        good = s.good;
        serial = s.serial;
        apart = λ i j x y ne p q. s.apart i j x y ne (still i x p) (still j y q);
        each = λ i x p. s.each i x (still i x p);
      }
    where
      still : (i : ℕ) (x : Open M) → set t None w.active i ≡ Some x → w.active i ≡ Some x
      still i x p = go (set_cases t None w.active i x p)
        where
          go : ((i ≡ t) × (None ≡ Some x)) ⊎ ((i ≢ t) × (w.active i ≡ Some x)) → w.active i ≡ Some x
          go (inl h) = absurd (some_none x (sym h.1))
          go (inr h) = h.1

  added_since : (c : Option Change) (all since old : List Change) → all ≡ since ++ old
      → add M c all ≡ add M c since ++ old
  added_since None all since old e = e
  added_since (Some c) all since old e = ap (λ cs. c ∷ cs) e

  sound_goes : (w : World M) → Sound M w → (t : ℕ) (o : Open M) (c : Option Change) (p : Position) → w.active t ≡ Some o
      → IsGranted M w t (ask (tx_of M t o) o.now.position (tables M w))
      → act (tx_of M t o) o.now.position (tables M w) ≡ Go c p
      → Sound M (put_active M t
      (Some (open_after M w.layout o (ask (tx_of M t o) o.now.position (tables M w)) c p (tables M w))) w)
  sound_goes w s t o c p e g r =
      let a = ask (tx_of M t o) o.now.position (tables M w) in
      let more = reached_more M L o.held (held_after M a o.held) (tx_of M t o) (latest M w) (after_keeps a o.held) in
      sound_put w s t (open_after M w.layout o a c p (tables M w))
      (record {
        terminal = (s.each t o e).terminal;
        number = (s.each t o e).number;
        valid = (s.each t o e).valid;
        known = (s.each t o e).known;
        now = one_more o.now c p (more o.now (s.each t o e).now)
            (subst (IsAsked M (held_after M a o.held)) (reads_alone w s t o e) (after_asked w t a o.held g))
            (sym (acts_alone w s t o e g) ∙ r);
        mark = more (cond (marks o.now.position) o.now o.mark) (mark_way (marks o.now.position));
        since = add M c (cond (marks o.now.position) [] (s.each t o e).since);
        split = added_since c o.now.changes (cond (marks o.now.position) [] (s.each t o e).since)
            (cond (marks o.now.position) o.now o.mark).changes (mark_split (marks o.now.position));
      })
      (λ u q ne h. (
        after_apart w t a o.held g u q ne h (s.apart t u o q ne e h),
        after_apart' w t a o.held g u q ne h
            (s.apart u t q o (λ z. ne (sym z)) h e),
      ))
    where
      -- the mark, where the program may have moved it
      mark_way : (b : Bool) → Reached M o.held (tx_of M t o) (latest M w) (cond b o.now o.mark)
      mark_way true = (s.each t o e).now
      mark_way false = (s.each t o e).mark

      mark_split : (b : Bool) → o.now.changes ≡ cond b [] (s.each t o e).since ++ (cond b o.now o.mark).changes
      mark_split true = refl
      mark_split false = (s.each t o e).split

  -- what may be read by any is the same where what may be read is alike
  ever_alike : (P : Name → Mode → Type 0) (x : Tx Request) (r r' : Map) → Alike M P x r r' → IsSameEver M r r'
  ever_alike P x r r' h f free = h.parts f (subst (λ (g : Guard Name). MayReadPart M P x g) (sym free) tt)

  sound_commits : (w : World M) → Sound M w → (t : ℕ) (o : Open M) (reply : Reply) → w.active t ≡ Some o
      → whole (tx_of M t o) (latest M w) ≡ Some (overlay M o.now.changes (latest M w), reply)
      → Sound M (after_commit M w t o reply)
  sound_commits w s t o reply e q =
      record {
        good = s.good;
        serial = (
          record {
            after = overlay M o.now.changes (latest M w);
            effect = q;
            valid = (s.each t o e).valid;
            known = (s.each t o e).known;
            terminal = (s.each t o e).terminal;
            number =
                (s.each t o e).number;
          },
          s.serial,
        );
        apart = d.apart;
        each = λ i x p. one i x (set_cases t None w.active i x p);
      }
    where
      d : Sound M (put_active M t None w)
      d = sound_drop w s t

      one : (i : ℕ) (x : Open M) → ((i ≡ t) × (None ≡ Some x)) ⊎ ((i ≢ t) × (w.active i ≡ Some x))
          → IsOnCourse M (bump t (counts_now M w)) (map_after M (whole (tx_of M t o) (latest M w)) (latest M w)) i x
      one i x (inl h) = absurd (some_none x (sym h.1))
      one i x (inr h) =
          let c = s.each i x h.1 in
          let like = alike_other M L w s i t x o h.0 h.1 e in
          subst (λ (z : Option (Map × Reply)). IsOnCourse M (bump t (counts_now M w)) (map_after M z (latest M w)) i x)
          (sym q)
          (record {
            terminal = c.terminal;
            number = c.number ∙ ap suc (sym (set_other t (suc (counts_now M w t)) (counts_now M w) i h.0));
            valid = c.valid;
            known = sym (L.rejection_same x.request (latest M w) (overlay M o.now.changes (latest M w))
                (ever_alike (held_of M x.held) (tx_of M i x) (latest M w) (overlay M o.now.changes (latest M w)) like))
                ∙ c.known;
            now = reached_alike M L x.held (tx_of M i x) (latest M w) (overlay M o.now.changes (latest M w)) like x.now
                c.now;
            mark = reached_alike M L x.held (tx_of M i x) (latest M w) (overlay M o.now.changes (latest M w)) like
                x.mark c.mark;
            since = c.since;
            split = c.split;
          })

  -- versions and counts over a history in two parts
  pub version-append : (b : Map) (xs ys : List (Commit M)) → version M (version M b ys) xs ≡ version M b (xs ++ ys)
  version-append b [] ys = refl
  version-append b (x ∷ xs) ys = ap (λ r. map_after M (whole x.tx r) r) (version-append b xs ys)

  pub counts-append : (f : ℕ → ℕ) (xs ys : List (Commit M))
      → counts_after M (counts_after M f ys) xs ≡ counts_after M f (xs ++ ys)
  counts-append f [] ys = refl
  counts-append f (x ∷ xs) ys = ap (bump x.tx.terminal) (counts-append f xs ys)

  pub serial_front : (f : ℕ → ℕ) (b : Map) (xs ys : List (Commit M)) → IsSerial M f b (xs ++ ys)
      → IsSerial M (counts_after M f ys) (version M b ys) xs
  serial_front f b [] ys s = tt
  serial_front f b (x ∷ xs) ys s = (
    subst (λ (g : ℕ → ℕ). IsCommit M g (version M (version M b ys) xs) x) (sym (counts-append f xs ys))
        (subst (λ (r : Map). IsCommit M (counts_after M f (xs ++ ys)) r x) (sym (version-append b xs ys)) s.0),
    serial_front f b xs ys s.1,
  )

  pub serial_back : (f : ℕ → ℕ) (b : Map) (xs ys : List (Commit M)) → IsSerial M f b (xs ++ ys) → IsSerial M f b ys
  serial_back f b [] ys s = s
  serial_back f b (x ∷ xs) ys s = serial_back f b xs ys s.1

  parted : (f : ℕ → ℕ) (b : Map) (j : ℕ) (cs : List (Commit M)) → IsSerial M f b cs
      → IsSerial M f b (take j cs ++ drop j cs)
  parted f b j cs s = subst (IsSerial M f b) (sym (take-append-drop j cs)) s

  pub purged_latest : (w : World M) (m : ℕ) → latest M (after_purge M w m) ≡ latest M w
  purged_latest w m =
      let j = newest M w - m in
      version-append w.base (take j w.history) (drop j w.history) ∙ ap (version M w.base) (take-append-drop j w.history)

  pub purged_counts : (w : World M) (m : ℕ) → counts_now M (after_purge M w m) ≡ counts_now M w
  purged_counts w m =
      let j = newest M w - m in
      counts-append w.counts (take j w.history) (drop j w.history) ∙ ap (counts_after M w.counts)
      (take-append-drop j w.history)

  sound_purges : (w : World M) → Sound M w → (m : ℕ) → Sound M (after_purge M w m)
  sound_purges w s m =
      let j = newest M w - m in
      let split = parted w.counts w.base j w.history s.serial in
      record {
        good = good_version w.counts w.base (drop j w.history) s.good
            (serial_back w.counts w.base (take j w.history) (drop j w.history) split);
        serial = serial_front w.counts w.base (take j w.history) (drop j w.history) split;
        apart = s.apart;
        each = λ t o e.
            subst (λ (f : ℕ → ℕ). IsOnCourse M f (latest M (after_purge M w m)) t o) (sym (purged_counts w m))
            (subst (λ (r : Map). IsOnCourse M (counts_now M w) r t o) (sym (purged_latest w m)) (s.each t o e));
      }

  sound_rewinds : (w : World M) → Sound M w → (m : ℕ) → IsQuiet M w → Sound M (after_rewind M w m)
  sound_rewinds w s m quiet =
      let j = newest M w - m in
      record {
        good = s.good;
        serial = serial_back w.counts w.base (take j w.history) (drop j w.history)
            (parted w.counts w.base j w.history s.serial);
        apart = s.apart;
        each = λ t o e. absurd (some_none o (sym e ∙ quiet t));
      }

  -- each step keeps a world sound
  pub next_sound : (w : World M) → Sound M w → (i : Step M) (a : Answer M) (w' : World M) → Next M w i a w' → Sound M w'
  next_sound w s _ _ _ (begins t q b) =
      sound_put w s t (open_at_begin M w t q)
      (record {
        terminal = b.terminal;
        number = refl;
        valid = b.valid;
        known = sym (L.rejection_same q (tables M w) (latest M w) (same_ever M L w s)) ∙ b.known;
        now = at_start;
        mark = at_start;
        since = [];
        split = refl;
      }) (λ u p ne h. (λ n x y. y, λ n x y. x))
  next_sound w s _ _ _ (goes_on t o c p e g r room) = sound_goes w s t o c p e g r
  next_sound w s _ _ _ (commits t o reply e g r) = sound_commits w s t o reply e (commit_whole w s t o reply e g r)
  next_sound w s _ _ _ (saves t o e) =
      let c = s.each t o e in
      sound_put w s t (record o { mark = o.now; mark_lengths = o.lengths })
      (record {
        terminal = c.terminal;
        number = c.number;
        valid = c.valid;
        known = c.known;
        now = c.now;
        mark = c.now;
        since = [];
        split = refl;
      }) (λ u p ne h. (
        s.apart t u o p ne e h,
        s.apart u t p o
            (λ z. ne (sym z)) h e,
      ))
  next_sound w s _ _ _ (goes_back t o e) =
      let c = s.each t o e in
      sound_put w s t (record o { now = o.mark; lengths = o.mark_lengths })
      (record {
        terminal = c.terminal;
        number = c.number;
        valid = c.valid;
        known = c.known;
        now = c.mark;
        mark = c.mark;
        since = [];
        split = refl;
      }) (λ u p ne h. (
        s.apart t u o p ne e h,
        s.apart u t p o
            (λ z. ne (sym z)) h e,
      ))
  next_sound w s _ _ _ (rolls_back t o e) = sound_drop w s t
  next_sound w s _ _ _ (reads m q f n l h e) = s
  next_sound w s _ _ _ (audits m c l h) = s
  next_sound w s _ _ _ (purges m l h) = sound_purges w s m
  next_sound w s _ _ _ (rewinds m quiet l h) = sound_rewinds w s m quiet
  next_sound w s _ _ _ (stops t o x e r) = sound_drop w s t
  next_sound w s _ _ _ (fails t o x e g r) = sound_drop w s t
  next_sound w s _ _ _ (is_busy t o n m u e r b) = s
  next_sound w s _ _ _ (is_full t o c p e g r full) = s
  next_sound w s _ _ _ (is_rejected t q x e) = s
  next_sound w s _ _ _ (is_open t q o n e) = s
  next_sound w s _ _ _ (number_is_rejected t q x n e f) = s
  next_sound w s _ _ _ (query_is_rejected m q x e) = s
  next_sound w s _ _ _ (misses m q x n l h e) = s
  next_sound w s _ _ _ (not_open i t h e) = s
  next_sound w s _ _ _ (too_old i m h k l) = s
  next_sound w s _ _ _ (future i m h k l) = s
  next_sound w s _ _ _ (not_quiet m n e) = s
  next_sound w s _ _ _ (lacks_memory_at_begin t q b) = s
  next_sound w s _ _ _ (lacks_memory t o e h) = s

  pub run_sound : (w : World M) → Sound M w → (es : List (Event M)) (w' : World M) → Run M w es w' → Sound M w'
  run_sound w s [] w' r = subst (Sound M) r s
  run_sound w s (e ∷ es) w' r = run_sound r.0 (next_sound w s e.step e.answer r.0 r.1) es w' r.2
