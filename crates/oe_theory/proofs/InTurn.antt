-- Records that are put back in turn: each finds the row that its change left.
use Rattle.std.proofs.Common.{◌≡◌, ℕ, suc, true, cond, Option, None, Some, List, [], ◌∷◌, ◌++◌, take, refl, sym, ap}
use Rattle.std.proofs.Common.{◌∙◌, subst}
use Rattle.oe_theory.specs.Machine.{Machine, Mode, Tx}
use Rattle.oe_theory.specs.World.{set, State, Open, Commit, World, tx_of, overlay, net, map_after, version, latest}
use Rattle.oe_theory.specs.World.{counts_after, counts_now, IsCommit, IsSerial, tables}
use Rattle.oe_theory.specs.Next.{record_on, put_active}
use Rattle.oe_theory.specs.Laws.{Reached, at_start, one_more, all_held, IsGood, Sound, Laws}
use Rattle.oe_theory.specs.Undo.{Undo, records_of, unwind, unwind_open, Finds, GoesBack, open_records, commit_records}
use Rattle.oe_theory.specs.Undo.{IsOfCommit, AreOfCommits, Keeps, put_records}
use Rattle.oe_theory.specs.Theorems.{IsKeptByChanges}
use Rattle.oe_theory.specs.RecordTheorems.{Each_goes_back}
use Rattle.oe_theory.proofs.Replay.{upon, at_overlay, asked_all, reached_more}
use Rattle.oe_theory.proofs.Endings.{change_law}
use Rattle.oe_theory.proofs.Steps.{good_version, good_latest, sound_drop}
use Rattle.oe_theory.proofs.Undo.{Stand, stand_below, back_at, tables_stand}
use Rattle.oe_theory.proofs.Records.{forgets, keeps_drop, open_unwound, one_unwound}
use Rattle.oe_theory.proofs.Kept.{tables_keep, unwinding_keeps, commit_keeps}
use Rattle.oe_theory.proofs.Theorems.{reached_sound}

module _ (M : Machine) (L : Laws M) where
  open M use {Map, Key, Row, Change, Record, row_at, key_of, row_of, put_back, Name, Request, whole}
  open L use {key_refl, redoes}

  -- each of the changes was accepted where it was made
  abbrev AreAccepted : Map → List Change → Type 0
  AreAccepted r [] = Unit {0}
  AreAccepted r (c ∷ cs) = M.Accepts c (overlay M cs r) × AreAccepted r cs

  way_accepts : (f : ℕ → ℕ) (held : Name → Option Mode) (x : Tx Request) (r : Map) → IsGood M f x r → (s : State M)
      → Reached M held x r s → AreAccepted r s.changes
  way_accepts f held x r g _ at_start = tt
  way_accepts f held x r g _ (one_more s None p w i e) = way_accepts f held x r g s w
  way_accepts f held x r g _ (one_more s (Some c) p w i e) = (
    change_law M (M.MayRefuse x.request) M.Accepts x r s c p _ (L.ends f x r g)
        (reached_more M L held (all_held M) x r (λ n m h. tt) s w) (asked_all M L held _ i) e,
    way_accepts f held x r g s w,
  )

  unwind-append : (xs ys : List Record) (r : Map) → unwind M (xs ++ ys) r ≡ unwind M ys (unwind M xs r)
  unwind-append [] ys r = refl
  unwind-append (b ∷ xs) ys r = unwind-append xs ys (put_back b r)

  -- the records of open transactions, one after another
  unwind_records : (active : ℕ → List Record) (ts : List ℕ) (r : Map)
      → unwind M (open_records M active ts) r ≡ unwind_open M active ts r
  unwind_records active [] r = refl
  unwind_records active (t ∷ ts) r =
      unwind-append (active t) (open_records M (set t [] active) ts) r
      ∙ unwind_records (set t [] active) ts (unwind M (active t) r)

  finds : (l : M.Layout) (r : Map) (c : Change) (cs : List Change) (m : Map) → Stand M L m (c ∷ cs)
      → M.Accepts c (overlay M cs r)
      → Finds M l (record_on M l c (overlay M cs r)) m
  finds l r c cs m s a =
      let here : row_at m (key_of c) ≡ row_of c = s (key_of c) (row_of c)
      (ap (λ z. cond z (Some (row_of c)) (net M cs (key_of c))) (key_refl (key_of c))) in
      record {
        change = c;
        on = overlay M cs r;
        accepted = a;
        is_of = refl;
        left = here;
        redone = redoes l c (row_at (overlay M cs r) (key_of c)) m here;
        brought_back = back_at M L l r c cs m s (key_of c) true (key_refl (key_of c));
      }

  module _ (P : Map → Type 0) where
    goes_append : (l : M.Layout) (xs ys : List Record) (r : Map) → GoesBack M l P xs r
        → GoesBack M l P ys (unwind M xs r)
        → GoesBack M l P (xs ++ ys) r
    goes_append l [] ys r h k = k
    goes_append l (b ∷ xs) ys r h k = (h.0, h.1, goes_append l xs ys (put_back b r) h.2 k)

    goes_by : (l : M.Layout) (r : Map) (cs : List Change) (m : Map) → Stand M L m cs → AreAccepted r cs
        → ((n : ℕ) → P (unwind M (take n (records_of M l r cs)) m)) → GoesBack M l P (records_of M l r cs) m
    goes_by l r [] m s a p = p 0
    goes_by l r (c ∷ cs) m s a p = (
      p 0,
      finds l r c cs m s a.0,
      goes_by l r cs (put_back (record_on M l c (overlay M cs r)) m)
          (stand_below M L l r c cs m s) a.1 (λ n. p (suc n)),
    )

    module _ (kept : IsKeptByChanges M P) where
      -- of one open transaction
      one_goes : (w : World M) → Sound M w → (u : Undo M) → Keeps M w u → (t : ℕ)
          → GoesBack M w.layout P (u.active t) (tables M w)
      one_goes w s u k t = go (w.active t) refl
        where
          go : (v : Option (Open M)) → w.active t ≡ v → GoesBack M w.layout P (u.active t) (tables M w)
          go None e = subst (λ (z : List Record). GoesBack M w.layout P z (tables M w)) (sym (k.others t e))
              (tables_keep M L P kept.between kept.kept w s)
          go (Some o) e =
              let is = (k.opens t o e).records in
              subst (λ (z : List Record). GoesBack M w.layout P z (tables M w)) (sym is)
              (goes_by w.layout (latest M w) o.now.changes (tables M w) (tables_stand M L w s t o e)
              (way_accepts (counts_now M w) o.held (tx_of M t o) (latest M w) (good_latest M L w s t o e) o.now
              (s.each t o e).now)
              (λ n. subst (λ (z : List Record). P (unwind M (take n z) (tables M w))) is
              (unwinding_keeps M L P kept.between kept.kept w s u k t n)))

      -- of all
      open_goes : (ts : List ℕ) (w : World M) → Sound M w → (u : Undo M) → Keeps M w u
          → GoesBack M w.layout P (open_records M u.active ts) (tables M w)
      open_goes [] w s u k = tables_keep M L P kept.between kept.kept w s
      open_goes (t ∷ ts) w s u k =
          goes_append w.layout (u.active t) (open_records M (set t [] u.active) ts) (tables M w) (one_goes w s u k t)
          (subst (λ (z : Map). GoesBack M w.layout P (open_records M (set t [] u.active) ts) z)
          (sym (forgets M L w s u k t))
          (open_goes ts (put_active M t None w) (sound_drop M L w s t) (put_records M t [] u) (keeps_drop M L w u k t)))

      -- of one commit
      commit_goes : (l : M.Layout) (f : ℕ → ℕ) (r : Map) (c : Commit M) (bs : List Record) → M.Good f r
          → IsCommit M f r c
          → IsOfCommit M l r c bs → GoesBack M l P bs (map_after M (whole c.tx r) r)
      commit_goes l f r c bs g s h =
          let cs = h.last.changes in
          subst (λ z. GoesBack M l P bs (map_after M z r)) (sym h.effect)
          (subst (λ (z : List Record). GoesBack M l P z (overlay M cs r)) (sym h.records)
          (goes_by l r cs (overlay M cs r) (λ k v e. at_overlay M L cs r k ∙ ap (λ z. upon M L z (row_at r k)) e)
          (way_accepts f (all_held M) c.tx r
          (record { good = g; valid = s.valid; known = s.known; terminal = s.terminal; number = s.number }) h.last
          h.alone)
          (λ n. subst (λ (z : List Record). P (unwind M (take n z) (overlay M cs r))) h.records
          (subst (λ z. P (unwind M (take n bs) (map_after M z r))) h.effect
          (commit_keeps M L P kept.between kept.kept l f r c bs g s h n)))))

      -- of all, from the newest
      commits_go : (l : M.Layout) (f : ℕ → ℕ) (b : Map) (cs : List (Commit M)) (ss : List (List Record)) → M.Good f b
          → IsSerial M f b cs → AreOfCommits M l b cs ss → GoesBack M l P (commit_records M ss) (version M b cs)
      commits_go l f b [] [] g s h = kept.between f b g
      commits_go l f b [] (x ∷ ss) g s h = absurd h
      commits_go l f b (c ∷ cs) [] g s h = absurd h
      commits_go l f b (c ∷ cs) (x ∷ ss) g s h =
          goes_append l x (commit_records M ss) (version M b (c ∷ cs))
          (commit_goes l (counts_after M f cs) (version M b cs) c x (good_version M L f b cs g s.1) s.0 h.0)
          (subst (λ (z : Map). GoesBack M l P (commit_records M ss) z)
          (sym (one_unwound M L l (version M b cs) c x h.0))
          (commits_go l f b cs ss g s.1 h.1))

      pub each_goes_back : Each_goes_back M P
      each_goes_back w u ts r k all =
          let s = reached_sound M L w r in
          goes_append w.layout (open_records M u.active ts) (commit_records M u.history) (tables M w)
          (open_goes ts w s u k)
          (subst (λ (z : Map). GoesBack M w.layout P (commit_records M u.history) z)
          (sym (unwind_records u.active ts (tables M w) ∙ open_unwound M L ts w s u k all))
          (commits_go w.layout w.counts w.base w.history u.history s.good s.serial k.commits))
