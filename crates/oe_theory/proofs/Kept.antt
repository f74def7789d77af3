-- What holds of the tables between transactions, and what each accepted change keeps, holds of the tables as they
-- stand.
use Rattle.std.proofs.Common.{◌≡◌, ℕ, suc, zero, Option, None, Some, List, [], ◌∷◌, ◌++◌, take, drop, get_or, refl, sym}
use Rattle.std.proofs.Common.{ap, ◌∙◌, subst}
use Rattle.std.specs.Prelude.{◌≢◌}
use Rattle.std.proofs.lemmas.List.{take-append-drop}
use Rattle.oe_theory.specs.Machine.{Machine, Mode, Tx}
use Rattle.oe_theory.specs.World.{State, Open, Commit, World, tx_of, overlay, map_after, version, layer, layers, latest}
use Rattle.oe_theory.specs.World.{counts_after, counts_now, IsCommit, IsSerial, tables}
use Rattle.oe_theory.specs.Next.{record_on, put_active}
use Rattle.oe_theory.specs.Laws.{Alike, held_of, Reached, at_start, one_more, all_held, IsGood, AreApart, Sound, Laws}
use Rattle.oe_theory.specs.Undo.{Undo, records_of, unwind, IsOfCommit, AreOfCommits, Keeps}
use Rattle.oe_theory.proofs.Sets.{set_same}
use Rattle.oe_theory.proofs.Replay.{alike_overlay, alike_fewer, asked_all, asked_held, taken_held, reached_more}
use Rattle.oe_theory.proofs.Endings.{change_law}
use Rattle.oe_theory.proofs.Tables.{net_of, alike_below}
use Rattle.oe_theory.proofs.Steps.{good_version, good_latest, sound_put}
use Rattle.oe_theory.proofs.Undo.{at_other, undo_goes_back, undo_whole}

module _ (M : Machine) (L : Laws M) where
  open M use {Map, Key, Change, Record, Name, Request, Position, ask, act, taken, put, whole}

  overlay-append : (xs ys : List Change) (r : Map) → overlay M xs (overlay M ys r) ≡ overlay M (xs ++ ys) r
  overlay-append [] ys r = refl
  overlay-append (x ∷ xs) ys r = ap (put x) (overlay-append xs ys r)

  overlay-parted : (n : ℕ) (cs : List Change) (r : Map)
      → overlay M (take n cs) (overlay M (drop n cs) r) ≡ overlay M cs r
  overlay-parted n cs r = overlay-append (take n cs) (drop n cs) r ∙ ap (λ (z : List Change). overlay M z r)
      (take-append-drop n cs)

  -- the newest records are those of the newest changes
  take-records : (l : M.Layout) (n : ℕ) (cs : List Change) (r : Map)
      → take n (records_of M l r cs) ≡ records_of M l (overlay M (drop n cs) r) (take n cs)
  take-records l zero cs r = refl
  take-records l (suc n) [] r = refl
  take-records l (suc n) (c ∷ cs) r =
      ap (λ z. record_on M l c (overlay M cs r) ∷ z) (take-records l n cs r)
      ∙ ap (λ z. record_on M l c z ∷ records_of M l (overlay M (drop n cs) r) (take n cs))
      (sym (overlay-parted n cs r))

  -- where a program was before its newest changes
  pub record Before (held : Name → Option Mode) (x : Tx Request) (r : Map) (s : State M) (n : ℕ) : Type 0 where
    pub state : State M
    pub way : Reached M held x r state
    pub fewer : state.changes ≡ drop n s.changes

  before : (held : Name → Option Mode) (x : Tx Request) (r : Map) (s : State M) → Reached M held x r s → (n : ℕ)
      → Before held x r s n
  before held x r s w zero = record { state = s; way = w; fewer = refl }
  before held x r _ at_start (suc n) = record { state = _; way = at_start; fewer = refl }
  before held x r _ (one_more s None p w i e) (suc n) =
      let b = before held x r s w (suc n) in record { state = b.state; way = b.way; fewer = b.fewer }
  before held x r _ (one_more s (Some c) p w i e) (suc n) =
      let b = before held x r s w n in record { state = b.state; way = b.way; fewer = b.fewer }

  module _ (P : Map → Type 0) (of_good : (f : ℕ → ℕ) (r : Map) → M.Good f r → P r)
      (kept : (c : Change) (r : Map) → M.Accepts c r → P r → P (put c r)) where
    -- on the way of a program that runs alone from r, on a map that is alike to r
    way_keeps : (f : ℕ → ℕ) (held : Name → Option Mode) (x : Tx Request) (r r' : Map) → IsGood M f x r
        → Alike M (held_of M held) x r r' → P r'
        → (s : State M) → Reached M held x r s → P (overlay M s.changes r')
    way_keeps f held x r r' g a p _ at_start = p
    way_keeps f held x r r' g a p _ (one_more s None q w i e) = way_keeps f held x r r' g a p s w
    way_keeps f held x r r' g a p _ (one_more s (Some c) q w i e) =
        kept c (overlay M s.changes r')
        (L.accepts_same x s.position (overlay M s.changes r) (overlay M s.changes r') c q (asked_all M L held _ i)
        (alike_fewer M L _ _ x _ _
        (λ n. asked_held M L held (ask x s.position (overlay M s.changes r)) (taken x s.position) i
        (taken_held M L held x r s w) n _)
        (alike_overlay M L (held_of M held) x s.changes r r' a))
        e
        (change_law M (M.MayRefuse x.request) M.Accepts x r s c q _ (L.ends f x r g)
        (reached_more M L held (all_held M) x r (λ n m h. tt) s w) (asked_all M L held _ i) e))
        (way_keeps f held x r r' g a p s w)

    pub layers_keep : (w : World M) → Sound M w → (n : ℕ) → P (layers M w.active n (latest M w))
    layers_keep w s zero = of_good (counts_now M w) (latest M w)
        (good_version M L w.counts w.base w.history s.good s.serial)
    layers_keep w s (suc n) = go (w.active n) refl (layers_keep w s n)
      where
        go : (v : Option (Open M)) → w.active n ≡ v → P (layers M w.active n (latest M w))
            → P (layer M v (layers M w.active n (latest M w)))
        go None e p = p
        go (Some o) e p =
            way_keeps (counts_now M w) o.held (tx_of M n o) (latest M w) (layers M w.active n (latest M w))
            (good_latest M L w s n o e) (alike_below M L w s n o e) p
            o.now (s.each n o e).now

    pub tables_keep : (w : World M) → Sound M w → P (tables M w)
    tables_keep w s = layers_keep w s M.terminal_limit

    -- also while a transaction is undone, a record at a time
    undone_keeps : (w : World M) → Sound M w → (t : ℕ) (o : Open M) → w.active t ≡ Some o → (n : ℕ)
        → P (unwind M (take n (records_of M w.layout (latest M w) o.now.changes)) (tables M w))
    undone_keeps w s t o e n = subst P (sym (in_slot ∙ back))
        (tables_keep (put_active M t (Some (at_mark)) marked) sound)
      where
        old : Before o.held (tx_of M t o) (latest M w) o.now n
        old = before o.held (tx_of M t o) (latest M w) o.now (s.each t o e).now n

        o' : Open M
        o' = record o { mark = old.state }

        marked : World M
        marked = put_active M t (Some o') w

        split : o.now.changes ≡ take n o.now.changes ++ old.state.changes
        split = sym (ap (λ (z : List Change). take n o.now.changes ++ z) old.fewer ∙ take-append-drop n o.now.changes)

        others : (u : ℕ) (p : Open M) → t ≢ u → w.active u ≡ Some p → AreApart M o.held p.held
            × AreApart M p.held o.held
        others u p ne h = (s.apart t u o p ne e h, s.apart u t p o (λ z. ne (sym z)) h e)

        sound_marked : Sound M marked
        sound_marked =
            sound_put M L w s t o'
            (record {
              terminal = (s.each t o e).terminal;
              number = (s.each t o e).number;
              valid = (s.each t o e).valid;
              known = (s.each t o e).known;
              now = (s.each t o e).now;
              mark = old.way;
              since = take n o.now.changes;
              split = split;
            })
            others

        at_mark : Open M
        at_mark = record o' { now = old.state; lengths = o'.mark_lengths }

        sound : Sound M (put_active M t (Some at_mark) marked)
        sound =
            sound_put M L marked sound_marked t at_mark
            (record {
              terminal = (s.each t o e).terminal;
              number = (s.each t o e).number;
              valid = (s.each t o e).valid;
              known = (s.each t o e).known;
              now = old.way;
              mark = old.way;
              since = [];
              split = refl;
            })
            (λ u p ne h. (
              sound_marked.apart t u o' p ne (set_same t (Some o') w.active t refl) h,
              sound_marked.apart u t p o' (λ z. ne (sym z)) h (set_same t (Some o') w.active t refl),
            ))

        here : tables M w ≡ tables M marked
        here = L.same_map _ _ (λ k. at_other M L w t (Some o') k (ap (λ z. net_of M L z k) e))

        in_slot : unwind M (take n (records_of M w.layout (latest M w) o.now.changes)) (tables M w) ≡ unwind M
            (records_of M w.layout (overlay M old.state.changes (latest M w)) (take n o.now.changes)) (tables M marked)
        in_slot =
            ap (λ z. unwind M z (tables M w)) (take-records w.layout n o.now.changes (latest M w)
            ∙ ap (λ (z : List Change). records_of M w.layout (overlay M z (latest M w)) (take n o.now.changes))
            (sym old.fewer))
            ∙ ap (unwind M (records_of M w.layout (overlay M old.state.changes (latest M w)) (take n o.now.changes)))
            here

        back : unwind M (records_of M w.layout (overlay M old.state.changes (latest M w)) (take n o.now.changes))
            (tables M marked) ≡ tables M (put_active M t (Some at_mark) marked)
        back = undo_goes_back M L marked sound_marked t o' (set_same t (Some o') w.active t refl) (take n o.now.changes)
            split

    take_none : (n : ℕ) → take {A = Record} n [] ≡ []
    take_none zero = refl
    take_none (suc n) = refl

    pub unwinding_keeps : (w : World M) → Sound M w → (u : Undo M) → Keeps M w u → (t n : ℕ)
        → P (unwind M (take n (u.active t)) (tables M w))
    unwinding_keeps w s u k t n = go (w.active t) refl
      where
        go : (v : Option (Open M)) → w.active t ≡ v → P (unwind M (take n (u.active t)) (tables M w))
        go None e =
            subst (λ (z : List Record). P (unwind M z (tables M w))) (sym (ap (take n) (k.others t e) ∙ take_none n))
            (tables_keep w s)
        go (Some o) e =
            subst (λ (z : List Record). P (unwind M (take n z) (tables M w))) (sym (k.opens t o e).records)
            (undone_keeps w s t o e n)

    -- and while a commit is undone
    pub commit_keeps : (l : M.Layout) (f : ℕ → ℕ) (r : Map) (c : Commit M) (bs : List Record) → M.Good f r
        → IsCommit M f r c
        → IsOfCommit M l r c bs → (n : ℕ)
        → P (unwind M (take n bs) (map_after M (whole c.tx r) r))
    commit_keeps l f r c bs g s k n =
        subst P (sym same)
        (way_keeps f (all_held M) c.tx r r
        (record { good = g; valid = s.valid; known = s.known; terminal = s.terminal; number = s.number })
        (record { rows = λ q h. refl; parts = λ q h. refl }) (of_good f r g) old.state old.way)
      where
        old : Before (all_held M) c.tx r k.last n
        old = before (all_held M) c.tx r k.last k.alone n

        same : unwind M (take n bs) (map_after M (whole c.tx r) r) ≡ overlay M old.state.changes r
        same =
            ap (λ z. unwind M (take n bs) (map_after M z r)) k.effect
            ∙ (ap (λ z. unwind M (take n z) (overlay M k.last.changes r)) k.records
            ∙ (ap (λ z. unwind M z (overlay M k.last.changes r)) (take-records l n k.last.changes r)
            ∙ (ap (unwind M (records_of M l (overlay M (drop n k.last.changes) r) (take n k.last.changes)))
            (sym (overlay-parted n k.last.changes r))
            ∙ (undo_whole M L l (overlay M (drop n k.last.changes) r) (take n k.last.changes)
            ∙ ap (λ (z : List Change). overlay M z r) (sym old.fewer)))))

    -- of any commit of a history, newest first
    pub rewinding_keeps : (l : M.Layout) (f : ℕ → ℕ) (b : Map) (cs : List (Commit M)) (ss : List (List Record))
        → M.Good f b
        → IsSerial M f b cs → AreOfCommits M l b cs ss → (j n : ℕ)
        → P (unwind M (take n (get_or ss j [])) (version M b (drop j cs)))
    rewinding_keeps l f b [] [] g s h zero n = subst (λ (z : List Record). P (unwind M z b)) (sym (take_none n))
        (of_good f b g)
    rewinding_keeps l f b [] [] g s h (suc j) n = subst (λ (z : List Record). P (unwind M z b)) (sym (take_none n))
        (of_good f b g)
    rewinding_keeps l f b [] (x ∷ ss) g s h j n = absurd h
    rewinding_keeps l f b (c ∷ cs) [] g s h j n = absurd h
    rewinding_keeps l f b (c ∷ cs) (x ∷ ss) g s h zero n = commit_keeps l (counts_after M f cs) (version M b cs) c x
        (good_version M L f b cs g s.1) s.0 h.0 n
    rewinding_keeps l f b (c ∷ cs) (x ∷ ss) g s h (suc j) n = rewinding_keeps l f b cs ss g s.1 h.1 j n
