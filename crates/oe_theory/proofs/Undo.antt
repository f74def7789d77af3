-- Putting records back in place gives the tables without what they undo, whatever others have done since.
use Rattle.std.proofs.Common.{◌≡◌, ℕ, suc, zero, Bool, true, false, cond, Option, None, Some, List, [], ◌∷◌, ◌++◌, refl}
use Rattle.std.proofs.Common.{sym, ap, ◌∙◌, inl, inr}
use Rattle.std.specs.Prelude.{◌⊎◌, ◌≢◌}
use Rattle.std.proofs.lemmas.Bool.{cases_eq}
use Rattle.oe_theory.specs.Machine.{Machine, Mode, Exclusive, Guard, Free, Under, Own, Tx}
use Rattle.oe_theory.specs.World.{set, Open, World, tx_of, overlay, net, tables, latest}
use Rattle.oe_theory.specs.Next.{record_on, put_active}
use Rattle.oe_theory.specs.Laws.{MayRead, MayWrite, held_of, Sound, Laws}
use Rattle.oe_theory.specs.Undo.{records_of, unwind}
use Rattle.oe_theory.proofs.Sets.{set_same, set_other, enough_shared}
use Rattle.oe_theory.proofs.Replay.{upon, at_overlay, reached_writes}
use Rattle.oe_theory.proofs.Tables.{net_of, over, topmost, at_layers, unseen, topmost_only}

module _ (M : Machine) (L : Laws M) where
  open M use {
    Map,
    Key,
    Row,
    Change,
    is_key,
    row_at,
    key_of,
    row_of,
    record_of,
    record_key,
    restore,
    put_back,
    Name,
    governs,
    terminal_limit,
  }
  open L use {key_true, record_key_of, restores, at_put_back, same_map}

  -- what undoing leaves at a key: the row of r where there was a change
  abbrev undone : Option (Option Row) → Option Row → Option Row → Option Row
  undone None here before = here
  undone (Some v) here before = before

  -- the rows that the changes left stand there
  abbrev pub Stand : Map → List Change → Type 0
  Stand m cs = (k : Key) (v : Option Row) → net M cs k ≡ Some v → row_at m k ≡ v

  -- a change's record put back on the row that it left
  pub back_at : (l : M.Layout) (r : Map) (c : Change) (cs : List Change) (m : Map) → Stand m (c ∷ cs)
      → (k : Key) (b : Bool)
      → is_key k (key_of c) ≡ b
      → row_at (put_back (record_on M l c (overlay M cs r)) m) k ≡ cond b (row_at (overlay M cs r) (key_of c))
      (row_at m k)
  back_at l r c cs m s k b q =
      at_put_back (record_on M l c (overlay M cs r)) m k
      ∙ (ap (λ z. cond (is_key k z) (restore (record_on M l c (overlay M cs r)) (row_at m k)) (row_at m k))
      (record_key_of l c (row_at (overlay M cs r) (key_of c)))
      ∙ (ap (λ z. cond z (restore (record_on M l c (overlay M cs r)) (row_at m k)) (row_at m k)) q ∙ go b q))
    where
      go : (b : Bool) → is_key k (key_of c) ≡ b
          → cond b (restore (record_on M l c (overlay M cs r)) (row_at m k)) (row_at m k) ≡ cond b
          (row_at (overlay M cs r) (key_of c)) (row_at m k)
      go true q = ap (restore (record_on M l c (overlay M cs r)))
          (s k (row_of c) (ap (λ z. cond z (Some (row_of c)) (net M cs k)) q)) ∙ restores l c (overlay M cs r)
      go false q = refl

  pub stand_below : (l : M.Layout) (r : Map) (c : Change) (cs : List Change) (m : Map) → Stand m (c ∷ cs)
      → Stand (put_back (record_on M l c (overlay M cs r)) m) cs
  stand_below l r c cs m s k v h = go (is_key k (key_of c)) refl
    where
      go : (b : Bool) → is_key k (key_of c) ≡ b → row_at (put_back (record_on M l c (overlay M cs r)) m) k ≡ v
      go true q = back_at l r c cs m s k true q
          ∙ (ap (row_at (overlay M cs r)) (sym (key_true k (key_of c) q))
          ∙ (at_overlay M L cs r k ∙ ap (λ z. upon M L z (row_at r k)) h))
      go false q = back_at l r c cs m s k false q ∙ s k v (ap (λ z. cond z (Some (row_of c)) (net M cs k)) q ∙ h)

  at_unwind : (l : M.Layout) (r : Map) (cs : List Change) (m : Map) → Stand m cs → (k : Key)
      → row_at (unwind M (records_of M l r cs) m) k ≡ undone (net M cs k) (row_at m k) (row_at r k)
  at_unwind l r [] m s k = refl
  at_unwind l r (c ∷ cs) m s k =
      at_unwind l r cs (put_back (record_on M l c (overlay M cs r)) m) (stand_below l r c cs m s) k
      ∙ go (is_key k (key_of c)) refl (net M cs k) refl
    where
      go : (b : Bool) → is_key k (key_of c) ≡ b → (n : Option (Option Row)) → net M cs k ≡ n
          → undone n (row_at (put_back (record_on M l c (overlay M cs r)) m) k) (row_at r k) ≡ undone
          (cond b (Some (row_of c)) n) (row_at m k) (row_at r k)
      go true q None e =
          back_at l r c cs m s k true q
          ∙ (ap (row_at (overlay M cs r)) (sym (key_true k (key_of c) q))
          ∙ (at_overlay M L cs r k ∙ ap (λ z. upon M L z (row_at r k)) e))
      go true q (Some v) e = refl
      go false q None e = back_at l r c cs m s k false q
      go false q (Some v) e = refl

  -- of a committed transaction: its records lead from the version after it to the one before
  pub undo_whole : (l : M.Layout) (r : Map) (cs : List Change) → unwind M (records_of M l r cs) (overlay M cs r) ≡ r
  undo_whole l r cs =
      same_map _ _ (λ k. at_unwind l r cs (overlay M cs r) stands k
      ∙ (ap (λ z. undone (net M cs k) z (row_at r k)) (at_overlay M L cs r k) ∙ go (net M cs k) (row_at r k)))
    where
      stands : Stand (overlay M cs r) cs
      stands k v h = at_overlay M L cs r k ∙ ap (λ z. upon M L z (row_at r k)) h

      go : (n : Option (Option Row)) (v : Option Row) → undone n (upon M L n v) v ≡ v
      go None v = refl
      go (Some y) v = refl

  topmost_same : (f g : ℕ → Option (Open M)) (n : ℕ) (k : Key) → ((u : ℕ) → net_of M L (f u) k ≡ net_of M L (g u) k)
      → topmost M L f n k ≡ topmost M L g n k
  topmost_same f g zero k h = refl
  topmost_same f g (suc n) k h = ap (λ z. over M L z (topmost M L f n k)) (h n)
      ∙ ap (over M L (net_of M L (g n) k)) (topmost_same f g n k h)

  -- the open work, if a transaction had other changes
  pub top_other : (w : World M) (t : ℕ) (v : Option (Open M)) (k : Key) → net_of M L (w.active t) k ≡ net_of M L v k
      → topmost M L w.active terminal_limit k ≡ topmost M L (set t v w.active) terminal_limit k
  top_other w t v k e = topmost_same w.active (set t v w.active) terminal_limit k (λ u. go u (cases_eq u t))
    where
      go : (u : ℕ) → (u ≡ t) ⊎ (u ≢ t) → net_of M L (w.active u) k ≡ net_of M L (set t v w.active u) k
      go u (inl q) = ap (λ z. net_of M L (w.active z) k) q
          ∙ (e ∙ ap (λ z. net_of M L z k) (sym (set_same t v w.active u q)))
      go u (inr ne) = ap (λ z. net_of M L z k) (sym (set_other t v w.active u ne))

  -- the tables, if a transaction had other changes
  pub at_other : (w : World M) (t : ℕ) (v : Option (Open M)) (k : Key) → net_of M L (w.active t) k ≡ net_of M L v k
      → row_at (tables M w) k ≡ row_at (tables M (put_active M t v w)) k
  at_other w t v k e =
      at_layers M L w.active terminal_limit (latest M w) k
      ∙ (ap (λ z. upon M L z (row_at (latest M w) k)) (top_other w t v k e)
      ∙ sym (at_layers M L (set t v w.active) terminal_limit (latest M w) k))

  pub readable : (held : Name → Option Mode) (x : Tx M.Request) (g : Guard Name) → MayWrite M (held_of M held) x g
      → MayRead M (held_of M held) x g
  readable held x Free h = h
  readable held x (Under n) h = enough_shared (held n) Exclusive h
  readable held x (Own i j) h = h

  -- where it has written, its own changes are what one sees
  pub top_own : (w : World M) → Sound M w → (t : ℕ) (o : Open M) → w.active t ≡ Some o
      → (v : Option (Open M)) (k : Key) (y : Option Row) → net M o.now.changes k ≡ Some y
      → topmost M L (set t v w.active) terminal_limit k ≡ net_of M L v k
  top_own w s t o e v k y h =
      topmost_only M L (set t v w.active) t terminal_limit k (s.each t o e).terminal.1
      (λ u ne. ap (λ z. net_of M L z k) (set_other t v w.active u (λ q. ne (sym q)))
      ∙ unseen M L w s t o o.held (λ u p ne q. s.apart t u o p ne e q) k
      (readable o.held (tx_of M t o) (governs k)
      (reached_writes M L o.held (tx_of M t o) (latest M w) o.now (s.each t o e).now k y h)) u ne)
      ∙ ap (λ z. net_of M L z k) (set_same t v w.active t refl)

  at_own : (w : World M) → Sound M w → (t : ℕ) (o : Open M) → w.active t ≡ Some o
      → (v : Option (Open M)) (k : Key) (y : Option Row) → net M o.now.changes k ≡ Some y
      → row_at (tables M (put_active M t v w)) k ≡ upon M L (net_of M L v k) (row_at (latest M w) k)
  at_own w s t o e v k y h =
      at_layers M L (set t v w.active) terminal_limit (latest M w) k
      ∙ ap (λ z. upon M L z (row_at (latest M w) k)) (top_own w s t o e v k y h)

  -- the tables have the rows that an open transaction has left
  pub tables_stand : (w : World M) → Sound M w → (t : ℕ) (o : Open M) → w.active t ≡ Some o
      → Stand (tables M w) o.now.changes
  tables_stand w s t o e k y h =
      at_layers M L w.active terminal_limit (latest M w) k
      ∙ ap (λ z. upon M L z (row_at (latest M w) k))
      (topmost_only M L w.active t terminal_limit k (s.each t o e).terminal.1
      (unseen M L w s t o o.held (λ u p ne q. s.apart t u o p ne e q) k
      (readable o.held (tx_of M t o) (governs k)
      (reached_writes M L o.held (tx_of M t o) (latest M w) o.now (s.each t o e).now k y h)))
      ∙ (ap (λ z. net_of M L z k) e ∙ h))

  pub undo_forgets : (w : World M) → Sound M w → (t : ℕ) (o : Open M) → w.active t ≡ Some o
      → unwind M (records_of M w.layout (latest M w) o.now.changes) (tables M w) ≡ tables M (put_active M t None w)
  undo_forgets w s t o e =
      same_map _ _ (λ k. at_unwind w.layout (latest M w) o.now.changes (tables M w) (tables_stand w s t o e) k
      ∙ go k (net M o.now.changes k) refl)
    where
      go : (k : Key) (n : Option (Option Row)) → net M o.now.changes k ≡ n
          → undone n (row_at (tables M w) k) (row_at (latest M w) k) ≡ row_at (tables M (put_active M t None w)) k
      go k None h = at_other w t None k (ap (λ z. net_of M L z k) e ∙ h)
      go k (Some y) h = sym (at_own w s t o e None k y h)

  net-append : (xs ys : List Change) (k : Key) → net M (xs ++ ys) k ≡ over M L (net M xs k) (net M ys k)
  net-append [] ys k = refl
  net-append (x ∷ xs) ys k = go (is_key k (key_of x)) (net-append xs ys k)
    where
      go : (b : Bool) → net M (xs ++ ys) k ≡ over M L (net M xs k) (net M ys k)
          → cond b (Some (row_of x)) (net M (xs ++ ys) k) ≡ over M L (cond b (Some (row_of x)) (net M xs k))
          (net M ys k)
      go true e = refl
      go false e = e

  pub undo_goes_back : (w : World M) → Sound M w → (t : ℕ) (o : Open M) → w.active t ≡ Some o → (since : List Change)
      → o.now.changes ≡ since ++ o.mark.changes
      → unwind M (records_of M w.layout (overlay M o.mark.changes (latest M w)) since) (tables M w) ≡ tables M
      (put_active M t (Some (record o { now = o.mark; lengths = o.mark_lengths })) w)
  undo_goes_back w s t o e since q =
      same_map _ _ (λ k. at_unwind w.layout (overlay M o.mark.changes (latest M w)) since (tables M w) stands k
      ∙ go k (net M since k) refl)
    where
      all : (k : Key) → net M o.now.changes k ≡ over M L (net M since k) (net M o.mark.changes k)
      all k = ap (λ (z : List Change). net M z k) q ∙ net-append since o.mark.changes k

      stands : Stand (tables M w) since
      stands k v h = tables_stand w s t o e k v (all k ∙ ap (λ z. over M L z (net M o.mark.changes k)) h)

      go : (k : Key) (n : Option (Option Row)) → net M since k ≡ n
          → undone n (row_at (tables M w) k) (row_at (overlay M o.mark.changes (latest M w)) k) ≡ row_at
          (tables M (put_active M t (Some (record o { now = o.mark; lengths = o.mark_lengths })) w)) k
      go k None h = at_other w t (Some (record o { now = o.mark; lengths = o.mark_lengths })) k
          (ap (λ z. net_of M L z k) e ∙ (all k ∙ ap (λ z. over M L z (net M o.mark.changes k)) h))
      go k (Some y) h =
          at_overlay M L o.mark.changes (latest M w) k
          ∙ sym (at_own w s t o e (Some (record o { now = o.mark; lengths = o.mark_lengths })) k y
          (all k ∙ ap (λ z. over M L z (net M o.mark.changes k)) h))
