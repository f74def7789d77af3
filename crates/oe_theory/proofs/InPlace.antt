-- The tables after each step are what changes and records put back in place make of them.
use Rattle.std.proofs.Common.{◌≡◌, ℕ, ◌-◌, Bool, true, false, cond, Option, None, Some, ◌∷◌, take, refl, sym, ap, ◌∙◌}
use Rattle.oe_theory.specs.Machine.{Machine, Go}
use Rattle.oe_theory.specs.World.{set, Open, World, tx_of, overlay, net, map_after, newest, latest, layers, tables}
use Rattle.oe_theory.specs.Next.{put_active, open_after, open_at_begin, Step, Advance, Answer, More, Next, begins}
use Rattle.oe_theory.specs.Next.{goes_on, commits}
use Rattle.oe_theory.specs.Next.{saves, goes_back, rolls_back, purges, rewinds, stops, fails}
use Rattle.oe_theory.specs.Laws.{Sound, Laws}
use Rattle.oe_theory.specs.Undo.{Undo, unwind, unwind_commits, Keeps, with_change, tables_with, since_mark}
use Rattle.oe_theory.specs.Undo.{tables_after}
use Rattle.oe_theory.proofs.Sets.{set_same}
use Rattle.oe_theory.proofs.Replay.{upon, at_overlay}
use Rattle.oe_theory.proofs.Tables.{net_of, topmost, at_layers}
use Rattle.oe_theory.proofs.Steps.{next_sound, commit_whole, purged_latest}
use Rattle.oe_theory.proofs.Past.{quiet_tables}
use Rattle.oe_theory.proofs.Undo.{top_other, top_own, at_other, tables_stand}
use Rattle.oe_theory.proofs.Records.{forgets, goes_to_mark, commits_unwound}

module _ (M : Machine) (L : Laws M) where
  open M use {
    Map,
    Key,
    Row,
    Change,
    Position,
    Reply,
    Refusal,
    is_key,
    row_at,
    key_of,
    row_of,
    put,
    ask,
    act,
    whole,
    terminal_limit,
  }
  open L use {key_true, at_put, same_map}

  -- a transaction with no other changes
  same_changes : (w : World M) (t : ℕ) (v : Option (Open M)) → ((k : Key) → net_of M L (w.active t) k ≡ net_of M L v k)
      → tables M (put_active M t v w) ≡ tables M w
  same_changes w t v h = same_map _ _ (λ k. sym (at_other M L w t v k (h k)))

  -- one with a change more
  one_change : (w : World M) (t : ℕ) (o o' : Open M) (c : Change) → w.active t ≡ Some o
      → o'.now.changes ≡ c ∷ o.now.changes → Sound M (put_active M t (Some o') w)
      → tables M (put_active M t (Some o') w) ≡ put c (tables M w)
  one_change w t o o' c e q s = same_map _ _ (λ k. go k (is_key k (key_of c)) refl ∙ sym (at_put c (tables M w) k))
    where
      net_next : (k : Key) (b : Bool) → is_key k (key_of c) ≡ b
          → net M o'.now.changes k ≡ cond b (Some (row_of c)) (net M o.now.changes k)
      net_next k b h = ap (λ cs. net M cs k) q ∙ ap (λ z. cond z (Some (row_of c)) (net M o.now.changes k)) h

      go : (k : Key) (b : Bool) → is_key k (key_of c) ≡ b
          → row_at (tables M (put_active M t (Some o') w)) k ≡ cond (is_key k (key_of c)) (row_of c)
          (row_at (tables M w) k)
      go k true h =
          tables_stand M L (put_active M t (Some o') w) s t o' (set_same t (Some o') w.active t refl) k (row_of c)
          (net_next k true h)
          ∙ ap (λ z. cond z (row_of c) (row_at (tables M w) k)) (sym h)
      go k false h =
          sym (at_other M L w t (Some o') k (ap (λ z. net_of M L z k) e ∙ sym (net_next k false h)))
          ∙ ap (λ z. cond z (row_of c) (row_at (tables M w) k)) (sym h)

  -- a commit moves changes from the open work into the newest version
  same_committed : (w : World M) → Sound M w → (t : ℕ) (o : Open M) (y : Reply) → w.active t ≡ Some o
      → whole (tx_of M t o) (latest M w) ≡ Some (overlay M o.now.changes (latest M w), y)
      → layers M (set t None w.active) terminal_limit (map_after M (whole (tx_of M t o) (latest M w)) (latest M w))
      ≡ tables M w
  same_committed w s t o y e q =
      ap (λ z. layers M (set t None w.active) terminal_limit (map_after M z (latest M w))) q
      ∙ same_map _ _ (λ k. at_layers M L (set t None w.active) terminal_limit (overlay M o.now.changes (latest M w)) k
      ∙ (ap (upon M L (topmost M L (set t None w.active) terminal_limit k))
      (at_overlay M L o.now.changes (latest M w) k) ∙ go k (net M o.now.changes k) refl))
    where
      go : (k : Key) (n : Option (Option Row)) → net M o.now.changes k ≡ n
          → upon M L (topmost M L (set t None w.active) terminal_limit k)
          (upon M L (net M o.now.changes k) (row_at (latest M w) k)) ≡ row_at (tables M w) k
      go k None h =
          ap (λ z. upon M L (topmost M L (set t None w.active) terminal_limit k) (upon M L z (row_at (latest M w) k))) h
          ∙ (ap (λ z. upon M L z (row_at (latest M w) k))
          (sym (top_other M L w t None k (ap (λ z. net_of M L z k) e ∙ h)))
          ∙ sym (at_layers M L w.active terminal_limit (latest M w) k))
      go k (Some v) h =
          ap (λ z. upon M L z (upon M L (net M o.now.changes k) (row_at (latest M w) k)))
          (top_own M L w s t o e None k v h)
          ∙ (ap (λ z. upon M L z (row_at (latest M w) k)) h ∙ sym (tables_stand M L w s t o e k v h))

  of_goes : (w : World M) → Sound M w → (t : ℕ) (o : Open M) (c : Option Change) (p : Position) → w.active t ≡ Some o
      → Sound M (put_active M t
      (Some (open_after M w.layout o (ask (tx_of M t o) o.now.position (tables M w)) c p (tables M w))) w)
      → tables M
      (put_active M t (Some (open_after M w.layout o (ask (tx_of M t o) o.now.position (tables M w)) c p
      (tables M w))) w)
      ≡ with_change M (Go c p) (tables M w)
  of_goes w s t o None p e s' = same_changes w t _ (λ k. ap (λ z. net_of M L z k) e)
  of_goes w s t o (Some c) p e s' = one_change w t o _ c e refl s'

  pub tables_next : (w : World M) → Sound M w → (u : Undo M) → Keeps M w u → (i : Step M) (a : Answer M) (v : World M)
      → Next M w i a v → tables M v ≡ tables_after M w u a i
  tables_next w s u k _ _ _ (begins t q b) = same_changes w t (Some (open_at_begin M w t q))
      (λ j. ap (λ z. net_of M L z j) b.closed)
  tables_next w s u k _ _ _ (goes_on t o c p e g r room) =
      of_goes w s t o c p e (next_sound M L w s (Advance t) More _ (goes_on t o c p e g r room))
      ∙ (ap (λ z. with_change M z (tables M w)) (sym r) ∙ ap (tables_with M w t) (sym e))
  tables_next w s u k _ _ _ (commits t o y e g r) = same_committed w s t o y e (commit_whole M L w s t o y e g r)
  tables_next w s u k _ _ _ (saves t o e) = same_changes w t
      (Some (record o { mark = o.now; mark_lengths = o.lengths })) (λ j. ap (λ z. net_of M L z j) e)
  tables_next w s u k _ _ _ (goes_back t o e) = sym (goes_to_mark M L w s u k t o e)
      ∙ ap (λ z. unwind M (since_mark M z (u.active t)) (tables M w)) (sym e)
  tables_next w s u k _ _ _ (rolls_back t o e) = sym (forgets M L w s u k t)
  tables_next w s u k _ _ _ (purges m l h) = ap (layers M w.active terminal_limit) (purged_latest M L w m)
  tables_next w s u k _ _ _ (rewinds m q l h) =
      sym (ap (unwind_commits M (take (newest M w - m) u.history)) (quiet_tables M L w q)
      ∙ commits_unwound M L w.layout w.base (newest M w - m) w.history u.history k.commits
      ∙ sym (quiet_tables M L
      (record {
        base = w.base;
        counts = w.counts;
        history = _;
        active = w.active;
        extents = w.extents;
        layout = w.layout;
      }) q))
  tables_next w s u k _ _ _ (stops t o x e r) = sym (forgets M L w s u k t)
  tables_next w s u k _ _ _ (fails t o x e g r) = sym (forgets M L w s u k t)
  tables_next w s u k _ _ _ n = refl
