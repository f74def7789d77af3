-- A program's way alone, and maps that are alike for it.
use Rattle.std.proofs.Common.{◌≡◌, Bool, true, false, cond, Option, None, Some, List, [], ◌∷◌, refl, sym, ap, ◌∙◌}
use Rattle.std.proofs.Common.{subst, inl, inr}
use Rattle.std.specs.Prelude.{◌⊎◌}
use Rattle.oe_theory.specs.Machine.{Machine, Mode, Shared, Exclusive, Guard, Free, Under, Own, Ask, Stop, Plain, Take}
use Rattle.oe_theory.specs.Machine.{Tx, Hold}
use Rattle.oe_theory.specs.World.{IsEnough, State, overlay, net}
use Rattle.oe_theory.specs.Laws.{Holds, with_asked, MayRead, MayReadPart, MayWrite, Alike, held_of, IsAsked, all_held}
use Rattle.oe_theory.specs.Laws.{Reached, at_start, one_more, Laws}
use Rattle.oe_theory.proofs.Sets.{enough_up, some_none}

module _ (M : Machine) (L : Laws M) where
  open M use {
    Map,
    Key,
    Row,
    Change,
    Facet,
    is_key,
    row_at,
    key_of,
    row_of,
    facet_key,
    part,
    Name,
    governs,
    governs_part,
    Request,
    Position,
    Refusal,
    ask,
    act,
    taken,
  }
  open L use {key_true, at_put, start_takes, ask_same, act_same, next_takes, may_write, keeps_part}

  -- what changes leave at a key
  abbrev pub upon : Option (Option Row) → Option Row → Option Row
  upon None old = old
  upon (Some v) old = v

  pub at_overlay : (cs : List Change) (r : Map) (k : Key) → row_at (overlay M cs r) k ≡ upon (net M cs k) (row_at r k)
  at_overlay [] r k = refl
  at_overlay (c ∷ cs) r k = at_put c (overlay M cs r) k ∙ go (is_key k (key_of c)) (at_overlay cs r k)
    where
      go : (b : Bool) → row_at (overlay M cs r) k ≡ upon (net M cs k) (row_at r k)
          → cond b (row_of c) (row_at (overlay M cs r) k) ≡ upon (cond b (Some (row_of c)) (net M cs k)) (row_at r k)
      go true e = refl
      go false e = e

  -- the same changes on alike maps leave alike maps
  pub alike_overlay : (P : Name → Mode → Type 0) (x : Tx Request) (cs : List Change) (r s : Map) → Alike M P x r s
      → Alike M P x (overlay M cs r) (overlay M cs s)
  alike_overlay P x cs r s a =
      record {
        rows = λ k h. at_overlay cs r k ∙ (ap (upon (net M cs k)) (a.rows k h) ∙ sym (at_overlay cs s k));
        parts = λ f h. ap (part f) (at_overlay cs r (facet_key f))
            ∙ (go f h (net M cs (facet_key f)) ∙ ap (part f) (sym (at_overlay cs s (facet_key f))));
      }
    where
      go : (f : Facet) → MayReadPart M P x (governs_part f) → (n : Option (Option Row))
          → part f (upon n (row_at r (facet_key f))) ≡ part f (upon n (row_at s (facet_key f)))
      go f h None = a.parts f h
      go f h (Some v) = refl

  -- alike for more names is alike for fewer
  pub read_fewer : (P Q : Name → Mode → Type 0) (x : Tx Request) → ((n : Name) → P n Shared → Q n Shared)
      → (g : Guard Name) → MayRead M P x g → MayRead M Q x g
  read_fewer P Q x f Free h = h
  read_fewer P Q x f (Under n) h = f n h
  read_fewer P Q x f (Own t k) h = h

  read_part_fewer : (P Q : Name → Mode → Type 0) (x : Tx Request) → ((n : Name) → P n Shared → Q n Shared)
      → (g : Guard Name) → MayReadPart M P x g → MayReadPart M Q x g
  read_part_fewer P Q x f Free h = h
  read_part_fewer P Q x f (Under n) h = f n h
  read_part_fewer P Q x f (Own t k) h = h

  pub write_more : (P Q : Name → Mode → Type 0) (x : Tx Request) → ((n : Name) → P n Exclusive → Q n Exclusive)
      → (g : Guard Name) → MayWrite M P x g → MayWrite M Q x g
  write_more P Q x f Free h = h
  write_more P Q x f (Under n) h = f n h
  write_more P Q x f (Own t k) h = h

  pub alike_fewer : (P Q : Name → Mode → Type 0) (x : Tx Request) (r s : Map) → ((n : Name) → P n Shared → Q n Shared)
      → Alike M Q x r s → Alike M P x r s
  alike_fewer P Q x r s f a =
      record {
        rows = λ k h. a.rows k (read_fewer P Q x f (governs k) h);
        parts = λ g h. a.parts g (read_part_fewer P Q x f (governs_part g) h);
      }

  -- what a list holds with the lock asked for is held, where both are
  pub asked_held : (held : Name → Option Mode) (a : Ask Name Refusal) (hs : List (Hold Name)) → IsAsked M held a
      → ((n : Name) (m : Mode) → Holds M hs n m → IsEnough (held n) m)
      → (n : Name) (m : Mode) → Holds M (with_asked M a hs) n m → IsEnough (held n) m
  asked_held held (Stop e) hs i f n m h = absurd i
  asked_held held Plain hs i f n m h = f n m h
  asked_held held (Take p q) hs i f n m (inl h) = enough_up (held n) q m (subst (λ z. IsEnough (held z) q) h.0 i) h.1
  asked_held held (Take p q) hs i f n m (inr h) = f n m h

  -- what is held is asked for by one who holds all
  pub asked_all : (held : Name → Option Mode) (a : Ask Name Refusal) → IsAsked M held a → IsAsked M (all_held M) a
  asked_all held (Stop e) i = i
  asked_all held Plain i = i
  asked_all held (Take n m) i = tt

  -- the names taken on the way are held
  pub taken_held : (held : Name → Option Mode) (x : Tx Request) (r : Map) (s : State M) → Reached M held x r s
      → (n : Name) (m : Mode) → Holds M (taken x s.position) n m → IsEnough (held n) m
  taken_held held x r _ at_start n m h = absurd (subst (λ hs. Holds M hs n m) (start_takes x) h)
  taken_held held x r _ (one_more s c p w i e) n m h =
      asked_held held (ask x s.position (overlay M s.changes r)) (taken x s.position) i (taken_held held x r s w) n m
      (next_takes x s.position (overlay M s.changes r) c p (asked_all held _ i) e n m h)

  -- each key that has changed may be written
  pub reached_writes : (held : Name → Option Mode) (x : Tx Request) (r : Map) (s : State M) → Reached M held x r s
      → (k : Key) (v : Option Row) → net M s.changes k ≡ Some v → MayWrite M (held_of M held) x (governs k)
  reached_writes held x r _ at_start k v h = absurd (some_none v (sym h))
  reached_writes held x r _ (one_more s None p w i e) k v h = reached_writes held x r s w k v h
  reached_writes held x r _ (one_more s (Some c) p w i e) k v h =
      go (is_key k (key_of c)) refl (λ g. reached_writes held x r s w k v g) h
    where
      let_write : MayWrite M (held_of M held) x (governs (key_of c))
      let_write = write_more (Holds M (with_asked M (ask x s.position (overlay M s.changes r)) (taken x s.position)))
          (held_of M held) x (λ n. asked_held held (ask x s.position (overlay M s.changes r)) (taken x s.position) i
          (taken_held held x r s w) n Exclusive) (governs (key_of c)) (may_write x s.position (overlay M s.changes r) c
          p (asked_all held _ i) e)

      go : (b : Bool) → is_key k (key_of c) ≡ b
          → (net M s.changes k ≡ Some v → MayWrite M (held_of M held) x (governs k))
          → cond b (Some (row_of c)) (net M s.changes k) ≡ Some v → MayWrite M (held_of M held) x (governs k)
      go true q f h = subst (λ z. MayWrite M (held_of M held) x (governs z)) (sym (key_true k (key_of c) q)) let_write
      go false q f h = f h

  pub asked_more : (held held' : Name → Option Mode)
      → ((n : Name) (m : Mode) → IsEnough (held n) m → IsEnough (held' n) m) → (a : Ask Name Refusal) → IsAsked M held a
      → IsAsked M held' a
  asked_more held held' f (Stop e) i = i
  asked_more held held' f Plain i = i
  asked_more held held' f (Take n m) i = f n m i

  -- and with more names held
  pub reached_more : (held held' : Name → Option Mode) (x : Tx Request) (r : Map)
      → ((n : Name) (m : Mode) → IsEnough (held n) m → IsEnough (held' n) m)
      → (s : State M) → Reached M held x r s → Reached M held' x r s
  reached_more held held' x r f _ at_start = at_start
  reached_more held held' x r f _ (one_more s c p w i e) = one_more s c p (reached_more held held' x r f s w)
      (asked_more held held' f (ask x s.position (overlay M s.changes r)) i) e

  -- a row has the facet of the old one, or the facet may be written
  abbrev Stands : (Name → Option Mode) → Tx Request → Facet → Option Row → Option Row → Type 0
  Stands held x f v old = (part f v ≡ part f old) ⊎ MayWrite M (held_of M held) x (governs_part f)

  -- each facet stands, or may be written
  pub reached_parts : (held : Name → Option Mode) (x : Tx Request) (r : Map) (s : State M) → Reached M held x r s
      → (f : Facet)
      → (part f (row_at (overlay M s.changes r) (facet_key f)) ≡ part f (row_at r (facet_key f)))
      ⊎ MayWrite M (held_of M held) x (governs_part f)
  reached_parts held x r _ at_start f = inl refl
  reached_parts held x r _ (one_more s None p w i e) f = reached_parts held x r s w f
  reached_parts held x r _ (one_more s (Some c) p w i e) f = go (is_key (facet_key f) (key_of c)) refl
      (reached_parts held x r s w f)
    where
      writes : MayWrite M (Holds M (with_asked M (ask x s.position (overlay M s.changes r)) (taken x s.position))) x
          (governs_part f) → MayWrite M (held_of M held) x (governs_part f)
      writes = write_more (Holds M (with_asked M (ask x s.position (overlay M s.changes r)) (taken x s.position)))
          (held_of M held) x
          (λ n. asked_held held (ask x s.position (overlay M s.changes r)) (taken x s.position) i
          (taken_held held x r s w) n Exclusive) (governs_part f)

      mine : facet_key f ≡ key_of c → Stands held x f (row_at (overlay M s.changes r) (facet_key f))
          (row_at r (facet_key f)) → Stands held x f (row_of c) (row_at r (facet_key f))
      mine q h = two (keeps_part x r s c p (reached_more held (all_held M) x r (λ n m h. tt) s w)
          (asked_all held (ask x s.position (overlay M s.changes r)) i) e f q) h
        where
          two : (part f (row_of c) ≡ part f (row_at (overlay M s.changes r) (key_of c)))
              ⊎ MayWrite M (Holds M (with_asked M (ask x s.position (overlay M s.changes r)) (taken x s.position))) x
              (governs_part f)
              → Stands held x f (row_at (overlay M s.changes r) (facet_key f)) (row_at r (facet_key f))
              → Stands held x f (row_of c) (row_at r (facet_key f))
          two (inl a) (inl b) = inl (a ∙ (ap (λ z. part f (row_at (overlay M s.changes r) z)) (sym q) ∙ b))
          two (inl a) (inr b) = inr b
          two (inr a) h = inr (writes a)

      at : (b : Bool) → is_key (facet_key f) (key_of c) ≡ b
          → row_at (overlay M (c ∷ s.changes) r) (facet_key f) ≡ cond b (row_of c)
          (row_at (overlay M s.changes r) (facet_key f))
      at b q = at_put c (overlay M s.changes r) (facet_key f)
          ∙ ap (λ z. cond z (row_of c) (row_at (overlay M s.changes r) (facet_key f))) q

      go : (b : Bool) → is_key (facet_key f) (key_of c) ≡ b
          → Stands held x f (row_at (overlay M s.changes r) (facet_key f)) (row_at r (facet_key f))
          → Stands held x f (row_at (overlay M (c ∷ s.changes) r) (facet_key f)) (row_at r (facet_key f))
      go true q h = subst (λ v. Stands held x f v (row_at r (facet_key f))) (sym (at true q))
          (mine (key_true (facet_key f) (key_of c) q) h)
      go false q h = subst (λ v. Stands held x f v (row_at r (facet_key f))) (sym (at false q)) h

  -- what the program asks and does is the same on maps that are alike by the names held
  pub ask_alike : (held : Name → Option Mode) (x : Tx Request) (r : Map) (s : State M) → Reached M held x r s
      → (a b : Map) → Alike M (held_of M held) x a b → ask x s.position a ≡ ask x s.position b
  ask_alike held x r s w a b h = ask_same x s.position a b
      (alike_fewer _ _ x a b (λ n. taken_held held x r s w n Shared) h)

  pub act_alike : (held : Name → Option Mode) (x : Tx Request) (r : Map) (s : State M) → Reached M held x r s
      → (a b : Map) → Alike M (held_of M held) x a b → IsAsked M held (ask x s.position a)
      → act x s.position a ≡ act x s.position b
  act_alike held x r s w a b h i = act_same x s.position a b (asked_all held _ i)
      (alike_fewer _ _ x a b
      (λ n. asked_held held (ask x s.position a) (taken x s.position) i (taken_held held x r s w) n Shared) h)

  -- the same way leads there from a map that is alike
  pub reached_alike : (held : Name → Option Mode) (x : Tx Request) (r r' : Map) → Alike M (held_of M held) x r r'
      → (s : State M) → Reached M held x r s → Reached M held x r' s
  reached_alike held x r r' a _ at_start = at_start
  reached_alike held x r r' a _ (one_more s c p w i e) =
      let b = alike_overlay (held_of M held) x s.changes r r' a in
      one_more s c p (reached_alike held x r r' a s w)
      (subst (IsAsked M held) (ask_alike held x r s w (overlay M s.changes r) (overlay M s.changes r') b) i)
      (sym (act_alike held x r s w (overlay M s.changes r) (overlay M s.changes r') b i) ∙ e)
