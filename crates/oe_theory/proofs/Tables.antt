-- The tables as they stand are, for each transaction, the newest version with its own changes on it.
use Rattle.std.proofs.Common.{◌≡◌, ℕ, suc, zero, ◌<◌, Option, None, Some, refl, sym, ap, ◌∙◌, subst, inl, inr, arith}
use Rattle.std.specs.Prelude.{◌⊎◌, ◌≢◌}
use Rattle.std.proofs.lemmas.Bool.{cases_eq}
use Rattle.oe_theory.specs.Machine.{Machine, Mode, Exclusive, Guard, Free, Under, Own, Tx}
use Rattle.oe_theory.specs.World.{Open, World, tx_of, overlay, net, layer, layers, tables, latest}
use Rattle.oe_theory.specs.Laws.{MayRead, MayReadPart, MayWrite, Alike, IsSameEver, held_of, AreApart, Sound, Laws}
use Rattle.oe_theory.proofs.Sets.{some_inj, enough_shared}
use Rattle.oe_theory.proofs.Replay.{upon, at_overlay, reached_writes, reached_parts}

module _ (M : Machine) (L : Laws M) where
  open M use {Map, Key, Row, Facet, row_at, facet_key, part, Name, governs, governs_part, terminal_limit}

  -- what open work leaves at a key
  abbrev pub net_of : Option (Open M) → Key → Option (Option Row)
  net_of None k = None
  net_of (Some o) k = net M o.now.changes k

  abbrev pub over : Option (Option Row) → Option (Option Row) → Option (Option Row)
  over None b = b
  over (Some v) b = Some v

  abbrev pub topmost : (ℕ → Option (Open M)) → ℕ → Key → Option (Option Row)
  topmost active zero k = None
  topmost active (suc n) k = over (net_of (active n) k) (topmost active n k)

  upon_over : (a b : Option (Option Row)) (old : Option Row) → upon M L a (upon M L b old) ≡ upon M L (over a b) old
  upon_over None b old = refl
  upon_over (Some v) b old = refl

  at_layer : (v : Option (Open M)) (r : Map) (k : Key) → row_at (layer M v r) k ≡ upon M L (net_of v k) (row_at r k)
  at_layer None r k = refl
  at_layer (Some o) r k = at_overlay M L o.now.changes r k

  pub at_layers : (active : ℕ → Option (Open M)) (n : ℕ) (r : Map) (k : Key)
      → row_at (layers M active n r) k ≡ upon M L (topmost active n k) (row_at r k)
  at_layers active zero r k = refl
  at_layers active (suc n) r k =
      at_layer (active n) (layers M active n r) k
      ∙ (ap (upon M L (net_of (active n) k)) (at_layers active n r k)
      ∙ upon_over (net_of (active n) k) (topmost active n k) (row_at r k))

  pub topmost_none : (active : ℕ → Option (Open M)) (n : ℕ) (k : Key) → ((u : ℕ) → u < n → net_of (active u) k ≡ None)
      → topmost active n k ≡ None
  topmost_none active zero k f = refl
  topmost_none active (suc n) k f = ap (λ v. over v (topmost active n k)) (f n (omega arith))
      ∙ topmost_none active n k (λ u h. f u (omega arith))

  over_none : (a : Option (Option Row)) → over a None ≡ a
  over_none None = refl
  over_none (Some v) = refl

  -- where one alone has changed a key, its row stands there
  pub topmost_only : (active : ℕ → Option (Open M)) (t n : ℕ) (k : Key) → t < n
      → ((u : ℕ) → t ≢ u → net_of (active u) k ≡ None) → topmost active n k ≡ net_of (active t) k
  topmost_only active t zero k h f = absurd (omega (arith, h))
  topmost_only active t (suc n) k h f = go (cases_eq t n) (λ g. topmost_only active t n k g f)
    where
      go : (t ≡ n) ⊎ (t ≢ n) → (t < n → topmost active n k ≡ net_of (active t) k)
          → over (net_of (active n) k) (topmost active n k) ≡ net_of (active t) k
      go (inl e) g =
          ap (over (net_of (active n) k)) (topmost_none active n k (λ u b. f u (λ q. omega (arith, q, e, b))))
          ∙ (over_none (net_of (active n) k) ∙ ap (λ z. net_of (active z) k) (sym e))
      go (inr ne) g = ap (λ v. over v (topmost active n k)) (f n ne) ∙ g (omega (arith, h, ne))

  -- no row that one may read has been changed by another
  clash : (t u : ℕ) (o p : Open M) (held : Name → Option Mode) (number : ℕ) → t ≢ u → AreApart M held p.held
      → (g : Guard Name)
      → MayRead M (held_of M held) (record { terminal = t; number = number; request = o.request }) g
      → MayWrite M (held_of M p.held) (record { terminal = u; number = p.number; request = p.request }) g → ⊥
  clash t u o p held number ne a Free r w = r
  clash t u o p held number ne a (Under n) r w = a n w r
  clash t u o p held number ne a (Own i j) r w = ne (sym r.0 ∙ w.0)

  pub unseen : (w : World M) → Sound M w → (t : ℕ) (o : Open M) (held : Name → Option Mode)
      → ((u : ℕ) (p : Open M) → t ≢ u → w.active u ≡ Some p → AreApart M held p.held)
      → (k : Key) → MayRead M (held_of M held) (tx_of M t o) (governs k) → (u : ℕ) → t ≢ u
      → net_of (w.active u) k ≡ None
  unseen w s t o held apart k r u ne = go (w.active u) refl
    where
      inner : (p : Open M) → w.active u ≡ Some p → (v : Option (Option Row)) → net M p.now.changes k ≡ v → v ≡ None
      inner p e None q = refl
      inner p e (Some v) q =
          absurd (clash t u o p held o.number ne (apart u p ne e) (governs k) r
          (reached_writes M L p.held (tx_of M u p) (latest M w) p.now (s.each u p e).now k v q))

      go : (v : Option (Open M)) → w.active u ≡ v → net_of v k ≡ None
      go None e = refl
      go (Some p) e = inner p e (net M p.now.changes k) refl

  clash_part : (t u : ℕ) (o p : Open M) (held : Name → Option Mode) → t ≢ u → AreApart M held p.held → (g : Guard Name)
      → MayReadPart M (held_of M held) (tx_of M t o) g → MayWrite M (held_of M p.held) (tx_of M u p) g → ⊥
  clash_part t u o p held ne a Free r w = w
  clash_part t u o p held ne a (Under n) r w = a n w r
  clash_part t u o p held ne a (Own i j) r w = ne (sym r.0 ∙ w.0)

  -- where one may read a facet, nobody else has changed it
  part_same : (w : World M) → Sound M w → (t u : ℕ) (o p : Open M) (held : Name → Option Mode) → t ≢ u
      → w.active u ≡ Some p → AreApart M held p.held
      → (f : Facet) → MayReadPart M (held_of M held) (tx_of M t o) (governs_part f)
      → part f (row_at (overlay M p.now.changes (latest M w)) (facet_key f)) ≡ part f
      (row_at (latest M w) (facet_key f))
  part_same w s t u o p held ne e a f r = go
      (reached_parts M L p.held (tx_of M u p) (latest M w) p.now (s.each u p e).now f)
    where
      go : (part f (row_at (overlay M p.now.changes (latest M w)) (facet_key f)) ≡ part f
          (row_at (latest M w) (facet_key f))) ⊎ MayWrite M (held_of M p.held) (tx_of M u p) (governs_part f)
          → part f (row_at (overlay M p.now.changes (latest M w)) (facet_key f)) ≡ part f
          (row_at (latest M w) (facet_key f))
      go (inl q) = q
      go (inr m) = absurd (clash_part t u o p held ne a (governs_part f) r m)

  parts_layers : (w : World M) (f : Facet) (n : ℕ)
      → ((u : ℕ) (p : Open M) → u < n → w.active u ≡ Some p
      → part f (row_at (overlay M p.now.changes (latest M w)) (facet_key f)) ≡ part f
      (row_at (latest M w) (facet_key f)))
      → part f (row_at (layers M w.active n (latest M w)) (facet_key f)) ≡ part f (row_at (latest M w) (facet_key f))
  parts_layers w f zero same = refl
  parts_layers w f (suc n) same = go (w.active n) refl (parts_layers w f n (λ u p b q. same u p (omega (arith, b)) q))
    where
      inner : (p : Open M) → w.active n ≡ Some p → (r : Map)
          → part f (row_at r (facet_key f)) ≡ part f (row_at (latest M w) (facet_key f))
          → (v : Option (Option Row)) → net M p.now.changes (facet_key f) ≡ v
          → part f (upon M L v (row_at r (facet_key f))) ≡ part f (row_at (latest M w) (facet_key f))
      inner p e r h None q = h
      inner p e r h (Some v) q =
          ap (λ z. part f (upon M L z (row_at (latest M w) (facet_key f)))) (sym q)
          ∙ (ap (part f) (sym (at_overlay M L p.now.changes (latest M w) (facet_key f))) ∙ same n p (omega arith) e)

      go : (v : Option (Open M)) → w.active n ≡ v
          → part f (row_at (layers M w.active n (latest M w)) (facet_key f)) ≡ part f
          (row_at (latest M w) (facet_key f))
          → part f (row_at (layer M v (layers M w.active n (latest M w))) (facet_key f)) ≡ part f
          (row_at (latest M w) (facet_key f))
      go None e h = h
      go (Some p) e h =
          ap (part f) (at_overlay M L p.now.changes (layers M w.active n (latest M w)) (facet_key f))
          ∙ inner p e (layers M w.active n (latest M w)) h (net M p.now.changes (facet_key f)) refl

  -- what never changes is in the tables as in the newest version
  pub same_ever : (w : World M) → Sound M w → IsSameEver M (tables M w) (latest M w)
  same_ever w s f e = parts_layers w f terminal_limit (λ u p b q. each_same u p q)
    where
      no_writing : (p : Open M) (u : ℕ) (g : Guard Name) → g ≡ Free → MayWrite M (held_of M p.held) (tx_of M u p) g → ⊥
      no_writing p u g q m = subst (MayWrite M (held_of M p.held) (tx_of M u p)) q m

      each_same : (u : ℕ) (p : Open M) → w.active u ≡ Some p
          → part f (row_at (overlay M p.now.changes (latest M w)) (facet_key f)) ≡ part f
          (row_at (latest M w) (facet_key f))
      each_same u p q = go (reached_parts M L p.held (tx_of M u p) (latest M w) p.now (s.each u p q).now f)
        where
          go : (part f (row_at (overlay M p.now.changes (latest M w)) (facet_key f)) ≡ part f
              (row_at (latest M w) (facet_key f))) ⊎ MayWrite M (held_of M p.held) (tx_of M u p) (governs_part f)
              → part f (row_at (overlay M p.now.changes (latest M w)) (facet_key f)) ≡ part f
              (row_at (latest M w) (facet_key f))
          go (inl h) = h
          go (inr m) = absurd (no_writing p u (governs_part f) e m)

  write_to_read : (held : Name → Option Mode) (x : Tx M.Request) (g : Guard Name) → MayWrite M (held_of M held) x g
      → MayRead M (held_of M held) x g
  write_to_read held x Free h = h
  write_to_read held x (Under n) h = enough_shared (held n) Exclusive h
  write_to_read held x (Own i j) h = h

  -- by names that no other may write under, the tables are alike to the newest version with one's own changes
  pub alike_tables : (w : World M) → Sound M w → (t : ℕ) (o : Open M) → w.active t ≡ Some o
      → (held : Name → Option Mode)
      → ((u : ℕ) (p : Open M) → t ≢ u → w.active u ≡ Some p → AreApart M held p.held)
      → Alike M (held_of M held) (tx_of M t o) (tables M w) (overlay M o.now.changes (latest M w))
  alike_tables w s t o e held apart =
      record {
        rows = λ k h. row k held apart h;
        parts = λ f h. parted f h (net M o.now.changes (facet_key f)) refl;
      }
    where
      row : (k : Key) (held : Name → Option Mode)
          → ((u : ℕ) (p : Open M) → t ≢ u → w.active u ≡ Some p → AreApart M held p.held)
          → MayRead M (held_of M held) (tx_of M t o) (governs k)
          → row_at (tables M w) k ≡ row_at (overlay M o.now.changes (latest M w)) k
      row k held apart h =
          at_layers w.active terminal_limit (latest M w) k
          ∙ (ap (λ v. upon M L v (row_at (latest M w) k))
          (topmost_only w.active t terminal_limit k (s.each t o e).terminal.1 (unseen w s t o held apart k h)
          ∙ ap (λ v. net_of v k) e)
          ∙ sym (at_overlay M L o.now.changes (latest M w) k))

      each_same : (f : Facet) → MayReadPart M (held_of M held) (tx_of M t o) (governs_part f)
          → net M o.now.changes (facet_key f) ≡ None
          → (u : ℕ) (p : Open M) → w.active u ≡ Some p
          → part f (row_at (overlay M p.now.changes (latest M w)) (facet_key f)) ≡ part f
          (row_at (latest M w) (facet_key f))
      each_same f h none u p q = go (cases_eq u t)
        where
          go : (u ≡ t) ⊎ (u ≢ t) → part f (row_at (overlay M p.now.changes (latest M w)) (facet_key f)) ≡ part f
              (row_at (latest M w) (facet_key f))
          go (inl i) =
              let same : o ≡ p = some_inj o p (sym e ∙ (ap w.active (sym i) ∙ q)) in
              ap (part f) (at_overlay M L p.now.changes (latest M w) (facet_key f)
              ∙ ap (λ z. upon M L z (row_at (latest M w) (facet_key f)))
              (ap (λ (z : Open M). net M z.now.changes (facet_key f)) (sym same) ∙ none))
          go (inr ne) = part_same w s t u o p held (λ z. ne (sym z)) q (apart u p (λ z. ne (sym z)) q) f h

      parted : (f : Facet) → MayReadPart M (held_of M held) (tx_of M t o) (governs_part f) → (v : Option (Option Row))
          → net M o.now.changes (facet_key f) ≡ v
          → part f (row_at (tables M w) (facet_key f)) ≡ part f
          (row_at (overlay M o.now.changes (latest M w)) (facet_key f))
      parted f h None q =
          parts_layers w f terminal_limit (λ u p b z. each_same f h q u p z)
          ∙ sym (ap (part f) (at_overlay M L o.now.changes (latest M w) (facet_key f)
          ∙ ap (λ z. upon M L z (row_at (latest M w) (facet_key f))) q))
      parted f h (Some y) q =
          ap (part f) (row (facet_key f) o.held (λ u p ne g. s.apart t u o p ne e g)
          (write_to_read o.held (tx_of M t o) (governs (facet_key f))
          (reached_writes M L o.held (tx_of M t o) (latest M w) o.now (s.each t o e).now (facet_key f) y q)))

  -- and so are the newest version and what another's changes make of it
  pub alike_other : (w : World M) → Sound M w → (t u : ℕ) (o p : Open M) → t ≢ u → w.active t ≡ Some o
      → w.active u ≡ Some p
      → Alike M (held_of M o.held) (tx_of M t o) (latest M w) (overlay M p.now.changes (latest M w))
  alike_other w s t u o p ne e e' =
      record {
        rows = λ k h.
            sym (at_overlay M L p.now.changes (latest M w) k
            ∙ ap (λ v. upon M L v (row_at (latest M w) k))
            (ap (λ v. net_of v k) (sym e') ∙ unseen w s t o o.held (λ v q n g. s.apart t v o q n e g) k h u ne));
        parts = λ f h. sym (part_same w s t u o p o.held ne e' (s.apart t u o p ne e e') f h);
      }

  -- the newest version is alike to it with the work of others, those of lower terminals, for one who holds what they
  -- may not write
  pub alike_below : (w : World M) → Sound M w → (t : ℕ) (o : Open M) → w.active t ≡ Some o
      → Alike M (held_of M o.held) (tx_of M t o) (latest M w) (layers M w.active t (latest M w))
  alike_below w s t o e =
      record {
        rows = λ k h.
            sym (at_layers w.active t (latest M w) k
            ∙ ap (λ v. upon M L v (row_at (latest M w) k))
            (topmost_none w.active t k (λ u b. unseen w s t o o.held apart k h u (λ q. omega (arith, q, b)))));
        parts = λ f h. sym (parts_layers w f t
            (λ u p b q. part_same w s t u o p o.held (λ z. omega (arith, z, b)) q
            (apart u p (λ z. omega (arith, z, b)) q) f h));
      }
    where
      apart : (u : ℕ) (p : Open M) → t ≢ u → w.active u ≡ Some p → AreApart M o.held p.held
      apart u p ne q = s.apart t u o p ne e q
