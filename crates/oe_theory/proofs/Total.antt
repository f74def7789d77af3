-- Each step has an answer other than a want of memory.
use Rattle.std.proofs.Common.{◌≡◌, ℕ, suc, zero, ◌<◌, ◌≤◌, Bool, true, false, Option, None, Some, refl, sym, ap, ◌∙◌}
use Rattle.std.proofs.Common.{subst, inl, inr, arith}
use Rattle.std.specs.Prelude.{◌⊎◌, ◌≢◌}
use Rattle.std.proofs.lemmas.Bool.{cases_eq, cases_order}
use Rattle.oe_theory.specs.Machine.{Machine, Mode, Ask, Stop, Plain, Take, Act, Fail, Go, Ready, Outcome, Here, Missing}
use Rattle.oe_theory.specs.World.{go_together, Open, World, IsTerminal, tx_of, tables, number, horizon, newest, at}
use Rattle.oe_theory.specs.Next.{record_on, fill_of, extents_used, IsGranted, IsInTheWay, IsQuiet, count_open, IsPast}
use Rattle.oe_theory.specs.Next.{Step}
use Rattle.oe_theory.specs.Next.{Begin, Advance, Save, Back, Rollback, Read, Audit, Purge, Rewind, moment, begins}
use Rattle.oe_theory.specs.Next.{goes_on, commits, saves, goes_back, rolls_back, reads, audits, purges, rewinds, stops}
use Rattle.oe_theory.specs.Next.{fails, is_busy, is_full, is_rejected, is_open, number_is_rejected, query_is_rejected}
use Rattle.oe_theory.specs.Next.{misses, not_open, too_old, future, not_quiet}
use Rattle.oe_theory.specs.Laws.{Sound}
use Rattle.oe_theory.specs.Theorems.{IsStep, IsAnswered}

module _ (M : Machine) where
  open M use {
    Name,
    Change,
    Position,
    Reply,
    Refusal,
    Request,
    ask,
    act,
    size_of,
    rejection,
    number_rejection,
    query_rejection,
    find,
    terminal_limit,
  }

  either : (a b : ℕ) → (a ≤ b) ⊎ (b < a)
  either a b = go (cases_order a b)
    where
      go : (a ≡ b) ⊎ ((a < b) ⊎ (b < a)) → (a ≤ b) ⊎ (b < a)
      go (inl e) = inl (omega (arith, e))
      go (inr (inl l)) = inl (omega (arith, l))
      go (inr (inr l)) = inr l

  -- of the terminals below j none is in the way, or the least that is
  abbrev IsFreeBelow : World M → ℕ → Name → Mode → ℕ → Type 0
  IsFreeBelow w t n m j = (v : ℕ) (o : Open M) → v < j → v ≢ t → w.active v ≡ Some o → go_together m (o.held n) ≡ true

  search_way : (w : World M) (t : ℕ) (n : Name) (m : Mode) (j : ℕ) → IsFreeBelow w t n m j
      ⊎ ((u : ℕ) × IsInTheWay M w t n m u)
  search_way w t n m zero = inl (λ v o l ne e. absurd (omega (arith, l)))
  search_way w t n m (suc j) = go (search_way w t n m j)
    where
      free : IsFreeBelow w t n m j → ((o : Open M) → j ≢ t → w.active j ≡ Some o → go_together m (o.held n) ≡ true)
          → IsFreeBelow w t n m (suc j)
      free f here v o l ne e = at (cases_eq v j)
        where
          at : (v ≡ j) ⊎ (v ≢ j) → go_together m (o.held n) ≡ true
          at (inl q) = here o (λ z. ne (q ∙ z)) (ap w.active (sym q) ∙ e)
          at (inr d) = f v o (omega (arith, l, d)) ne e

      held : IsFreeBelow w t n m j → (p : Open M) → w.active j ≡ Some p → j ≢ t → (b : Bool)
          → go_together m (p.held n) ≡ b
          → IsFreeBelow w t n m (suc j) ⊎ ((u : ℕ) × IsInTheWay M w t n m u)
      held f p e ne true q = inl (free f (λ o d k. ap (λ (z : Open M). go_together m (z.held n)) (same o k) ∙ q))
        where
          same : (o : Open M) → w.active j ≡ Some o → o ≡ p
          same o k = let h : ◌≡◌ {A = Option (Open M)} (Some o) (Some p) = sym k ∙ e in cc
      held f p e ne false q = inr (j, record { other = ne; who = p; is_open = e; conflicts = q; least = f })

      seat : IsFreeBelow w t n m j → (v : Option (Open M)) → w.active j ≡ v → j ≢ t
          → IsFreeBelow w t n m (suc j) ⊎ ((u : ℕ) × IsInTheWay M w t n m u)
      seat f None e ne = inl
          (free f (λ o d k. absurd (let h : ◌≡◌ {A = Option (Open M)} None (Some o) = sym e ∙ k in cc)))
      seat f (Some p) e ne = held f p e ne (go_together m (p.held n)) refl

      mine : IsFreeBelow w t n m j → (j ≡ t) ⊎ (j ≢ t) → IsFreeBelow w t n m (suc j)
          ⊎ ((u : ℕ) × IsInTheWay M w t n m u)
      mine f (inl e) = inl (free f (λ o d k. absurd (d e)))
      mine f (inr ne) = seat f (w.active j) refl ne

      go : IsFreeBelow w t n m j ⊎ ((u : ℕ) × IsInTheWay M w t n m u)
          → IsFreeBelow w t n m (suc j) ⊎ ((u : ℕ) × IsInTheWay M w t n m u)
      go (inl f) = mine f (cases_eq j t)
      go (inr h) = inr h

  -- a row
  of_act : (w : World M) (t : ℕ) (o : Open M) → w.active t ≡ Some o
      → IsGranted M w t (ask (tx_of M t o) o.now.position (tables M w))
      → (d : Act Change Position Reply Refusal) → act (tx_of M t o) o.now.position (tables M w) ≡ d
      → IsAnswered M w (Advance t)
  of_act w t o e g (Fail x) r = record { answer = _; after = _; next = fails t o x e g r; other = λ z. cc }
  of_act w t o e g (Ready y) r = record { answer = _; after = _; next = commits t o y e g r; other = λ z. cc }
  of_act w t o e g (Go None p) r = record { answer = _; after = _; next = goes_on t o None p e g r tt; other = λ z. cc }
  of_act w t o e g (Go (Some c) p) r = room
      (either (size_of (record_on M w.layout c (tables M w))) (fill_of M o.lengths).1)
      (either w.extents (extents_used M w))
    where
      room : (size_of (record_on M w.layout c (tables M w)) ≤ (fill_of M o.lengths).1)
          ⊎ ((fill_of M o.lengths).1 < size_of (record_on M w.layout c (tables M w)))
          → (w.extents ≤ extents_used M w) ⊎ (extents_used M w < w.extents) → IsAnswered M w (Advance t)
      room (inl fits) x = record {
        answer = _;
        after = _;
        next = goes_on t o (Some c) p e g r (inl fits);
        other = λ z. cc;
      }
      room (inr long) (inr free) =
          record { answer = _; after = _; next = goes_on t o (Some c) p e g r (inr free); other = λ z. cc }
      room (inr long) (inl full) =
          record { answer = _; after = _; next = is_full t o c p e g r (long, full); other = λ z. cc }

  of_ask : (w : World M) → Sound M w → (t : ℕ) (o : Open M) → w.active t ≡ Some o → (a : Ask Name Refusal)
      → ask (tx_of M t o) o.now.position (tables M w) ≡ a
      → IsAnswered M w (Advance t)
  of_ask w s t o e (Stop x) r = record { answer = _; after = _; next = stops t o x e r; other = λ z. cc }
  of_ask w s t o e Plain r = of_act w t o e (subst (IsGranted M w t) (sym r) tt) _ refl
  of_ask w s t o e (Take n m) r = go (search_way w t n m terminal_limit)
    where
      go : IsFreeBelow w t n m terminal_limit ⊎ ((u : ℕ) × IsInTheWay M w t n m u) → IsAnswered M w (Advance t)
      go (inl f) = of_act w t o e (subst (IsGranted M w t) (sym r) (λ v p ne h. f v p (s.each v p h).terminal.1 ne h)) _
          refl
      go (inr h) = record { answer = _; after = _; next = is_busy t o n m h.0 e r h.1; other = λ z. cc }

  -- a begin
  of_begin : (w : World M) (t : ℕ) (q : Request) → IsTerminal M t × M.IsRequest q → (x : Option Refusal)
      → rejection q (tables M w) ≡ x → (l : Option (Open M)) → w.active t ≡ l
      → (n : Option Refusal) → number_rejection (number M w t) ≡ n → IsAnswered M w (Begin t q)
  of_begin w t q b (Some x) e l f n g = record { answer = _; after = _; next = is_rejected t q x e; other = λ z. cc }
  of_begin w t q b None e (Some o) f n g = record { answer = _; after = _; next = is_open t q o e f; other = λ z. cc }
  of_begin w t q b None e None f (Some x) g =
      record { answer = _; after = _; next = number_is_rejected t q x e f g; other = λ z. cc }
  of_begin w t q b None e None f None g =
      record {
        answer = _;
        after = _;
        next = begins t q
            (record { terminal = b.0; valid = b.1; known = e; closed = f; counted = g });
        other = λ z. cc;
      }

  -- a step that looks at a moment
  of_moment : (w : World M) (i : Step M) (m : ℕ) → moment M i ≡ Some m → IsPast M w i
      → (horizon M w ≤ m → m ≤ newest M w → IsAnswered M w i) → IsAnswered M w i
  of_moment w i m e p f = go (either (horizon M w) m) (either m (newest M w))
    where
      go : (horizon M w ≤ m) ⊎ (m < horizon M w) → (m ≤ newest M w) ⊎ (newest M w < m) → IsAnswered M w i
      go (inr l) x = record { answer = _; after = _; next = too_old i m e p l; other = λ z. cc }
      go (inl l) (inl h) = f l h
      go (inl l) (inr h) = record { answer = _; after = _; next = future i m e p h; other = λ z. cc }

  -- nothing is open below n, or some are
  count : (w : World M) (n : ℕ) → ((t : ℕ) → t < n → w.active t ≡ None) ⊎ ((k : ℕ) × (count_open M w.active n ≡ suc k))
  count w zero = inl (λ t l. absurd (omega (arith, l)))
  count w (suc n) = go (w.active n) refl (count w n)
    where
      go : (v : Option (Open M)) → w.active n ≡ v → ((t : ℕ) → t < n → w.active t ≡ None)
          ⊎ ((k : ℕ) × (count_open M w.active n ≡ suc k))
          → ((t : ℕ) → t < suc n → w.active t ≡ None)
          ⊎ ((k : ℕ) × (elim v as (λ z. ℕ) [ None ↦ count_open M w.active n | Some o ↦ suc (count_open M w.active n) ]
          ≡ suc k))
      go (Some o) e h = inr (count_open M w.active n, refl)
      go None e (inr h) = inr h
      go None e (inl f) = inl (λ t l. at t l (cases_eq t n))
        where
          at : (t : ℕ) → t < suc n → (t ≡ n) ⊎ (t ≢ n) → w.active t ≡ None
          at t l (inl q) = ap w.active q ∙ e
          at t l (inr d) = f t (omega (arith, l, d))

  of_rewind : (w : World M) → Sound M w → (m : ℕ) → IsAnswered M w (Rewind m)
  of_rewind w s m = go (count w terminal_limit)
    where
      quiet : ((t : ℕ) → t < terminal_limit → w.active t ≡ None) → (t : ℕ) (v : Option (Open M)) → w.active t ≡ v
          → v ≡ None
      quiet f t None e = refl
      quiet f t (Some o) e = sym e ∙ f t (s.each t o e).terminal.1

      go : ((t : ℕ) → t < terminal_limit → w.active t ≡ None)
          ⊎ ((k : ℕ) × (count_open M w.active terminal_limit ≡ suc k)) → IsAnswered M w (Rewind m)
      go (inl f) =
          let q : IsQuiet M w = λ t. quiet f t (w.active t) refl in
          of_moment w (Rewind m) m refl q
          (λ l h. record { answer = _; after = _; next = rewinds m q l h; other = λ z. cc })
      go (inr h) = record { answer = _; after = _; next = not_quiet m h.0 h.1; other = λ z. cc }

  of_read : (w : World M) (m : ℕ) (q : M.Query) (x : Option Refusal) → query_rejection q (tables M w) ≡ x
      → IsAnswered M w (Read m q)
  of_read w m q (Some x) e = record { answer = _; after = _; next = query_is_rejected m q x e; other = λ z. cc }
  of_read w m q None e = of_moment w (Read m q) m refl e (λ l h. go l h (find q (at M w m)) refl)
    where
      go : horizon M w ≤ m → m ≤ newest M w → (v : Outcome M.Found Refusal) → find q (at M w m) ≡ v
          → IsAnswered M w (Read m q)
      go l h (Here f) r = record { answer = _; after = _; next = reads m q f e l h r; other = λ z. cc }
      go l h (Missing x) r = record { answer = _; after = _; next = misses m q x e l h r; other = λ z. cc }

  -- a step of an open transaction
  of_open : (w : World M) (t : ℕ) (i : Step M) → (w.active t ≡ None → IsAnswered M w i)
      → ((o : Open M) → w.active t ≡ Some o → IsAnswered M w i) → (v : Option (Open M)) → w.active t ≡ v
      → IsAnswered M w i
  of_open w t i f g None e = f e
  of_open w t i f g (Some o) e = g o e

  pub each_answered : (w : World M) → Sound M w → (i : Step M) → IsStep M i → IsAnswered M w i
  each_answered w s (Begin t q) b = of_begin w t q b _ refl _ refl _ refl
  each_answered w s (Advance t) b =
      of_open w t (Advance t)
      (λ e. record { answer = _; after = _; next = not_open (Advance t) t refl e; other = λ z. cc })
      (λ o e. of_ask w s t o e _ refl) (w.active t) refl
  each_answered w s (Save t) b =
      of_open w t (Save t) (λ e. record { answer = _; after = _; next = not_open (Save t) t refl e; other = λ z. cc })
      (λ o e. record { answer = _; after = _; next = saves t o e; other = λ z. cc }) (w.active t) refl
  each_answered w s (Back t) b =
      of_open w t (Back t) (λ e. record { answer = _; after = _; next = not_open (Back t) t refl e; other = λ z. cc })
      (λ o e. record { answer = _; after = _; next = goes_back t o e; other = λ z. cc }) (w.active t) refl
  each_answered w s (Rollback t) b =
      of_open w t (Rollback t)
      (λ e. record { answer = _; after = _; next = not_open (Rollback t) t refl e; other = λ z. cc })
      (λ o e. record { answer = _; after = _; next = rolls_back t o e; other = λ z. cc }) (w.active t) refl
  each_answered w s (Read m q) b = of_read w m q _ refl
  each_answered w s (Audit m c) b = of_moment w (Audit m c) m refl tt
      (λ l h. record { answer = _; after = _; next = audits m c l h; other = λ z. cc })
  each_answered w s (Purge m) b = of_moment w (Purge m) m refl tt
      (λ l h. record { answer = _; after = _; next = purges m l h; other = λ z. cc })
  each_answered w s (Rewind m) b = of_rewind w s m
