-- But for a want of memory, the world and the step determine the answer and the world after it.
use Rattle.std.proofs.Common.{◌≡◌, ℕ, suc, zero, ◌<◌, ◌≤◌, Option, None, Some, List, [], ◌∷◌, refl, sym, ap, ◌∙◌, subst}
use Rattle.std.proofs.Common.{inl, inr, arith}
use Rattle.std.specs.Prelude.{◌⊎◌, ◌≢◌}
use Rattle.std.proofs.lemmas.Bool.{cases_order, false≢true}
use Rattle.oe_theory.specs.Machine.{Machine, Mode, Ask, Stop, Take, Act, Fail, Go, Ready, Outcome, Here, Missing}
use Rattle.oe_theory.specs.World.{Open, World, tx_of, tables, horizon, newest, at, number}
use Rattle.oe_theory.specs.Next.{HasRoom, IsFull, Step, Begin, Advance, Save, Back, Rollback, Read, Audit, Purge}
use Rattle.oe_theory.specs.Next.{Rewind, Answer, Begun, More, Committed, Saved, Gone_back, Rolled_back, Replied}
use Rattle.oe_theory.specs.Next.{Audited, Purged, Rewound, Aborted, Rejected, Busy, Undo_full, Not_open, Already_open}
use Rattle.oe_theory.specs.Next.{Too_old, Future, Not_quiet, No_memory, works_on, moment, count_open, put_active}
use Rattle.oe_theory.specs.Next.{open_at_begin}
use Rattle.oe_theory.specs.Next.{open_after, IsGranted, IsInTheWay, after_commit, after_purge, after_rewind, IsQuiet}
use Rattle.oe_theory.specs.Next.{IsPast, Next}
use Rattle.oe_theory.specs.Next.{begins, goes_on, commits, saves, goes_back, rolls_back, reads, audits, purges, rewinds}
use Rattle.oe_theory.specs.Next.{stops, fails, is_busy, is_full, is_rejected, is_open, number_is_rejected}
use Rattle.oe_theory.specs.Next.{query_is_rejected, misses, not_open, too_old, future, not_quiet, lacks_memory_at_begin}
use Rattle.oe_theory.specs.Next.{lacks_memory, Runs}
use Rattle.oe_theory.specs.Theorems.{IsWithout}
use Rattle.oe_theory.proofs.Sets.{some_inj, some_none}

module _ (M : Machine) where
  open M use {
    Change,
    Name,
    Request,
    Position,
    Reply,
    Refusal,
    ask,
    act,
    rejection,
    number_rejection,
    Found,
    query_rejection,
    find,
    verdict,
    terminal_limit,
  }

  data Done (w : World M) (t : ℕ) (o : Open M) (a : Answer M) (v : World M) : Type 0 where
    went : (c : Option Change) (p : Position) → act (tx_of M t o) o.now.position (tables M w) ≡ Go c p → HasRoom M w o c
        → a ≡ More
        → v ≡ put_active M t
        (Some (open_after M w.layout o (ask (tx_of M t o) o.now.position (tables M w)) c p (tables M w))) w
        → Done w t o a v
    was_full : (c : Change) (p : Position) → act (tx_of M t o) o.now.position (tables M w) ≡ Go (Some c) p
        → IsFull M w o c → a ≡ Undo_full → v ≡ w → Done w t o a v
    was_ready : (y : Reply) → act (tx_of M t o) o.now.position (tables M w) ≡ Ready y
        → a ≡ Committed (suc (newest M w)) y → v ≡ after_commit M w t o y → Done w t o a v
    failed : (e : Refusal) → act (tx_of M t o) o.now.position (tables M w) ≡ Fail e → a ≡ Aborted e
        → v ≡ put_active M t None w → Done w t o a v

  data Turn (w : World M) (t : ℕ) (o : Open M) (a : Answer M) (v : World M) : Type 0 where
    stopped : (e : Refusal) → ask (tx_of M t o) o.now.position (tables M w) ≡ Stop e → a ≡ Aborted e
        → v ≡ put_active M t None w → Turn w t o a v
    waited : (n : Name) (m : Mode) (u : ℕ) → ask (tx_of M t o) o.now.position (tables M w) ≡ Take n m
        → IsInTheWay M w t n m u → a ≡ Busy n u → v ≡ w → Turn w t o a v
    acted : IsGranted M w t (ask (tx_of M t o) o.now.position (tables M w)) → Done w t o a v → Turn w t o a v

  abbrev OfOpen : World M → ℕ → Answer M → World M → Answer M → (Open M → World M) → Type 0
  OfOpen w t a v a' f = ((o : Open M) × (w.active t ≡ Some o) × (a ≡ a') × (v ≡ f o))
      ⊎ ((w.active t ≡ None) × (a ≡ Not_open) × (v ≡ w))

  abbrev Looked : World M → ℕ → Answer M → World M → Answer M → World M → Type 0
  Looked w m a v a' v' =
      ((m < horizon M w) × (a ≡ Too_old (horizon M w)) × (v ≡ w))
      ⊎ (((horizon M w ≤ m) × (m ≤ newest M w) × (a ≡ a') × (v ≡ v'))
      ⊎ ((newest M w < m) × (a ≡ Future (newest M w)) × (v ≡ w)))

  abbrev Is_pair : Answer M → World M → Answer M × World M → Type 0
  Is_pair a v p = (a ≡ p.0) × (v ≡ p.1)

  -- what a begin is answered, in the order of its checks
  abbrev begin_said : World M → ℕ → Request → Option Refusal → Option (Open M) → Option Refusal → Answer M × World M
  begin_said w t q (Some e) l n = (Rejected e, w)
  begin_said w t q None (Some o) n = (Already_open, w)
  begin_said w t q None None (Some e) = (Rejected e, w)
  begin_said w t q None None None = (Begun, put_active M t (Some (open_at_begin M w t q)) w)

  abbrev outcome_said : Outcome Found Refusal → Answer M
  outcome_said (Here f) = Replied f
  outcome_said (Missing e) = Rejected e

  abbrev Said : World M → Step M → Answer M → World M → Type 0
  Said w (Begin t q) a v =
      Is_pair a v (begin_said w t q (rejection q (tables M w)) (w.active t) (number_rejection (number M w t)))
  Said w (Advance t) a v = ((o : Open M) × (w.active t ≡ Some o) × Turn w t o a v)
      ⊎ ((w.active t ≡ None) × (a ≡ Not_open) × (v ≡ w))
  Said w (Save t) a v = OfOpen w t a v Saved
      (λ o. put_active M t (Some (record o { mark = o.now; mark_lengths = o.lengths })) w)
  Said w (Back t) a v = OfOpen w t a v Gone_back
      (λ o. put_active M t (Some (record o { now = o.mark; lengths = o.mark_lengths })) w)
  Said w (Rollback t) a v = OfOpen w t a v Rolled_back (λ o. put_active M t None w)
  Said w (Read m q) a v = ((e : Refusal) × (query_rejection q (tables M w) ≡ Some e) × (a ≡ Rejected e) × (v ≡ w))
      ⊎ ((query_rejection q (tables M w) ≡ None) × Looked w m a v (outcome_said (find q (at M w m))) w)
  Said w (Audit m c) a v = Looked w m a v (Audited (verdict c (at M w m))) w
  Said w (Purge m) a v = Looked w m a v (Purged m) (after_purge M w m)
  Said w (Rewind m) a v = (IsQuiet M w × Looked w m a v (Rewound m) (after_rewind M w m))
      ⊎ ((n : ℕ) × (count_open M w.active terminal_limit ≡ suc n) × (a ≡ Not_quiet (suc n)) × (v ≡ w))

  not_open_said : (w : World M) (t : ℕ) → w.active t ≡ None → (i : Step M) → works_on M i ≡ Some t → Said w i Not_open w
  not_open_said w t e (Begin u q) h = cc
  not_open_said w t e (Advance u) h = inr (subst (λ z. w.active z ≡ None) (sym (some_inj u t h)) e, refl, refl)
  not_open_said w t e (Save u) h = inr (subst (λ z. w.active z ≡ None) (sym (some_inj u t h)) e, refl, refl)
  not_open_said w t e (Back u) h = inr (subst (λ z. w.active z ≡ None) (sym (some_inj u t h)) e, refl, refl)
  not_open_said w t e (Rollback u) h = inr (subst (λ z. w.active z ≡ None) (sym (some_inj u t h)) e, refl, refl)
  not_open_said w t e (Read m q) h = cc
  not_open_said w t e (Audit m c) h = cc
  not_open_said w t e (Purge m) h = cc
  not_open_said w t e (Rewind m) h = cc

  too_old_said : (w : World M) (m : ℕ) → m < horizon M w → (i : Step M) → moment M i ≡ Some m → IsPast M w i
      → Said w i (Too_old (horizon M w)) w
  too_old_said w m l (Begin u q) h p = cc
  too_old_said w m l (Advance u) h p = cc
  too_old_said w m l (Save u) h p = cc
  too_old_said w m l (Back u) h p = cc
  too_old_said w m l (Rollback u) h p = cc
  too_old_said w m l (Read k q) h p = let e : k ≡ m = some_inj k m h in inr (p, inl (omega (arith, l, e), refl, refl))
  too_old_said w m l (Audit k c) h p = let e : k ≡ m = some_inj k m h in inl (omega (arith, l, e), refl, refl)
  too_old_said w m l (Purge k) h p = let e : k ≡ m = some_inj k m h in inl (omega (arith, l, e), refl, refl)
  too_old_said w m l (Rewind k) h p = let e : k ≡ m = some_inj k m h in inl (p, inl (omega (arith, l, e), refl, refl))

  future_said : (w : World M) (m : ℕ) → newest M w < m → (i : Step M) → moment M i ≡ Some m → IsPast M w i
      → Said w i (Future (newest M w)) w
  future_said w m l (Begin u q) h p = cc
  future_said w m l (Advance u) h p = cc
  future_said w m l (Save u) h p = cc
  future_said w m l (Back u) h p = cc
  future_said w m l (Rollback u) h p = cc
  future_said w m l (Read k q) h p = let e : k ≡ m = some_inj k m h in
      inr (p, inr (inr (omega (arith, l, e), refl, refl)))
  future_said w m l (Audit k c) h p = let e : k ≡ m = some_inj k m h in inr (inr (omega (arith, l, e), refl, refl))
  future_said w m l (Purge k) h p = let e : k ≡ m = some_inj k m h in inr (inr (omega (arith, l, e), refl, refl))
  future_said w m l (Rewind k) h p = let e : k ≡ m = some_inj k m h in
      inl (p, inr (inr (omega (arith, l, e), refl, refl)))

  begin_by : (w : World M) (t : ℕ) (q : Request) (a : Answer M) (v : World M) (x : Option Refusal) (l : Option (Open M))
      (n : Option Refusal)
      → rejection q (tables M w) ≡ x → w.active t ≡ l → number_rejection (number M w t) ≡ n
      → Is_pair a v (begin_said w t q x l n) → Said w (Begin t q) a v
  begin_by w t q a v x l n e f g h =
      subst (λ z. Is_pair a v (begin_said w t q z (w.active t) (number_rejection (number M w t)))) (sym e)
      (subst (λ (z : Option (Open M)). Is_pair a v (begin_said w t q x z (number_rejection (number M w t)))) (sym f)
      (subst (λ z. Is_pair a v (begin_said w t q x l z)) (sym g) h))

  said : (w : World M) (i : Step M) (a : Answer M) (v : World M) → Next M w i a v → a ≢ No_memory → Said w i a v
  said w _ _ _ (begins t q b) x = begin_by w t q _ _ None None None b.known b.closed b.counted (refl, refl)
  said w _ _ _ (goes_on t o c p e g r room) x = inl (o, e, acted g (went c p r room refl refl))
  said w _ _ _ (commits t o y e g r) x = inl (o, e, acted g (was_ready y r refl refl))
  said w _ _ _ (saves t o e) x = inl (o, e, refl, refl)
  said w _ _ _ (goes_back t o e) x = inl (o, e, refl, refl)
  said w _ _ _ (rolls_back t o e) x = inl (o, e, refl, refl)
  said w _ _ _ (reads m q f n l h e) x = inr (n, inr (inl (l, h, ap outcome_said (sym e), refl)))
  said w _ _ _ (audits m c l h) x = inr (inl (l, h, refl, refl))
  said w _ _ _ (purges m l h) x = inr (inl (l, h, refl, refl))
  said w _ _ _ (rewinds m quiet l h) x = inl (quiet, inr (inl (l, h, refl, refl)))
  said w _ _ _ (stops t o y e r) x = inl (o, e, stopped y r refl refl)
  said w _ _ _ (fails t o y e g r) x = inl (o, e, acted g (failed y r refl refl))
  said w _ _ _ (is_busy t o n m u e r b) x = inl (o, e, waited n m u r b refl refl)
  said w _ _ _ (is_full t o c p e g r full) x = inl (o, e, acted g (was_full c p r full refl refl))
  said w _ _ _ (is_rejected t q y e) x = begin_by w t q _ _ (Some y) (w.active t) (number_rejection (number M w t)) e
      refl refl (refl, refl)
  said w _ _ _ (is_open t q o n e) x = begin_by w t q _ _ None (Some o) (number_rejection (number M w t)) n e refl
      (refl, refl)
  said w _ _ _ (number_is_rejected t q y n e f) x = begin_by w t q _ _ None None (Some y) n e f (refl, refl)
  said w _ _ _ (query_is_rejected m q y e) x = inl (y, e, refl, refl)
  said w _ _ _ (misses m q y n l h e) x = inr (n, inr (inl (l, h, ap outcome_said (sym e), refl)))
  said w _ _ _ (not_open i t h e) x = not_open_said w t e i h
  said w _ _ _ (too_old i m h p l) x = too_old_said w m l i h p
  said w _ _ _ (future i m h p l) x = future_said w m l i h p
  said w _ _ _ (not_quiet m n e) x = inr (n, e, refl, refl)
  said w _ _ _ (lacks_memory_at_begin t q b) x = absurd (x refl)
  said w _ _ _ (lacks_memory t o e h) x = absurd (x refl)

  Same : Answer M → World M → Answer M → World M → Type 0
  Same a v a' v' = (a ≡ a') × (v ≡ v')

  same_by : (a a' b : Answer M) (v v' u : World M) → a ≡ b → v ≡ u → a' ≡ b → v' ≡ u → Same a v a' v'
  unfolding Same
  same_by a a' b v v' u e f e' f' = (e ∙ sym e', f ∙ sym f')

  quiet_count : (active : ℕ → Option (Open M)) → ((t : ℕ) → active t ≡ None) → (n : ℕ) → count_open M active n ≡ 0
  quiet_count active q zero = refl
  quiet_count active q (suc n) = rw (q n, count_open) (quiet_count active q n)

  no_room : (w : World M) (o : Open M) (c : Change) → HasRoom M w o (Some c) → IsFull M w o c → ⊥
  no_room w o c (inl h) f = omega (arith, h, f.0)
  no_room w o c (inr h) f = omega (arith, h, f.1)

  same_done : (w : World M) (t : ℕ) (o : Open M) (a a' : Answer M) (v v' : World M) → Done w t o a v → Done w t o a' v'
      → Same a v a' v'
  same_done w t o a a' v v' (went c p r h e f) (went c' p' r' h' e' f') =
      let same : ◌≡◌ {A = Act Change Position Reply Refusal} (Go c p) (Go c' p') = sym r ∙ r' in
      let i : c ≡ c' = cc in
      let j : p ≡ p' = cc in
      let x = ask (tx_of M t o) o.now.position (tables M w) in
      same_by a a' More v v' _ e f e'
      (f' ∙ (ap (λ z. put_active M t (Some (open_after M w.layout o x z p' (tables M w))) w) (sym i)
      ∙ ap (λ z. put_active M t (Some (open_after M w.layout o x c z (tables M w))) w) (sym j)))
  same_done w t o a a' v v' (went c p r h e f) (was_full c' p' r' h' e' f') =
      let same : ◌≡◌ {A = Act Change Position Reply Refusal} (Go c p) (Go (Some c') p') = sym r ∙ r' in
      let i : c ≡ Some c' = cc in
      absurd (no_room w o c' (subst (HasRoom M w o) i h) h')
  same_done w t o a a' v v' (went c p r h e f) (was_ready y r' e' f') =
      let same : ◌≡◌ {A = Act Change Position Reply Refusal} (Go c p) (Ready y) = sym r ∙ r' in cc
  same_done w t o a a' v v' (went c p r h e f) (failed y r' e' f') =
      let same : ◌≡◌ {A = Act Change Position Reply Refusal} (Go c p) (Fail y) = sym r ∙ r' in cc
  same_done w t o a a' v v' (was_full c p r h e f) (went c' p' r' h' e' f') =
      let same : ◌≡◌ {A = Act Change Position Reply Refusal} (Go (Some c) p) (Go c' p') = sym r ∙ r' in
      let i : Some c ≡ c' = cc in
      absurd (no_room w o c (subst (HasRoom M w o) (sym i) h') h)
  same_done w t o a a' v v' (was_full c p r h e f) (was_full c' p' r' h' e' f') =
      same_by a a' Undo_full v v' w e f e' f'
  same_done w t o a a' v v' (was_full c p r h e f) (was_ready y r' e' f') =
      let same : ◌≡◌ {A = Act Change Position Reply Refusal} (Go (Some c) p) (Ready y) = sym r ∙ r' in cc
  same_done w t o a a' v v' (was_full c p r h e f) (failed y r' e' f') =
      let same : ◌≡◌ {A = Act Change Position Reply Refusal} (Go (Some c) p) (Fail y) = sym r ∙ r' in cc
  same_done w t o a a' v v' (was_ready y r e f) (went c p r' h' e' f') =
      let same : ◌≡◌ {A = Act Change Position Reply Refusal} (Ready y) (Go c p) = sym r ∙ r' in cc
  same_done w t o a a' v v' (was_ready y r e f) (was_full c p r' h' e' f') =
      let same : ◌≡◌ {A = Act Change Position Reply Refusal} (Ready y) (Go (Some c) p) = sym r ∙ r' in cc
  same_done w t o a a' v v' (was_ready y r e f) (was_ready y' r' e' f') =
      let same : ◌≡◌ {A = Act Change Position Reply Refusal} (Ready y) (Ready y') = sym r ∙ r' in
      let i : y' ≡ y = cc in
      same_by a a' _ v v' _ e f (e' ∙ ap (λ z. Committed (suc (newest M w)) z) i) (f' ∙ ap (after_commit M w t o) i)
  same_done w t o a a' v v' (was_ready y r e f) (failed y' r' e' f') =
      let same : ◌≡◌ {A = Act Change Position Reply Refusal} (Ready y) (Fail y') = sym r ∙ r' in cc
  same_done w t o a a' v v' (failed y r e f) (went c p r' h' e' f') =
      let same : ◌≡◌ {A = Act Change Position Reply Refusal} (Fail y) (Go c p) = sym r ∙ r' in cc
  same_done w t o a a' v v' (failed y r e f) (was_full c p r' h' e' f') =
      let same : ◌≡◌ {A = Act Change Position Reply Refusal} (Fail y) (Go (Some c) p) = sym r ∙ r' in cc
  same_done w t o a a' v v' (failed y r e f) (was_ready y' r' e' f') =
      let same : ◌≡◌ {A = Act Change Position Reply Refusal} (Fail y) (Ready y') = sym r ∙ r' in cc
  same_done w t o a a' v v' (failed y r e f) (failed y' r' e' f') =
      let same : ◌≡◌ {A = Act Change Position Reply Refusal} (Fail y) (Fail y') = sym r ∙ r' in
      let i : y' ≡ y = cc in
      same_by a a' _ v v' _ e f (e' ∙ ap Aborted i) f'

  not_both : (w : World M) (t : ℕ) (n : Name) (m : Mode) (u : ℕ) → IsInTheWay M w t n m u → IsGranted M w t (Take n m)
      → ⊥
  not_both w t n m u b g = false≢true (sym b.conflicts ∙ g u b.who b.other b.is_open)

  least_one : (w : World M) (t : ℕ) (n : Name) (m : Mode) (u u' : ℕ) → IsInTheWay M w t n m u → IsInTheWay M w t n m u'
      → u' ≡ u
  least_one w t n m u u' b b' = go (cases_order u' u)
    where
      go : (u' ≡ u) ⊎ ((u' < u) ⊎ (u < u')) → u' ≡ u
      go (inl e) = e
      go (inr (inl l)) = absurd (false≢true (sym b'.conflicts ∙ b.least u' b'.who l b'.other b'.is_open))
      go (inr (inr l)) = absurd (false≢true (sym b.conflicts ∙ b'.least u b.who l b.other b.is_open))

  same_turn : (w : World M) (t : ℕ) (o : Open M) (a a' : Answer M) (v v' : World M) → Turn w t o a v → Turn w t o a' v'
      → Same a v a' v'
  same_turn w t o a a' v v' (stopped y r e f) (stopped y' r' e' f') =
      let same : ◌≡◌ {A = Ask Name Refusal} (Stop y) (Stop y') = sym r ∙ r' in
      let i : y' ≡ y = cc in
      same_by a a' _ v v' _ e f (e' ∙ ap Aborted i) f'
  same_turn w t o a a' v v' (stopped y r e f) (waited n m u r' b e' f') =
      let same : ◌≡◌ {A = Ask Name Refusal} (Stop y) (Take n m) = sym r ∙ r' in cc
  same_turn w t o a a' v v' (stopped y r e f) (acted g d) = absurd (subst (IsGranted M w t) r g)
  same_turn w t o a a' v v' (waited n m u r b e f) (stopped y r' e' f') =
      let same : ◌≡◌ {A = Ask Name Refusal} (Take n m) (Stop y) = sym r ∙ r' in cc
  same_turn w t o a a' v v' (waited n m u r b e f) (waited n' m' u' r' b' e' f') =
      let same : ◌≡◌ {A = Ask Name Refusal} (Take n m) (Take n' m') = sym r ∙ r' in
      let i : n' ≡ n = cc in
      let j : m' ≡ m = cc in
      let k : u' ≡ u = least_one w t n m u u' b
      (subst (λ z. IsInTheWay M w t n z u') j (subst (λ z. IsInTheWay M w t z m' u') i b')) in
      same_by a a' _ v v' _ e f (e' ∙ (ap (λ z. Busy z u') i ∙ ap (λ z. Busy n z) k)) f'
  same_turn w t o a a' v v' (waited n m u r b e f) (acted g d) = absurd
      (not_both w t n m u b (subst (IsGranted M w t) r g))
  same_turn w t o a a' v v' (acted g d) (stopped y r e f) = absurd (subst (IsGranted M w t) r g)
  same_turn w t o a a' v v' (acted g d) (waited n m u r b e f) = absurd
      (not_both w t n m u b (subst (IsGranted M w t) r g))
  same_turn w t o a a' v v' (acted g d) (acted g' d') = same_done w t o a a' v v' d d'

  same_open : (w : World M) (t : ℕ) (a a' b : Answer M) (v v' : World M) (f : Open M → World M) → OfOpen w t a v b f
      → OfOpen w t a' v' b f → Same a v a' v'
  same_open w t a a' b v v' f (inl h) (inl k) = same_by a a' b v v' _ h.2 h.3 k.2
      (k.3 ∙ ap f (some_inj k.0 h.0 (sym k.1 ∙ h.1)))
  same_open w t a a' b v v' f (inl h) (inr k) = absurd (some_none h.0 (sym h.1 ∙ k.0))
  same_open w t a a' b v v' f (inr h) (inl k) = absurd (some_none k.0 (sym k.1 ∙ h.0))
  same_open w t a a' b v v' f (inr h) (inr k) = same_by a a' Not_open v v' w h.1 h.2 k.1 k.2

  same_looked : (w : World M) (m : ℕ) (a a' b : Answer M) (v v' u : World M) → Looked w m a v b u → Looked w m a' v' b u
      → Same a v a' v'
  same_looked w m a a' b v v' u (inl h) (inl k) = same_by a a' _ v v' w h.1 h.2 k.1 k.2
  same_looked w m a a' b v v' u (inl h) (inr (inl k)) = absurd (omega (arith, h.0, k.0))
  same_looked w m a a' b v v' u (inl h) (inr (inr k)) = absurd (omega (arith, h.0, k.0))
  same_looked w m a a' b v v' u (inr (inl h)) (inl k) = absurd (omega (arith, h.0, k.0))
  same_looked w m a a' b v v' u (inr (inl h)) (inr (inl k)) = same_by a a' b v v' u h.2 h.3 k.2 k.3
  same_looked w m a a' b v v' u (inr (inl h)) (inr (inr k)) = absurd (omega (arith, h.1, k.0))
  same_looked w m a a' b v v' u (inr (inr h)) (inl k) = absurd (omega (arith, h.0, k.0))
  same_looked w m a a' b v v' u (inr (inr h)) (inr (inl k)) = absurd (omega (arith, h.0, k.1))
  same_looked w m a a' b v v' u (inr (inr h)) (inr (inr k)) = same_by a a' _ v v' w h.1 h.2 k.1 k.2

  same_said : (w : World M) (i : Step M) (a a' : Answer M) (v v' : World M) → Said w i a v → Said w i a' v'
      → Same a v a' v'
  same_said w (Begin t q) a a' v v' h k = same_by a a' _ v v' _ h.0 h.1 k.0 k.1
  same_said w (Advance t) a a' v v' (inl h) (inl k) = same_turn w t h.0 a a' v v' h.2
      (subst (λ (z : Open M). Turn w t z a' v') (some_inj k.0 h.0 (sym k.1 ∙ h.1)) k.2)
  same_said w (Advance t) a a' v v' (inl h) (inr k) = absurd (some_none h.0 (sym h.1 ∙ k.0))
  same_said w (Advance t) a a' v v' (inr h) (inl k) = absurd (some_none k.0 (sym k.1 ∙ h.0))
  same_said w (Advance t) a a' v v' (inr h) (inr k) = same_by a a' Not_open v v' w h.1 h.2 k.1 k.2
  same_said w (Save t) a a' v v' h k = same_open w t a a' Saved v v' _ h k
  same_said w (Back t) a a' v v' h k = same_open w t a a' Gone_back v v' _ h k
  same_said w (Rollback t) a a' v v' h k = same_open w t a a' Rolled_back v v' _ h k
  same_said w (Read m q) a a' v v' (inl h) (inl k) =
      let e : k.0 ≡ h.0 = some_inj k.0 h.0 (sym k.1 ∙ h.1) in
      same_by a a' _ v v' w h.2 h.3 (k.2 ∙ ap Rejected e) k.3
  same_said w (Read m q) a a' v v' (inl h) (inr k) = absurd (some_none h.0 (sym h.1 ∙ k.0))
  same_said w (Read m q) a a' v v' (inr h) (inl k) = absurd (some_none k.0 (sym k.1 ∙ h.0))
  same_said w (Read m q) a a' v v' (inr h) (inr k) = same_looked w m a a' _ v v' _ h.1 k.1
  same_said w (Audit m c) a a' v v' h k = same_looked w m a a' _ v v' _ h k
  same_said w (Purge m) a a' v v' h k = same_looked w m a a' _ v v' _ h k
  same_said w (Rewind m) a a' v v' (inl h) (inl k) = same_looked w m a a' _ v v' _ h.1 k.1
  same_said w (Rewind m) a a' v v' (inl h) (inr k) =
      absurd (omega (arith, quiet_count w.active h.0 terminal_limit, k.1))
  same_said w (Rewind m) a a' v v' (inr h) (inl k) =
      absurd (omega (arith, quiet_count w.active k.0 terminal_limit, h.1))
  same_said w (Rewind m) a a' v v' (inr h) (inr k) =
      let e : suc k.0 ≡ suc h.0 = sym k.1 ∙ h.1 in
      same_by a a' _ v v' w h.2 h.3 (k.2 ∙ ap Not_quiet e) k.3

  pub determined : (w : World M) (i : Step M) (a a' : Answer M) (v v' : World M) → Next M w i a v → Next M w i a' v'
      → a ≢ No_memory → a' ≢ No_memory → (a ≡ a') × (v ≡ v')
  unfolding Same
  determined w i a a' v v' n n' x x' = same_said w i a a' v v' (said w i a v n x) (said w i a' v' n' x')

  -- and so does a script
  pub determined_runs : (w v v' : World M) (is : List (Step M)) (ys ys' : List (Answer M)) → Runs M w is ys v
      → Runs M w is ys' v'
      → IsWithout M No_memory ys → IsWithout M No_memory ys' → (ys ≡ ys') × (v ≡ v')
  determined_runs w v v' [] [] [] r r' n n' = (refl, sym r ∙ r')
  determined_runs w v v' [] [] (y ∷ ys) r r' n n' = absurd r'
  determined_runs w v v' [] (y ∷ ys) ys' r r' n n' = absurd r
  determined_runs w v v' (i ∷ is) [] ys' r r' n n' = absurd r
  determined_runs w v v' (i ∷ is) (y ∷ ys) [] r r' n n' = absurd r'
  determined_runs w v v' (i ∷ is) (y ∷ ys) (y' ∷ ys') r r' n n' =
      let h = determined w i y y' r.0 r'.0 r.1 r'.1 n.0 n'.0 in
      let k = determined_runs r'.0 v v' is ys ys' (subst (λ (z : World M). Runs M z is ys v) h.1 r.2) r'.2 n.1 n'.1 in
      (ap (λ z. z ∷ ys) h.0 ∙ ap (λ z. y' ∷ z) k.0, k.1)
