-- Each step keeps the rule of the queue.
use Rattle.std.proofs.Common.{◌≡◌, ◌≢◌, ◌⊎◌, ℕ, zero, suc, ◌+◌, ◌≤◌, ◌==◌, Bool, true, false, cond, List, [], ◌∷◌}
use Rattle.std.proofs.Common.{◌++◌, length, set, sym, refl, ap, ◌∙◌, subst, ⊎_elim, inl, inr, arith, append_assoc}
use Rattle.std.proofs.lemmas.Bool.Decides.{nat_tests}
use Rattle.std.specs.Prelude.{slice_set}
use mathlib.Core.Option.{some, some-ne-none, some-injective}
use lib.ListN.{get_elem?}
use Rattle.atomic_table.specs.Seated.{TableId}
use Rattle.atomic_table.specs.declared.badge.Badge.{Badge}
use Rattle.atomic_table.proofs.Lists.{at_set}
use Rattle.crossbeam_channel.specs.declared.flavors.array.Key.{Key}
use Rattle.crossbeam_channel.specs.Fifo.{Pushes, Pops, Forks, Merges, Learns}
use Rattle.oe_queue.specs.declared.messages.Message.{Message}
use Rattle.oe_queue.specs.declared.rules.Submitted.{Submitted}
use Rattle.oe_queue.specs.declared.rules.Taken.{Taken}
use Rattle.oe_queue.specs.declared.rules.Knowledge.{Knowledge}
use Rattle.oe_queue.specs.declared.rules.Knowledge.TheVariants.{Gone, Sending, Taking}
use Rattle.oe_queue.specs.Ends.{TheSender, sent_in, hand_of}
use Rattle.oe_queue.specs.Order.{IsBeginning, sender_of, messages_of}
use Rattle.oe_queue.specs.Rule.{IsAmong, IsTaker, IsSound, IsInOrder, Agree, Kept, nothing_taken, after_submit}
use Rattle.oe_queue.specs.Rule.{after_take}
use Rattle.oe_queue.specs.Rule.{Submits, Takes, one_more, new_sender, with_next, next_sender, after_report}
use Rattle.oe_queue.specs.Rule.{knowledge_after, Tells}

-- MESSAGES OF ONE TERMINAL

cond_cons : (b : Bool) (x : Message) (l ys : List Message) → cond b (x ∷ (l ++ ys)) (l ++ ys) ≡ cond b (x ∷ l) l ++ ys
cond_cons true x l ys = refl
cond_cons false x l ys = refl

messages_of-append : (t : ℕ) (xs ys : List Message) → messages_of t (xs ++ ys) ≡ messages_of t xs ++ messages_of t ys
messages_of-append t [] ys = refl
messages_of-append t (x ∷ xs) ys = ap (λ (l : List Message). cond (sender_of x == t) (x ∷ l) l)
    (messages_of-append t xs ys) ∙ cond_cons (sender_of x == t) x (messages_of t xs) (messages_of t ys)

append_nil : (l : List Message) → l ++ [] ≡ l
append_nil [] = refl
append_nil (y ∷ l) = ap (λ (m : List Message). y ∷ m) (append_nil l)

of_own : (t : ℕ) (x : Message) → sender_of x ≡ t → messages_of t (x ∷ []) ≡ x ∷ []
of_own t x e = grind (arith, nat_tests)

of_other : (t : ℕ) (x : Message) → sender_of x ≢ t → messages_of t (x ∷ []) ≡ []
of_other t x e = grind (arith, nat_tests)

-- one more message behind
of_more : (t : ℕ) (got queued : List Message) (x : Message)
    → messages_of t (got ++ (queued ++ x ∷ [])) ≡ messages_of t (got ++ queued) ++ messages_of t (x ∷ [])
of_more t got queued x = ap (messages_of t) (sym (append_assoc got queued (x ∷ [])))
    ∙ messages_of-append t (got ++ queued) (x ∷ [])

-- one more of another terminal
of_more_others : (t : ℕ) (got queued sent : List Message) (x : Message) → sender_of x ≢ t
    → messages_of t (got ++ queued) ≡ sent → messages_of t (got ++ (queued ++ x ∷ [])) ≡ sent
of_more_others t got queued sent x other e = of_more t got queued x
    ∙ (ap (λ (l : List Message). messages_of t (got ++ queued) ++ l) (of_other t x other) ∙ (append_nil _ ∙ e))

-- one more of this terminal
of_more_own : (t : ℕ) (got queued sent : List Message) (x : Message) → sender_of x ≡ t
    → messages_of t (got ++ queued) ≡ sent → messages_of t (got ++ (queued ++ x ∷ [])) ≡ sent ++ x ∷ []
of_more_own t got queued sent x own e = of_more t got queued x
    ∙ (ap (λ (l : List Message). l ++ messages_of t (x ∷ [])) e ∙ ap (λ (l : List Message). sent ++ l) (of_own t x own))

-- one message taken
moved : (got queued : List Message) (x : Message) → (got ++ x ∷ []) ++ queued ≡ got ++ (x ∷ queued)
moved got queued x = append_assoc got (x ∷ []) queued

-- ONE VIEW OF MANY

-- the pass id goes from v to w: it is enough to look at one other
kept_step : (queued queued' : List Message) (views : List Knowledge) (id : ℕ) (v w : Knowledge) → Kept queued views
    → get_elem? views id ≡ some v → IsSound queued' w
    → ((u : Knowledge) → IsSound queued u → Agree queued v u → Agree queued u v
    → IsSound queued' u × Agree queued' w u × Agree queued' u w)
    → ((a b : Knowledge) → Agree queued v a → Agree queued v b → Agree queued a v → Agree queued b v → Agree queued a b
    → Agree queued' a b)
    → Kept queued' (slice_set views id w)
kept_step queued queued' views id v w k at mine others between =
    let other : (j : ℕ) (u : Knowledge) → j ≢ id → get_elem? views j ≡ some u
    → IsSound queued' u × Agree queued' w u × Agree queued' u w = λ j u ne e. others u (k.each j u e)
    (k.pairs id j v u at e (λ q. ne (sym q))) (k.pairs j id u v e at ne) in
    record {
      each = λ j u e. ⊎_elim (λ (t : (j ≡ id) × (w ≡ u)). subst (IsSound queued') t.1 mine)
          (λ (t : (j ≢ id) × (get_elem? views j ≡ some u)). (other j u t.0 t.1).0) (at_set views id j w u e);
      pairs = λ i j a b ea eb ne. ⊎_elim
          (λ (t : (i ≡ id) × (w ≡ a)). ⊎_elim
          (λ (r : (j ≡ id) × (w ≡ b)). absurd (ne (t.0 ∙ sym r.0)))
          (λ (r : (j ≢ id) × (get_elem? views j ≡ some b)). subst (λ (x : Knowledge). Agree queued' x b) t.1
          (other j b r.0 r.1).1)
          (at_set views id j w b eb))
          (λ (t : (i ≢ id) × (get_elem? views i ≡ some a)). ⊎_elim
          (λ (r : (j ≡ id) × (w ≡ b)). subst (Agree queued' a) r.1 (other i a t.0 t.1).2)
          (λ (r : (j ≢ id) × (get_elem? views j ≡ some b)).
          between a b (k.pairs id i v a at t.1 (λ q. t.0 (sym q))) (k.pairs id j v b at r.1 (λ q. r.0 (sym q)))
          (k.pairs i id a v t.1 at t.0) (k.pairs j id b v r.1 at r.0) (k.pairs i j a b t.1 r.1 ne))
          (at_set views id j w b eb))
          (at_set views id i w a ea);
    }

submitted_or : Submitted → Knowledge → Submitted
submitted_or d (Sending s) = s
submitted_or d Gone = d
submitted_or d (Taking t) = d

taken_or : Taken → Knowledge → Taken
taken_or d (Taking t) = t
taken_or d Gone = d
taken_or d (Sending s) = d

for_sender : (v : Knowledge) (p : Submitted) → v ≡ Sending p → (Q : Submitted → Type 0) → Q p → (q : Submitted)
    → v ≡ Sending q → Q q
unfolding submitted_or
for_sender v p is Q x q is' = subst Q (ap (submitted_or p) (sym is ∙ is')) x

for_taker : (v : Knowledge) (p : Taken) → v ≡ Taking p → (Q : Taken → Type 0) → Q p → (q : Taken) → v ≡ Taking q → Q q
unfolding taken_or
for_taker v p is Q x q is' = subst Q (ap (taken_or p) (sym is ∙ is')) x

-- a sender submits a message of its own
pub pushes : (n pass : ℕ) (v : Knowledge) (s : Submitted) (x : Message) → v ≡ Sending s → sender_of x ≡ s.terminal
    → Pushes Kept n pass v x (Submits v x)
pushes n pass v s x is own queued views room k at' =
    let at : get_elem? views pass ≡ some (Sending s) = at' ∙ ap some is in
    let w : Knowledge = Sending (after_submit s x) in (
      w,
      kept_step queued (queued ++ x ∷ []) views pass (Sending s) w k at tt others between,
      for_sender v s is (λ (q : Submitted). w ≡ Sending (after_submit q x)) refl,
    )
  where
    taker : (t : Taken) → IsTaker queued t → IsInOrder queued t s → IsTaker (queued ++ x ∷ []) t
    taker t f b = record {
      unmade = λ d le. of_more_others d t.messages queued [] x (λ e. let made = b.made in omega arith) (f.unmade d le);
      told = λ gone on. (
        (f.told gone on).0,
        of_more_others gone.terminal t.messages queued gone.messages x
            (λ e. b.here gone on (sym own ∙ e)) (f.told gone on).1,
      );
    }

    others : (u : Knowledge) → IsSound queued u → Agree queued (Sending s) u → Agree queued u (Sending s)
        → IsSound (queued ++ x ∷ []) u × Agree (queued ++ x ∷ []) (Sending (after_submit s x)) u
        × Agree (queued ++ x ∷ []) u (Sending (after_submit s x))
    others Gone f a b = (tt, tt, tt)
    others (Sending q) f a b = (tt, a, b)
    others (Taking t) f a b = (
      taker t f b,
      tt,
      record {
        made = b.made;
        whole = of_more_own s.terminal t.messages queued s.messages x own b.whole;
        here = b.here;
      },
    )

    between : (a b : Knowledge) → Agree queued (Sending s) a → Agree queued (Sending s) b → Agree queued a (Sending s)
        → Agree queued b (Sending s) → Agree queued a b → Agree (queued ++ x ∷ []) a b
    between (Taking t) (Sending q) sa sb ra rb p =
        record {
          made = p.made;
          whole = of_more_others q.terminal t.messages queued q.messages x (λ e. sb (sym own ∙ e))
              p.whole;
          here = p.here;
        }
    between (Taking t) (Taking u) sa sb ra rb p = p
    between (Taking t) Gone sa sb ra rb p = tt
    between (Sending q) (Sending r) sa sb ra rb p = p
    between (Sending q) (Taking t) sa sb ra rb p = tt
    between (Sending q) Gone sa sb ra rb p = tt
    between Gone b sa sb ra rb p = tt

-- the taker takes the oldest message
pub pops : (pass : ℕ) (v : Knowledge) (t : Taken) → v ≡ Taking t → Pops Kept pass v (Takes v)
pops pass v t is x queued views k at' =
    let at : get_elem? views pass ≡ some (Taking t) = at' ∙ ap some is in
    let w : Knowledge = Taking (after_take t x) in (
      w,
      kept_step (x ∷ queued) queued views pass (Taking t) w k at (mine (k.each pass (Taking t) at)) others between,
      for_taker v t is (λ (q : Taken). w ≡ Taking (after_take q x)) refl,
    )
  where
    mine : IsTaker (x ∷ queued) t → IsTaker queued (after_take t x)
    mine f = record {
      unmade = λ d le. ap (messages_of d) (moved t.messages queued x) ∙ f.unmade d le;
      told = λ gone on. (
        (f.told gone on).0,
        ap (messages_of gone.terminal) (moved t.messages queued x)
            ∙ (f.told gone on).1,
      );
    }

    others : (u : Knowledge) → IsSound (x ∷ queued) u → Agree (x ∷ queued) (Taking t) u
        → Agree (x ∷ queued) u (Taking t) → IsSound queued u × Agree queued (Taking (after_take t x)) u
        × Agree queued u (Taking (after_take t x))
    others Gone f a b = (tt, tt, tt)
    others (Sending q) f a b = (
      tt,
      record {
        made = a.made;
        whole = ap (messages_of q.terminal) (moved t.messages queued x) ∙ a.whole;
        here = a.here;
      },
      tt,
    )
    others (Taking u) f a b = absurd a

    between : (a b : Knowledge) → Agree (x ∷ queued) (Taking t) a → Agree (x ∷ queued) (Taking t) b
        → Agree (x ∷ queued) a (Taking t) → Agree (x ∷ queued) b (Taking t) → Agree (x ∷ queued) a b → Agree queued a b
    between (Taking u) b sa sb ra rb p = absurd sa
    between (Sending q) (Sending r) sa sb ra rb p = p
    between (Sending q) (Taking u) sa sb ra rb p = tt
    between (Sending q) Gone sa sb ra rb p = tt
    between Gone b sa sb ra rb p = tt

-- a new queue
one_view : (v : Knowledge) (i : ℕ) (w : Knowledge) → get_elem? (v ∷ []) i ≡ some w → (i ≡ 0) × (v ≡ w)
one_view v zero w e = (refl, some-injective v w e)
one_view v (suc i) w e = absurd (some-ne-none w (sym e))

pub begins : Kept [] (Taking nothing_taken ∷ [])
begins = record {
  each = λ i v e. subst (IsSound []) (one_view (Taking nothing_taken) i v e).1
      (record { unmade = λ d _. refl; told = λ s on. absurd on });
  pairs = λ i j v w ei ej ne. absurd
      (ne ((one_view (Taking nothing_taken) i v ei).0 ∙ sym (one_view (Taking nothing_taken) j w ej).0));
}

-- what the taker learns of senders that are gone
pub tells : (pass : ℕ) (v : Knowledge) → Learns Kept pass v (Tells v)
tells pass v queued views k at t is s on = ((subst (IsSound queued) is (k.each pass v at)).told s on).1

at_push : (l : List Knowledge) (a b : Knowledge) (j : ℕ) → get_elem? (l ++ a ∷ []) j ≡ some b
    → (get_elem? l j ≡ some b) ⊎ ((j ≡ length l) × (a ≡ b))
at_push [] a b zero e = inr (refl, some-injective a b e)
at_push [] a b (suc j) e = absurd (some-ne-none b (sym e))
at_push (x ∷ xs) a b zero e = inl e
at_push (x ∷ xs) a b (suc j) e = ⊎_elim (λ h. inl h) (λ (t : (j ≡ length xs) × (a ≡ b)). inr (ap suc t.0, t.1))
    (at_push xs a b j e)

kept_push : (queued : List Message) (views : List Knowledge) (w : Knowledge) → Kept queued views → IsSound queued w
    → ((j : ℕ) (u : Knowledge) → get_elem? views j ≡ some u → Agree queued w u × Agree queued u w)
    → Kept queued (views ++ w ∷ [])
kept_push queued views w k mine others = record {
  each = λ j u e. ⊎_elim (λ was. k.each j u was) (λ (t : (j ≡ length views) × (w ≡ u)). subst (IsSound queued) t.1 mine)
      (at_push views w u j e);
  pairs = λ i j a b ea eb ne. ⊎_elim
      (λ (was : get_elem? views i ≡ some a). ⊎_elim
      (λ (is : get_elem? views j ≡ some b). k.pairs i j a b was is ne)
      (λ (t : (j ≡ length views) × (w ≡ b)). subst (Agree queued a) t.1 (others i a was).1)
      (at_push views w b j eb))
      (λ (t : (i ≡ length views) × (w ≡ a)). ⊎_elim
      (λ (is : get_elem? views j ≡ some b). subst (λ (x : Knowledge). Agree queued x b) t.1 (others j b is).0)
      (λ (r : (j ≡ length views) × (w ≡ b)). absurd (ne (t.0 ∙ sym r.0)))
      (at_push views w b j eb))
      (at_push views w a i ea);
}

-- the taker makes a sender
pub forks : (pass : ℕ) (v : Knowledge) (t : Taken) → v ≡ Taking t → Forks Kept pass v (with_next v) (next_sender v)
forks pass v t is = subst (λ (x : Knowledge). Forks Kept pass x (with_next x) (next_sender x)) (sym is)
    (λ queued views k at.
    let f : IsTaker queued t = k.each pass (Taking t) at in
    let half : Kept queued (slice_set views pass (Taking (one_more t))) =
    kept_step queued queued views pass (Taking t) (Taking (one_more t)) k at (mine queued f) (others queued)
    (λ a b sa sb ra rb p. p) in
    kept_push queued (slice_set views pass (Taking (one_more t))) (Sending (new_sender (t.senders + 1))) half tt
    (λ j u e. ⊎_elim
    (λ (r : (j ≡ pass) × (Taking (one_more t) ≡ u)). subst
    (λ (x : Knowledge). Agree queued (Sending (new_sender (t.senders + 1))) x
    × Agree queued x (Sending (new_sender (t.senders + 1)))) r.1 (tt, newest queued f))
    (λ (r : (j ≢ pass) × (get_elem? views j ≡ some u)). news queued u
    (k.pairs pass j (Taking t) u at r.1 (λ q. r.0 (sym q))))
    (at_set views pass j (Taking (one_more t)) u e)))
  where
    mine : (queued : List Message) → IsTaker queued t → IsTaker queued (one_more t)
    mine queued f = record {
      unmade = λ d le. f.unmade d (omega arith);
      told = λ gone on. ((let made = (f.told gone on).0 in omega arith), (f.told gone on).1);
    }

    newest : (queued : List Message) → IsTaker queued t → IsInOrder queued (one_more t) (new_sender (t.senders + 1))
    newest queued f = record {
      made = omega arith;
      whole = f.unmade (t.senders + 1) (omega arith);
      here = λ gone on e. let made = (f.told gone on).0 in omega arith;
    }

    others : (queued : List Message) (u : Knowledge) → IsSound queued u → Agree queued (Taking t) u
        → Agree queued u (Taking t) → IsSound queued u × Agree queued (Taking (one_more t)) u
        × Agree queued u (Taking (one_more t))
    others queued Gone f a b = (tt, tt, tt)
    others queued (Sending q) f a b =
        (tt, record { made = (let made = a.made in omega arith); whole = a.whole; here = a.here }, tt)
    others queued (Taking u) f a b = absurd a

    news : (queued : List Message) (u : Knowledge) → Agree queued (Taking t) u
        → Agree queued (Sending (new_sender (t.senders + 1))) u × Agree queued u (Sending (new_sender (t.senders + 1)))
    news queued Gone a = (tt, tt)
    news queued (Sending q) a = let made = a.made in ((λ e. omega arith), (λ e. omega arith))
    news queued (Taking u) a = absurd a

agree_gone : (queued : List Message) (v : Knowledge) → Agree queued v Gone
agree_gone queued Gone = tt
agree_gone queued (Sending s) = tt
agree_gone queued (Taking t) = tt

merges_at : (pass : ℕ) (t : Taken) (other : ℕ) (s : Submitted)
    → Merges Kept pass (Taking t) other (Sending s) (Taking (after_report t s)) Gone
merges_at pass t other s queued views k at apart there =
    let both : Knowledge = Taking (after_report t s) in
    let was : get_elem? views other ≡ some (Sending s) =
    ⊎_elim (λ (r : (other ≡ pass) × (both ≡ Sending s)). absurd (apart r.0))
    (λ (r : (other ≢ pass) × (get_elem? views other ≡ some (Sending s))). r.1)
    (at_set views pass other both (Sending s) there) in
    let own : IsInOrder queued t s = k.pairs pass other (Taking t) (Sending s) at was (λ e. apart (sym e)) in
    let f : IsTaker queued t = k.each pass (Taking t) at in
    let cases : (j : ℕ) (u : Knowledge) → get_elem? (set (set views pass both) other Gone) j ≡ some u
    → ((j ≡ other) × (Gone ≡ u)) ⊎ ((j ≡ pass) × (both ≡ u))
    ⊎ ((j ≢ other) × (j ≢ pass) × (get_elem? views j ≡ some u))
    = λ j u e. ⊎_elim (λ (r : (j ≡ other) × (Gone ≡ u)). inl r)
    (λ (r : (j ≢ other) × (get_elem? (set views pass both) j ≡ some u)). inr
    (⊎_elim (λ (q : (j ≡ pass) × (both ≡ u)). inl q)
    (λ (q : (j ≢ pass) × (get_elem? views j ≡ some u)). inr (r.0, q.0, q.1)) (at_set views pass j both u r.1)))
    (at_set (set views pass both) other j Gone u e) in
    let olds : (j : ℕ) (u : Knowledge) → j ≢ other → j ≢ pass → get_elem? views j ≡ some u
    → Agree queued both u × Agree queued u both
    = λ j u no np e. meets queued u (k.pairs pass j (Taking t) u at e (λ q. np (sym q)))
    (k.pairs j other u (Sending s) e was no) in
    record {
      each = λ j u e. ⊎_elim (λ (r : (j ≡ other) × (Gone ≡ u)). subst (IsSound queued) r.1 tt)
          (λ r. ⊎_elim (λ (q : (j ≡ pass) × (both ≡ u)). subst (IsSound queued) q.1 (hears queued f own))
          (λ (q : (j ≢ other) × (j ≢ pass) × (get_elem? views j ≡ some u)). k.each j u q.2) r)
          (cases j u e);
      pairs = λ i j a b ea eb ne. ⊎_elim
          (λ (r : (i ≡ other) × (Gone ≡ a)). subst (λ (x : Knowledge). Agree queued x b) r.1 tt)
          (λ r. ⊎_elim (λ (q : (j ≡ other) × (Gone ≡ b)). subst (Agree queued a) q.1 (agree_gone queued a))
          (λ q. ⊎_elim
          (λ (x : (i ≡ pass) × (both ≡ a)). ⊎_elim
          (λ (y : (j ≡ pass) × (both ≡ b)). absurd (ne (x.0 ∙ sym y.0)))
          (λ (y : (j ≢ other) × (j ≢ pass) × (get_elem? views j ≡ some b)). subst (λ (z : Knowledge). Agree queued z b)
          x.1 (olds j b y.0 y.1 y.2).0) q)
          (λ (x : (i ≢ other) × (i ≢ pass) × (get_elem? views i ≡ some a)). ⊎_elim
          (λ (y : (j ≡ pass) × (both ≡ b)). subst (Agree queued a) y.1 (olds i a x.0 x.1 x.2).1)
          (λ (y : (j ≢ other) × (j ≢ pass) × (get_elem? views j ≡ some b)). k.pairs i j a b x.2 y.2 ne) q)
          r)
          (cases j b eb))
          (cases i a ea);
    }
  where
    hears : (queued : List Message) → IsTaker queued t → IsInOrder queued t s → IsTaker queued (after_report t s)
    hears queued f own = record {
      unmade = f.unmade;
      told = λ gone on. ⊎_elim (λ (now : gone ≡ s). subst (λ (q : Submitted). (q.terminal ≤ t.senders)
          × (messages_of q.terminal (t.messages ++ queued) ≡ q.messages)) (sym now) (own.made, own.whole))
          (λ (was : IsAmong gone t.told). f.told gone was) on;
    }

    meets : (queued : List Message) (u : Knowledge) → Agree queued (Taking t) u → Agree queued u (Sending s)
        → Agree queued (Taking (after_report t s)) u × Agree queued u (Taking (after_report t s))
    meets queued Gone a b = (tt, tt)
    meets queued (Sending q) a b = (
      record {
        made = a.made;
        whole = a.whole;
        here = λ gone on. ⊎_elim
            (λ (now : gone ≡ s). subst (λ (r : Submitted). q.terminal ≢ r.terminal) (sym now) b)
            (λ (was : IsAmong gone t.told). a.here gone was) on;
      },
      tt,
    )
    meets queued (Taking u) a b = absurd a

-- the taker is told what a sender knows, which is then gone
pub merges : (pass : ℕ) (v : Knowledge) (t : Taken) (other : ℕ) (w : Knowledge) (s : Submitted) → v ≡ Taking t
    → w ≡ Sending s → Merges Kept pass v other w (knowledge_after v w) Gone
merges pass v t other w s is is' = subst (λ (x : Knowledge). Merges Kept pass x other w (knowledge_after x w) Gone)
    (sym is)
    (subst (λ (y : Knowledge). Merges Kept pass (Taking t) other y (knowledge_after (Taking t) y) Gone) (sym is')
    (merges_at pass t other s))

-- WHAT THE ENDS SHOW

pub as_sending : (w : Knowledge) (s : Submitted) → w ≡ Sending s
    → w ≡ Sending (record { terminal = s.terminal; messages = sent_in w })
as_sending w s e = e ∙ ap (λ (l : List Message). Sending (record { terminal = s.terminal; messages = l }))
    (sym (ap sent_in e))

pub as_taking : (w : Knowledge) (t : Taken) → w ≡ Taking t → w ≡ Taking (hand_of w)
as_taking w t e = e ∙ ap Taking (sym (ap hand_of e))

-- what was taken is a beginning of what was submitted
pub begins_with : (v w u : Knowledge) (t : Taken) (s : Submitted) (queued : List Message) → v ≡ Taking t → w ≡ Sending s
    → u ≡ knowledge_after v w → Tells u queued → IsBeginning (messages_of s.terminal t.messages) s.messages
begins_with v w u t s queued is is' both tell =
    let at : u ≡ Taking (after_report t s) = both
    ∙ (ap (λ (x : Knowledge). knowledge_after x w) is ∙ ap (knowledge_after (Taking t)) is') in
    let whole = tell (after_report t s) at s (inl refl) in
    (messages_of s.terminal queued, sym (messages_of-append s.terminal t.messages queued) ∙ whole)

-- where nothing is queued, all that was told is taken
pub takes_all : (v : Knowledge) → v ≡ Taking (hand_of v) → (queued : List Message) → length queued ≡ 0
    → Tells v queued → (s : Submitted) → IsAmong s (hand_of v).told
    → messages_of s.terminal (hand_of v).messages ≡ s.messages
takes_all v is [] none tell s on = ap (messages_of s.terminal) (sym (append_nil (hand_of v).messages))
    ∙ tell (hand_of v) is s on
takes_all v is (x ∷ queued) none tell s on = let no : ⊥ = cc in absurd no

pub beginning_as : (k k' : ℕ) (l l' s s' : List Message) → IsBeginning (messages_of k l) s → k ≡ k' → l ≡ l' → s ≡ s'
    → IsBeginning (messages_of k' l') s'
beginning_as k k' l l' s s' h ek el es = (
  h.0,
  (ap (λ (m : List Message). m ++ h.0) (ap (messages_of k') (sym el) ∙ ap (λ (n : ℕ). messages_of n l) (sym ek))
      ∙ h.1) ∙ es,
)

-- a sender of the same queue that has submitted one message more
abbrev sender_at : TableId → Badge (Key Message) → ℕ → List Message → TheSender
sender_at table key terminal sent =
    record { queue = record { table = table; key = key }; terminal = terminal; sent = sent }

pub sent_more : (s : TheSender) (table table' : TableId) (key key' : Badge (Key Message)) (terminal : ℕ)
    (sent sent' : List Message) (m : Message)
    → sender_at table key terminal sent ≡ s → table' ≡ table → key' ≡ key → sent' ≡ sent ++ m ∷ []
    → sender_at table' key' terminal sent' ≡ record s { sent = s.sent ++ m ∷ [] }
sent_more s table table' key key' terminal sent sent' m is et ek es =
    (λ i. sender_at (et i) (ek i) terminal (es i)) ∙ ap (λ (r : TheSender). record r { sent = r.sent ++ m ∷ [] }) is
