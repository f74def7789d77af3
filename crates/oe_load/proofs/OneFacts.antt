-- From one state there is one script of each length.
use Rattle.std.proofs.Common.{◌≡◌, ℕ, suc, ◌+◌, ◌≤◌, ◌<◌, List, [], ◌∷◌, Option, None, Some, refl, sym, ap}
use Rattle.std.proofs.Common.{subst, ◌∙◌, arith, inl, inr}
use Rattle.std.specs.Prelude.{◌⊎◌, ◌≢◌, is_some, false}
use Rattle.oe_theory.specs.Machine.{Machine, Hold}
use Rattle.oe_theory.specs.World.{World, horizon, newest, bump, set}
use Rattle.oe_theory.specs.Next.{Next, Step, Answer, Begin, Advance, Save, Back, Rollback, Read, Audit, Purge, Rewind}
use Rattle.oe_theory.specs.Next.{Aborted, Begun, More, Committed, Busy, Rolled_back, Replied, Purged, Undo_full}
use Rattle.oe_theory.specs.Next.{Not_open, No_memory}
use Rattle.oe_theory.specs.Next as next
use Rattle.oe_theory.proofs.Determined.{determined}
use Rattle.oe_rows.specs.declared.locks.Name.{Name}
use Rattle.oe_rows.specs.declared.locks.Mode.{Mode}
use Rattle.oe_rows.specs.declared.locks.Mode.TheVariants as mode
use Rattle.oe_requests.specs.declared.requests.Request.{Request}
use Rattle.oe_requests.specs.declared.requests.Query.{Query}
use Rattle.oe_requests.specs.declared.refusals.Refusal.TheVariants.{InvalidItem}
use Rattle.oe_requests.specs.declared.replies.Reply.{Reply}
use Rattle.oe_requests.specs.declared.replies.QueryReply.{QueryReply}
use Rattle.oe_model.specs.System.{system}
use Rattle.oe_model.specs.Locks.{mode_of}
use Rattle.oe_machine.specs.Asks.{wanted_by}
use Rattle.oe_lines.specs.declared.commands.Command.{Command}
use Rattle.oe_lines.specs.declared.commands.Command.TheVariants as command
use Rattle.oe_lines.specs.declared.commands.MomentChoice.TheVariants as moment
use Rattle.oe_busy.specs.declared.happenings.Happening.{Happening}
use Rattle.oe_busy.specs.declared.happenings.Happening.TheVariants as happening
use Rattle.oe_terms.specs.declared.plans.Plan.{Plan}
use Rattle.oe_terms.specs.declared.plans.Asked.TheVariants as asked
use Rattle.oe_terms.specs.Plans.{asked_of}
use Rattle.oe_load.specs.declared.picks.Pick.{Pick}
use Rattle.oe_load.specs.declared.picks.Pick.TheVariants as pick
use Rattle.oe_load.specs.Loads as loads
use Rattle.oe_load.specs.Loads.{Line}
use Rattle.oe_load.specs.Happens as happens
use Rattle.oe_load.specs.Happens.{Happens, IsPassing, IsBreaking, IsPassed, wanted_in_cycle}
use Rattle.oe_load.specs.Together as together
use Rattle.oe_load.specs.Together.{Opens}
use Rattle.oe_load.specs.Picks.{terminal_of, named_by}
use Rattle.oe_load.specs.Scripts as scripts
use Rattle.oe_load.specs.Scripts.{State, Does, IsEarlyTurn, IsDrawnTurn, IsTurn, Lines, pick_in}
use Rattle.oe_load.specs.Laws.{Turns_are_one}

-- WHAT A STEP'S ANSWER SAYS

module _ (M : Machine) where
  abbrev terminal_in : Step M → ℕ
  terminal_in (Begin t q) = t
  terminal_in (Advance t) = t
  terminal_in (Save t) = t
  terminal_in (Back t) = t
  terminal_in (Rollback t) = t
  terminal_in (Read m q) = 0
  terminal_in (Audit m c) = 0
  terminal_in (Purge m) = 0
  terminal_in (Rewind m) = 0

  -- who begins has nothing open
  begun_by : (w : World M) (i : Step M) (a : Answer M) (v : World M) → Next M w i a v → a ≡ Begun
      → w.active (terminal_in i) ≡ None
  begun_by w _ _ _ (next.begins t q m) x = m.closed
  begun_by w _ _ _ n x = cc

  -- the answers of an advance that is told
  pub data IsGoing : Answer M → Type 0 where
    is_more : IsGoing More
    is_busy : (n : M.Name) (u : ℕ) → IsGoing (Busy n u)
    is_committed : (m : ℕ) (y : M.Reply) → IsGoing (Committed m y)
    is_aborted : (e : M.Refusal) → IsGoing (Aborted e)

  has_memory : (a : Answer M) → IsGoing a → a ≢ No_memory
  has_memory _ is_more e = cc
  has_memory _ (is_busy n u) e = cc
  has_memory _ (is_committed m y) e = cc
  has_memory _ (is_aborted r) e = cc

  has_room : (a : Answer M) → IsGoing a → a ≢ Undo_full
  has_room _ is_more e = cc
  has_room _ (is_busy n u) e = cc
  has_room _ (is_committed m y) e = cc
  has_room _ (is_aborted r) e = cc

  is_open : (a : Answer M) → IsGoing a → a ≢ Not_open
  is_open _ is_more e = cc
  is_open _ (is_busy n u) e = cc
  is_open _ (is_committed m y) e = cc
  is_open _ (is_aborted r) e = cc

  full_memory : ◌≡◌ {A = Answer M} Undo_full No_memory → ⊥
  full_memory e = cc

  full_open : ◌≡◌ {A = Answer M} Undo_full Not_open → ⊥
  full_open e = cc

  pub shut_memory : ◌≡◌ {A = Answer M} Not_open No_memory → ⊥
  shut_memory e = cc

  -- with nothing open an advance is answered so
  shut_goes : (w : World M) (t : ℕ) (a : Answer M) (v : World M) → w.active t ≡ None → Next M w (Advance t) a v
      → a ≢ No_memory → a ≢ Not_open → ⊥
  shut_goes w t a v shut n x y =
      y (determined M w (Advance t) a Not_open v w n (next.not_open (Advance t) t refl shut) x shut_memory).0

shut_of : {A : Type 0} (o : Option A) → is_some o ≡ false → o ≡ None
shut_of None e = refl
shut_of (Some x) e = cc

transaction_inj : (q r : Request) → asked.Transaction q ≡ asked.Transaction r → q ≡ r
transaction_inj q r e = cc

query_inj : (q r : Query) → asked.Query q ≡ asked.Query r → q ≡ r
query_inj q r e = cc

no_query : (q : Request) (r : Query) → asked.Transaction q ≡ asked.Query r → ⊥
no_query q r e = cc

-- WHICH STEP A TURN ASKS FOR

data Asks (p : Plan) (w : World system) (s : ℕ → ℕ) : Pick → Step system → Type 0 where
  asks_begin : (t : ℕ) (q : Request) → w.active t ≡ None → asked_of p t (p.first + s t) ≡ asked.Transaction q
      → Asks p w s (pick.Turn t) (Begin t q)
  asks_read : (t : ℕ) (q : Query) → w.active t ≡ None → asked_of p t (p.first + s t) ≡ asked.Query q
      → Asks p w s (pick.Turn t) (Read (newest system w) q)
  asks_advance : (t : ℕ) (a : Answer system) (v : World system) → Next system w (Advance t) a v → IsGoing system a
      → Asks p w s (pick.Turn t) (Advance t)
  asks_purge : (t : ℕ) → Next system w (Advance t) Undo_full w → horizon system w < newest system w
      → Asks p w s (pick.Turn t) (Purge (newest system w))
  asks_room : (t : ℕ) → Next system w (Advance t) Undo_full w → newest system w ≤ horizon system w
      → Asks p w s (pick.Turn t) (Rollback t)
  asks_way : (t : ℕ) → Asks p w s (pick.GiveWay t) (Rollback t)

module _ (p : Plan) (w : World system) (s : ℕ → ℕ) where
  pub shut_going : (t : ℕ) (a : Answer system) (v : World system) → w.active t ≡ None → Next system w (Advance t) a v
      → IsGoing system a → ⊥
  shut_going t a v shut n g = shut_goes system w t a v shut n (has_memory system a g) (is_open system a g)

  pub shut_full : (t : ℕ) → w.active t ≡ None → Next system w (Advance t) Undo_full w → ⊥
  shut_full t shut n = shut_goes system w t Undo_full w shut n (full_memory system) (full_open system)

  going_full : (t : ℕ) (a : Answer system) (v : World system) → Next system w (Advance t) a v → IsGoing system a
      → Next system w (Advance t) Undo_full w → ⊥
  going_full t a v n g full =
      has_room system a g
      (determined system w (Advance t) a Undo_full v w n full (has_memory system a g) (full_memory system)).0

  asks_one : (k : Pick) (i j : Step system) → Asks p w s k i → Asks p w s k j → i ≡ j
  asks_one _ _ _ (asks_begin t q shut is) (asks_begin _ r closed same) =
      ap (Begin t) (transaction_inj q r (sym is ∙ same))
  asks_one _ _ _ (asks_begin t q shut is) (asks_read _ r closed same) = absurd (no_query q r (sym is ∙ same))
  asks_one _ _ _ (asks_begin t q shut is) (asks_advance _ a v n g) = absurd (shut_going t a v shut n g)
  asks_one _ _ _ (asks_begin t q shut is) (asks_purge _ full more) = absurd (shut_full t shut full)
  asks_one _ _ _ (asks_begin t q shut is) (asks_room _ full none) = absurd (shut_full t shut full)
  asks_one _ _ _ (asks_read t q shut is) (asks_begin _ r closed same) = absurd (no_query r q (sym same ∙ is))
  asks_one _ _ _ (asks_read t q shut is) (asks_read _ r closed same) =
      ap (Read (newest system w)) (query_inj q r (sym is ∙ same))
  asks_one _ _ _ (asks_read t q shut is) (asks_advance _ a v n g) = absurd (shut_going t a v shut n g)
  asks_one _ _ _ (asks_read t q shut is) (asks_purge _ full more) = absurd (shut_full t shut full)
  asks_one _ _ _ (asks_read t q shut is) (asks_room _ full none) = absurd (shut_full t shut full)
  asks_one _ _ _ (asks_advance t a v n g) (asks_begin _ r closed same) = absurd (shut_going t a v closed n g)
  asks_one _ _ _ (asks_advance t a v n g) (asks_read _ r closed same) = absurd (shut_going t a v closed n g)
  asks_one _ _ _ (asks_advance t a v n g) (asks_advance _ b x m h) = refl
  asks_one _ _ _ (asks_advance t a v n g) (asks_purge _ full more) = absurd (going_full t a v n g full)
  asks_one _ _ _ (asks_advance t a v n g) (asks_room _ full none) = absurd (going_full t a v n g full)
  asks_one _ _ _ (asks_purge t full more) (asks_begin _ r closed same) = absurd (shut_full t closed full)
  asks_one _ _ _ (asks_purge t full more) (asks_read _ r closed same) = absurd (shut_full t closed full)
  asks_one _ _ _ (asks_purge t full more) (asks_advance _ a v n g) = absurd (going_full t a v n g full)
  asks_one _ _ _ (asks_purge t full more) (asks_purge _ too again) = refl
  asks_one _ _ _ (asks_purge t full more) (asks_room _ too none) = absurd (omega (arith, more, none))
  asks_one _ _ _ (asks_room t full none) (asks_begin _ r closed same) = absurd (shut_full t closed full)
  asks_one _ _ _ (asks_room t full none) (asks_read _ r closed same) = absurd (shut_full t closed full)
  asks_one _ _ _ (asks_room t full none) (asks_advance _ a v n g) = absurd (going_full t a v n g full)
  asks_one _ _ _ (asks_room t full none) (asks_purge _ too more) = absurd (omega (arith, more, none))
  asks_one _ _ _ (asks_room t full none) (asks_room _ too again) = refl
  asks_one _ _ _ (asks_way t) (asks_way _) = refl

-- WHAT COMES OF IT

data Comes (w : World system) (s : ℕ → ℕ) (t : ℕ) : Step system → Answer system → Command → (ℕ → ℕ) → Happening
    → Type 0 where
  of_begin : (r : ℕ) (q : Request) → Comes w s t (Begin r q) Begun (command.Begin r q) s happening.Begun
  of_read : (m : ℕ) (q : Query) (f : QueryReply) (u : ℕ → ℕ) → u ≡ bump t s
      → Comes w s t (Read m q) (Replied f) (command.Read moment.Now q) u happening.Done
  of_more : (r : ℕ) (h : Happening) → IsPassing r (wanted_by w r) h
      → Comes w s t (Advance r) More (command.Next r) s h
  of_busy : (r : ℕ) (n : Name) (u : ℕ)
      → Comes w s t (Advance r) (Busy n u) (command.Next r) s (happening.Waits r n u)
  of_commit : (r m : ℕ) (y : Reply) (u : ℕ → ℕ) (h : Happening) → u ≡ bump t s → IsPassing r (wanted_by w r) h
      → Comes w s t (Advance r) (Committed m y) (command.Next r) u h
  of_abort : (r : ℕ) (u : ℕ → ℕ) (h : Happening) → u ≡ bump t s → IsPassing r (wanted_by w r) h
      → Comes w s t (Advance r) (Aborted InvalidItem) (command.Next r) u h
  of_purge : (m n : ℕ) → Comes w s t (Purge m) (Purged n) (command.Purge moment.Now) s happening.Done
  of_rollback : (r : ℕ) (h : Happening) → IsBreaking r (wanted_in_cycle w r) h
      → Comes w s t (Rollback r) Rolled_back (command.Rollback r) s h

mode_inj : (m n : Mode) → mode_of m ≡ mode_of n → m ≡ n
mode_inj mode.Shared mode.Shared e = refl
mode_inj mode.Shared mode.Exclusive e = cc
mode_inj mode.Exclusive mode.Shared e = cc
mode_inj mode.Exclusive mode.Exclusive e = refl

passing_one : (t : ℕ) (o : Option (Hold Name)) (h k : Happening) → IsPassing t o h → IsPassing t o k → h ≡ k
passing_one t None h k a b = a ∙ sym b
passing_one t (Some l) h k (m, e, a) (n, f, b) =
    a ∙ (ap (λ (z : Mode). happening.Took t l.name z) (mode_inj m n (sym e ∙ f)) ∙ sym b)

breaking_one : (t : ℕ) (o : Option (Hold Name)) (h k : Happening) → IsBreaking t o h → IsBreaking t o k → h ≡ k
breaking_one t None h k a b = a ∙ sym b
breaking_one t (Some l) h k a b = a ∙ sym b

comes_one : (w : World system) (s : ℕ → ℕ) (t : ℕ) (i : Step system) (a : Answer system) (c d : Command)
    (u x : ℕ → ℕ) (h k : Happening) → Comes w s t i a c u h → Comes w s t i a d x k → (c ≡ d) × (u ≡ x) × (h ≡ k)
comes_one w s t _ _ _ _ _ _ _ _ (of_begin r q) (of_begin _ _) = (refl, refl, refl)
comes_one w s t _ _ _ _ _ _ _ _ (of_read m q f u e) (of_read _ _ _ x g) = (refl, e ∙ sym g, refl)
comes_one w s t _ _ _ _ _ _ _ _ (of_more r h e) (of_more _ k f) =
    (refl, refl, passing_one r (wanted_by w r) h k e f)
comes_one w s t _ _ _ _ _ _ _ _ (of_busy r n u) (of_busy _ _ _) = (refl, refl, refl)
comes_one w s t _ _ _ _ _ _ _ _ (of_commit r m y u h e f) (of_commit _ _ _ x k g b) =
    (refl, e ∙ sym g, passing_one r (wanted_by w r) h k f b)
comes_one w s t _ _ _ _ _ _ _ _ (of_abort r u h e f) (of_abort _ x k g b) =
    (refl, e ∙ sym g, passing_one r (wanted_by w r) h k f b)
comes_one w s t _ _ _ _ _ _ _ _ (of_purge m n) (of_purge _ _) = (refl, refl, refl)
comes_one w s t _ _ _ _ _ _ _ _ (of_rollback r h e) (of_rollback _ k f) =
    (refl, refl, breaking_one r (wanted_in_cycle w r) h k e f)

-- A TURN ASKS FOR A STEP, AND IS WHAT COMES OF IT

abbrev Deed : Plan → World system → (ℕ → ℕ) → Pick → Command → World system → (ℕ → ℕ) → Happening → Type 0
Deed p w s k c v u h =
    (i : Step system) × (a : Answer system) × Asks p w s k i × Next system w i a v × (a ≢ No_memory)
    × Comes w s (terminal_of k) i a c u h

deeds_one : (p : Plan) (w : World system) (s : ℕ → ℕ) (k : Pick) (c d : Command) (v x : World system) (u y : ℕ → ℕ)
    (h g : Happening) → Deed p w s k c v u h → Deed p w s k d x y g → (c ≡ d) × (v ≡ x) × (u ≡ y) × (h ≡ g)
deeds_one p w s k c d v x u y h g (i, a, asks, n, some, comes) (j, b, too, m, there, came) =
    let e = asks_one p w s k i j asks too in
    let f = determined system w i a b v x n (subst (λ (z : Step system). Next system w z b x) (sym e) m) some there in
    let r = comes_one w s (terminal_of k) i a c d u y h g comes
    (subst (λ (z : Answer system). Comes w s (terminal_of k) i z d y g) (sym f.0)
    (subst (λ (z : Step system). Comes w s (terminal_of k) z b d y g) (sym e) came))
    in
    (r.0, f.1, r.1, r.2)

begun_memory : ◌≡◌ {A = Answer system} Begun No_memory → ⊥
begun_memory e = cc

replied_memory : (f : QueryReply) → ◌≡◌ {A = Answer system} (Replied f) No_memory → ⊥
replied_memory f e = cc

purged_memory : (m : ℕ) → ◌≡◌ {A = Answer system} (Purged m) No_memory → ⊥
purged_memory m e = cc

pub rolled_memory : ◌≡◌ {A = Answer system} Rolled_back No_memory → ⊥
rolled_memory e = cc

module _ (p : Plan) (w : World system) (s : ℕ → ℕ) (v : World system) where
  begin_is : (t : ℕ) (q : Request) (u : ℕ → ℕ) (h : Happening) → Line p w s (command.Begin t q) v u
      → Happens w (command.Begin t q) v h
      → (asked_of p t (p.first + s t) ≡ asked.Transaction q) × Next system w (Begin t q) Begun v × (u ≡ s)
      × (h ≡ happening.Begun)
  begin_is _ _ _ _ (loads.begins t q _ ready n) (happens.begins _ _ _) = (ready.asks, n, refl, refl)

  read_is : (q : Query) (u : ℕ → ℕ) (h : Happening) → Line p w s (command.Read moment.Now q) v u
      → Happens w (command.Read moment.Now q) v h
      → (f : QueryReply) × Next system w (Read (newest system w) q) (Replied f) v × (h ≡ happening.Done)
  read_is _ _ _ (loads.reads t q f _ ready n) (happens.reads _ _) = (f, n, refl)

  purge_is : (u : ℕ → ℕ) (h : Happening) → Line p w s (command.Purge moment.Now) v u
      → Happens w (command.Purge moment.Now) v h
      → (m : ℕ) × Next system w (Purge (newest system w)) (Purged m) v × (u ≡ s) × (h ≡ happening.Done)
  purge_is _ _ (loads.purges m _ n) (happens.purges _) = (m, n, refl, refl)

  rollback_is : (t : ℕ) (u : ℕ → ℕ) (h : Happening) → Line p w s (command.Rollback t) v u
      → Happens w (command.Rollback t) v h
      → Next system w (Rollback t) Rolled_back v × (u ≡ s) × IsBreaking t (wanted_in_cycle w t) h
  rollback_is _ _ _ (loads.gives_way t _ n) (happens.breaks _ _ h e) = (n, refl, e)

  no_meeting : (t : ℕ) (a : Answer system) (n : Name) (u : ℕ) → Next system w (Advance t) a v → IsPassed a
      → Next system w (Advance t) (Busy n u) v → ⊥
  no_meeting t a n u one passed other =
      subst IsPassed (determined system w (Advance t) a (Busy n u) v v one other
      (λ e. subst IsPassed e passed) (has_memory system (Busy n u) (is_busy n u))).0 passed

  next_deed : (t : ℕ) (u : ℕ → ℕ) (h : Happening) → Line p w s (command.Next t) v u → Happens w (command.Next t) v h
      → Deed p w s (pick.Turn t) (command.Next t) v u h
  next_deed _ _ _ (loads.goes_on t _ n) (happens.passes _ a _ h m passed e) =
      (Advance t, More, asks_advance t More v n is_more, n, has_memory system More is_more, of_more t h e)
  next_deed _ _ _ (loads.goes_on t _ n) (happens.meets _ x u _ m) = absurd (no_meeting t More x u n tt m)
  next_deed _ _ _ (loads.waits t x u _ n) (happens.passes _ a _ h m passed e) =
      absurd (no_meeting t a x u m passed n)
  next_deed _ _ _ (loads.waits t x u _ n) (happens.meets _ y z _ m) = (
    Advance t,
    Busy y z,
    asks_advance t (Busy y z) v m (is_busy y z),
    m,
    has_memory system (Busy y z) (is_busy y z),
    of_busy t y z,
  )
  next_deed _ _ _ (loads.commits t k y _ n) (happens.passes _ a _ h m passed e) = (
    Advance t,
    Committed k y,
    asks_advance t (Committed k y) v n (is_committed k y),
    n,
    has_memory system (Committed k y) (is_committed k y),
    of_commit t k y (bump t s) h refl e,
  )
  next_deed _ _ _ (loads.commits t k y _ n) (happens.meets _ x u _ m) =
      absurd (no_meeting t (Committed k y) x u n tt m)
  next_deed _ _ _ (loads.rolls_back t _ drawn n) (happens.passes _ a _ h m passed e) = (
    Advance t,
    Aborted InvalidItem,
    asks_advance t (Aborted InvalidItem) v n (is_aborted InvalidItem),
    n,
    has_memory system (Aborted InvalidItem) (is_aborted InvalidItem),
    of_abort t (bump t s) h refl e,
  )
  next_deed _ _ _ (loads.rolls_back t _ drawn n) (happens.meets _ x u _ m) =
      absurd (no_meeting t (Aborted InvalidItem) x u n tt m)

  begin_deed : (t : ℕ) (q : Request) (u : ℕ → ℕ) (h : Happening) → Line p w s (command.Begin t q) v u
      → Happens w (command.Begin t q) v h → Deed p w s (pick.Turn t) (command.Begin t q) v u h
  begin_deed t q u h line happened =
      let r = begin_is t q u h line happened in
      subst (λ (z : Happening). Deed p w s (pick.Turn t) (command.Begin t q) v u z) (sym r.3)
      (subst (λ (f : ℕ → ℕ). Deed p w s (pick.Turn t) (command.Begin t q) v f happening.Begun) (sym r.2) (
        Begin t q,
        Begun,
        asks_begin t q (begun_by system w (Begin t q) Begun v r.1 refl) r.0,
        r.1,
        begun_memory,
        of_begin t q,
      ))

  read_deed : (t : ℕ) (q : Query) (u : ℕ → ℕ) (h : Happening) → w.active t ≡ None
      → asked_of p t (p.first + s t) ≡ asked.Query q → u ≡ bump t s → Line p w s (command.Read moment.Now q) v u
      → Happens w (command.Read moment.Now q) v h → Deed p w s (pick.Turn t) (command.Read moment.Now q) v u h
  read_deed t q u h shut is same line happened =
      let r = read_is q u h line happened in
      subst (λ (z : Happening). Deed p w s (pick.Turn t) (command.Read moment.Now q) v u z) (sym r.2) (
        Read (newest system w) q,
        Replied r.0,
        asks_read t q shut is,
        r.1,
        replied_memory r.0,
        of_read (newest system w) q r.0 u same,
      )

  purge_deed : (t : ℕ) (u : ℕ → ℕ) (h : Happening) → Next system w (Advance t) Undo_full w
      → horizon system w < newest system w → Line p w s (command.Purge moment.Now) v u
      → Happens w (command.Purge moment.Now) v h → Deed p w s (pick.Turn t) (command.Purge moment.Now) v u h
  purge_deed t u h full left line happened =
      let r = purge_is u h line happened in
      subst (λ (z : Happening). Deed p w s (pick.Turn t) (command.Purge moment.Now) v u z) (sym r.3)
      (subst (λ (f : ℕ → ℕ). Deed p w s (pick.Turn t) (command.Purge moment.Now) v f happening.Done) (sym r.2) (
        Purge (newest system w),
        Purged r.0,
        asks_purge t full left,
        r.1,
        purged_memory r.0,
        of_purge (newest system w) r.0,
      ))

  rollback_deed : (k : Pick) (t : ℕ) (u : ℕ → ℕ) (h : Happening) → terminal_of k ≡ t → Asks p w s k (Rollback t)
      → Line p w s (command.Rollback t) v u → Happens w (command.Rollback t) v h
      → Deed p w s k (command.Rollback t) v u h
  rollback_deed k t u h at asks line happened =
      let r = rollback_is t u h line happened in (
        Rollback t,
        Rolled_back,
        asks,
        r.0,
        rolled_memory,
        subst (λ (z : ℕ). Comes w s z (Rollback t) Rolled_back (command.Rollback t) u h) (sym at)
            (subst (λ (f : ℕ → ℕ). Comes w s t (Rollback t) Rolled_back (command.Rollback t) f h) (sym r.1)
            (of_rollback t h r.2)),
      )

  drawn_deed : (k : Pick) (c : Command) (u : ℕ → ℕ) (h : Happening) → Does p w s k c u → Line p w s c v u
      → Happens w c v h → Deed p w s k c v u h
  drawn_deed _ _ _ h (scripts.begins t q) line happened = begin_deed t q s h line happened
  drawn_deed _ _ _ h (scripts.reads t q shut is) line happened =
      read_deed t q (bump t s) h (shut_of (w.active t) shut) is refl line happened
  drawn_deed _ _ _ h (scripts.goes_on t u) line happened = next_deed t u h line happened
  drawn_deed _ _ _ h (scripts.purges t full left) line happened = purge_deed t s h full left line happened
  drawn_deed _ _ _ h (scripts.makes_room t full none) line happened =
      rollback_deed (pick.Turn t) t s h refl (asks_room t full none) line happened
  drawn_deed _ _ _ h (scripts.gives_way t) line happened =
      rollback_deed (pick.GiveWay t) t s h refl (asks_way t) line happened

-- EARLY TURNS

opens_few : (p : Plan) (k : ℕ) (s : ℕ → ℕ) (c : Command) (u : ℕ → ℕ) (n : ℕ) → Opens p k s c u n
    → k < p.numbers.terminals
opens_few p k s _ _ _ (together.begins q few) = few
opens_few p k s _ _ _ (together.reads q few is more) = few
opens_few p k s _ _ _ (together.reads_last q few is last) = few

abbrev Same : Command → Command → World system → World system → (ℕ → ℕ) → (ℕ → ℕ) → ℕ → ℕ → Happening → Happening
    → Type 0
Same c d v x u y n m h g = (c ≡ d) × (v ≡ x) × (u ≡ y) × (n ≡ m) × (h ≡ g)

module _ (p : Plan) (w : World system) (s : ℕ → ℕ) (k : ℕ) (v x : World system) (h g : Happening) where
  begins_one : (q r : Request) → Line p w s (command.Begin (suc k) q) v s → Line p w s (command.Begin (suc k) r) x s
      → Happens w (command.Begin (suc k) q) v h → Happens w (command.Begin (suc k) r) x g
      → Same (command.Begin (suc k) q) (command.Begin (suc k) r) v x s s (suc k) (suc k) h g
  begins_one q r one two happened too =
      let a = begin_is p w s v (suc k) q s h one happened in
      let b = begin_is p w s x (suc k) r s g two too in
      let same = transaction_inj q r (sym a.0 ∙ b.0) in (
        ap (command.Begin (suc k)) same,
        (determined system w (Begin (suc k) q) Begun Begun v x a.1
            (subst (λ (z : Request). Next system w (Begin (suc k) z) Begun x) (sym same) b.1) begun_memory
            begun_memory).1,
        refl,
        refl,
        a.3 ∙ sym b.3,
      )

  reads_one : (q r : Query) (u y : ℕ → ℕ) (n m : ℕ) → asked_of p (suc k) (p.first + s (suc k)) ≡ asked.Query q
      → asked_of p (suc k) (p.first + s (suc k)) ≡ asked.Query r → u ≡ y → n ≡ m
      → Line p w s (command.Read moment.Now q) v u → Line p w s (command.Read moment.Now r) x y
      → Happens w (command.Read moment.Now q) v h → Happens w (command.Read moment.Now r) x g
      → Same (command.Read moment.Now q) (command.Read moment.Now r) v x u y n m h g
  reads_one q r u y n m is was served count one two happened too =
      let a = read_is p w s v q u h one happened in
      let b = read_is p w s x r y g two too in
      let same = query_inj q r (sym is ∙ was) in (
        ap (command.Read moment.Now) same,
        (determined system w (Read (newest system w) q) (Replied a.0) (Replied b.0) v x a.1
            (subst (λ (z : Query). Next system w (Read (newest system w) z) (Replied b.0) x) (sym same) b.1)
            (replied_memory a.0) (replied_memory b.0)).1,
        served,
        count,
        a.2 ∙ sym b.2,
      )

  mixed : (q : Request) (r : Query) (u : ℕ → ℕ) (z : World system) (o : Happening)
      → Line p w s (command.Begin (suc k) q) z u → Happens w (command.Begin (suc k) q) z o
      → asked_of p (suc k) (p.first + s (suc k)) ≡ asked.Query r → ⊥
  mixed q r u z o one happened was =
      no_query q r (sym (begin_is p w s z (suc k) q u o one happened).0 ∙ was)

  early_one : (c d : Command) (u y : ℕ → ℕ) (n m : ℕ) → Opens p k s c u n → Opens p k s d y m → Line p w s c v u
      → Line p w s d x y → Happens w c v h → Happens w d x g → Same c d v x u y n m h g
  early_one _ _ _ _ _ _ (together.begins q few) (together.begins r low) one two a b = begins_one q r one two a b
  early_one _ _ _ _ _ _ (together.begins q few) (together.reads r low was more) one two a b =
      absurd (mixed q r s v h one a was)
  early_one _ _ _ _ _ _ (together.begins q few) (together.reads_last r low was last) one two a b =
      absurd (mixed q r s v h one a was)
  early_one _ _ _ _ _ _ (together.reads q few is more) (together.begins r low) one two a b =
      absurd (mixed r q s x g two b is)
  early_one _ _ _ _ _ _ (together.reads q few is more) (together.reads r low was again) one two a b =
      reads_one q r (bump (suc k) s) (bump (suc k) s) k k is was refl refl one two a b
  early_one _ _ _ _ _ _ (together.reads q few is more) (together.reads_last r low was last) one two a b =
      absurd (more last)
  early_one _ _ _ _ _ _ (together.reads_last q few is last) (together.begins r low) one two a b =
      absurd (mixed r q s x g two b is)
  early_one _ _ _ _ _ _ (together.reads_last q few is last) (together.reads r low was more) one two a b =
      absurd (more last)
  early_one _ _ _ _ _ _ (together.reads_last q few is last) (together.reads_last r low was again) one two a b =
      reads_one q r (bump (suc k) s) (bump (suc k) s) (suc k) (suc k) is was refl refl one two a b

-- TURNS

pub turn_one : (p : Plan) (s : State) (c d : Command) (h g : Happening) (t u : State) → IsTurn p s c h t
    → IsTurn p s d g u → (c ≡ d) × (t ≡ u)
turn_one p s c d h g t u one two = by one.in_turn two.in_turn
  where
    by : IsEarlyTurn p s c t ⊎ IsDrawnTurn p s c h t → IsEarlyTurn p s d u ⊎ IsDrawnTurn p s d g u → (c ≡ d) × (t ≡ u)
    by (inl a) (inl b) =
        let e = early_one p s.world s.served s.begun t.world u.world h g c d t.served u.served t.begun u.begun a.opens
        b.opens one.told.line two.told.line one.happened two.happened
        in (
          e.0,
          λ i. record {
            world = e.1 i;
            served = e.2 i;
            begun = e.3 i;
            named = (a.named_stay ∙ sym b.named_stay) i;
            words = (a.words_stay ∙ sym b.words_stay) i;
          },
        )
    by (inl a) (inr b) = absurd (omega (arith, opens_few p s.begun s.served c t.served t.begun a.opens, b.all))
    by (inr a) (inl b) = absurd (omega (arith, opens_few p s.begun s.served d u.served u.begun b.opens, a.all))
    by (inr a) (inr b) =
        let e = deeds_one p s.world s.served (pick_in p s) c d t.world u.world t.served u.served h g
        (drawn_deed p s.world s.served t.world (pick_in p s) c t.served h a.does one.told.line one.happened)
        (drawn_deed p s.world s.served u.world (pick_in p s) d u.served g b.does two.told.line two.happened)
        in (
          e.0,
          λ i. record {
            world = e.1 i;
            served = e.2 i;
            begun = (a.begun_stay ∙ sym b.begun_stay) i;
            named = (a.notes ∙ (ap (λ (z : Happening). set (terminal_of (pick_in p s)) (named_by z) s.named) e.3
                ∙ sym b.notes)) i;
            words = (a.draws ∙ sym b.draws) i;
          },
        )

pub turns_are_one : Turns_are_one
turns_are_one p s [] [] t u one two count = (refl, one ∙ sym two)
turns_are_one p s [] (d ∷ ds) t u one two count = absurd (omega (arith, count))
turns_are_one p s (c ∷ cs) [] t u one two count = absurd (omega (arith, count))
turns_are_one p s (c ∷ cs) (d ∷ ds) t u (h, mid, turn, rest) (g, after, other, too) count =
    let e = turn_one p s c d h g mid after turn other in
    let f = turns_are_one p mid cs ds t u rest (subst (λ (z : State). Lines p z ds u) (sym e.1) too)
    (omega (arith, count))
    in
    (ap (λ (z : Command). z ∷ cs) e.0 ∙ ap (λ (z : List Command). d ∷ z) f.0, f.1)
