-- The steps between the worlds of a machine, and their answers.
use Rattle.std.specs.Prelude.{◌≡◌, ℕ, suc, zero, ◌+◌, ◌-◌, ◌<◌, ◌≤◌, ◌≢◌, Bool, true, false, cond, nat_le, Option, None}
use Rattle.std.specs.Prelude.{Some, List, [], ◌∷◌, take, drop, ◌⊎◌}
use Rattle.oe_theory.specs.Machine.{Machine, Mode, Ask, Stop, Plain, Take, Act, Fail, Go, Ready, Here, Missing}
use Rattle.oe_theory.specs.World.{go_together, greater_mode, set, State, Open, Commit, World, IsTerminal, tx_of, add}
use Rattle.oe_theory.specs.World.{counts_after, horizon, newest, at, number, tables}

module _ (M : Machine) where
  open M use {
    Map,
    Change,
    Layout,
    Record,
    row_at,
    key_of,
    record_of,
    size_of,
    extent,
    Name,
    is_name,
    Request,
    Position,
    Reply,
    Refusal,
    start,
    ask,
    act,
    marks,
    rejection,
    number_rejection,
    may_allocate,
    yields,
    Query,
    Found,
    query_rejection,
    find,
    Condition,
    Verdict,
    verdict,
    terminal_limit,
  }

  -- steps and answers
  pub data Step : Type 0 where
    Begin : ℕ → Request → Step
    Advance : ℕ → Step
    Save : ℕ → Step
    Back : ℕ → Step
    Rollback : ℕ → Step
    Read : ℕ → Query → Step
    Audit : ℕ → Condition → Step
    Purge : ℕ → Step
    Rewind : ℕ → Step

  -- what a step is answered
  pub data Answer : Type 0 where
    Begun : Answer
    More : Answer
    Committed : ℕ → Reply → Answer
    Saved : Answer
    Gone_back : Answer
    Rolled_back : Answer
    Replied : Found → Answer
    Audited : Verdict → Answer
    Purged : ℕ → Answer
    Rewound : ℕ → Answer
    -- refusals; the first has rolled its transaction back, the others have changed nothing
    Aborted : Refusal → Answer
    Rejected : Refusal → Answer
    Busy : Name → ℕ → Answer
    Undo_full : Answer
    Not_open : Answer
    Already_open : Answer
    Too_old : ℕ → Answer
    Future : ℕ → Answer
    Not_quiet : ℕ → Answer
    No_memory : Answer

  -- the world with a terminal's transaction replaced
  abbrev pub put_active : ℕ → Option (Open M) → World M → World M
  put_active t v w = record {
    base = w.base;
    counts = w.counts;
    history = w.history;
    active = set t v w.active;
    extents = w.extents;
    layout = w.layout;
  }

  -- a transaction that has just begun
  abbrev pub open_at_begin : World M → ℕ → Request → Open M
  open_at_begin w t q =
      let first : State M =
      record { position = start (record { terminal = t; number = number M w t; request = q }); changes = [] } in
      record {
        number = number M w t;
        request = q;
        now = first;
        mark = first;
        held = λ _. None;
        lengths = [];
        mark_lengths = [];
      }

  -- the locks after what was asked for was granted
  abbrev pub held_after : Ask Name Refusal → (Name → Option Mode) → Name → Option Mode
  held_after (Stop e) held = held
  held_after Plain held = held
  held_after (Take n m) held = λ q. cond (is_name q n) (Some (greater_mode m (held q))) (held q)

  -- the record of a change of these tables
  abbrev pub record_on : Layout → Change → Map → Record
  record_on l c r = record_of l c (row_at r (key_of c))

  -- the lengths with one more record's, where r are the tables before
  abbrev pub add_length : Layout → Option Change → Map → List ℕ → List ℕ
  add_length l None r ls = ls
  add_length l (Some c) r ls = size_of (record_on l c r) ∷ ls

  -- the transaction after a stage; where the stage begins at a mark of the program's own, the mark has moved there
  -- first
  abbrev pub open_after : Layout → Open M → Ask Name Refusal → Option Change → Position → Map → Open M
  open_after l o a c p r =
      record {
        number = o.number;
        request = o.request;
        now = record { position = p; changes = add M c o.now.changes };
        mark = cond (marks o.now.position) o.now o.mark;
        held = held_after a o.held;
        lengths = add_length l c r o.lengths;
        mark_lengths = cond (marks o.now.position) o.lengths o.mark_lengths;
      }

  -- how many extents records of these lengths fill in order, and how much is left of the last one
  abbrev pub fill_of : List ℕ → ℕ × ℕ
  fill_of [] = (0, 0)
  fill_of (l ∷ ls) = let f = fill_of ls in cond (nat_le l f.1) (f.0, f.1 - l) (suc f.0, extent - l)

  -- the extents of one transaction
  abbrev pub used_by : Option (Open M) → ℕ
  used_by None = 0
  used_by (Some o) = (fill_of o.lengths).0

  -- the extents of the open transactions of terminals below n
  abbrev pub used_active : (ℕ → Option (Open M)) → ℕ → ℕ
  used_active active zero = 0
  used_active active (suc n) = used_active active n + used_by (active n)

  -- the extents of commits
  abbrev pub used_history : List (Commit M) → ℕ
  used_history [] = 0
  used_history (c ∷ cs) = (fill_of c.lengths).0 + used_history cs

  -- the extents of all
  abbrev pub extents_used : World M → ℕ
  extents_used w = used_history w.history + used_active w.active terminal_limit

  -- the record fits the rest of the transaction's last extent, or an extent is free
  abbrev pub HasRoom : World M → Open M → Option Change → Type 0
  HasRoom w o None = Unit {0}
  HasRoom w o (Some c) = (size_of (record_on w.layout c (tables M w)) ≤ (fill_of o.lengths).1)
      ⊎ (extents_used w < w.extents)

  -- the record fits neither there nor in a free extent
  abbrev pub IsFull : World M → Open M → Change → Type 0
  IsFull w o c = ((fill_of o.lengths).1 < size_of (record_on w.layout c (tables M w))) × (w.extents ≤ extents_used w)

  -- no other transaction holds the name in a mode that conflicts
  abbrev pub IsFreeFor : World M → ℕ → Name → Mode → Type 0
  IsFreeFor w t n m = (u : ℕ) (o : Open M) → u ≢ t → w.active u ≡ Some o → go_together m (o.held n) ≡ true

  -- the lock that is asked for can be had
  abbrev pub IsGranted : World M → ℕ → Ask Name Refusal → Type 0
  IsGranted w t (Stop e) = ⊥
  IsGranted w t Plain = Unit {0}
  IsGranted w t (Take n m) = IsFreeFor w t n m

  -- the least terminal whose transaction is in the way
  pub record IsInTheWay (w : World M) (t : ℕ) (n : Name) (m : Mode) (u : ℕ) : Type 0 where
    pub other : u ≢ t
    pub who : Open M
    pub is_open : w.active u ≡ Some who
    pub conflicts : go_together m (who.held n) ≡ false
    pub least : (v : ℕ) (o : Open M) → v < u → v ≢ t → w.active v ≡ Some o → go_together m (o.held n) ≡ true

  -- memory is wanted for a lock whose name isn't held yet in any mode, or by the stage itself
  abbrev pub IsNew : (Name → Option Mode) → Ask Name Refusal → Type 0
  IsNew held (Stop e) = ⊥
  IsNew held Plain = ⊥
  IsNew held (Take n m) = held n ≡ None

  -- a want of memory may be answered in place of this act: of one that goes on, with room or not, or of a refusal that
  -- yields
  abbrev pub GivesWay : (Refusal → Bool) → Act Change Position Reply Refusal → Type 0
  GivesWay f (Fail e) = f e ≡ true
  GivesWay f (Go c p) = Unit {0}
  GivesWay f (Ready y) = ⊥

  -- memory may be wanted in place of this stage
  abbrev pub MayLackMemory : World M → ℕ → Open M → Ask Name Refusal → Type 0
  MayLackMemory w t o (Stop e) = yields (tx_of M t o) o.now.position e ≡ true
  MayLackMemory w t o a =
      IsGranted w t a × (IsNew o.held a ⊎ (may_allocate (tx_of M t o) o.now.position ≡ true))
      × GivesWay (yields (tx_of M t o) o.now.position) (act (tx_of M t o) o.now.position (tables M w))

  -- the world after a commit
  abbrev pub after_commit : World M → ℕ → Open M → Reply → World M
  after_commit w t o reply =
      record {
        base = w.base;
        counts = w.counts;
        history = record { tx = tx_of M t o; reply = reply; lengths = o.lengths } ∷ w.history;
        active =
            set t None w.active;
        extents = w.extents;
        layout = w.layout;
      }

  -- the world after a purge up to m
  abbrev pub after_purge : World M → ℕ → World M
  after_purge w m =
      record {
        base = at M w m;
        counts = counts_after M w.counts (drop (newest M w - m) w.history);
        history = take (newest M w - m) w.history;
        active = w.active;
        extents = w.extents;
        layout = w.layout;
      }

  -- the world after a rewind to m
  abbrev pub after_rewind : World M → ℕ → World M
  after_rewind w m = record {
    base = w.base;
    counts = w.counts;
    history = drop (newest M w - m) w.history;
    active = w.active;
    extents = w.extents;
    layout = w.layout;
  }

  -- no transaction is open
  abbrev pub IsQuiet : World M → Type 0
  IsQuiet w = (t : ℕ) → w.active t ≡ None

  -- how many are open below n
  abbrev pub count_open : (ℕ → Option (Open M)) → ℕ → ℕ
  count_open active zero = 0
  count_open active (suc n) = elim (active n) [ None ↦ count_open active n | Some o ↦ suc (count_open active n) ]

  -- the terminal whose open transaction a step is about
  abbrev pub works_on : Step → Option ℕ
  works_on (Begin t q) = None
  works_on (Advance t) = Some t
  works_on (Save t) = Some t
  works_on (Back t) = Some t
  works_on (Rollback t) = Some t
  works_on (Read m q) = None
  works_on (Audit m c) = None
  works_on (Purge m) = None
  works_on (Rewind m) = None

  -- the moment that a step names
  abbrev pub moment : Step → Option ℕ
  moment (Begin t q) = None
  moment (Advance t) = None
  moment (Save t) = None
  moment (Back t) = None
  moment (Rollback t) = None
  moment (Read m q) = Some m
  moment (Audit m c) = Some m
  moment (Purge m) = Some m
  moment (Rewind m) = Some m

  -- the step gets as far as to look at its moment
  abbrev pub IsPast : World M → Step → Type 0
  IsPast w (Begin t q) = Unit {0}
  IsPast w (Advance t) = Unit {0}
  IsPast w (Save t) = Unit {0}
  IsPast w (Back t) = Unit {0}
  IsPast w (Rollback t) = Unit {0}
  IsPast w (Read m q) = query_rejection q (tables M w) ≡ None
  IsPast w (Audit m c) = Unit {0}
  IsPast w (Purge m) = Unit {0}
  IsPast w (Rewind m) = IsQuiet w

  -- nothing is in the way of a transaction's beginning
  pub record MayBegin (w : World M) (t : ℕ) (q : Request) : Type 0 where
    pub terminal : IsTerminal M t
    pub valid : M.IsRequest q
    pub known : rejection q (tables M w) ≡ None
    pub closed : w.active t ≡ None
    pub counted : number_rejection (number M w t) ≡ None

  -- From w the step may be answered so, and leave the last world.
  pub data Next (w : World M) : Step → Answer → World M → Type 0 where
    begins : (t : ℕ) (q : Request) → MayBegin w t q
        → Next w (Begin t q) Begun (put_active t (Some (open_at_begin w t q)) w)
    goes_on : (t : ℕ) (o : Open M) (c : Option Change) (p : Position) → w.active t ≡ Some o
        → IsGranted w t (ask (tx_of M t o) o.now.position (tables M w))
        → act (tx_of M t o) o.now.position (tables M w) ≡ Go c p
        → HasRoom w o c
        → Next w (Advance t) More
        (put_active t (Some (open_after w.layout o (ask (tx_of M t o) o.now.position (tables M w)) c p (tables M w))) w)
    commits : (t : ℕ) (o : Open M) (reply : Reply) → w.active t ≡ Some o
        → IsGranted w t (ask (tx_of M t o) o.now.position (tables M w))
        → act (tx_of M t o) o.now.position (tables M w) ≡ Ready reply
        → Next w (Advance t) (Committed (suc (newest M w)) reply) (after_commit w t o reply)
    saves : (t : ℕ) (o : Open M) → w.active t ≡ Some o
        → Next w (Save t) Saved (put_active t (Some (record o { mark = o.now; mark_lengths = o.lengths })) w)
    goes_back : (t : ℕ) (o : Open M) → w.active t ≡ Some o
        → Next w (Back t) Gone_back (put_active t (Some (record o { now = o.mark; lengths = o.mark_lengths })) w)
    rolls_back : (t : ℕ) (o : Open M) → w.active t ≡ Some o → Next w (Rollback t) Rolled_back (put_active t None w)
    reads : (m : ℕ) (q : Query) (f : Found) → query_rejection q (tables M w) ≡ None → horizon M w ≤ m → m ≤ newest M w
        → find q (at M w m) ≡ Here f
        → Next w (Read m q) (Replied f) w
    audits : (m : ℕ) (c : Condition) → horizon M w ≤ m → m ≤ newest M w
        → Next w (Audit m c) (Audited (verdict c (at M w m))) w
    purges : (m : ℕ) → horizon M w ≤ m → m ≤ newest M w → Next w (Purge m) (Purged m) (after_purge w m)
    rewinds : (m : ℕ) → IsQuiet w → horizon M w ≤ m → m ≤ newest M w → Next w (Rewind m) (Rewound m) (after_rewind w m)
    -- refusals that roll the transaction back
    stops : (t : ℕ) (o : Open M) (e : Refusal) → w.active t ≡ Some o
        → ask (tx_of M t o) o.now.position (tables M w) ≡ Stop e
        → Next w (Advance t) (Aborted e) (put_active t None w)
    fails : (t : ℕ) (o : Open M) (e : Refusal) → w.active t ≡ Some o
        → IsGranted w t (ask (tx_of M t o) o.now.position (tables M w))
        → act (tx_of M t o) o.now.position (tables M w) ≡ Fail e
        → Next w (Advance t) (Aborted e) (put_active t None w)
    -- refusals that change nothing
    is_busy : (t : ℕ) (o : Open M) (n : Name) (m : Mode) (u : ℕ) → w.active t ≡ Some o
        → ask (tx_of M t o) o.now.position (tables M w) ≡ Take n m
        → IsInTheWay w t n m u
        → Next w (Advance t) (Busy n u) w
    is_full : (t : ℕ) (o : Open M) (c : Change) (p : Position) → w.active t ≡ Some o
        → IsGranted w t (ask (tx_of M t o) o.now.position (tables M w))
        → act (tx_of M t o) o.now.position (tables M w) ≡ Go (Some c) p
        → IsFull w o c
        → Next w (Advance t) Undo_full w
    is_rejected : (t : ℕ) (q : Request) (e : Refusal) → rejection q (tables M w) ≡ Some e
        → Next w (Begin t q) (Rejected e) w
    is_open : (t : ℕ) (q : Request) (o : Open M) → rejection q (tables M w) ≡ None → w.active t ≡ Some o
        → Next w (Begin t q) Already_open w
    number_is_rejected : (t : ℕ) (q : Request) (e : Refusal) → rejection q (tables M w) ≡ None → w.active t ≡ None
        → number_rejection (number M w t) ≡ Some e
        → Next w (Begin t q) (Rejected e) w
    query_is_rejected : (m : ℕ) (q : Query) (e : Refusal) → query_rejection q (tables M w) ≡ Some e
        → Next w (Read m q) (Rejected e) w
    misses : (m : ℕ) (q : Query) (e : Refusal) → query_rejection q (tables M w) ≡ None → horizon M w ≤ m
        → m ≤ newest M w
        → find q (at M w m) ≡ Missing e
        → Next w (Read m q) (Rejected e) w
    not_open : (s : Step) (t : ℕ) → works_on s ≡ Some t → w.active t ≡ None → Next w s Not_open w
    too_old : (s : Step) (m : ℕ) → moment s ≡ Some m → IsPast w s → m < horizon M w → Next w s (Too_old (horizon M w)) w
    future : (s : Step) (m : ℕ) → moment s ≡ Some m → IsPast w s → newest M w < m → Next w s (Future (newest M w)) w
    not_quiet : (m : ℕ) (n : ℕ) → count_open w.active terminal_limit ≡ suc n → Next w (Rewind m) (Not_quiet (suc n)) w
    -- wants of memory, which change nothing
    lacks_memory_at_begin : (t : ℕ) (q : Request) → MayBegin w t q → Next w (Begin t q) No_memory w
    lacks_memory : (t : ℕ) (o : Open M) → w.active t ≡ Some o
        → MayLackMemory w t o (ask (tx_of M t o) o.now.position (tables M w)) → Next w (Advance t) No_memory w

  -- these steps, so answered, lead from w to the last world
  abbrev pub Runs : World M → List Step → List Answer → World M → Type 0
  Runs w [] [] w' = w ≡ w'
  Runs w (i ∷ is) (a ∷ ys) w' = (v : World M) × Next w i a v × Runs v is ys w'
  Runs w [] (a ∷ ys) w' = ⊥
  Runs w (i ∷ is) [] w' = ⊥

  -- such runs, over steps with their answers
  pub record Event : Type 0 where
    pub step : Step
    pub answer : Answer

  -- a run over events
  abbrev pub Run : World M → List Event → World M → Type 0
  Run w [] w' = w ≡ w'
  Run w (e ∷ es) w' = (v : World M) × Next w e.step e.answer v × Run v es w'

  -- steps with their answers, as far as both lists go
  abbrev pub events : List Step → List Answer → List Event
  events (i ∷ is) (a ∷ ys) = record { step = i; answer = a } ∷ events is ys
  events [] ys = []
  events (i ∷ is) [] = []

  -- the steps of events
  abbrev pub steps_of : List Event → List Step
  steps_of [] = []
  steps_of (e ∷ es) = e.step ∷ steps_of es

  -- the answers of events
  abbrev pub answers_of : List Event → List Answer
  answers_of [] = []
  answers_of (e ∷ es) = e.answer ∷ answers_of es
