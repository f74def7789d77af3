-- The local laws that a machine's rows and programs have to meet, and what is invariant of its worlds.
use Rattle.std.specs.Prelude.{◌≡◌, ℕ, suc, ◌≢◌, true, cond, Option, None, Some, List, [], ◌∷◌, ◌++◌, ◌⊎◌}
use Rattle.oe_theory.specs.Machine.{Machine, Mode, Shared, Exclusive, Guard, Free, Under, Own, Ask, Stop, Plain, Take}
use Rattle.oe_theory.specs.Machine.{Fail, Go, Ready, Tx, Hold}
use Rattle.oe_theory.specs.World.{IsEnough, bump, State, Open, World, IsTerminal, tx_of, overlay, add, latest}
use Rattle.oe_theory.specs.World.{counts_now, IsSerial}

module _ (M : Machine) where
  open M use {
    Map,
    Key,
    Change,
    Facet,
    is_key,
    row_at,
    key_of,
    row_of,
    put,
    facet_key,
    part,
    Name,
    is_name,
    governs,
    governs_part,
    Request,
    Query,
    Position,
    Reply,
    Refusal,
    start,
    ask,
    act,
    taken,
    whole,
    Good,
    terminal_limit,
  }

  -- some hold of the list is of this name, and enough for this mode
  abbrev pub Holds : List (Hold Name) → Name → Mode → Type 0
  Holds [] n m = ⊥
  Holds (h ∷ hs) n m = ((h.name ≡ n) × IsEnough (Some h.mode) m) ⊎ Holds hs n m

  -- the list with the lock that is asked for
  abbrev pub with_asked : Ask Name Refusal → List (Hold Name) → List (Hold Name)
  with_asked (Stop e) hs = hs
  with_asked Plain hs = hs
  with_asked (Take n m) hs = record { name = n; mode = m } ∷ hs

  -- who holds these names may read, and may write, a row under this guard
  abbrev pub MayRead : (Name → Mode → Type 0) → Tx Request → Guard Name → Type 0
  MayRead P x Free = ⊥
  MayRead P x (Under n) = P n Shared
  MayRead P x (Own t k) = (t ≡ x.terminal) × (k ≡ x.number)

  -- who holds these names may write a row under this guard
  abbrev pub MayWrite : (Name → Mode → Type 0) → Tx Request → Guard Name → Type 0
  MayWrite P x Free = ⊥
  MayWrite P x (Under n) = P n Exclusive
  MayWrite P x (Own t k) = (t ≡ x.terminal) × (k ≡ x.number)

  -- who holds these names may read a facet under this guard: what never changes anyone may read
  abbrev pub MayReadPart : (Name → Mode → Type 0) → Tx Request → Guard Name → Type 0
  MayReadPart P x Free = Unit {0}
  MayReadPart P x (Under n) = P n Shared
  MayReadPart P x (Own t k) = (t ≡ x.terminal) × (k ≡ x.number)

  -- the maps agree on each row, and on each facet of a row, that may be read
  pub record Alike (P : Name → Mode → Type 0) (x : Tx Request) (r s : Map) : Type 0 where
    pub rows : (k : Key) → MayRead P x (governs k) → row_at r k ≡ row_at s k
    pub parts : (f : Facet) → MayReadPart P x (governs_part f)
        → part f (row_at r (facet_key f)) ≡ part f (row_at s (facet_key f))

  -- the maps agree on what never changes
  abbrev pub IsSameEver : Map → Map → Type 0
  IsSameEver r s = (f : Facet) → governs_part f ≡ Free
      → part f (row_at r (facet_key f)) ≡ part f (row_at s (facet_key f))

  -- held in a mode that is enough
  abbrev pub held_of : (Name → Option Mode) → Name → Mode → Type 0
  held_of held n m = IsEnough (held n) m

  -- a lock that is asked for is held
  abbrev pub IsAsked : (Name → Option Mode) → Ask Name Refusal → Type 0
  IsAsked held (Stop e) = ⊥
  IsAsked held Plain = Unit {0}
  IsAsked held (Take n m) = IsEnough (held n) m

  -- where each program begins
  abbrev pub first : Tx Request → State M
  first x = record { position = start x; changes = [] }

  -- the program alone, from the map r, comes to this state by locks that are held
  pub data Reached (held : Name → Option Mode) (x : Tx Request) (r : Map) : State M → Type 0 where
    at_start : Reached held x r (first x)
    one_more : (s : State M) (c : Option Change) (p : Position) → Reached held x r s
        → IsAsked held (ask x s.position (overlay M s.changes r))
        → act x s.position (overlay M s.changes r) ≡ Go c p
        → Reached held x r (record { position = p; changes = add M c s.changes })

  -- with each lock granted
  abbrev pub Alone : Tx Request → Map → State M → Type 0
  Alone = Reached (λ _. Some Exclusive)

  -- each name held alone
  abbrev pub all_held : Name → Option Mode
  all_held n = Some Exclusive

  -- what a transaction that begins finds: tables between transactions that do not reject it, and its own number
  pub record IsGood (f : ℕ → ℕ) (x : Tx Request) (r : Map) : Type 0 where
    pub good : Good f r
    pub valid : M.IsRequest x.request
    pub known : M.rejection x.request r ≡ None
    pub terminal : IsTerminal M x.terminal
    pub number : x.number ≡ suc (f x.terminal)

  -- the map after a change, if there is one
  abbrev pub after : Option Change → Map → Map
  after None r = r
  after (Some c) r = put c r

  -- what is asked of a change, if there is one
  abbrev pub Fit : (Change → Map → Type 0) → Option Change → Map → Type 0
  Fit Fits None r = Unit {0}
  Fit Fits (Some c) r = Fits c r

  -- The program alone, from this position and map, each lock granted, ends with this map and reply, or with none and
  -- one of these refusals; and each change that it makes fits the map on which it is made.
  pub data Ends (x : Tx Request) (Only : Refusal → Type 0) (Fits : Change → Map → Type 0) : Position → Map
      → Option (Map × Reply) → Type 0 where
    stops_here : (p : Position) (r : Map) (e : Refusal) → Only e → ask x p r ≡ Stop e → Ends x Only Fits p r None
    fails_here : (p : Position) (r : Map) (e : Refusal) → Only e → IsAsked all_held (ask x p r) → act x p r ≡ Fail e
        → Ends x Only Fits p r None
    ends_here : (p : Position) (r : Map) (reply : Reply) → IsAsked all_held (ask x p r) → act x p r ≡ Ready reply
        → Ends x Only Fits p r (Some (r, reply))
    goes_here : (p : Position) (r : Map) (c : Option Change) (q : Position) (end : Option (Map × Reply))
        → IsAsked all_held (ask x p r) → act x p r ≡ Go c q → Fit Fits c r
        → Ends x Only Fits q (after c r) end → Ends x Only Fits p r end

  -- what a machine has to meet
  pub record Laws : Type 0 where
    -- rows
    pub key_true : (a b : Key) → is_key a b ≡ true → a ≡ b
    pub key_refl : (a : Key) → is_key a a ≡ true
    pub at_put : (c : Change) (r : Map) (k : Key)
        → row_at (put c r) k ≡ cond (is_key k (key_of c)) (row_of c) (row_at r k)
    pub same_map : (r s : Map) → ((k : Key) → row_at r k ≡ row_at s k) → r ≡ s
    -- undo records
    pub record_key_of : (l : M.Layout) (c : Change) (v : Option M.Row) → M.record_key (M.record_of l c v) ≡ key_of c
    pub restores : (l : M.Layout) (c : Change) (r : Map)
        → M.restore (M.record_of l c (row_at r (key_of c))) (row_of c) ≡ row_at r (key_of c)
    pub at_put_back : (b : M.Record) (r : Map) (k : Key)
        → row_at (M.put_back b r) k ≡ cond (is_key k (M.record_key b)) (M.restore b (row_at r k)) (row_at r k)
    pub redoes : (l : M.Layout) (c : Change) (v : Option M.Row) (r : Map) → row_at r (key_of c) ≡ row_of c
        → M.redo (M.record_of l c v) r ≡ Some c
    -- names
    pub name_true : (a b : Name) → is_name a b ≡ true → a ≡ b
    pub name_refl : (a : Name) → is_name a a ≡ true
    -- programs, a stage at a time
    pub start_takes : (x : Tx Request) → taken x (start x) ≡ []
    pub ask_same : (x : Tx Request) (p : Position) (r s : Map) → Alike (Holds (taken x p)) x r s → ask x p r ≡ ask x p s
    -- (these three where the stage does not stop)
    pub act_same : (x : Tx Request) (p : Position) (r s : Map) → IsAsked all_held (ask x p r)
        → Alike (Holds (with_asked (ask x p r) (taken x p))) x r s → act x p r ≡ act x p s
    pub next_takes : (x : Tx Request) (p : Position) (r : Map) (c : Option Change) (q : Position)
        → IsAsked all_held (ask x p r) → act x p r ≡ Go c q
        → (n : Name) (m : Mode) → Holds (taken x q) n m → Holds (with_asked (ask x p r) (taken x p)) n m
    pub may_write : (x : Tx Request) (p : Position) (r : Map) (c : Change) (q : Position) → IsAsked all_held (ask x p r)
        → act x p r ≡ Go (Some c) q
        → MayWrite (Holds (with_asked (ask x p r) (taken x p))) x (governs (key_of c))
    -- (and this one where the program alone may come to the stage)
    pub keeps_part : (x : Tx Request) (r : Map) (s : State M) (c : Change) (q : Position) → Alone x r s
        → IsAsked all_held (ask x s.position (overlay M s.changes r))
        → act x s.position (overlay M s.changes r) ≡ Go (Some c) q
        → (f : Facet) → facet_key f ≡ key_of c
        → (part f (row_of c) ≡ part f (row_at (overlay M s.changes r) (key_of c)))
        ⊎ MayWrite (Holds (with_asked (ask x s.position (overlay M s.changes r)) (taken x s.position))) x
        (governs_part f)
    -- whether the tables accept a stage's change is the same where what may be read is alike
    pub accepts_same : (x : Tx Request) (p : Position) (r s : Map) (c : Change) (q : Position)
        → IsAsked all_held (ask x p r) → Alike (Holds (with_asked (ask x p r) (taken x p))) x r s
        → act x p r ≡ Go (Some c) q → M.Accepts c r → M.Accepts c s
    -- what a request or a query is rejected for reads what never changes
    pub rejection_same : (q : Request) (r s : Map) → IsSameEver r s → M.rejection q r ≡ M.rejection q s
    pub query_rejection_same : (q : Query) (r s : Map) → IsSameEver r s → M.query_rejection q r ≡ M.query_rejection q s
    -- a program run alone to its end has its whole effect, or none and a refusal that it may end with; each of its
    -- changes is accepted
    pub ends : (f : ℕ → ℕ) (x : Tx Request) (r : Map) → IsGood f x r
        → Ends x (M.MayRefuse x.request) M.Accepts (start x) r (whole x r)
    -- whole effects
    pub stays_good : (f : ℕ → ℕ) (x : Tx Request) (r after : Map) (reply : Reply) → IsGood f x r
        → whole x r ≡ Some (after, reply) → Good (bump x.terminal f) after

  -- An open transaction is where its program alone would be from r, the newest version, when f has the commits of each
  -- terminal.
  pub record IsOnCourse (f : ℕ → ℕ) (r : Map) (t : ℕ) (o : Open M) : Type 0 where
    pub terminal : IsTerminal M t
    pub number : o.number ≡ suc (f t)
    pub valid : M.IsRequest o.request
    pub known : M.rejection o.request r ≡ None
    pub now : Reached o.held (tx_of M t o) r o.now
    pub mark : Reached o.held (tx_of M t o) r o.mark
    -- the changes since the mark
    pub since : List Change
    pub split : o.now.changes ≡ since ++ o.mark.changes

  -- where the second may write, the first may not read
  abbrev pub AreApart : (Name → Option Mode) → (Name → Option Mode) → Type 0
  AreApart held held' = (n : Name) → IsEnough (held' n) Exclusive → IsEnough (held n) Shared → ⊥

  -- the worlds that steps can lead to
  pub record Sound (w : World M) : Type 0 where
    pub good : Good w.counts w.base
    pub serial : IsSerial M w.counts w.base w.history
    pub apart : (t u : ℕ) (o p : Open M) → t ≢ u → w.active t ≡ Some o → w.active u ≡ Some p → AreApart o.held p.held
    pub each : (t : ℕ) (o : Open M) → w.active t ≡ Some o → IsOnCourse (counts_now M w) (latest M w) t o
