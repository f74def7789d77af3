-- What is proved of what a server stores: each step of the world is one change of the store, and each condition of a
-- step is one on the store.
use Rattle.std.specs.Prelude.{◌≡◌, ◌↔◌, ℕ, suc, ◌+◌, ◌≤◌, ◌<◌, Option, None, Some, List, [], ◌++◌, take, length}
use Rattle.oe_theory.specs.Machine.{Machine, Mode, Ask, Stop, Take, Fail, Go, Ready, Here, Missing}
use Rattle.oe_theory.specs.World.{World, IsTerminal, overlay, counts_now, counts_at, horizon, newest, at, latest}
use Rattle.oe_theory.specs.World.{tables}
use Rattle.oe_theory.specs.Next.{fill_of, extents_used, IsGranted, IsInTheWay, HasRoom, IsFull, MayLackMemory, IsQuiet}
use Rattle.oe_theory.specs.Next.{count_open, IsPast, MayBegin, Step, Begin, Advance, Save, Back, Rollback, Read, Audit}
use Rattle.oe_theory.specs.Next.{Purge, Rewind, Answer, Begun, More, Committed, Saved, Gone_back, Rolled_back, Replied}
use Rattle.oe_theory.specs.Next.{Audited, Purged, Rewound, Aborted, Rejected, Busy, Undo_full, Not_open, Already_open}
use Rattle.oe_theory.specs.Next.{Too_old, Future, Not_quiet, No_memory, works_on, moment, Next}
use Rattle.oe_theory.specs.Laws.{IsGood, Alone}
use Rattle.oe_theory.specs.Undo.{Undo, unwind_open, unwind_commits, row_before_open, row_before_commits, HasRecord}
use Rattle.oe_theory.specs.Undo.{HasRecordIn, GoesBack, open_records, commit_records, IsAmong, Keeps, lengths_of}
use Rattle.oe_theory.specs.Undo.{put_records, used_of, undo_after}
use Rattle.oe_theory.specs.Store.{Slot, Store, tx_in, changes_of, open_in_slot, world_of, store_of, newest_version}
use Rattle.oe_theory.specs.Store.{newest_of, horizon_of, commits_after, version_of, counts_of, opened_store, put_slot}
use Rattle.oe_theory.specs.Store.{first_slot, without_slot, after_stage, after_seal, back_at_mark, with_mark}
use Rattle.oe_theory.specs.Store.{after_purge, after_rewind}
use Rattle.oe_theory.specs.Store.{without_slots, MayBeginIn, IsGrantedIn, IsInTheWayIn, HasRoomIn, IsFullIn}
use Rattle.oe_theory.specs.Store.{TakesNoRoom}
use Rattle.oe_theory.specs.Store.{MayLackMemoryIn, IsQuietIn, count_slots, IsPastIn}
use Rattle.oe_theory.specs.Theorems.{world_at_opening, IsReached}

module _ (M : Machine) where
  -- the store stands for a world that steps led to, has the records of that world, and is what is stored of it
  pub record IsStanding (s : Store M) : Type 0 where
    pub reached : IsReached M (world_of M s)
    pub keeps : Keeps M (world_of M s) s.undo
    pub same : store_of M (world_of M s) s.undo ≡ s

  -- the step may be answered so, and leaves this store, which stands too
  pub record Leads (s : Store M) (i : Step M) (a : Answer M) (s' : Store M) : Type 0 where
    pub next : Next M (world_of M s) i a (world_of M s')
    pub stands : IsStanding s'

  -- a world is the one that what is stored of it stands for
  abbrev pub World_is_stored : Type 0
  World_is_stored = (w : World M) (u : Undo M) → IsReached M w → Keeps M w u
      → (world_of M (store_of M w u) ≡ w) × IsStanding (store_of M w u)

  -- so each step of the world is a step of the store
  abbrev pub Store_follows : Type 0
  Store_follows =
      (s : Store M) (i : Step M) (a : Answer M) (v : World M) → IsStanding s → Next M (world_of M s) i a v
      → Leads s i a (store_of M v (undo_after M (world_of M s) s.undo a i))
      × (world_of M (store_of M v (undo_after M (world_of M s) s.undo a i)) ≡ v)

  -- a store just opened on a good base stands for the world just opened
  abbrev pub Opening_stands : Type 0
  Opening_stands = (b : M.Map) (n : ℕ) (l : M.Layout) → M.Good (λ _. 0) b → IsStanding (opened_store M b n l)
      × (world_of M (opened_store M b n l) ≡ world_at_opening M b n l)

  -- where nothing is in the way a transaction begins in its terminal's slot
  abbrev pub Begins_here : Type 0
  Begins_here = (s : Store M) (t : ℕ) (q : M.Request) → IsStanding s → MayBeginIn M s t q
      → Leads s (Begin t q) Begun (put_slot M t (Some (first_slot M s t q)) s)

  -- a request that is turned away changes nothing, whatever else is in the way
  abbrev pub Is_rejected_here : Type 0
  Is_rejected_here = (s : Store M) (t : ℕ) (q : M.Request) (e : M.Refusal) → IsStanding s
      → M.rejection q s.tables ≡ Some e → Leads s (Begin t q) (Rejected e) s

  -- nor does one of a terminal that has a transaction open
  abbrev pub Is_open_here : Type 0
  Is_open_here =
      (s : Store M) (t : ℕ) (q : M.Request) (p : Slot M) → IsStanding s → M.rejection q s.tables ≡ None
      → s.slots t ≡ Some p
      → Leads s (Begin t q) Already_open s

  -- nor one whose transaction could not have its number
  abbrev pub Number_is_rejected_here : Type 0
  Number_is_rejected_here =
      (s : Store M) (t : ℕ) (q : M.Request) (e : M.Refusal) → IsStanding s → M.rejection q s.tables ≡ None
      → s.slots t ≡ None
      → M.number_rejection (suc (s.counts t)) ≡ Some e
      → Leads s (Begin t q) (Rejected e) s

  -- where a transaction may begin a want of memory may be answered too
  abbrev pub Lacks_memory_at_begin_here : Type 0
  Lacks_memory_at_begin_here = (s : Store M) (t : ℕ) (q : M.Request) → IsStanding s → MayBeginIn M s t q
      → Leads s (Begin t q) No_memory s

  -- a stage whose lock is granted makes its change, if it makes one and its record has room, and the transaction goes
  -- on
  abbrev pub Goes_on_here : Type 0
  Goes_on_here =
      (s : Store M) (t : ℕ) (p : Slot M) (c : Option M.Change) (q : M.Position) → IsStanding s → s.slots t ≡ Some p
      → IsGrantedIn M s.slots t (M.ask (tx_in M t p) p.position s.tables)
      → M.act (tx_in M t p) p.position s.tables ≡ Go c q
      → HasRoomIn M s t c
      → Leads s (Advance t) More (after_stage M t p (M.ask (tx_in M t p) p.position s.tables) c q s)

  -- where no record takes room there is always some
  abbrev pub Is_room_here : Type 0
  Is_room_here = TakesNoRoom M → (s : Store M) (t : ℕ) (c : Option M.Change) → HasRoomIn M s t c

  -- a stage that is ready commits its transaction, at the next moment
  abbrev pub Commits_here : Type 0
  Commits_here =
      (s : Store M) (t : ℕ) (p : Slot M) (reply : M.Reply) → IsStanding s → s.slots t ≡ Some p
      → IsGrantedIn M s.slots t (M.ask (tx_in M t p) p.position s.tables)
      → M.act (tx_in M t p) p.position s.tables ≡ Ready reply
      → Leads s (Advance t) (Committed (suc (newest_of M s)) reply) (after_seal M t p reply s)

  -- a stage that stops before its lock rolls its transaction back
  abbrev pub Stops_here : Type 0
  Stops_here =
      (s : Store M) (t : ℕ) (p : Slot M) (e : M.Refusal) → IsStanding s → s.slots t ≡ Some p
      → M.ask (tx_in M t p) p.position s.tables ≡ Stop e
      → Leads s (Advance t) (Aborted e) (without_slot M t s)

  -- a stage that fails rolls its transaction back
  abbrev pub Fails_here : Type 0
  Fails_here =
      (s : Store M) (t : ℕ) (p : Slot M) (e : M.Refusal) → IsStanding s → s.slots t ≡ Some p
      → IsGrantedIn M s.slots t (M.ask (tx_in M t p) p.position s.tables)
      → M.act (tx_in M t p) p.position s.tables ≡ Fail e
      → Leads s (Advance t) (Aborted e) (without_slot M t s)

  -- a lock that another transaction has is refused with the least terminal that is in the way, and nothing changes
  abbrev pub Is_busy_here : Type 0
  Is_busy_here =
      (s : Store M) (t : ℕ) (p : Slot M) (n : M.Name) (m : Mode) (u : ℕ) → IsStanding s → s.slots t ≡ Some p
      → M.ask (tx_in M t p) p.position s.tables ≡ Take n m
      → IsInTheWayIn M s.slots t n m u
      → Leads s (Advance t) (Busy n u) s

  -- a change whose record has no room is not made
  abbrev pub Is_full_here : Type 0
  Is_full_here =
      (s : Store M) (t : ℕ) (p : Slot M) (c : M.Change) (q : M.Position) → IsStanding s → s.slots t ≡ Some p
      → IsGrantedIn M s.slots t (M.ask (tx_in M t p) p.position s.tables)
      → M.act (tx_in M t p) p.position s.tables ≡ Go (Some c) q
      → IsFullIn M s t c
      → Leads s (Advance t) Undo_full s

  -- a want of memory changes nothing
  abbrev pub Lacks_memory_here : Type 0
  Lacks_memory_here =
      (s : Store M) (t : ℕ) (p : Slot M) → IsStanding s → s.slots t ≡ Some p
      → MayLackMemoryIn M s t p (M.ask (tx_in M t p) p.position s.tables)
      → Leads s (Advance t) No_memory s

  -- the mark moves to where the transaction stands
  abbrev pub Saves_here : Type 0
  Saves_here = (s : Store M) (t : ℕ) (p : Slot M) → IsStanding s → s.slots t ≡ Some p
      → Leads s (Save t) Saved (with_mark M t p s)

  -- the transaction goes back to its mark
  abbrev pub Goes_back_here : Type 0
  Goes_back_here = (s : Store M) (t : ℕ) (p : Slot M) → IsStanding s → s.slots t ≡ Some p
      → Leads s (Back t) Gone_back (back_at_mark M t p s)

  -- the transaction is rolled back
  abbrev pub Rolls_back_here : Type 0
  Rolls_back_here = (s : Store M) (t : ℕ) (p : Slot M) → IsStanding s → s.slots t ≡ Some p
      → Leads s (Rollback t) Rolled_back (without_slot M t s)

  -- a step of a transaction that is not open changes nothing
  abbrev pub Is_not_open_here : Type 0
  Is_not_open_here = (s : Store M) (i : Step M) (t : ℕ) → IsStanding s → works_on M i ≡ Some t → s.slots t ≡ None
      → Leads s i Not_open s

  -- a query of a moment that can be read is answered from the version of that moment
  abbrev pub Reads_here : Type 0
  Reads_here =
      (s : Store M) (m : ℕ) (q : M.Query) (f : M.Found) → IsStanding s → M.query_rejection q s.tables ≡ None
      → horizon_of M s ≤ m → m ≤ newest_of M s
      → M.find q (version_of M s m) ≡ Here f
      → Leads s (Read m q) (Replied f) s

  -- a query that finds nothing there is answered from that version too
  abbrev pub Misses_here : Type 0
  Misses_here =
      (s : Store M) (m : ℕ) (q : M.Query) (e : M.Refusal) → IsStanding s → M.query_rejection q s.tables ≡ None
      → horizon_of M s ≤ m → m ≤ newest_of M s
      → M.find q (version_of M s m) ≡ Missing e
      → Leads s (Read m q) (Rejected e) s

  -- a query that is turned away is so at any moment
  abbrev pub Query_is_rejected_here : Type 0
  Query_is_rejected_here =
      (s : Store M) (m : ℕ) (q : M.Query) (e : M.Refusal) → IsStanding s → M.query_rejection q s.tables ≡ Some e
      → Leads s (Read m q) (Rejected e) s

  -- a condition is judged on the version of its moment
  abbrev pub Audits_here : Type 0
  Audits_here =
      (s : Store M) (m : ℕ) (c : M.Condition) → IsStanding s → horizon_of M s ≤ m → m ≤ newest_of M s
      → Leads s (Audit m c) (Audited (M.verdict c (version_of M s m))) s

  -- a purge lets the records and seals of the commits up to its moment go
  abbrev pub Purges_here : Type 0
  Purges_here = (s : Store M) (m : ℕ) → IsStanding s → horizon_of M s ≤ m → m ≤ newest_of M s
      → Leads s (Purge m) (Purged m) (after_purge M m s)

  -- a rewind, while nothing is open, undoes the commits after its moment
  abbrev pub Rewinds_here : Type 0
  Rewinds_here =
      (s : Store M) (m : ℕ) → IsStanding s → IsQuietIn M s.slots → horizon_of M s ≤ m → m ≤ newest_of M s
      → Leads s (Rewind m) (Rewound m) (after_rewind M m s)

  -- while transactions are open it is refused with their number, at any moment
  abbrev pub Is_not_quiet_here : Type 0
  Is_not_quiet_here = (s : Store M) (m n : ℕ) → IsStanding s → count_slots M s.slots M.terminal_limit ≡ suc n
      → Leads s (Rewind m) (Not_quiet (suc n)) s

  -- a moment before the horizon is refused with the horizon, by each step that names one
  abbrev pub Is_too_old_here : Type 0
  Is_too_old_here =
      (s : Store M) (i : Step M) (m : ℕ) → IsStanding s → moment M i ≡ Some m → IsPastIn M s i → m < horizon_of M s
      → Leads s i (Too_old (horizon_of M s)) s

  -- a moment after the newest is refused with the newest, by each step that names one
  abbrev pub Is_future_here : Type 0
  Is_future_here =
      (s : Store M) (i : Step M) (m : ℕ) → IsStanding s → moment M i ≡ Some m → IsPastIn M s i → newest_of M s < m
      → Leads s i (Future (newest_of M s)) s

  -- each step, with each of its answers, is one change of the store
  pub record Steps_of_the_store : Type 0 where
    pub begins : Begins_here
    pub is_rejected : Is_rejected_here
    pub is_open : Is_open_here
    pub number_is_rejected : Number_is_rejected_here
    pub lacks_memory_at_begin : Lacks_memory_at_begin_here
    pub goes_on : Goes_on_here
    pub is_room : Is_room_here
    pub commits : Commits_here
    pub stops : Stops_here
    pub fails : Fails_here
    pub is_busy : Is_busy_here
    pub is_full : Is_full_here
    pub lacks_memory : Lacks_memory_here
    pub saves : Saves_here
    pub goes_back : Goes_back_here
    pub rolls_back : Rolls_back_here
    pub is_not_open : Is_not_open_here
    pub reads : Reads_here
    pub misses : Misses_here
    pub query_is_rejected : Query_is_rejected_here
    pub audits : Audits_here
    pub purges : Purges_here
    pub rewinds : Rewinds_here
    pub is_not_quiet : Is_not_quiet_here
    pub is_too_old : Is_too_old_here
    pub is_future : Is_future_here

  -- the conditions on the store are exactly those on its world
  pub record Is_exact (s : Store M) : Type 0 where
    pub closed : (t : ℕ) → ((world_of M s).active t ≡ None) ↔ (s.slots t ≡ None)
    pub begins : (t : ℕ) (q : M.Request) → MayBegin M (world_of M s) t q ↔ MayBeginIn M s t q
    pub granted : (t : ℕ) (a : Ask M.Name M.Refusal) → IsGranted M (world_of M s) t a ↔ IsGrantedIn M s.slots t a
    pub in_the_way : (t : ℕ) (n : M.Name) (m : Mode) (u : ℕ)
        → IsInTheWay M (world_of M s) t n m u ↔ IsInTheWayIn M s.slots t n m u
    pub room : (t : ℕ) (p : Slot M) (c : Option M.Change)
        → HasRoom M (world_of M s) (open_in_slot M (s.undo.active t) s.tables p) c ↔ HasRoomIn M s t c
    pub full : (t : ℕ) (p : Slot M) (c : M.Change)
        → IsFull M (world_of M s) (open_in_slot M (s.undo.active t) s.tables p) c ↔ IsFullIn M s t c
    pub lacks_memory : (t : ℕ) (p : Slot M) (a : Ask M.Name M.Refusal)
        → MayLackMemory M (world_of M s) t (open_in_slot M (s.undo.active t) s.tables p) a ↔ MayLackMemoryIn M s t p a
    pub quiet : IsQuiet M (world_of M s) ↔ IsQuietIn M s.slots
    pub open_count : count_open M (world_of M s).active M.terminal_limit ≡ count_slots M s.slots M.terminal_limit
    pub past : (i : Step M) → IsPast M (world_of M s) i ↔ IsPastIn M s i

  -- for each store that stands
  abbrev pub Conditions_are_exact : Type 0
  Conditions_are_exact = (s : Store M) → IsStanding s → Is_exact s

  -- what a store shows of the world that it stands for
  pub record Is_shown (s : Store M) : Type 0 where
    pub tables : tables M (world_of M s) ≡ s.tables
    pub counts : counts_now M (world_of M s) ≡ s.counts
    pub newest : newest M (world_of M s) ≡ newest_of M s
    pub horizon : horizon M (world_of M s) ≡ horizon_of M s
    pub latest : latest M (world_of M s) ≡ newest_version M s
    pub versions : (m : ℕ) → at M (world_of M s) m ≡ version_of M s m
    pub counts_at : (m : ℕ) → counts_at M (world_of M s) m ≡ counts_of M s m
    pub used : extents_used M (world_of M s) ≡ used_of M s.undo

  -- of each store that stands
  abbrev pub World_is_shown : Type 0
  World_is_shown = (s : Store M) → IsStanding s → Is_shown s

  -- what holds of every store that stands
  pub record Is_orderly (s : Store M) : Type 0 where
    -- an open transaction is of a terminal, has its next number, and its mark is not past its records
    pub terminal : (t : ℕ) (p : Slot M) → s.slots t ≡ Some p → IsTerminal M t
    pub number : (t : ℕ) (p : Slot M) → s.slots t ≡ Some p → p.number ≡ suc (s.counts t)
    pub mark : (t : ℕ) (p : Slot M) → s.slots t ≡ Some p → p.mark_count ≤ length (s.undo.active t)
    -- who has no open transaction has no records
    pub others : (t : ℕ) → s.slots t ≡ None → s.undo.active t ≡ []
    -- each commit that is kept has its records, and is counted
    pub sealed : length s.undo.history ≡ length s.seals
    pub kept : length s.seals ≤ newest_of M s
    -- no more extents are used than there are
    pub within : used_of M s.undo ≤ s.extents
    -- if none is open below the limit none is, and then the tables are the newest version
    pub quiet : count_slots M s.slots M.terminal_limit ≡ 0 → IsQuietIn M s.slots
    pub quiet_tables : IsQuietIn M s.slots → s.tables ≡ newest_version M s
    -- the newest version is the newest moment's, and every version is good
    pub newest : newest_version M s ≡ version_of M s (newest_of M s)
    pub good : (m : ℕ) → M.Good (counts_of M s m) (version_of M s m)

  -- for each store that stands
  abbrev pub Store_is_orderly : Type 0
  Store_is_orderly = (s : Store M) → IsStanding s → Is_orderly s

  -- an open transaction's program alone, from the newest version, comes to its position, and finds there what it finds
  -- in the tables
  pub record Is_alone (s : Store M) (t : ℕ) (p : Slot M) : Type 0 where
    pub known : M.rejection p.request (newest_version M s) ≡ None
    pub good : IsGood M s.counts (tx_in M t p) (newest_version M s)
    pub alone : Alone M (tx_in M t p) (newest_version M s)
        (record { position = p.position; changes = changes_of M (s.undo.active t) s.tables })
    pub asks : M.ask (tx_in M t p) p.position s.tables ≡ M.ask (tx_in M t p) p.position
        (overlay M (changes_of M (s.undo.active t) s.tables) (newest_version M s))
    pub acts : IsGrantedIn M s.slots t (M.ask (tx_in M t p) p.position s.tables)
        → M.act (tx_in M t p) p.position s.tables ≡ M.act (tx_in M t p) p.position
        (overlay M (changes_of M (s.undo.active t) s.tables) (newest_version M s))

  -- for each open transaction
  abbrev pub Runs_alone_here : Type 0
  Runs_alone_here = (s : Store M) (t : ℕ) (p : Slot M) → IsStanding s → s.slots t ≡ Some p → Is_alone s t p

  -- every open transaction is of a terminal listed
  abbrev pub AreAllIn : Store M → List ℕ → Type 0
  AreAllIn s ts = (t : ℕ) (p : Slot M) → s.slots t ≡ Some p → IsAmong M t ts

  -- a version is found by putting back the records of all open transactions, in any order, and of the commits after it
  abbrev pub Version_is_here : Type 0
  Version_is_here =
      (s : Store M) (ts : List ℕ) (m : ℕ) → IsStanding s → AreAllIn s ts
      → unwind_commits M (take (commits_after M s m) s.undo.history) (unwind_open M s.undo.active ts s.tables)
      ≡ version_of M s m

  -- one row of a version is found so, by the records of its key
  abbrev pub Row_is_here : Type 0
  Row_is_here =
      (s : Store M) (ts : List ℕ) (m : ℕ) (k : M.Key) → IsStanding s → AreAllIn s ts
      → row_before_commits M k (take (commits_after M s m) s.undo.history)
      (row_before_open M k s.undo.active ts (M.row_at s.tables k)) ≡ M.row_at (version_of M s m) k

  -- a key without a record, of open transactions and of commits after a moment, has in its version the row that it has
  -- now
  abbrev pub Row_without_record_here : Type 0
  Row_without_record_here =
      (s : Store M) (m : ℕ) (k : M.Key) → IsStanding s
      → ((t : ℕ) → HasRecord M k (s.undo.active t) → ⊥)
      → (HasRecordIn M k (take (commits_after M s m) s.undo.history) → ⊥)
      → M.row_at (version_of M s m) k ≡ M.row_at s.tables k

  -- the records of one key lie in at most one open transaction
  abbrev pub Records_are_apart_here : Type 0
  Records_are_apart_here =
      (s : Store M) (t v : ℕ) (k : M.Key) → IsStanding s → HasRecord M k (s.undo.active t)
      → HasRecord M k (s.undo.active v) → t ≡ v

  -- put back in turn, open transactions' in any order and then commits' from the newest, each record finds the row that
  -- its change left, and P holds all the way
  abbrev pub Each_goes_back_here : (M.Map → Type 0) → Type 0
  Each_goes_back_here P =
      (s : Store M) (ts : List ℕ) → IsStanding s → AreAllIn s ts
      → GoesBack M s.layout P (open_records M s.undo.active ts ++ commit_records M s.undo.history) s.tables

  -- a transaction rolled back leaves every version, and where none is open nothing changes
  pub record Is_dropped (s : Store M) (t : ℕ) (s' : Store M) : Type 0 where
    pub stands : IsStanding s'
    pub versions : (m : ℕ) → version_of M s' m ≡ version_of M s m
    pub newest : newest_version M s' ≡ newest_version M s
    pub idle : s.slots t ≡ None → s' ≡ s

  -- at any terminal
  abbrev pub Rollback_leaves_versions : Type 0
  Rollback_leaves_versions = (s : Store M) (t : ℕ) → IsStanding s → Is_dropped s t (without_slot M t s)

  -- what is left once every open transaction was rolled back: the newest version of the same commits
  pub record Is_closed (s s' : Store M) : Type 0 where
    pub stands : IsStanding s'
    pub quiet : IsQuietIn M s'.slots
    pub tables : s'.tables ≡ newest_version M s
    pub versions : (m : ℕ) → version_of M s' m ≡ version_of M s m
    pub seals : s'.seals ≡ s.seals
    pub counts : s'.counts ≡ s.counts

  -- the rows are so once the transactions of a list that has all open ones were rolled back
  abbrev pub Closing_leaves_newest : Type 0
  Closing_leaves_newest = (s : Store M) (ts : List ℕ) → IsStanding s → AreAllIn s ts
      → Is_closed s (without_slots M ts s)

  -- one terminal's share in the extents that are used: what its records filled before, against what they fill now
  abbrev pub Used_is_a_sum : Type 0
  Used_is_a_sum =
      (u : Undo M) (t : ℕ) (bs : List M.Record) → t < M.terminal_limit
      → used_of M (put_records M t bs u) + (fill_of M (lengths_of M (u.active t))).0 ≡ used_of M
      u + (fill_of M (lengths_of M bs)).0

  -- a commit uses the extents that its transaction used
  abbrev pub Sealing_uses_the_same : Type 0
  Sealing_uses_the_same =
      (s : Store M) (t : ℕ) (p : Slot M) (reply : M.Reply) → t < M.terminal_limit
      → used_of M (after_seal M t p reply s).undo ≡ used_of M s.undo

  -- all that a store tells
  pub record Facts_of_the_store : Type 0 where
    pub exact : Conditions_are_exact
    pub shown : World_is_shown
    pub orderly : Store_is_orderly
    pub alone : Runs_alone_here
    pub version : Version_is_here
    pub row : Row_is_here
    pub without_record : Row_without_record_here
    pub apart : Records_are_apart_here
    pub rollback : Rollback_leaves_versions
    pub closing : Closing_leaves_newest
    pub used : Used_is_a_sum
    pub sealing : Sealing_uses_the_same
