-- What a server stores, the world that it stands for, and what each step does to it.
use Rattle.std.specs.Prelude.{◌≡◌, ℕ, suc, zero, ◌-◌, ◌<◌, ◌≤◌, ◌≢◌, ◌==◌, true, false, cond, Option, None, Some, List}
use Rattle.std.specs.Prelude.{[], ◌∷◌, length, take, drop, ◌⊎◌}
use Rattle.oe_theory.specs.Machine.{Machine, Mode, Ask, Stop, Plain, Take, Tx}
use Rattle.oe_theory.specs.World.{go_together, set, bump, total, Open, Commit, World, add, IsTerminal, counts_now}
use Rattle.oe_theory.specs.World.{tables}
use Rattle.oe_theory.specs.Next.{record_on, fill_of, held_after, IsNew, GivesWay, Step, Begin, Advance, Save, Back}
use Rattle.oe_theory.specs.Next.{Rollback, Read, Audit, Purge, Rewind}
use Rattle.oe_theory.specs.Undo.{Undo, lengths_of, unwind, unwind_open, unwind_commits, no_records, put_records}
use Rattle.oe_theory.specs.Undo.{used_of}

module _ (M : Machine) where
  open M use {
    Map,
    Change,
    Layout,
    Record,
    Name,
    Request,
    Position,
    Reply,
    Refusal,
    put,
    put_back,
    redo,
    size_of,
    start,
    act,
    marks,
    rejection,
    number_rejection,
    query_rejection,
    may_allocate,
    yields,
    terminal_limit,
  }

  -- what a server stores of an open transaction, beside its records
  pub record Slot : Type 0 where
    pub number : ℕ
    pub request : Request
    pub position : Position
    -- its mark: the position, and the number of records there
    pub mark_position : Position
    pub mark_count : ℕ
    pub held : Name → Option Mode

  -- what a server stores of a commit, beside its records
  pub record Seal : Type 0 where
    pub tx : Tx Request
    pub reply : Reply

  -- all that is stored
  pub record Store : Type 0 where
    -- the tables as they stand, open work included
    pub tables : Map
    pub undo : Undo M
    -- the slot of each terminal
    pub slots : ℕ → Option Slot
    -- newest first, as far back as they were not purged
    pub seals : List Seal
    -- the commits of each terminal so far: those that were purged are counted, those that were rewound are not
    pub counts : ℕ → ℕ
    pub extents : ℕ
    pub layout : Layout

  -- the transaction of a terminal's slot
  abbrev pub tx_in : ℕ → Slot → Tx Request
  tx_in t p = record { terminal = t; number = p.number; request = p.request }

  -- The world that is stored. The changes whose records these are, the newest first, where r has the rows that they
  -- left
  abbrev pub changes_of : List Record → Map → List Change
  changes_of [] r = []
  changes_of (b ∷ bs) r = add M (redo b r) (changes_of bs (put_back b r))

  -- the open transaction of a slot and its records, where r are the tables
  abbrev pub open_in_slot : List Record → Map → Slot → Open M
  open_in_slot bs r p =
      record {
        number = p.number;
        request = p.request;
        now = record { position = p.position; changes = changes_of bs r };
        mark = record { position = p.mark_position; changes = drop (length bs - p.mark_count) (changes_of bs r) };
        held = p.held;
        lengths = lengths_of M bs;
        mark_lengths = drop (length bs - p.mark_count) (lengths_of M bs);
      }

  -- if there is one
  abbrev pub open_of : List Record → Map → Option Slot → Option (Open M)
  open_of bs r None = None
  open_of bs r (Some p) = Some (open_in_slot bs r p)

  -- the commits of these seals and records
  abbrev pub history_of : List Seal → List (List Record) → List (Commit M)
  history_of (c ∷ cs) (bs ∷ ss) = record { tx = c.tx; reply = c.reply; lengths = lengths_of M bs } ∷ history_of cs ss
  history_of [] ss = []
  history_of (c ∷ cs) [] = []

  -- how many of these commits are the terminal's
  abbrev pub commit_count : ℕ → List Seal → ℕ
  commit_count t [] = 0
  commit_count t (c ∷ cs) = cond (t == c.tx.terminal) (suc (commit_count t cs)) (commit_count t cs)

  -- the commits of each terminal before these
  abbrev pub counts_before : (ℕ → ℕ) → List Seal → ℕ → ℕ
  counts_before f cs t = f t - commit_count t cs

  -- the terminals below n
  abbrev pub all_below : ℕ → List ℕ
  all_below zero = []
  all_below (suc n) = n ∷ all_below n

  -- the newest version: the tables with the records of all open transactions put back
  abbrev pub newest_version : Store → Map
  newest_version s = unwind_open M s.undo.active (all_below terminal_limit) s.tables

  -- the base is the newest version with the records of all commits put back
  abbrev pub world_of : Store → World M
  world_of s =
      record {
        base = unwind_commits M s.undo.history (newest_version s);
        counts = counts_before s.counts s.seals;
        history = history_of s.seals s.undo.history;
        active = λ t. open_of (s.undo.active t) s.tables (s.slots t);
        extents = s.extents;
        layout = s.layout;
      }

  -- What is stored of a world: of an open transaction beside its records
  abbrev pub slot_of : Option (Open M) → Option Slot
  slot_of None = None
  slot_of (Some o) =
      Some (record {
        number = o.number;
        request = o.request;
        position = o.now.position;
        mark_position = o.mark.position;
        mark_count = length o.mark.changes;
        held = o.held;
      })

  -- what is stored of commits beside their records
  abbrev pub seals_of : List (Commit M) → List Seal
  seals_of [] = []
  seals_of (c ∷ cs) = record { tx = c.tx; reply = c.reply } ∷ seals_of cs

  -- what is stored of a whole world, where u has its records
  abbrev pub store_of : World M → Undo M → Store
  store_of w u =
      record {
        tables = tables M w;
        undo = u;
        slots = λ t. slot_of (w.active t);
        seals = seals_of w.history;
        counts = counts_now M w;
        extents = w.extents;
        layout = w.layout;
      }

  -- Moments. The newest is the number of all commits so far
  abbrev pub newest_of : Store → ℕ
  newest_of s = total terminal_limit s.counts

  -- the oldest that can be read lies as far back as commits are kept
  abbrev pub horizon_of : Store → ℕ
  horizon_of s = newest_of s - length s.seals

  -- how many commits came after a moment
  abbrev pub commits_after : Store → ℕ → ℕ
  commits_after s m = newest_of s - m

  -- the version of a moment: the newest with the records of the commits after it put back
  abbrev pub version_of : Store → ℕ → Map
  version_of s m = unwind_commits M (take (commits_after s m) s.undo.history) (newest_version s)

  -- each terminal's number of commits up to a moment
  abbrev pub counts_of : Store → ℕ → ℕ → ℕ
  counts_of s m = counts_before s.counts (take (commits_after s m) s.seals)

  -- What the steps do. A store just opened
  abbrev pub opened_store : Map → ℕ → Layout → Store
  opened_store b n l = record {
    tables = b;
    undo = no_records M;
    slots = λ _. None;
    seals = [];
    counts = λ _. 0;
    extents = n;
    layout = l;
  }

  -- a terminal's slot replaced
  abbrev pub put_slot : ℕ → Option Slot → Store → Store
  put_slot t v s = record s { slots = set t v s.slots }

  -- a transaction at its first stage
  abbrev pub first_slot : Store → ℕ → Request → Slot
  first_slot s t q =
      let p : Position = start (record { terminal = t; number = suc (s.counts t); request = q }) in
      record {
        number = suc (s.counts t);
        request = q;
        position = p;
        mark_position = p;
        mark_count = 0;
        held = λ _. None;
      }

  -- a transaction rolled back: its records put back, and its slot empty
  abbrev pub without_slot : ℕ → Store → Store
  without_slot t s = record s {
    tables = unwind M (s.undo.active t) s.tables;
    undo = put_records M t [] s.undo;
    slots = set t None s.slots;
  }

  -- the records with one more, of a change of the tables r
  abbrev pub with_record_of : Layout → Option Change → Map → List Record → List Record
  with_record_of l None r bs = bs
  with_record_of l (Some c) r bs = record_on M l c r ∷ bs

  -- the tables with one more change
  abbrev pub with_change_of : Option Change → Map → Map
  with_change_of None r = r
  with_change_of (Some c) r = put c r

  -- the slot after a stage, where n records stood before it; where the stage begins at a mark of the program's own, the
  -- mark has moved there
  abbrev pub slot_after : Slot → ℕ → Ask Name Refusal → Position → Slot
  slot_after p n a q =
      record {
        number = p.number;
        request = p.request;
        position = q;
        mark_position = cond (marks p.position) p.position p.mark_position;
        mark_count = cond (marks p.position) n p.mark_count;
        held = held_after M a p.held;
      }

  -- a transaction that went on: its change made and recorded, and its slot moved
  abbrev pub after_stage : ℕ → Slot → Ask Name Refusal → Option Change → Position → Store → Store
  after_stage t p a c q s =
      record s {
        tables = with_change_of c s.tables;
        undo = put_records M t (with_record_of s.layout c s.tables (s.undo.active t)) s.undo;
        slots = set t (Some (slot_after p (length (s.undo.active t)) a q)) s.slots;
      }

  -- a transaction committed: its records sealed, and its slot empty
  abbrev pub after_seal : ℕ → Slot → Reply → Store → Store
  after_seal t p reply s =
      record s {
        undo = record { active = set t [] s.undo.active; history = s.undo.active t ∷ s.undo.history };
        slots = set t None s.slots;
        seals = record { tx = tx_in t p; reply = reply } ∷ s.seals;
        counts = bump t s.counts;
      }

  -- how many records a transaction has made since its mark
  abbrev pub count_since : ℕ → Slot → Store → ℕ
  count_since t p s = length (s.undo.active t) - p.mark_count

  -- a transaction back at its mark: the records since then put back and dropped
  abbrev pub back_at_mark : ℕ → Slot → Store → Store
  back_at_mark t p s =
      record s {
        tables = unwind M (take (count_since t p s) (s.undo.active t)) s.tables;
        undo = put_records M t (drop (count_since t p s) (s.undo.active t)) s.undo;
        slots = set t (Some (record p { position = p.mark_position })) s.slots;
      }

  -- a transaction's mark set where it stands
  abbrev pub with_mark : ℕ → Slot → Store → Store
  with_mark t p s = put_slot t (Some (record p { mark_position = p.position; mark_count = length (s.undo.active t) })) s

  -- the records and seals of the commits up to a moment gone
  abbrev pub after_purge : ℕ → Store → Store
  after_purge m s =
      record s {
        undo = record { active = s.undo.active; history = take (commits_after s m) s.undo.history };
        seals = take (commits_after s m) s.seals;
      }

  -- the commits after a moment undone: their records put back and dropped, and the commits no longer counted
  abbrev pub after_rewind : ℕ → Store → Store
  after_rewind m s =
      record s {
        tables = unwind_commits M (take (commits_after s m) s.undo.history) s.tables;
        undo = record { active = s.undo.active; history = drop (commits_after s m) s.undo.history };
        seals = drop (commits_after s m) s.seals;
        counts = counts_of s m;
      }

  -- the transactions of these terminals rolled back, one after another
  abbrev pub without_slots : List ℕ → Store → Store
  without_slots [] s = s
  without_slots (t ∷ ts) s = without_slots ts (without_slot t s)

  -- Conditions. Nothing is in the way of a transaction's beginning
  pub record MayBeginIn (s : Store) (t : ℕ) (q : Request) : Type 0 where
    pub terminal : IsTerminal M t
    pub valid : M.IsRequest q
    pub known : rejection q s.tables ≡ None
    pub closed : s.slots t ≡ None
    pub counted : number_rejection (suc (s.counts t)) ≡ None

  -- no other transaction holds the name in a mode that conflicts
  abbrev pub IsFreeIn : (ℕ → Option Slot) → ℕ → Name → Mode → Type 0
  IsFreeIn slots t n m = (u : ℕ) (p : Slot) → u ≢ t → slots u ≡ Some p → go_together m (p.held n) ≡ true

  -- the lock that is asked for can be had
  abbrev pub IsGrantedIn : (ℕ → Option Slot) → ℕ → Ask Name Refusal → Type 0
  IsGrantedIn slots t (Stop e) = ⊥
  IsGrantedIn slots t Plain = Unit {0}
  IsGrantedIn slots t (Take n m) = IsFreeIn slots t n m

  -- the least terminal whose transaction is in the way
  pub record IsInTheWayIn (slots : ℕ → Option Slot) (t : ℕ) (n : Name) (m : Mode) (u : ℕ) : Type 0 where
    pub other : u ≢ t
    pub who : Slot
    pub is_open : slots u ≡ Some who
    pub conflicts : go_together m (who.held n) ≡ false
    pub least : (v : ℕ) (p : Slot) → v < u → v ≢ t → slots v ≡ Some p → go_together m (p.held n) ≡ true

  -- the change's record fits the rest of the transaction's last extent, or an extent is free
  abbrev pub HasRoomIn : Store → ℕ → Option Change → Type 0
  HasRoomIn s t None = Unit {0}
  HasRoomIn s t (Some c) = (size_of (record_on M s.layout c s.tables) ≤ (fill_of M (lengths_of M (s.undo.active t))).1)
      ⊎ (used_of M s.undo < s.extents)

  -- the record fits neither there nor in a free extent
  abbrev pub IsFullIn : Store → ℕ → Change → Type 0
  IsFullIn s t c = ((fill_of M (lengths_of M (s.undo.active t))).1 < size_of (record_on M s.layout c s.tables))
      × (s.extents ≤ used_of M s.undo)

  -- no record takes any room
  abbrev pub TakesNoRoom : Type 0
  TakesNoRoom = (b : Record) → size_of b ≡ 0

  -- a want of memory may be answered in place of the stage of this slot, which asks so
  abbrev pub MayLackMemoryIn : Store → ℕ → Slot → Ask Name Refusal → Type 0
  MayLackMemoryIn s t p (Stop e) = yields (tx_in t p) p.position e ≡ true
  MayLackMemoryIn s t p a =
      IsGrantedIn s.slots t a × (IsNew M p.held a ⊎ (may_allocate (tx_in t p) p.position ≡ true))
      × GivesWay M (yields (tx_in t p) p.position) (act (tx_in t p) p.position s.tables)

  -- no transaction is open
  abbrev pub IsQuietIn : (ℕ → Option Slot) → Type 0
  IsQuietIn slots = (t : ℕ) → slots t ≡ None

  -- how many are open below n
  abbrev pub count_slots : (ℕ → Option Slot) → ℕ → ℕ
  count_slots slots zero = 0
  count_slots slots (suc n) = elim (slots n) [ None ↦ count_slots slots n | Some p ↦ suc (count_slots slots n) ]

  -- the step gets as far as to look at its moment
  abbrev pub IsPastIn : Store → Step M → Type 0
  IsPastIn s (Begin t q) = Unit {0}
  IsPastIn s (Advance t) = Unit {0}
  IsPastIn s (Save t) = Unit {0}
  IsPastIn s (Back t) = Unit {0}
  IsPastIn s (Rollback t) = Unit {0}
  IsPastIn s (Read m q) = query_rejection q s.tables ≡ None
  IsPastIn s (Audit m c) = Unit {0}
  IsPastIn s (Purge m) = Unit {0}
  IsPastIn s (Rewind m) = IsQuietIn s.slots
