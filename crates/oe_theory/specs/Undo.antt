-- The undo records of a world's transactions, and what putting them back leaves.
use Rattle.std.specs.Prelude.{◌≡◌, ℕ, suc, zero, ◌+◌, ◌-◌, cond, Option, None, Some, List, [], ◌∷◌, ◌++◌, length, take}
use Rattle.std.specs.Prelude.{drop, ◌⊎◌}
use Rattle.oe_theory.specs.Machine.{Machine, Act, Fail, Go, Ready}
use Rattle.oe_theory.specs.World.{set, State, Open, Commit, World, tx_of, overlay, version, newest, latest, tables}
use Rattle.oe_theory.specs.Next.{record_on, fill_of, Step, Advance, Back, Rollback, Purge, Rewind, Answer, More}
use Rattle.oe_theory.specs.Next.{Committed, Gone_back, Rolled_back, Aborted, Purged, Rewound}
use Rattle.oe_theory.specs.Laws.{Alone}

module _ (M : Machine) where
  open M use {
    Map,
    Key,
    Row,
    Change,
    Layout,
    Record,
    Position,
    Reply,
    Refusal,
    is_key,
    record_key,
    restore,
    put_back,
    size_of,
    act,
    whole,
    terminal_limit,
  }

  -- the records that are stored: of each open transaction and of each commit, the newest first in each
  pub record Undo : Type 0 where
    pub active : ℕ → List Record
    -- by falling moment
    pub history : List (List Record)

  -- the records of changes that were made on r, each by the row before it
  abbrev pub records_of : Layout → Map → List Change → List Record
  records_of l r [] = []
  records_of l r (c ∷ cs) = record_on M l c (overlay M cs r) ∷ records_of l r cs

  -- the lengths of records
  abbrev pub lengths_of : List Record → List ℕ
  lengths_of [] = []
  lengths_of (b ∷ bs) = size_of b ∷ lengths_of bs

  -- a transaction's records put back, the newest first
  abbrev pub unwind : List Record → Map → Map
  unwind [] r = r
  unwind (b ∷ bs) r = unwind bs (put_back b r)

  -- the records of these terminals' open transactions put back, in any order
  abbrev pub unwind_open : (ℕ → List Record) → List ℕ → Map → Map
  unwind_open active [] r = r
  unwind_open active (t ∷ ts) r = unwind_open (set t [] active) ts (unwind (active t) r)

  -- the records of commits put back
  abbrev pub unwind_commits : List (List Record) → Map → Map
  unwind_commits [] r = r
  unwind_commits (bs ∷ ss) r = unwind_commits ss (unwind bs r)

  -- one key's row, by its own records alone
  abbrev pub row_before : Key → List Record → Option Row → Option Row
  row_before k [] v = v
  row_before k (b ∷ bs) v = row_before k bs (cond (is_key k (record_key b)) (restore b v) v)

  -- one key's row, by the records of open transactions
  abbrev pub row_before_open : Key → (ℕ → List Record) → List ℕ → Option Row → Option Row
  row_before_open k active [] v = v
  row_before_open k active (t ∷ ts) v = row_before_open k (set t [] active) ts (row_before k (active t) v)

  -- one key's row, by commits' records
  abbrev pub row_before_commits : Key → List (List Record) → Option Row → Option Row
  row_before_commits k [] v = v
  row_before_commits k (bs ∷ ss) v = row_before_commits k ss (row_before k bs v)

  -- some record of the list is of this key
  abbrev pub HasRecord : Key → List Record → Type 0
  HasRecord k [] = ⊥
  HasRecord k (b ∷ bs) = (record_key b ≡ k) ⊎ HasRecord k bs

  -- some record of these commits is
  abbrev pub HasRecordIn : Key → List (List Record) → Type 0
  HasRecordIn k [] = ⊥
  HasRecordIn k (bs ∷ ss) = HasRecord k bs ⊎ HasRecordIn k ss

  -- the record is of a change that the tables `on` accepted; it finds in r the row that this change left, and putting
  -- it back gives the row that `on` has
  pub record Finds (l : Layout) (b : Record) (r : Map) : Type 0 where
    pub change : Change
    pub on : Map
    pub accepted : M.Accepts change on
    pub is_of : b ≡ record_on M l change on
    pub left : M.row_at r (M.key_of change) ≡ M.row_of change
    pub redone : M.redo b r ≡ Some change
    pub brought_back : M.row_at (put_back b r) (M.key_of change) ≡ M.row_at on (M.key_of change)

  -- as the records are put back on r one after another, P holds before each and after the last, and each finds its row
  abbrev pub GoesBack : Layout → (Map → Type 0) → List Record → Map → Type 0
  GoesBack l P [] r = P r
  GoesBack l P (b ∷ bs) r = P r × Finds l b r × GoesBack l P bs (put_back b r)

  -- all records of open transactions in the order in which `unwind_open` puts them back
  abbrev pub open_records : (ℕ → List Record) → List ℕ → List Record
  open_records active [] = []
  open_records active (t ∷ ts) = active t ++ open_records (set t [] active) ts

  -- all records of commits, in the order in which `unwind_commits` puts them back
  abbrev pub commit_records : List (List Record) → List Record
  commit_records [] = []
  commit_records (bs ∷ ss) = bs ++ commit_records ss

  -- the terminal is listed
  abbrev pub IsAmong : ℕ → List ℕ → Type 0
  IsAmong t [] = ⊥
  IsAmong t (u ∷ us) = (t ≡ u) ⊎ IsAmong t us

  -- every open transaction is of a terminal listed
  abbrev pub AreAll : World M → List ℕ → Type 0
  AreAll w ts = (t : ℕ) (o : Open M) → w.active t ≡ Some o → IsAmong t ts

  -- these are the records of a commit on the version r: of the changes with which its program alone comes from r to its
  -- end
  pub record IsOfCommit (l : Layout) (r : Map) (c : Commit M) (bs : List Record) : Type 0 where
    pub last : State M
    pub alone : Alone M c.tx r last
    pub ready : act c.tx last.position (overlay M last.changes r) ≡ Ready c.reply
    pub effect : whole c.tx r ≡ Some (overlay M last.changes r, c.reply)
    pub records : bs ≡ records_of l r last.changes
    pub lengths : c.lengths ≡ lengths_of bs

  -- these are the records of each commit, on the version before it
  abbrev pub AreOfCommits : Layout → Map → List (Commit M) → List (List Record) → Type 0
  AreOfCommits l b [] [] = Unit {0}
  AreOfCommits l b (c ∷ cs) (s ∷ ss) = IsOfCommit l (version M b cs) c s × AreOfCommits l b cs ss
  AreOfCommits l b [] (s ∷ ss) = ⊥
  AreOfCommits l b (c ∷ cs) [] = ⊥

  -- these are the records of an open transaction, where r is the newest version
  pub record IsOfOpen (l : Layout) (r : Map) (o : Open M) (bs : List Record) : Type 0 where
    pub records : bs ≡ records_of l r o.now.changes
    pub lengths : o.lengths ≡ lengths_of bs
    pub mark_lengths : o.mark_lengths ≡ lengths_of (records_of l r o.mark.changes)

  -- the store has the records of the world's transactions, and the world their lengths
  pub record Keeps (w : World M) (u : Undo) : Type 0 where
    pub commits : AreOfCommits w.layout w.base w.history u.history
    pub opens : (t : ℕ) (o : Open M) → w.active t ≡ Some o → IsOfOpen w.layout (latest M w) o (u.active t)
    pub others : (t : ℕ) → w.active t ≡ None → u.active t ≡ []

  -- how many extents the records of all segments fill
  abbrev pub used_open : (ℕ → List Record) → ℕ → ℕ
  used_open active zero = 0
  used_open active (suc n) = used_open active n + (fill_of M (lengths_of (active n))).0

  -- the extents that commits' records fill
  abbrev pub used_commits : List (List Record) → ℕ
  used_commits [] = 0
  used_commits (bs ∷ ss) = (fill_of M (lengths_of bs)).0 + used_commits ss

  -- how many extents all records fill
  abbrev pub used_of : Undo → ℕ
  used_of u = used_commits u.history + used_open u.active terminal_limit

  -- an empty store
  abbrev pub no_records : Undo
  no_records = record { active = λ _. []; history = [] }

  -- what a step does to the store
  abbrev pub with_record : Layout → Act Change Position Reply Refusal → Map → List Record → List Record
  with_record l (Go (Some c) p) r bs = record_on M l c r ∷ bs
  with_record l (Go None p) r bs = bs
  with_record l (Fail e) r bs = bs
  with_record l (Ready y) r bs = bs

  -- the records of a terminal after a row that went on
  abbrev pub records_after : World M → ℕ → Option (Open M) → List Record → List Record
  records_after w t None bs = bs
  records_after w t (Some o) bs = with_record w.layout (act (tx_of M t o) o.now.position (tables M w)) (tables M w) bs

  -- the records at the mark
  abbrev pub records_at_mark : Option (Open M) → List Record → List Record
  records_at_mark None bs = bs
  records_at_mark (Some o) bs = drop (length bs - length o.mark.changes) bs

  -- the store with a terminal's records replaced
  abbrev pub put_records : ℕ → List Record → Undo → Undo
  put_records t bs u = record { active = set t bs u.active; history = u.history }

  -- a row that goes on pushes its record, a commit seals them, a rollback drops them; the other steps leave all but
  -- what they cut off
  abbrev pub undo_after : World M → Undo → Answer M → Step M → Undo
  undo_after w u More (Advance t) = put_records t (records_after w t (w.active t) (u.active t)) u
  undo_after w u (Committed m y) (Advance t) = record { active = set t [] u.active; history = u.active t ∷ u.history }
  undo_after w u (Aborted e) (Advance t) = put_records t [] u
  undo_after w u Gone_back (Back t) = put_records t (records_at_mark (w.active t) (u.active t)) u
  undo_after w u Rolled_back (Rollback t) = put_records t [] u
  undo_after w u (Purged m) (Purge k) = record { active = u.active; history = take (newest M w - m) u.history }
  undo_after w u (Rewound m) (Rewind k) = record { active = u.active; history = drop (newest M w - m) u.history }
  undo_after w u a i = u

  -- what a step does to the tables, in place
  abbrev pub with_change : Act Change Position Reply Refusal → Map → Map
  with_change (Go (Some c) p) r = M.put c r
  with_change (Go None p) r = r
  with_change (Fail e) r = r
  with_change (Ready y) r = r

  -- the tables after a terminal's row that went on
  abbrev pub tables_with : World M → ℕ → Option (Open M) → Map
  tables_with w t None = tables M w
  tables_with w t (Some o) = with_change (act (tx_of M t o) o.now.position (tables M w)) (tables M w)

  -- a terminal's records since its mark
  abbrev pub since_mark : Option (Open M) → List Record → List Record
  since_mark None bs = []
  since_mark (Some o) bs = take (length bs - length o.mark.changes) bs

  -- a row that goes on makes its change; what is undone is undone from records; the other steps leave the tables
  abbrev pub tables_after : World M → Undo → Answer M → Step M → Map
  tables_after w u More (Advance t) = tables_with w t (w.active t)
  tables_after w u (Aborted e) (Advance t) = unwind (u.active t) (tables M w)
  tables_after w u Gone_back (Back t) = unwind (since_mark (w.active t) (u.active t)) (tables M w)
  tables_after w u Rolled_back (Rollback t) = unwind (u.active t) (tables M w)
  tables_after w u (Rewound m) (Rewind k) = unwind_commits (take (newest M w - m) u.history) (tables M w)
  tables_after w u a i = tables M w
