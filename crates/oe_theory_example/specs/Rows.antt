-- The tables of a small bank, read as one map from keys to rows.
use Rattle.std.specs.Prelude.{◌≡◌, IsSome, ℕ, ◌==◌, Bool, true, false, cond, Option, None, Some, List, [], ◌∷◌}
use Rattle.std.specs.declared.cmp.Ordering.{Ordering}
use Rattle.std.specs.Ordering.{nat_cmp, ordering_then, eq_by_cmp}
use Rattle.std.specs.FinMap.{FinMap, get, insert, remove, retain_keys, entries, keys}
use Rattle.std.specs.FinSet.{FinSet, from_list, retain, items}
use Rattle.oe_theory.specs.Machine.{Guard, Free, Under, Own}
use Rattle.oe_theory_example.specs.declared.Name.{Name}
use Rattle.oe_theory_example.specs.declared.Name.TheVariants.{OfAccount, OfQueue, OfOwner}

-- an account: whose it is, how often it was visited, and what it holds
pub record Account : Type 0 where
  pub owner : ℕ
  pub visits : ℕ
  pub balance : ℕ

-- an amount that waits in a queue for an account
pub record Entry : Type 0 where
  pub account : ℕ
  pub amount : ℕ

-- the order of pairs: by the first, then by the second
abbrev pub pair_cmp : ℕ × ℕ → ℕ × ℕ → Ordering
pair_cmp a b = ordering_then (nat_cmp a.0 b.0) (nat_cmp a.1 b.1)

-- the tables: accounts by number, entries of queues, and the journal of slips
pub record Tables : Type 0 where
  pub accounts : FinMap nat_cmp Account
  -- by queue and number within it
  pub queues : FinMap pair_cmp Entry
  -- by terminal and the transaction's number
  pub journal : FinMap pair_cmp ℕ

-- a key of one of the tables
pub data Key : Type 0 where
  AccountKey : ℕ → Key
  EntryKey : ℕ × ℕ → Key
  SlipKey : ℕ × ℕ → Key

-- a row of one of the tables
pub data Row : Type 0 where
  AccountRow : Account → Row
  EntryRow : Entry → Row
  SlipRow : ℕ → Row

-- a change of one row: the row that it puts at a key, or none where it removes the row
pub data Change : Type 0 where
  SetAccount : ℕ → Option Account → Change
  SetEntry : ℕ × ℕ → Option Entry → Change
  SetSlip : ℕ × ℕ → Option ℕ → Change

-- whether two keys are the same
abbrev pub is_key : Key → Key → Bool
is_key (AccountKey a) (AccountKey b) = eq_by_cmp nat_cmp a b
is_key (EntryKey a) (EntryKey b) = eq_by_cmp pair_cmp a b
is_key (SlipKey a) (SlipKey b) = eq_by_cmp pair_cmp a b
is_key _ _ = false

-- whether two names are the same
abbrev pub is_name : Name → Name → Bool
is_name (OfAccount a) (OfAccount b) = a == b
is_name (OfQueue a) (OfQueue b) = a == b
is_name (OfOwner a) (OfOwner b) = a == b
is_name _ _ = false

-- an optional value under a constructor
abbrev pub under : {A B : Type 0} → (A → B) → Option A → Option B
under f None = None
under f (Some a) = Some (f a)

-- the row of a key
abbrev pub row_at : Tables → Key → Option Row
row_at r (AccountKey k) = under AccountRow (get r.accounts k)
row_at r (EntryKey k) = under EntryRow (get r.queues k)
row_at r (SlipKey k) = under SlipRow (get r.journal k)

-- a table with one row put or removed
abbrev pub set_row : {K X : Type 0} → {R : K → K → Ordering} → K → Option X → FinMap R X → FinMap R X
set_row k None m = remove m k
set_row k (Some v) m = insert m k v

-- the key that a change is of
abbrev pub key_of : Change → Key
key_of (SetAccount k v) = AccountKey k
key_of (SetEntry k v) = EntryKey k
key_of (SetSlip k v) = SlipKey k

-- the row that it leaves, or none where it removes the row
abbrev pub row_of : Change → Option Row
row_of (SetAccount k v) = under AccountRow v
row_of (SetEntry k v) = under EntryRow v
row_of (SetSlip k v) = under SlipRow v

-- the tables after it
abbrev pub put : Change → Tables → Tables
put (SetAccount k v) r = record { accounts = set_row k v r.accounts; queues = r.queues; journal = r.journal }
put (SetEntry k v) r = record { accounts = r.accounts; queues = set_row k v r.queues; journal = r.journal }
put (SetSlip k v) r = record { accounts = r.accounts; queues = r.queues; journal = set_row k v r.journal }

-- the tables accept a change: accounts are changed where they are, and neither inserted nor removed; an entry is
-- inserted where there is none, and removed where there is one; a slip is inserted where there is none, and stays
abbrev pub Accepts : Change → Tables → Type 0
Accepts (SetAccount k (Some a)) r = IsSome (get r.accounts k)
Accepts (SetAccount k None) r = ⊥
Accepts (SetEntry k (Some e)) r = get r.queues k ≡ None
Accepts (SetEntry k None) r = IsSome (get r.queues k)
Accepts (SetSlip k (Some n)) r = get r.journal k ≡ None
Accepts (SetSlip k None) r = ⊥

-- undo records: the row before, or of an account whose owner stays what else may change
pub data Record : Type 0 where
  WasAccount : ℕ → Option Account → Record
  Had : ℕ → ℕ → ℕ → Record
  WasEntry : ℕ × ℕ → Option Entry → Record
  WasSlip : ℕ × ℕ → Option ℕ → Record

-- the account that a row is, if it is one
abbrev pub account_in : Option Row → Option Account
account_in (Some (AccountRow a)) = Some a
account_in _ = None

-- the entry that a row is, if it is one
abbrev pub entry_in : Option Row → Option Entry
entry_in (Some (EntryRow e)) = Some e
entry_in _ = None

-- the amount of the slip that a row is, if it is one
abbrev pub slip_in : Option Row → Option ℕ
slip_in (Some (SlipRow n)) = Some n
slip_in _ = None

-- the record of a change of an account: where its owner stays, what it had besides; otherwise the row before
abbrev pub account_record : ℕ → Option Account → Option Account → Record
account_record k (Some a) (Some b) = cond (a.owner == b.owner) (Had k b.visits b.balance) (WasAccount k (Some b))
account_record k None v = WasAccount k v
account_record k (Some a) None = WasAccount k None

-- the record of a change, by the row before it
abbrev pub record_of : Change → Option Row → Record
record_of (SetAccount k v) before = account_record k v (account_in before)
record_of (SetEntry k v) before = WasEntry k (entry_in before)
record_of (SetSlip k v) before = WasSlip k (slip_in before)

-- the key that a record is of
abbrev pub record_key : Record → Key
record_key (WasAccount k v) = AccountKey k
record_key (Had k n b) = AccountKey k
record_key (WasEntry k v) = EntryKey k
record_key (WasSlip k v) = SlipKey k

-- an account as it was, but for its owner
abbrev pub as_it_had : ℕ → ℕ → Account → Account
as_it_had n b a = record { owner = a.owner; visits = n; balance = b }

-- the row before, by the row that stands there now
abbrev pub restore : Record → Option Row → Option Row
restore (WasAccount k v) now = under AccountRow v
restore (Had k n b) now = under AccountRow (under (as_it_had n b) (account_in now))
restore (WasEntry k v) now = under EntryRow v
restore (WasSlip k v) now = under SlipRow v

-- the tables with the row before put back
abbrev pub put_back : Record → Tables → Tables
put_back (WasAccount k v) r = put (SetAccount k v) r
put_back (Had k n b) r = put (SetAccount k (under (as_it_had n b) (get r.accounts k))) r
put_back (WasEntry k v) r = put (SetEntry k v) r
put_back (WasSlip k v) r = put (SetSlip k v) r

-- the change itself, where the row that it left still stands
abbrev pub redo : Record → Tables → Option Change
redo (WasAccount k v) r = Some (SetAccount k (get r.accounts k))
redo (Had k n b) r = Some (SetAccount k (get r.accounts k))
redo (WasEntry k v) r = Some (SetEntry k (get r.queues k))
redo (WasSlip k v) r = Some (SetSlip k (get r.journal k))

-- the length of a record, in bytes
abbrev pub record_length : Record → ℕ
record_length (WasAccount k None) = 9
record_length (WasAccount k (Some a)) = 33
record_length (Had k n b) = 25
record_length (WasEntry k v) = 33
record_length (WasSlip k v) = 25

-- what a key lies under: its account's name, its queue's name, or the one transaction that writes the slip
abbrev pub governs : Key → Guard Name
governs (AccountKey k) = Under (OfAccount k)
governs (EntryKey k) = Under (OfQueue k.0)
governs (SlipKey k) = Own k.0 k.1

-- whether an account is there, which never changes, and whether it has this owner, which lies under the owner's name
pub data Facet : Type 0 where
  IsThere : ℕ → Facet
  IsOwned : ℕ → ℕ → Facet

-- the key that a facet is of
abbrev pub facet_key : Facet → Key
facet_key (IsThere k) = AccountKey k
facet_key (IsOwned k n) = AccountKey k

-- whether there is an account
abbrev pub is_there : Option Account → Bool
is_there None = false
is_there (Some a) = true

-- whether there is one with this owner
abbrev pub is_owned : ℕ → Option Account → Bool
is_owned n None = false
is_owned n (Some a) = a.owner == n

-- what a facet says of a row
abbrev pub part : Facet → Option Row → Bool
part (IsThere k) v = is_there (account_in v)
part (IsOwned k n) v = is_owned n (account_in v)

-- the name that a facet lies under
abbrev pub governs_part : Facet → Guard Name
governs_part (IsThere k) = Free
governs_part (IsOwned k n) = Under (OfOwner n)

-- the first of a list
abbrev pub head : {A : Type 0} → List A → Option A
head [] = None
head (x ∷ xs) = Some x

-- the entries of one queue
abbrev pub queue : ℕ → Tables → FinMap pair_cmp Entry
queue d r = retain_keys r.queues (λ k. k.0 == d)

-- the least entry of a queue
abbrev pub least : ℕ → Tables → Option ((ℕ × ℕ) × Entry)
least d r = head (entries (queue d r))

-- the accounts of an owner
abbrev pub owned_by : ℕ → Tables → FinSet nat_cmp
owned_by n r = retain (from_list (keys r.accounts)) (λ k. is_owned n (get r.accounts k))

-- the first account of an owner
abbrev pub first_owned : ℕ → Tables → Option ℕ
first_owned n r = head (items (owned_by n r))
