-- The bank's programs: one pays from an account into a queue, one serves the least entry of a queue, one gives an
-- account another owner, and one counts a visit on an owner's first account.
use Rattle.std.specs.Prelude.{ℕ, suc, ◌+◌, ◌-◌, ◌≤◌, Bool, true, false, cond, nat_le, Option, None, Some, List, [], ◌∷◌}
use Rattle.std.specs.FinMap.{get, insert, remove}
use Rattle.oe_theory.specs.Machine.{Tx, Hold, Shared, Exclusive, Ask, Stop, Plain, Take, Act, Fail, Go, Ready}
use Rattle.oe_theory_example.specs.Rows.{Account, Entry, Tables, AccountKey, Change, SetAccount, SetEntry, SetSlip}
use Rattle.oe_theory_example.specs.Rows.{IsThere, row_at}
use Rattle.oe_theory_example.specs.Rows.{part, least, first_owned}
use Rattle.oe_theory_example.specs.declared.Name.{Name}
use Rattle.oe_theory_example.specs.declared.Name.TheVariants.{OfAccount, OfQueue, OfOwner}

-- a request to pay: from which account, under which key of the queues, for which account, and how much
pub record Payment : Type 0 where
  pub account : ℕ
  pub entry : ℕ × ℕ
  pub target : ℕ
  pub amount : ℕ

-- what can be asked for: to pay, to serve a queue, to give an account an owner, to visit an owner's first account
pub data Request : Type 0 where
  Pay : Payment → Request
  Serve : ℕ → Request
  Rename : ℕ → ℕ → Request
  Visit : ℕ → Request

-- what a commit answers: the balance that is left, the number of the entry, the new owner, the account
pub data Reply : Type 0 where
  Paid : ℕ → Reply
  Served : ℕ → Reply
  Skipped : Reply
  Renamed : ℕ → Reply
  Visited : ℕ → Reply

-- why a program is refused: there is no such account, a number would leave its range, there is such a row already
pub data Refusal : Type 0 where
  NoAccount : Refusal
  Overflow : Refusal
  Present : Refusal

-- positions of a payment, with the balance that is left
pub data PayPosition : Type 0 where
  AtAccount : PayPosition
  AtEntry : ℕ → PayPosition
  AtSlip : ℕ → PayPosition
  AtEnd : ℕ → PayPosition

-- positions of serving, with the entry that was taken
pub data ServePosition : Type 0 where
  AtQueue : ServePosition
  AtTarget : ℕ × ℕ → Entry → ServePosition
  AtServed : ℕ × ℕ → ServePosition
  AtSkip : ServePosition

-- positions of a renaming, with the old owner
pub data RenamePosition : Type 0 where
  ToRead : RenamePosition
  ToLeave : ℕ → RenamePosition
  ToSet : ℕ → RenamePosition
  ToClose : RenamePosition

-- positions of a visit, with the account that was found
pub data VisitPosition : Type 0 where
  ToFind : VisitPosition
  ToVisit : ℕ → VisitPosition
  ToEnd : ℕ → VisitPosition

-- a program with its request and its position
pub data Program : Type 0 where
  Paying : Payment → PayPosition → Program
  Serving : ℕ → ServePosition → Program
  Renaming : ℕ → ℕ → RenamePosition → Program
  Visiting : ℕ → VisitPosition → Program

-- where a request begins
abbrev pub program_of : Request → Program
program_of (Pay q) = Paying q AtAccount
program_of (Serve d) = Serving d AtQueue
program_of (Rename k n) = Renaming k n ToRead
program_of (Visit n) = Visiting n ToFind

-- a payment is of 10,000 at most; all other requests are within their ranges
abbrev pub IsRequest : Request → Type 0
IsRequest (Pay q) = q.amount ≤ 10000
IsRequest _ = Unit {0}

-- the refusals that a program may end with. A renaming has none: it begins only where its account is, and accounts stay
abbrev pub MayRefuse : Request → Refusal → Type 0
MayRefuse (Pay q) NoAccount = Unit {0}
MayRefuse (Pay q) Overflow = Unit {0}
MayRefuse (Pay q) Present = Unit {0}
MayRefuse (Serve d) NoAccount = Unit {0}
MayRefuse (Visit n) NoAccount = Unit {0}
MayRefuse _ _ = ⊥

-- what a program does at a position
abbrev pub Action : Type 0
Action = Act Change Program Reply Refusal

-- go on with the value that is there, and fail where there is none
abbrev pub with_value : {A : Type 0} → Refusal → Option A → (A → Action) → Action
with_value e None f = Fail e
with_value e (Some a) f = f a

-- go on where nothing is there, and fail where something is
abbrev pub if_absent : {A : Type 0} → Option A → Action → Action
if_absent None d = d
if_absent (Some a) d = Fail Present

-- go on where the number stays within its range, and fail where it does not
abbrev pub if_within : Bool → Action → Action
if_within true d = d
if_within false d = Fail Overflow

-- ask for an account's name, and stop where there is no such account
abbrev pub take_account : ℕ → Tables → Ask Name Refusal
take_account k r = cond (part (IsThere k) (row_at r (AccountKey k))) (Take (OfAccount k) Exclusive) (Stop NoAccount)

-- a name that is held alone
abbrev pub alone : Name → Hold Name
alone n = record { name = n; mode = Exclusive }

-- an account after a payment from it
abbrev pub after_payment : Payment → Account → Account
after_payment q a = record a { balance = a.balance - q.amount }

-- the entry of a payment
abbrev pub entry_of : Payment → Entry
entry_of q = record { account = q.target; amount = q.amount }

-- the locks that a payment asks for, position by position
abbrev pub pay_ask : Payment → PayPosition → Tables → Ask Name Refusal
pay_ask q AtAccount r = take_account q.account r
pay_ask q (AtEntry b) r = Take (OfQueue q.entry.0) Exclusive
pay_ask q (AtSlip b) r = Plain
pay_ask q (AtEnd b) r = Plain

-- what it does: the balance falls, the entry is put into its queue, and a slip of the transaction into the journal
abbrev pub pay_act : Tx Request → Payment → PayPosition → Tables → Action
pay_act x q AtAccount r =
    with_value NoAccount (get r.accounts q.account) (λ a.
    if_within (nat_le q.amount a.balance)
    (Go (Some (SetAccount q.account (Some (after_payment q a)))) (Paying q (AtEntry (a.balance - q.amount)))))
pay_act x q (AtEntry b) r = if_absent (get r.queues q.entry)
    (Go (Some (SetEntry q.entry (Some (entry_of q)))) (Paying q (AtSlip b)))
pay_act x q (AtSlip b) r = if_absent (get r.journal (x.terminal, x.number))
    (Go (Some (SetSlip (x.terminal, x.number) (Some q.amount))) (Paying q (AtEnd b)))
pay_act x q (AtEnd b) r = Ready (Paid b)

-- the locks that were taken on the way
abbrev pub pay_taken : Payment → PayPosition → List (Hold Name)
pay_taken q AtAccount = []
pay_taken q (AtEntry b) = alone (OfAccount q.account) ∷ []
pay_taken q (AtSlip b) = alone (OfQueue q.entry.0) ∷ alone (OfAccount q.account) ∷ []
pay_taken q (AtEnd b) = alone (OfQueue q.entry.0) ∷ alone (OfAccount q.account) ∷ []

-- an account after an entry for it was served
abbrev pub after_entry : Entry → Account → Account
after_entry e a = record a { balance = a.balance + e.amount }

-- the locks that serving asks for, position by position
abbrev pub serve_ask : ℕ → ServePosition → Tables → Ask Name Refusal
serve_ask d AtQueue r = Take (OfQueue d) Exclusive
serve_ask d (AtTarget k e) r = Take (OfAccount e.account) Exclusive
serve_ask d (AtServed k) r = Plain
serve_ask d AtSkip r = Plain

-- the least entry is removed, if there is one
abbrev pub take_least : ℕ → Option ((ℕ × ℕ) × Entry) → Action
take_least d None = Go None (Serving d AtSkip)
take_least d (Some p) = Go (Some (SetEntry (d, p.0.1) None)) (Serving d (AtTarget (d, p.0.1) p.1))

-- what it does: the least entry is removed, and the balance of its account rises
abbrev pub serve_act : ℕ → ServePosition → Tables → Action
serve_act d AtQueue r = take_least d (least d r)
serve_act d (AtTarget k e) r = with_value NoAccount (get r.accounts e.account)
    (λ a. Go (Some (SetAccount e.account (Some (after_entry e a)))) (Serving d (AtServed k)))
serve_act d (AtServed k) r = Ready (Served k.1)
serve_act d AtSkip r = Ready Skipped

-- the locks that were taken on the way, as far as later positions need them
abbrev pub serve_taken : ℕ → ServePosition → List (Hold Name)
serve_taken d AtQueue = []
serve_taken d (AtTarget k e) = alone (OfQueue d) ∷ []
serve_taken d (AtServed k) = []
serve_taken d AtSkip = []

-- an account with another owner
abbrev pub with_owner : ℕ → Account → Account
with_owner n a = record a { owner = n }

-- the locks that a renaming asks for, position by position: the old and the new owner's names are held when the owner
-- changes
abbrev pub rename_ask : ℕ → ℕ → RenamePosition → Tables → Ask Name Refusal
rename_ask k n ToRead r = take_account k r
rename_ask k n (ToLeave old) r = Take (OfOwner old) Exclusive
rename_ask k n (ToSet old) r = Take (OfOwner n) Exclusive
rename_ask k n ToClose r = Plain

-- what it does: the old owner is read, and then the owner is changed
abbrev pub rename_act : ℕ → ℕ → RenamePosition → Tables → Action
rename_act k n ToRead r = with_value NoAccount (get r.accounts k) (λ a. Go None (Renaming k n (ToLeave a.owner)))
rename_act k n (ToLeave old) r = Go None (Renaming k n (ToSet old))
rename_act k n (ToSet old) r = with_value NoAccount (get r.accounts k)
    (λ a. Go (Some (SetAccount k (Some (with_owner n a)))) (Renaming k n ToClose))
rename_act k n ToClose r = Ready (Renamed n)

-- the locks that were taken on the way, as far as later positions need them
abbrev pub rename_taken : ℕ → RenamePosition → List (Hold Name)
rename_taken k ToRead = []
rename_taken k (ToLeave old) = alone (OfAccount k) ∷ []
rename_taken k (ToSet old) = alone (OfOwner old) ∷ alone (OfAccount k) ∷ []
rename_taken k ToClose = []

-- an account with one more visit
abbrev pub after_visit : Account → Account
after_visit a = record a { visits = suc a.visits }

-- the locks that a visit asks for, position by position: the owner's name is held when its accounts are looked up
abbrev pub visit_ask : ℕ → VisitPosition → Tables → Ask Name Refusal
visit_ask n ToFind r = Take (OfOwner n) Shared
visit_ask n (ToVisit k) r = Take (OfAccount k) Exclusive
visit_ask n (ToEnd k) r = Plain

-- what it does: the owner's first account is found, and its visits are one more
abbrev pub visit_act : ℕ → VisitPosition → Tables → Action
visit_act n ToFind r = with_value NoAccount (first_owned n r) (λ k. Go None (Visiting n (ToVisit k)))
visit_act n (ToVisit k) r = with_value NoAccount (get r.accounts k)
    (λ a. Go (Some (SetAccount k (Some (after_visit a)))) (Visiting n (ToEnd k)))
visit_act n (ToEnd k) r = Ready (Visited k)

-- the locks that were taken on the way, as far as later positions need them
abbrev pub visit_taken : ℕ → VisitPosition → List (Hold Name)
visit_taken n ToFind = []
visit_taken n (ToVisit k) = record { name = OfOwner n; mode = Shared } ∷ []
visit_taken n (ToEnd k) = []

-- the lock that a program asks for at its position
abbrev pub ask : Tx Request → Program → Tables → Ask Name Refusal
ask x (Paying q p) r = pay_ask q p r
ask x (Serving d p) r = serve_ask d p r
ask x (Renaming k n p) r = rename_ask k n p r
ask x (Visiting n p) r = visit_ask n p r

-- what a program does at its position
abbrev pub act : Tx Request → Program → Tables → Action
act x (Paying q p) r = pay_act x q p r
act x (Serving d p) r = serve_act d p r
act x (Renaming k n p) r = rename_act k n p r
act x (Visiting n p) r = visit_act n p r

-- the locks that a program took on the way to its position
abbrev pub locks_before : Tx Request → Program → List (Hold Name)
locks_before x (Paying q p) = pay_taken q p
locks_before x (Serving d p) = serve_taken d p
locks_before x (Renaming k n p) = rename_taken k p
locks_before x (Visiting n p) = visit_taken n p

-- a payment's mark moves to its last change
abbrev pub marks : Program → Bool
marks (Paying q (AtSlip b)) = true
marks _ = false

-- what inserts a row needs memory
abbrev pub may_allocate : Tx Request → Program → Bool
may_allocate x (Paying q (AtEntry b)) = true
may_allocate x (Paying q (AtSlip b)) = true
may_allocate x _ = false

-- a want of memory may stand in the place of an overflow, and of a look-up by owner that finds no account
abbrev pub yields : Tx Request → Program → Refusal → Bool
yields x p Overflow = true
yields x (Visiting n ToFind) NoAccount = true
yields x p e = false

-- a renaming of an account that isn't there is turned away
abbrev pub rejection : Request → Tables → Option Refusal
rejection (Rename k n) r = cond (part (IsThere k) (row_at r (AccountKey k))) None (Some NoAccount)
rejection q r = None

-- numbers end at 2^32 - 1
abbrev pub number_rejection : ℕ → Option Refusal
number_rejection n = cond (nat_le n 4294967295) None (Some Overflow)

-- a whole effect: the tables after it and the reply, or none where it is refused
abbrev pub Effect : Type 0
Effect = Option (Tables × Reply)

-- the next line with the value that is there, and no effect where there is none
infixl 10 ◌>>=◌
abbrev pub ◌>>=◌ : {A : Type 0} → Option A → (A → Effect) → Effect
◌>>=◌ None f = None
◌>>=◌ (Some a) f = f a

-- the next line where nothing is there, and no effect where something is
infixl 10 ◌>>!◌
abbrev pub ◌>>!◌ : {A : Type 0} → Option A → Effect → Effect
◌>>!◌ None e = e
◌>>!◌ (Some a) e = None

-- the whole effect of a payment: the account's balance falls, and the entry and the slip are there
abbrev pub pay_whole : Tx Request → Payment → Tables → Effect
pay_whole x q r =
    get r.accounts q.account >>= λ a.
    cond (nat_le q.amount a.balance)
    (get r.queues q.entry >>! Some (
      record {
        accounts = insert r.accounts q.account (after_payment q a);
        queues = insert r.queues q.entry (entry_of q);
        journal = insert r.journal (x.terminal, x.number) q.amount;
      },
      Paid (a.balance - q.amount),
    ))
    None

-- the whole effect of serving: the least entry is gone, and its amount is on its account
abbrev pub serve_whole : ℕ → Tables → Option ((ℕ × ℕ) × Entry) → Effect
serve_whole d r None = Some (r, Skipped)
serve_whole d r (Some p) =
    get r.accounts p.1.account >>= λ a.
    Some (
      record r { accounts = insert r.accounts p.1.account (after_entry p.1 a); queues = remove r.queues (d, p.0.1) },
      Served p.0.1,
    )

-- the whole effect of a renaming: the account has its new owner
abbrev pub rename_whole : ℕ → ℕ → Tables → Effect
rename_whole k n r = get r.accounts k >>= λ a. Some
    (record r { accounts = insert r.accounts k (with_owner n a) }, Renamed n)

-- the whole effect of a visit: the owner's first account has one more
abbrev pub visit_whole : ℕ → Tables → Effect
visit_whole n r =
    first_owned n r >>= λ k.
    get r.accounts k >>= λ a.
    Some (record r { accounts = insert r.accounts k (after_visit a) }, Visited k)

-- the whole effect of each request
abbrev pub whole_of : Tx Request → Request → Tables → Effect
whole_of x (Pay q) r = pay_whole x q r
whole_of x (Serve d) r = serve_whole d r (least d r)
whole_of x (Rename k n) r = rename_whole k n r
whole_of x (Visit n) r = visit_whole n r
