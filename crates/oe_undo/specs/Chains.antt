-- The records of a key as a chain: a link leads to the newest, and the previous link in each record to the next older
-- one.
use Rattle.std.specs.Prelude.{◌≡◌, ◌≢◌, ℕ, ◌≤◌, ◌<◌, ◌==◌, cond, List, [], ◌∷◌, Option, None, Some, ⊤}
use Rattle.oe_rows.specs.declared.keys.Key.{Key}
use Rattle.oe_model.specs.Rows.{is_key}
use Rattle.oe_model.specs.Changes.{Record, record_key}
use Rattle.oe_extent.specs.declared.extents.Address.{Address}
use Rattle.oe_layout.specs.declared.links.Previous.{Previous}
use Rattle.oe_layout.specs.declared.links.Previous.TheVariants.{Nothing, Own, Committed}
use Rattle.oe_log.specs.Log.{SegmentLog, records_at}
use Rattle.oe_log.specs.Stands.{model_records}
use Rattle.oe_undo.specs.declared.holders.Link.{Link}
use Rattle.oe_undo.specs.declared.holders.Holder.{Holder}
use Rattle.oe_undo.specs.declared.holders.Holder.TheVariants.{Open, At}
use Rattle.oe_undo.specs.Held.{Held, all_held, of_key, horizon, is_later}

-- the link that leads to a record
abbrev pub link_to : Held → Link
link_to r = record { address = r.logged.address; holder = r.holder }

-- the link that a previous one is in a record of this holder
abbrev pub link_from : Holder → Previous → Option Link
link_from h Nothing = None
link_from h (Own a) = Some (record { address = a; holder = h })
link_from h (Committed a m) = Some (record { address = a; holder = At m })

-- what a record has as previous that is pushed where its key has this link
abbrev pub previous_by : Holder → Address → Previous
previous_by (Open t) a = Own a
previous_by (At m) a = Committed a m

abbrev pub previous_of : Option Link → Previous
previous_of None = Nothing
previous_of (Some l) = previous_by l.holder l.address

-- the terminal has no work of another before it
abbrev pub IsOwnOrDone : ℕ → Holder → Type 0
IsOwnOrDone t (Open s) = s ≡ t
IsOwnOrDone t (At m) = ⊤

abbrev pub IsSeenBy : ℕ → Option Link → Type 0
IsSeenBy t None = ⊤
IsSeenBy t (Some l) = IsOwnOrDone t l.holder

-- none of these records is of the key
abbrev pub HaveNone : Key → List Record → Type 0
HaveNone k [] = Unit {0}
HaveNone k (b ∷ bs) = (record_key b ≢ k) × HaveNone k bs

-- no other terminal's open transaction has a record of the key
abbrev pub IsAlone : SegmentLog → ℕ → Key → Type 0
IsAlone u t k = (s : ℕ) → s ≢ t → HaveNone k (model_records (records_at u s))

-- the holder's commit was given up at the horizon
abbrev pub IsForgotten : ℕ → Holder → Type 0
IsForgotten h (Open t) = ⊥
IsForgotten h (At m) = m ≤ h

-- no record is met from here on
abbrev pub IsEnd : ℕ → Option Link → Type 0
IsEnd h None = ⊤
IsEnd h (Some l) = IsForgotten h l.holder

-- what a commit's record has as previous is its own, or of an earlier commit
abbrev pub IsEarlier : Previous → Holder → Type 0
IsEarlier (Committed a m) (At n) = m < n
IsEarlier p h = ⊤

pub record IsMet (l : Option Link) (r : Held) : Type 0 where
  pub leads : l ≡ Some (link_to r)
  pub earlier : IsEarlier r.logged.previous r.holder

-- the link leads to the first of these records, each record to the next, and the last to an end
abbrev pub IsChain : ℕ → Option Link → List Held → Type 0
IsChain h l [] = IsEnd h l
IsChain h l (r ∷ rs) = IsMet l r × IsChain h (link_from r.holder r.logged.previous) rs

-- each key's link leads along all records of the key
abbrev pub AreChained : SegmentLog → (Key → Option Link) → Type 0
AreChained u links = (k : Key) → IsChain (horizon u) (links k) (of_key k (all_held u))

-- ---- the walk along a chain

-- the records that are read: they end at the first that is not later than the moment
abbrev pub records_after : ℕ → List Held → List Record
records_after m [] = []
records_after m (r ∷ rs) = cond (is_later m r.holder) (r.logged.before ∷ records_after m rs) []

-- ---- links

-- the key's link is this
abbrev pub with_link : (Key → Option Link) → Key → Option Link → Key → Option Link
with_link links k l j = cond (is_key k j) l (links j)

-- a commit of the terminal at this moment
abbrev pub holder_after_seal : ℕ → ℕ → Holder → Holder
holder_after_seal t m (Open s) = cond (s == t) (At m) (Open s)
holder_after_seal t m (At n) = At n

-- the commit at this moment is the terminal's open transaction again
abbrev pub holder_after_reopening : ℕ → ℕ → Holder → Holder
holder_after_reopening t m (Open s) = Open s
holder_after_reopening t m (At n) = cond (n == m) (Open t) (At n)

abbrev pub with_holder : (Holder → Holder) → Option Link → Option Link
with_holder f None = None
with_holder f (Some l) = Some (record { address = l.address; holder = f l.holder })
