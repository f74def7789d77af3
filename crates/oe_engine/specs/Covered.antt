-- Open work: whose the rows are that it has changed, and that it can be put back, with the commits behind it.
use Rattle.std.specs.Prelude.{◌≡◌, ◌≢◌, ◌⊎◌, ℕ, suc, List, [], ◌∷◌, Option, None, Some, IsSome, drop}
use Rattle.oe_theory.specs.Machine.{Guard, Free, Under, Own}
use Rattle.oe_theory.specs.Machine as theory
use Rattle.oe_theory.specs.World.{set}
use Rattle.oe_rows.specs.declared.locks.Name.{Name}
use Rattle.oe_rows.specs.declared.locks.Name.TheVariants as name
use Rattle.oe_model.specs.Keys.{order_of_new_order}
use Rattle.oe_model.specs.Rows.{Rows, row_at}
use Rattle.oe_model.specs.Changes.{Change, InsertNewOrder, key_of, Record, UpdatedWarehouse, UpdatedDistrict}
use Rattle.oe_model.specs.Changes.{UpdatedCustomer, UpdatedOrder, UpdatedOrderLine, UpdatedStock, record_key, put_back}
use Rattle.oe_model.specs.Changes.{ChangedWarehouse, ChangedDistrict, ChangedCustomer, ChangedOrder, ChangedOrderLine}
use Rattle.oe_model.specs.Changes.{ChangedStock}
use Rattle.oe_model.specs.Meets.{Meets}
use Rattle.oe_model.specs.Locks.{governs, Facet, part, facet_key, governs_part}
use Rattle.oe_change.specs.PutBack.{Stands}
use Rattle.oe_journal.specs.GoesBack.{CanUnwindAll}
use Rattle.oe_engine.specs.View.{View}

-- transaction k of terminal t alone may change rows under this guard: it holds their name exclusively, or they are its
-- own
abbrev pub Owns : (Name → Option theory.Mode) → ℕ → ℕ → Guard Name → Type 0
Owns held t k Free = ⊥
Owns held t k (Under n) = held n ≡ Some theory.Exclusive
Owns held t k (Own u j) = (u ≡ t) × (j ≡ k)

-- rows that belong to a transaction are its own
abbrev pub IsOwn : ℕ → ℕ → Guard Name → Type 0
IsOwn t k Free = ⊥
IsOwn t k (Under n) = Unit {0}
IsOwn t k (Own u j) = (u ≡ t) × (j ≡ k)

-- whoever inserts a NEW-ORDER row holds the name of its order
abbrev pub HoldsOrder : (Name → Option theory.Mode) → Change → Type 0
HoldsOrder held (InsertNewOrder k x) = IsSome (held (name.Order (order_of_new_order k)))
HoldsOrder held _ = Unit {0}

-- transaction k of terminal t may make a change beside others' open work: of a row that it alone may change
abbrev pub MayMake : (Name → Option theory.Mode) → ℕ → ℕ → Change → Type 0
MayMake held t k c = Owns held t k (governs (key_of c)) × HoldsOrder held c

-- the record of an update has the row before it, or its columns
abbrev pub IsWhole : Record → Type 0
IsWhole (UpdatedWarehouse k v) = IsSome v
IsWhole (UpdatedDistrict k v) = IsSome v
IsWhole (UpdatedCustomer k v) = IsSome v
IsWhole (UpdatedOrder k v) = IsSome v
IsWhole (UpdatedOrderLine k v) = IsSome v
IsWhole (UpdatedStock k v) = IsSome v
IsWhole (ChangedWarehouse k v) = IsSome v
IsWhole (ChangedDistrict k v) = IsSome v
IsWhole (ChangedCustomer k v) = IsSome v
IsWhole (ChangedOrder k v) = IsSome v
IsWhole (ChangedOrderLine k v) = IsSome v
IsWhole (ChangedStock k v) = IsSome v
IsWhole _ = Unit {0}

-- each record is of a row that its transaction alone may change
abbrev pub AreOwned : (Name → Option theory.Mode) → ℕ → ℕ → List Record → Type 0
AreOwned held t k [] = Unit {0}
AreOwned held t k (b ∷ bs) = Owns held t k (governs (record_key b)) × IsWhole b × AreOwned held t k bs

-- the facet is the same in both
abbrev pub SamePart : Facet → Rows → Rows → Type 0
SamePart f r s = part f (row_at r (facet_key f)) ≡ part f (row_at s (facet_key f))

-- each facet under a name is the same in both, or the name is held exclusively
abbrev pub OwnsParts : (Name → Option theory.Mode) → Rows → Rows → Type 0
OwnsParts held r s =
    (f : Facet) (n : Name) → governs_part f ≡ Under n → SamePart f r s ⊎ (held n ≡ Some theory.Exclusive)

-- each facet that these records have changed, put back one after another, lies under a name that is held exclusively
abbrev pub OwnAllParts : (Name → Option theory.Mode) → List Record → Rows → Type 0
OwnAllParts held [] r = Unit {0}
OwnAllParts held (b ∷ bs) r = OwnsParts held (put_back b r) r × OwnAllParts held bs (put_back b r)

-- a record is of no row under this name, and to put it back changes no facet under it
abbrev pub LeavesName : Name → Record → Rows → Type 0
LeavesName n b r =
    (governs (record_key b) ≢ Under n) × ((f : Facet) → governs_part f ≡ Under n → SamePart f (put_back b r) r)

-- so does each of these records, put back one after another
abbrev pub IsUnused : Name → List Record → Rows → Type 0
IsUnused n [] r = Unit {0}
IsUnused n (b ∷ bs) r = LeavesName n b r × IsUnused n bs (put_back b r)

-- the newest of these records, if there is one, finds the row that its change left
abbrev pub FindsNewest : List Record → Rows → Type 0
FindsNewest [] r = Unit {0}
FindsNewest (b ∷ bs) r = Stands b r

-- the rows with the newest of these records put back, if there is one
abbrev pub put_newest : List Record → Rows → Rows
put_newest [] r = r
put_newest (b ∷ bs) r = put_back b r

-- no terminal has a record of open work
abbrev pub HaveNone : (ℕ → List Record) → Type 0
HaveNone active = (t : ℕ) → active t ≡ []

-- the newest records of these terminals' transactions can be put back, one after another in this order: each finds the
-- row that its change left, and after the last the schema holds. Where no terminal has a record left, the commits'
-- records can be put back next
abbrev pub Unwinds : List (List Record) → (ℕ → List Record) → Rows → List ℕ → Type 0
Unwinds history active r [] = Meets r × (HaveNone active → CanUnwindAll history r)
Unwinds history active r (t ∷ ts) = FindsNewest (active t) r × Unwinds history (set t (drop 1 (active t)) active)
    (put_newest (active t) r) ts

pub record IsSafe (v : View) : Type 0 where
  -- what an open transaction has changed it alone may change
  pub owned : (t : ℕ) → AreOwned (v.held t) t (suc (v.counts t)) (v.undo.active t)
  -- and each facet that it has changed lies under a name that it holds exclusively: who has changed a customer's names
  -- holds both last names so
  pub parts : (t : ℕ) → OwnAllParts (v.held t) (v.undo.active t) v.rows
  -- a name that one transaction holds exclusively no other holds
  pub alone : (t u : ℕ) (n : Name) → u ≢ t → v.held t n ≡ Some theory.Exclusive → v.held u n ≡ None
  -- open work can be put back, whole or in part, in any order of terminals, and after the whole of it the commits
  pub unwinds : (ts : List ℕ) → Unwinds v.undo.history v.undo.active v.rows ts
