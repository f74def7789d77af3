-- The customers whom the lists of last names have to have: under their own C_LAST, and under those that records tell.
use Rattle.std.specs.Prelude.{◌≡◌, ◌↔◌, ◌⊎◌, ℕ, ◌-◌, Bool, IsTrue, List, [], ◌∷◌, take}
use Rattle.std.specs.Option.{IsSomeAnd}
use Rattle.oe_rows.specs.declared.keys.CustomerKey.{CustomerKey}
use Rattle.oe_theory.specs.Undo.{Undo}
use Rattle.oe_model.specs.Keys.{district_of_customer}
use Rattle.oe_model.specs.Rows.{Rows}
use Rattle.oe_model.specs.Changes.{Record}
use Rattle.oe_model.specs.System.{system}
use Rattle.oe_index.specs.Numbers.{list_number}
use Rattle.oe_layout.specs.Stored.{last_before}
use Rattle.oe_store.specs.Places.{Places, rows}
use Rattle.oe_store.specs.Names.{IsNamed}
use Rattle.oe_log.specs.Log.{SegmentLog, total_count}
use Rattle.oe_log.specs.Stands.{undo_of, rename_in}
use Rattle.oe_journal.specs.Forgetting.{HasName}

-- the record tells a C_LAST of the customer, which is of the list of that number
abbrev pub Tells : ℕ → CustomerKey → Record → Type 0
Tells n k b = IsSomeAnd (last_before b) (λ x. (n ≡ list_number (district_of_customer x.0) x.1) × (k ≡ x.0))

-- one of the records does
abbrev pub TellsAmong : ℕ → CustomerKey → List Record → Type 0
TellsAmong n k [] = ⊥
TellsAmong n k (b ∷ bs) = Tells n k b ⊎ TellsAmong n k bs

-- one of these commits' records does
abbrev pub TellsIn : ℕ → CustomerKey → List (List Record) → Type 0
TellsIn n k [] = ⊥
TellsIn n k (bs ∷ ss) = TellsAmong n k bs ⊎ TellsIn n k ss

-- a record of open work or of a commit does
abbrev pub IsTold : Undo system → ℕ → CustomerKey → Type 0
IsTold d n k = ((t : ℕ) × TellsAmong n k (d.active t)) ⊎ TellsIn n k d.history

-- a record of open work or of a commit after the moment does
abbrev pub IsToldAfter : SegmentLog → ℕ → ℕ → CustomerKey → Type 0
IsToldAfter u m n k =
    ((t : ℕ) × TellsAmong n k ((undo_of u).active t)) ⊎ TellsIn n k (take (total_count u - m) (undo_of u).history)

-- the lists of last names stand, and a customer is listed exactly under its own C_LAST and those that records tell
pub record HasExactNames (ts : Places) (d : Undo system) : Type 0 where
  pub stand : IsTrue ts.names.is_listed
  pub exact : (n : ℕ) (k : CustomerKey) → IsNamed ts n k ↔ (HasName (rows ts) n k ⊎ IsTold d n k)

-- so they do, where that record counts too
pub record HasExactNamesWith (ts : Places) (b : Record) (d : Undo system) : Type 0 where
  pub stand : IsTrue ts.names.is_listed
  pub exact : (n : ℕ) (k : CustomerKey) → IsNamed ts n k ↔ (HasName (rows ts) n k ⊎ (Tells n k b ⊎ IsTold d n k))

-- where the lists had exactly these, they have them now
abbrev pub KeepsExactNames : Places → Places → SegmentLog → SegmentLog → Type 0
KeepsExactNames ts ts' u u' = HasExactNames ts (undo_of u) → HasExactNames ts' (undo_of u')

-- one of these commits renamed the customer, who had a C_LAST of that list before
abbrev pub RenamesIn : ℕ → CustomerKey → List (List Record) → Type 0
RenamesIn n k [] = ⊥
RenamesIn n k (bs ∷ ss) =
    IsSomeAnd (rename_in bs) (λ x. (n ≡ list_number (district_of_customer x.0) x.1) × (k ≡ x.0)) ⊎ RenamesIn n k ss

-- each C_LAST that records of these commits tell is the customer's own still, or a record after the moment tells it, or
-- it is one of those before a rename, which may be looked for
abbrev pub LoseByRenames : SegmentLog → ℕ → Rows → Bool → List (List Record) → Type 0
LoseByRenames u m r may ss = (n : ℕ) (k : CustomerKey) → TellsIn n k ss
    → HasName r n k ⊎ (IsToldAfter u m n k ⊎ (IsTrue may × RenamesIn n k ss))
