-- Since when customers have had the names that they have.
use Rattle.std.specs.Prelude.{◌≡◌, ◌≢◌, ◌-◌, ◌≤◌, ℕ, true, false, List, [], ◌∷◌, Option, take}
use Rattle.oe_rows.specs.declared.keys.CustomerKey.{CustomerKey}
use Rattle.oe_rows.specs.declared.keys.Key.TheVariants as key
use Rattle.oe_rows.specs.declared.customers.CustomerName.{CustomerName}
use Rattle.oe_rows.specs.declared.rows.Row.{Row}
use Rattle.oe_model.specs.Choice.{name_in, name_at}
use Rattle.oe_model.specs.Changes.{Record, record_key, restore}
use Rattle.oe_change.specs.declared.writes.Write.{Write}
use Rattle.oe_store.specs.Places.{rows}
use Rattle.oe_locks.specs.Terminals.{has}
use Rattle.oe_writes.specs.Kinds.{is_rename}
use Rattle.oe_engine.specs.View.{View}
use Rattle.oe_engine.specs.Calls.{newest}
use Rattle.oe_engine.specs.declared.renames.Renames.{Renames}

-- whichever of a customer's rows it is put back into, the record leaves the customer's names
abbrev pub KeepsName : (CustomerKey → Option CustomerName) → Record → Type 0
KeepsName names b = (k : CustomerKey) → record_key b ≡ key.Customer k → (v : Option Row) → name_in v ≡ names k
    → name_in (restore b v) ≡ names k

abbrev pub KeepNames : (CustomerKey → Option CustomerName) → List Record → Type 0
KeepNames names [] = Unit {0}
KeepNames names (b ∷ bs) = KeepsName names b × KeepNames names bs

abbrev pub AllKeepNames : (CustomerKey → Option CustomerName) → List (List Record) → Type 0
AllKeepNames names [] = Unit {0}
AllKeepNames names (bs ∷ ss) = KeepNames names bs × AllKeepNames names ss

-- customers have the names that they had since a moment, but for what the transactions of a set of terminals do:
-- other open work has changed no name, and where that set is empty no later commit has
pub record AreNamed (v : View) (n : Renames) : Type 0 where
  pub names : CustomerKey → Option CustomerName
  pub now : (k : CustomerKey) → name_at v.rows k ≡ names k
  pub active : (t : ℕ) → has n.open t ≡ false → KeepNames names (v.undo.active t)
  pub commits : ((t : ℕ) → has n.open t ≡ false) → AllKeepNames names (take (newest v - n.since) v.undo.history)

-- a terminal's transaction makes a write
pub record Notes (w : Write) (t : ℕ) (old new : Renames) : Type 0 where
  pub own : is_rename w ≡ true → has new.open t ≡ true
  pub others : (u : ℕ) → u ≢ t → has new.open u ≡ has old.open u
  pub kept : is_rename w ≡ false → new ≡ old
  pub since : new.since ≡ old.since

-- a terminal's transaction ends, where that moment is the newest
pub record Forgets (t m : ℕ) (old new : Renames) : Type 0 where
  pub own : has new.open t ≡ false
  pub others : (u : ℕ) → u ≢ t → has new.open u ≡ has old.open u
  pub kept : has old.open t ≡ false → new.since ≡ old.since
  pub moved : has old.open t ≡ true → new.since ≡ m

-- no transaction may be renaming a customer, and none did after the moment
pub record HasStood (n : Renames) (m : ℕ) : Type 0 where
  pub none : (t : ℕ) → has n.open t ≡ false
  pub since : n.since ≤ m
