-- What changes of tables make of the lists of last names.
use Rattle.std.specs.Prelude.{◌≡◌, ◌↔◌, ℕ, IsTrue}
use Rattle.oe_rows.specs.Key.{customer_cmp}
use Rattle.oe_rows.specs.declared.keys.CustomerKey.{CustomerKey}
use Rattle.oe_index.specs.Listed.{IsListed, ListsAtMost}
use Rattle.oe_index.specs.Numbers.{ForgetsName}
use Rattle.oe_store.specs.Places.{Places, rows}

-- the customer is in the list of that number
abbrev pub IsNamed : Places → ℕ → CustomerKey → Type 0
IsNamed s number key = IsListed customer_cmp s.names.lists number key

-- the same customers are listed, and the lists stand where they did
abbrev pub SameNames : Places → Places → Type 0
SameNames old new = new.names ≡ old.names

-- the customer is listed under that number, if the lists stand, and else each as before
pub record ListsName (old new : Places) (number : ℕ) (key : CustomerKey) : Type 0 where
  pub lists : ListsAtMost customer_cmp old.names.lists new.names.lists number key
  pub listed : IsTrue new.names.is_listed → IsNamed new number key
  pub stand : new.names.is_listed ≡ old.names.is_listed

-- each customer is listed as before, and the lists stand on where that holds, and are else given up
pub record StandWhere (old new : Places) (P : Type 0) : Type 0 where
  pub lists : new.names.lists ≡ old.names.lists
  pub stand : IsTrue new.names.is_listed ↔ (IsTrue old.names.is_listed × P)

-- the customer is off the list of that number, unless it is of its own C_LAST, and nothing else has changed
pub record TakesOff (old new : Places) (number : ℕ) (key : CustomerKey) : Type 0 where
  pub others : new ≡ record old { names = new.names }
  pub lists : ForgetsName (rows old).customers old.names.lists new.names.lists number key
  pub stand : new.names.is_listed ≡ old.names.is_listed
