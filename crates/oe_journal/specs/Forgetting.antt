-- Which last names records tell of a customer, and which one is lost where a record's change is undone.
use Rattle.std.specs.Prelude.{◌≡◌, ◌↔◌, ◌⊎◌, ℕ, ◌==◌, nat_eq, Bool, true, false, cond, List, [], ◌∷◌, Option, None}
use Rattle.std.specs.Prelude.{Some}
use Rattle.std.specs.Prelude.{option_and_then}
use Rattle.std.specs.Option.{IsSomeAnd}
use Rattle.std.specs.Cmp.Lexicographic.{pointwise}
use Rattle.std.specs.FinMap.{get}
use Rattle.oe_rows.specs.declared.keys.CustomerKey.{CustomerKey}
use Rattle.oe_rows.specs.declared.keys.Key.TheVariants as key
use Rattle.oe_rows.specs.declared.customers.Customer.{Customer}
use Rattle.oe_model.specs.Keys.{district_of_customer}
use Rattle.oe_model.specs.Rows.{Rows}
use Rattle.oe_model.specs.Changes.{Record}
use Rattle.oe_index.specs.Numbers.{name_number, list_number, is_list_of}
use Rattle.oe_layout.specs.Stored.{last_before}
use Rattle.oe_store.specs.Places.{Places, rows}
use Rattle.oe_store.specs.Names.{IsNamed}
use Rattle.oe_log.specs.Log.{SegmentLog}
use Rattle.oe_log.specs.Stands.{rename_in}
use Rattle.oe_undo.specs.Held.{all_held, of_key}
use Rattle.oe_undo.specs.Restored.{later_of}

-- the name is of the list of that number
abbrev pub is_in_list : ℕ → Option (CustomerKey × List ℕ) → Bool
is_in_list number None = false
is_in_list number (Some x) = name_number x.1 == number

-- the record tells a C_LAST of that list
abbrev pub tells_name : ℕ → Record → Bool
tells_name number b = is_in_list number (last_before b)

-- one of the records does
abbrev pub one_tells : ℕ → List Record → Bool
one_tells number [] = false
one_tells number (b ∷ bs) = cond (tells_name number b) true (one_tells number bs)

-- the customer with its C_LAST, where that is another one
abbrev pub other_last : CustomerKey → List ℕ → Option Customer → Option (CustomerKey × List ℕ)
other_last k last None = None
other_last k last (Some x) = cond (pointwise nat_eq x.name.last last) None (Some (k, x.name.last))

-- the customer and the C_LAST that go where the record's change is undone
abbrev pub name_lost : Rows → Record → Option (CustomerKey × List ℕ)
name_lost r b = option_and_then (λ x. other_last x.0 x.1 (get r.customers x.0)) (last_before b)

-- ---- which customers are taken off which lists

-- the customer's own C_LAST is of the list of that number
abbrev pub HasName : Rows → ℕ → CustomerKey → Type 0
HasName r n k = is_list_of n k (get r.customers k) ≡ true

-- no record of the customer, of an open transaction or of a commit after the moment, tells a C_LAST of the list of that
-- one
abbrev pub IsUntold : SegmentLog → ℕ → CustomerKey → List ℕ → Type 0
IsUntold u m k last = one_tells (name_number last) (later_of m (of_key (key.Customer k) (all_held u))) ≡ false

-- it is that customer and the list of that C_LAST, of which no such record tells
abbrev pub LosesName : SegmentLog → ℕ → CustomerKey × List ℕ → ℕ → CustomerKey → Type 0
LosesName u m x n k = (n ≡ list_number (district_of_customer x.0) x.1) × (k ≡ x.0) × IsUntold u m x.0 x.1

-- one of these commits renamed the customer, who had a C_LAST of that list before, of which no such record tells
abbrev pub LosesNameIn : SegmentLog → ℕ → List (List Record) → ℕ → CustomerKey → Type 0
LosesNameIn u m [] n k = ⊥
LosesNameIn u m (bs ∷ ss) n k = IsSomeAnd (rename_in bs) (λ x. LosesName u m x n k) ⊎ LosesNameIn u m ss n k

-- nothing but the lists of last names has changed
abbrev pub HaveNamesChanged : Places → Places → Type 0
HaveNamesChanged old new = new ≡ record old { names = new.names }

-- the customers of which that holds are off these lists, but for the list of their own C_LAST, and else each is listed
-- as before; the lists stand where they did
pub record ForgetsNames (old new : Places) (P : ℕ → CustomerKey → Type 0) : Type 0 where
  pub lists : (n : ℕ) (k : CustomerKey) → IsNamed new n k ↔ (IsNamed old n k × (P n k → HasName (rows old) n k))
  pub stand : new.names.is_listed ≡ old.names.is_listed
