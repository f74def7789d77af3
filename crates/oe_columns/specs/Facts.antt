-- The fact that a row spells, or the first column that it misses.
use Rattle.std.specs.Prelude.{ℕ, ◌+◌, List, [], ◌∷◌, Result, Ok, Err}
use Rattle.oe_facts.specs.declared.tables.Table.{Table}
use Rattle.oe_facts.specs.declared.tables.Fact.{Fact}
use Rattle.oe_facts.specs.declared.tables.Fact.TheVariants as fact
use Rattle.oe_columns.specs.declared.columns.Kind.{Kind}
use Rattle.oe_columns.specs.declared.rows.Misfit.{Misfit}
use Rattle.oe_columns.specs.Columns.{kinds_of}
use Rattle.oe_columns.specs.Values.{Value, Number, Quantity, Money, Presence, Flag, Placed, column}

infixl 10 ◌>>=◌
abbrev pub ◌>>=◌ : {A B : Type 0} → Result A Misfit → (A → Result B Misfit) → Result B Misfit
(Ok x) >>= f = f x
(Err e) >>= f = Err e

-- the values of the columns from the k-th on, or else the first that has none
abbrev pub values_from : List Kind → ℕ → Placed → Result (List Value) Misfit
values_from [] k r = Ok []
values_from (f ∷ fs) k r = do
  v ← column f k r
  vs ← values_from fs (k + 1) r
  Ok (v ∷ vs)

-- the values of a row's columns, in the table's order, or else the first column that has none
unfoldable pub values_in : Table → Placed → Result (List Value) Misfit
values_in t r = values_from (kinds_of t) 0 r

-- the values that a fact keeps, in the table's order
abbrev pub fact_values : Fact → List Value
fact_values (fact.Warehouse f) = Number f.warehouse ∷ Money f.ytd ∷ []
fact_values (fact.District f) =
    Number f.key.warehouse ∷ Number f.key.district ∷ Money f.ytd ∷ Number f.next_order ∷ []
fact_values (fact.Customer f) =
    Number f.key.warehouse ∷ Number f.key.district ∷ Number f.key.customer ∷ Money f.balance ∷ Money f.ytd_payment
    ∷ Number f.payments ∷ Number f.deliveries ∷ []
fact_values (fact.History f) =
    Number f.customer.customer ∷ Number f.customer.district ∷ Number f.customer.warehouse
    ∷ Number f.district.district ∷ Number f.district.warehouse ∷ Money f.amount ∷ []
fact_values (fact.NewOrder f) = Number f.key.warehouse ∷ Number f.key.district ∷ Number f.key.order ∷ []
fact_values (fact.Order f) =
    Number f.key.warehouse ∷ Number f.key.district ∷ Number f.key.order ∷ Number f.customer
    ∷ Presence f.is_delivered ∷ Number f.line_count ∷ Flag f.is_all_local ∷ []
fact_values (fact.OrderLine f) =
    Number f.order.warehouse ∷ Number f.order.district ∷ Number f.order.order ∷ Number f.number ∷ Number f.item
    ∷ Number f.supply ∷ Presence f.is_delivered ∷ Number f.quantity ∷ Money f.amount ∷ []
fact_values (fact.Item f) = Number f.item ∷ []
fact_values (fact.Stock f) =
    Number f.key.warehouse ∷ Number f.key.item ∷ Quantity f.quantity ∷ Number f.ytd ∷ Number f.orders
    ∷ Number f.remotes ∷ []

-- what was read of a row, as values
abbrev pub read_values : Result Fact Misfit → Result (List Value) Misfit
read_values (Ok f) = Ok (fact_values f)
read_values (Err e) = Err e
