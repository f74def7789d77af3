-- What an audit's walks of the rows that stand find then.
use Rattle.std.specs.Prelude.{ℕ, Bool, List, length, Option, None, Some, option_map, max}
use Rattle.std.specs.List.{filter_map}
use Rattle.std.specs.declared.cmp.Ordering.{Ordering}
use Rattle.std.specs.FinMap.{FinMap, get}
use Rattle.oe_rows.specs.declared.keys.DistrictKey.{DistrictKey}
use Rattle.oe_rows.specs.declared.keys.OrderKey.{OrderKey}
use Rattle.oe_rows.specs.declared.keys.OrderLineKey.{OrderLineKey}
use Rattle.oe_rows.specs.declared.orders.Order.{Order}
use Rattle.oe_rows.specs.declared.orders.OrderLine.{OrderLine}
use Rattle.oe_model.specs.Rows.{Rows}
use Rattle.oe_model.specs.Audits.{Condition, Second, Third, Fourth, Fifth, Sixth, passes_5, passes_6}
use Rattle.oe_audit.specs.Tests.{is_numbered, are_counted, lines_agree}
use Rattle.oe_audit.specs.declared.conditions.DistrictCondition.{DistrictCondition}
use Rattle.oe_audit.specs.declared.conditions.DistrictCondition.TheVariants as of_districts
use Rattle.oe_audit.specs.declared.orders.OrderCondition.{OrderCondition}
use Rattle.oe_audit.specs.declared.orders.OrderCondition.TheVariants as of_orders
use Rattle.oe_rows_of.specs.Then.{row_then}

-- what the keys of these rows have then
abbrev pub entries_then : {K X : Type 0} {R : K → K → Ordering}
    → Bool → FinMap R X → List (K × X) → List (K × X)
entries_then w m es = filter_map (λ e. option_map (λ x. (e.0, x)) (row_then w m e.0 e.1)) es

-- the rows that a table has at the keys of these
abbrev pub stood_among : {K X Y : Type 0} {R : K → K → Ordering}
    → FinMap R X → List (K × Y) → List (K × X)
stood_among m es = filter_map (λ e. option_map (λ x. (e.0, x)) (get m e.0)) es

-- how many of these ORDER-LINE rows stood then
abbrev pub lines_stood : Bool → Rows → List (OrderLineKey × OrderLine) → ℕ
lines_stood w r es = length (entries_then w r.order_lines es)

-- a condition of districts, as the model's
abbrev pub model_condition : DistrictCondition → Condition
model_condition of_districts.Second = Second
model_condition of_districts.Third = Third
model_condition of_districts.Fourth = Fourth

-- a district with this D_NEXT_O_ID passes it
abbrev pub passes : DistrictCondition → Rows → DistrictKey → ℕ → Bool
passes of_districts.Second r h next = is_numbered r h next
passes of_districts.Third r h next = are_counted r h
passes of_districts.Fourth r h next = lines_agree r h

-- a condition of orders, as the model's
abbrev pub order_condition : OrderCondition → Condition
order_condition of_orders.Fifth = Fifth
order_condition of_orders.Sixth = Sixth

-- an order with this row passes it
abbrev pub passes_order : OrderCondition → Rows → OrderKey → Order → Bool
passes_order of_orders.Fifth r k x = passes_5 r k x
passes_order of_orders.Sixth r k x = passes_6 r k x

-- the greater of a number and the one before it, where there is one
abbrev pub greater_of : Option ℕ → ℕ → ℕ
greater_of None n = n
greater_of (Some b) n = max b n
