-- The last of a row of orders.
use Rattle.std.specs.Prelude.{ℕ, List, [], ◌∷◌, Option, Some}
use Rattle.oe_rows.specs.declared.keys.OrderKey.{OrderKey}
use Rattle.oe_rows.specs.declared.orders.Order.{Order}

-- the number of the last of the orders, or of the one before them
abbrev pub newest_from : Option ℕ → List (OrderKey × Order) → Option ℕ
newest_from n [] = n
newest_from n (e ∷ es) = newest_from (Some e.0.order) es
