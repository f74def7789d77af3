-- What the population by formula is.
use Rattle.std.specs.Prelude.{◌≡◌, ℕ, ◌-◌, true, Some, [], ◌∷◌, map, get_or, codes, sum_by}
use Rattle.std.specs.List.{range_with_len}
use Rattle.std.specs.FinMap.{get}
use Rattle.oe_rows.specs.declared.scales.Scale.{Scale}
use Rattle.oe_rows.specs.declared.keys.CustomerKey.{CustomerKey}
use Rattle.oe_rows.specs.declared.keys.OrderLineKey.{OrderLineKey}
use Rattle.oe_rows.specs.declared.keys.Key.TheVariants as key
use Rattle.oe_rows.specs.declared.orders.OrderLine.{OrderLine}
use Rattle.oe_rows.specs.declared.items.Stock.{Stock}
use Rattle.oe_rows.specs.declared.rows.Row.TheVariants as row
use Rattle.oe_model.specs.Keys.{supply_of_line}
use Rattle.oe_model.specs.Rows.{Rows}
use Rattle.oe_model.specs.Conditions.{IsPopulation}
use Rattle.oe_model.specs.Population.{IsScale, IsPopulated, formula, has_customer, letters, last_name, dist_text}
use Rattle.oe_model.specs.Population.{warehouse_of, district_of, customer_of, history_of, history_key, last_delivered}
use Rattle.oe_model.specs.Population.{lines_of, line_of, item_of, stock_of}

-- tables with these rows are tables to begin from: the schema and conditions 1 to 4 hold (by the second each district
-- has an order), each warehouse has its stocks, and HISTORY rows are of terminal 0
pub record Population_is_one : Type 0 where
  pub is_population : (s : Scale) (r : Rows) → IsScale s → IsPopulated s r → IsPopulation r
  -- each customer has a HISTORY row
  pub has_history : (s : Scale) (c : CustomerKey) → has_customer s c ≡ true
      → formula s (key.History (history_key s c)) ≡ Some (row.History (history_of c))
  -- OL_DIST_INFO is what the stock that supplies the line has for the line's district
  pub dist_info : (s : Scale) (r : Rows) (k : OrderLineKey) (x : OrderLine) → IsScale s → IsPopulated s r
      → get r.order_lines k ≡ Some x
      → (y : Stock) × (get r.stocks (supply_of_line x) ≡ Some y)
      × (x.dist_info ≡ get_or y.dist_info (k.district - 1) [])

-- the formulas at values worked out by hand
abbrev pub scale_of : ℕ → ℕ → ℕ → Scale
scale_of w c i = record { warehouses = w; customers = c; items = i }

-- OL_AMOUNT of all lines of an order together, at 10 customers
abbrev pub amount_of_order : ℕ → ℕ
amount_of_order o =
    sum_by (λ n. (line_of (scale_of 1 10 100) (record { warehouse = 1; district = 1; order = o; number = n })).amount)
    (range_with_len 1 (lines_of o))

pub record Worked_population : Type 0 where
  pub prices : map (λ i. (item_of i).price) (range_with_len 1 5) ≡ 137 ∷ 174 ∷ 211 ∷ 248 ∷ 285 ∷ []
  pub quantities : map (λ i. (stock_of 1 i).quantity) (range_with_len 1 7) ≡ 24 ∷ 37 ∷ 50 ∷ 63 ∷ 76 ∷ 89 ∷ 11 ∷ []
  pub first_name : last_name 0 ≡ codes "BARBARBAR"
  pub tenth_name : last_name 9 ≡ codes "BARBAREING"
  pub last_of_names : last_name 371 ≡ codes "PRICALLYOUGHT"
  pub dist_info : dist_text 1 1 1 ≡ codes "STOCK-DIST-01-01-0000001"
  pub first_customer : (customer_of 1).name.first ≡ codes "F09999"
  pub letters_of_bad_credit : letters 30 10 ≡ codes "KLMNOPQRSTUVWXYZABCDEFGHIJKLMN"
  pub delivered : last_delivered (scale_of 1 10 100) ≡ 7
  pub line_counts : map lines_of (range_with_len 8 3) ≡ 13 ∷ 14 ∷ 15 ∷ []
  pub amounts : map amount_of_order (range_with_len 8 3) ≡ 12_922 ∷ 15_491 ∷ 18_285 ∷ []
  -- the greatest scale
  pub not_delivered : 3_000 - last_delivered (scale_of 16 3_000 100_000) ≡ 900
  pub next_order : (district_of (scale_of 16 3_000 100_000) 10).next_order ≡ 3_001
  pub district_ytd : (district_of (scale_of 16 3_000 100_000) 10).ytd ≡ 3_000_000
  pub warehouse_ytd : (warehouse_of (scale_of 16 3_000 100_000) 16).ytd ≡ 30_000_000
