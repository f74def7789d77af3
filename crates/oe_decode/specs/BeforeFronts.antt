-- The columns that an update changed, at the front of bytes: a mask, and the columns that it says are there.
use Rattle.std.specs.Prelude.{ℕ, zero, suc, ◌+◌, ◌-◌, ◌*◌, ◌/◌, ◌%◌, ◌^◌, ◌==◌, Bool, true, false, nat_le, List, []}
use Rattle.std.specs.Prelude.{◌∷◌}
use Rattle.std.specs.Prelude.{get_or, Option, Some, None}
use Rattle.oe_extent.specs.Images.{number_at}
use Rattle.oe_rows.specs.declared.before.AddressBefore.{AddressBefore}
use Rattle.oe_rows.specs.declared.before.WarehouseBefore.{WarehouseBefore}
use Rattle.oe_rows.specs.declared.before.DistrictBefore.{DistrictBefore}
use Rattle.oe_rows.specs.declared.before.CustomerNameBefore.{CustomerNameBefore}
use Rattle.oe_rows.specs.declared.before.AccountBefore.{AccountBefore}
use Rattle.oe_rows.specs.declared.before.CustomerBefore.{CustomerBefore}
use Rattle.oe_rows.specs.declared.before.OrderBefore.{OrderBefore}
use Rattle.oe_rows.specs.declared.before.OrderLineBefore.{OrderLineBefore}
use Rattle.oe_rows.specs.declared.before.StockBefore.{StockBefore}
use Rattle.oe_decode.specs.Fronts.{◌>>=◌, front_where, front_as, pair_at, ranged_at}
use Rattle.oe_decode.specs.ColumnFronts.{text_at, present, stamp_at, balance_at, carrier_at, delivery_at, flag_at}
use Rattle.oe_decode.specs.ColumnFronts.{credit_at}

-- the number's last binary digits, as many as this, the most significant first
unfoldable pub digits : ℕ → ℕ → List Bool
digits zero n = []
digits (suc k) n = nat_le (2 ^ k) n ∷ digits k (n % 2 ^ k)

-- a mask of so many columns in `width` bytes: none where a spare bit is 1
abbrev pub mask_at : ℕ → ℕ → List ℕ → Option (List Bool × List ℕ)
mask_at width count bytes =
    front_as (λ n. digits count (n / 2 ^ (8 * width - count)))
    (front_where (λ n. n % 2 ^ (8 * width - count) == 0) (number_at width bytes))

-- a column that is there, or none
abbrev pub kept_at : {X : Type 0} → Bool → (List ℕ → Option (X × List ℕ)) → List ℕ → Option (Option X × List ℕ)
kept_at false at bytes = Some (None, bytes)
kept_at true at bytes = present (at bytes)

-- the i-th bit of a mask
unfoldable pub bit : List Bool → ℕ → Bool
bit bits i = get_or bits i false

-- the address's five columns, from the i-th bit on
unfoldable pub address_columns_at : List Bool → ℕ → List ℕ → Option (AddressBefore × List ℕ)
address_columns_at bits i bytes =
    front_as (λ p. record { street_1 = p.0; street_2 = p.1.0; city = p.1.1.0; state = p.1.1.1.0; zip = p.1.1.1.1 })
    (pair_at (kept_at (bit bits i) (text_at 0 20)) (pair_at (kept_at (bit bits (i + 1)) (text_at 0 20))
    (pair_at (kept_at (bit bits (i + 2)) (text_at 0 20)) (pair_at (kept_at (bit bits (i + 3)) (text_at 2 2))
    (kept_at (bit bits (i + 4)) (text_at 9 9))))) bytes)

-- the name's three
unfoldable pub name_columns_at : List Bool → ℕ → List ℕ → Option (CustomerNameBefore × List ℕ)
name_columns_at bits i bytes =
    front_as (λ p. record { first = p.0; middle = p.1.0; last = p.1.1 })
    (pair_at (kept_at (bit bits i) (text_at 0 16)) (pair_at (kept_at (bit bits (i + 1)) (text_at 2 2))
    (kept_at (bit bits (i + 2)) (text_at 0 16))) bytes)

-- the account's six
unfoldable pub account_columns_at : List Bool → ℕ → List ℕ → Option (AccountBefore × List ℕ)
account_columns_at bits i bytes =
    front_as (λ p. record {
      credit_limit = p.0;
      discount = p.1.0;
      balance = p.1.1.0;
      ytd_payment = p.1.1.1.0;
      payment_count = p.1.1.1.1.0;
      delivery_count = p.1.1.1.1.1;
    })
    (pair_at (kept_at (bit bits i) (ranged_at 8 0 999_999_999_999))
    (pair_at (kept_at (bit bits (i + 1)) (ranged_at 2 0 9_999))
    (pair_at (kept_at (bit bits (i + 2)) balance_at) (pair_at
    (kept_at (bit bits (i + 3)) (ranged_at 8 0 999_999_999_999))
    (pair_at (kept_at (bit bits (i + 4)) (ranged_at 2 0 9_999))
    (kept_at (bit bits (i + 5)) (ranged_at 2 0 9_999)))))) bytes)

-- S_DIST_01 to S_DIST_10, from the i-th bit on
unfoldable pub ten_columns_at : List Bool → ℕ → List ℕ → Option (List (Option (List ℕ)) × List ℕ)
ten_columns_at bits i bytes =
    front_as (λ p. p.0 ∷ p.1.0 ∷ p.1.1.0 ∷ p.1.1.1.0 ∷ p.1.1.1.1.0 ∷ p.1.1.1.1.1.0 ∷ p.1.1.1.1.1.1.0 ∷ p.1.1.1.1.1.1.1.0
    ∷ p.1.1.1.1.1.1.1.1.0 ∷ p.1.1.1.1.1.1.1.1.1 ∷ [])
    (pair_at (kept_at (bit bits i) (text_at 24 24)) (pair_at (kept_at (bit bits (i + 1)) (text_at 24 24))
    (pair_at (kept_at (bit bits (i + 2)) (text_at 24 24)) (pair_at (kept_at (bit bits (i + 3)) (text_at 24 24))
    (pair_at (kept_at (bit bits (i + 4)) (text_at 24 24)) (pair_at (kept_at (bit bits (i + 5)) (text_at 24 24))
    (pair_at (kept_at (bit bits (i + 6)) (text_at 24 24)) (pair_at (kept_at (bit bits (i + 7)) (text_at 24 24))
    (pair_at (kept_at (bit bits (i + 8)) (text_at 24 24)) (kept_at (bit bits (i + 9)) (text_at 24 24)))))))))) bytes)

unfoldable pub warehouse_columns_at : List Bool → List ℕ → Option (WarehouseBefore × List ℕ)
warehouse_columns_at bits bytes =
    front_as (λ p. record { name = p.0; address = p.1.0; tax = p.1.1.0; ytd = p.1.1.1 })
    (pair_at (kept_at (bit bits 0) (text_at 0 10)) (pair_at (address_columns_at bits 1)
    (pair_at (kept_at (bit bits 6) (ranged_at 2 0 9_999)) (kept_at (bit bits 7)
    (ranged_at 8 0 999_999_999_999)))) bytes)

unfoldable pub district_columns_at : List Bool → List ℕ → Option (DistrictBefore × List ℕ)
district_columns_at bits bytes =
    front_as (λ p. record { name = p.0; address = p.1.0; tax = p.1.1.0; ytd = p.1.1.1.0; next_order = p.1.1.1.1 })
    (pair_at (kept_at (bit bits 0) (text_at 0 10)) (pair_at (address_columns_at bits 1)
    (pair_at (kept_at (bit bits 6) (ranged_at 2 0 9_999)) (pair_at
    (kept_at (bit bits 7) (ranged_at 8 0 999_999_999_999)) (kept_at (bit bits 8) (ranged_at 4 1 10_000_000))))) bytes)

unfoldable pub customer_columns_at : List Bool → List ℕ → Option (CustomerBefore × List ℕ)
customer_columns_at bits bytes =
    front_as (λ p. record {
      name = p.0;
      address = p.1.0;
      phone = p.1.1.0;
      since = p.1.1.1.0;
      credit = p.1.1.1.1.0;
      account = p.1.1.1.1.1.0;
      «data» = p.1.1.1.1.1.1;
    })
    (pair_at (name_columns_at bits 0) (pair_at (address_columns_at bits 3)
    (pair_at (kept_at (bit bits 8) (text_at 16 16)) (pair_at (kept_at (bit bits 9) stamp_at)
    (pair_at (kept_at (bit bits 10) credit_at) (pair_at (account_columns_at bits 11)
    (kept_at (bit bits 17) (text_at 0 500))))))) bytes)

unfoldable pub order_columns_at : List Bool → List ℕ → Option (OrderBefore × List ℕ)
order_columns_at bits bytes =
    front_as (λ p. record {
      customer = p.0;
      entry = p.1.0;
      carrier = p.1.1.0;
      line_count = p.1.1.1.0;
      all_local = p.1.1.1.1;
    })
    (pair_at (kept_at (bit bits 0) (ranged_at 2 1 3_000)) (pair_at (kept_at (bit bits 1) stamp_at)
    (pair_at (kept_at (bit bits 2) carrier_at) (pair_at (kept_at (bit bits 3) (ranged_at 1 5 15))
    (kept_at (bit bits 4) flag_at)))) bytes)

unfoldable pub order_line_columns_at : List Bool → List ℕ → Option (OrderLineBefore × List ℕ)
order_line_columns_at bits bytes =
    front_as (λ p. record {
      item = p.0;
      supply = p.1.0;
      delivery = p.1.1.0;
      quantity = p.1.1.1.0;
      amount = p.1.1.1.1.0;
      dist_info = p.1.1.1.1.1;
    })
    (pair_at (kept_at (bit bits 0) (ranged_at 4 1 100_000))
    (pair_at (kept_at (bit bits 1) (ranged_at 2 1 16)) (pair_at (kept_at (bit bits 2) delivery_at)
    (pair_at (kept_at (bit bits 3) (ranged_at 1 0 99)) (pair_at (kept_at (bit bits 4) (ranged_at 8 0 999_999))
    (kept_at (bit bits 5) (text_at 24 24)))))) bytes)

unfoldable pub stock_columns_at : List Bool → List ℕ → Option (StockBefore × List ℕ)
stock_columns_at bits bytes =
    front_as (λ p. record {
      quantity = p.0;
      dist_info = p.1.0;
      ytd = p.1.1.0;
      order_count = p.1.1.1.0;
      remote_count = p.1.1.1.1.0;
      «data» = p.1.1.1.1.1;
    })
    (pair_at (kept_at (bit bits 0) (ranged_at 2 0 9_999)) (pair_at (ten_columns_at bits 1)
    (pair_at (kept_at (bit bits 11) (ranged_at 4 0 99_999_999))
    (pair_at (kept_at (bit bits 12) (ranged_at 2 0 9_999)) (pair_at (kept_at (bit bits 13) (ranged_at 2 0 9_999))
    (kept_at (bit bits 14) (text_at 0 50)))))) bytes)

abbrev pub warehouse_before_at : List ℕ → Option (WarehouseBefore × List ℕ)
warehouse_before_at bytes = mask_at 1 8 bytes >>= λ m. warehouse_columns_at m.0 m.1

abbrev pub district_before_at : List ℕ → Option (DistrictBefore × List ℕ)
district_before_at bytes = mask_at 2 9 bytes >>= λ m. district_columns_at m.0 m.1

abbrev pub customer_before_at : List ℕ → Option (CustomerBefore × List ℕ)
customer_before_at bytes = mask_at 3 18 bytes >>= λ m. customer_columns_at m.0 m.1

abbrev pub order_before_at : List ℕ → Option (OrderBefore × List ℕ)
order_before_at bytes = mask_at 1 5 bytes >>= λ m. order_columns_at m.0 m.1

abbrev pub order_line_before_at : List ℕ → Option (OrderLineBefore × List ℕ)
order_line_before_at bytes = mask_at 1 6 bytes >>= λ m. order_line_columns_at m.0 m.1

abbrev pub stock_before_at : List ℕ → Option (StockBefore × List ℕ)
stock_before_at bytes = mask_at 2 15 bytes >>= λ m. stock_columns_at m.0 m.1
