-- The ranges of the columns of items and of stock (clause 1.3.1).
use Rattle.std.specs.Prelude.{◌≡◌, ◌≤◌, length}
use Rattle.std.specs.Int.{IsInRange}
use Rattle.std.specs.List.{All}
use Rattle.oe_values.specs.Text.{IsText}
use Rattle.oe_rows.specs.declared.items.Item.{Item}
use Rattle.oe_rows.specs.declared.items.Stock.{Stock}
use Rattle.oe_rows.specs.declared.items.StockCounters.{StockCounters}

pub record IsItem (i : Item) : Type 0 where
  pub image : IsInRange 1 200_000 i.image
  pub name : IsText 0 24 i.name
  pub price : i.price ≤ 99_999
  pub text : IsText 0 50 i.data

pub record IsStock (s : Stock) : Type 0 where
  pub quantity : s.quantity ≤ 9_999
  pub ten_infos : length s.dist_info ≡ 10
  pub dist_info : All (IsText 24 24) s.dist_info
  pub ytd : s.ytd ≤ 99_999_999
  pub order_count : s.order_count ≤ 9_999
  pub remote_count : s.remote_count ≤ 9_999
  pub text : IsText 0 50 s.data

-- a row with these counters
abbrev pub with_counters : StockCounters → Stock → Stock
with_counters n s =
    record s {
      quantity = n.quantity;
      ytd = n.ytd;
      order_count = n.order_count;
      remote_count = n.remote_count;
    }
