-- What a stage writes, where its columns stay in their ranges.
use Rattle.std.proofs.Common.{◌≡◌, ℕ, ◌+◌, ◌≤◌, ◌<◌, ◌⊎◌, inl, inr, List, ◌∷◌, length, Option, None, Some, refl, sym}
use Rattle.std.proofs.Common.{ap, ◌∙◌, subst}
use Rattle.std.specs.Prelude.{Result, Ok, Err, option_map, Bool, true, false, cond, nat_le}
use Rattle.std.proofs.lemmas.Bool.{le-leb}
use Rattle.std.proofs.lemmas.Bool.Decides.{leb_tells}
use Rattle.std.specs.FinMap.{get}
use Rattle.oe_theory.specs.Machine.{Ask, Stop, Take, Fail, Go, Exclusive}
use Rattle.oe_rows.specs.declared.keys.StockKey.{StockKey}
use Rattle.oe_rows.specs.declared.locks.Name.{Name}
use Rattle.oe_rows.specs.declared.locks.Name.TheVariants as name
use Rattle.oe_requests.specs.declared.refusals.Refusal.{Refusal}
use Rattle.oe_rows.specs.declared.keys.Key.TheVariants as key
use Rattle.oe_rows.specs.Item.{with_counters}
use Rattle.oe_rows.specs.declared.districts.District.{District}
use Rattle.oe_rows.specs.declared.items.Item.{Item}
use Rattle.oe_rows.specs.declared.items.Stock.{Stock}
use Rattle.oe_rows.specs.declared.items.StockCounters.{StockCounters}
use Rattle.oe_requests.specs.declared.requests.RequestLine.{RequestLine}
use Rattle.oe_requests.specs.declared.requests.NewOrderRequest.{NewOrderRequest}
use Rattle.oe_requests.specs.declared.replies.LineReply.{LineReply}
use Rattle.oe_requests.specs.declared.refusals.Column.{Column}
use Rattle.oe_requests.specs.declared.refusals.Refusal.TheVariants.{NoSuchRow, InvalidItem, Overflow}
use Rattle.oe_change.specs.declared.writes.Write.TheVariants as write
use Rattle.oe_formulas.specs.Checks.{row_in_ranges, row_with}
use Rattle.oe_model.specs.Rows.{Rows}
use Rattle.oe_model.specs.Changes.{UpdateDistrict, UpdateStock}
use Rattle.oe_model.specs.Effects.{Doing, with_value, within}
use Rattle.oe_model.specs.Positions.{Seen, NewOrderDistrict, NewOrderCustomer, NewOrderStock, NewOrderLine, InNewOrder}
use Rattle.oe_model.specs.NewOrder.{stock_after, stock_of, stock_out, item_at, fill, with_next, next_out, new_order_ask}
use Rattle.oe_model.specs.NewOrder.{new_order_act}
use Rattle.oe_neworder.specs.Program.{filled_by}
use Rattle.oe_neworder.specs.Looks.{Writes, IsSupply}
use Rattle.oe_neworder.specs.declared.fillings.Filled.{Filled}
use Rattle.oe_neworder.specs.declared.looks.Supply.TheVariants as supply

-- columns that were tested: in their ranges, and out of them
module _ {A : Type 0} (out : A → Option Column) (x : A) where
  fits : (f : A → Doing) (y : A) → ◌≡◌ {A = Result A Column} (Ok y) (row_in_ranges out x) → within (out x) (f x) ≡ f y
  fits f y e = by (out x) e
    where
      by : (o : Option Column) → ◌≡◌ {A = Result A Column} (Ok y) (elim o [ None ↦ Ok x | Some c ↦ Err c ])
          → within o (f x) ≡ f y
      by None h = let same : x ≡ y = cc in ap f same
      by (Some c) h = absurd (let no : ⊥ = cc in no)

  leaves : (d : Doing) (c : Column) → ◌≡◌ {A = Result A Column} (Err c) (row_in_ranges out x)
      → within (out x) d ≡ Fail (Overflow c)
  leaves d c e = by (out x) e
    where
      by : (o : Option Column) → ◌≡◌ {A = Result A Column} (Err c) (elim o [ None ↦ Ok x | Some k ↦ Err k ])
          → within o d ≡ Fail (Overflow c)
      by None h = absurd (let no : ⊥ = cc in no)
      by (Some k) h = let same : k ≡ c = cc in ap (λ (z : Column). Fail (Overflow z)) same

-- the second stage
module _ (q : NewOrderRequest) (r : Rows) (x : District) (here : get r.districts q.district ≡ Some x) (w : ℕ) where
  at_district : (d : Doing)
      → within (next_out (with_next x))
      (Go (Some (UpdateDistrict q.district (with_next x))) (InNewOrder q (NewOrderCustomer x.next_order w x.tax))) ≡ d
      → new_order_act q (NewOrderDistrict w) r ≡ d
  at_district d e =
      subst (λ o. with_value (NoSuchRow (key.District q.district)) o (λ z.
      within (next_out (with_next z))
      (Go (Some (UpdateDistrict q.district (with_next z))) (InNewOrder q (NewOrderCustomer z.next_order w z.tax))))
      ≡ d) (sym here) e

  pub number_taken : (n : ℕ) → row_with (λ k. record x { next_order = k }) (Ok n) ≡ row_in_ranges next_out (with_next x)
      → Writes q r (NewOrderDistrict w) (write.NextOrder q.district n) (NewOrderCustomer x.next_order w x.tax)
  number_taken n e = (
    UpdateDistrict q.district (record x { next_order = n }),
    ap (option_map (λ d. UpdateDistrict q.district (record d { next_order = n }))) here,
    at_district (Go (Some (UpdateDistrict q.district (record x { next_order = n })))
        (InNewOrder q (NewOrderCustomer x.next_order w x.tax)))
        (fits next_out (with_next x)
        (λ z. Go (Some (UpdateDistrict q.district z)) (InNewOrder q (NewOrderCustomer x.next_order w x.tax)))
        (record x { next_order = n }) e),
  )

-- the lock of the stock row: where the item is unused, none
asks_of : RequestLine → Option Item → Ask Name Refusal
asks_of l o = elim o [ None ↦ Stop InvalidItem | Some x ↦ Take (name.Stock (stock_of l)) Exclusive ]

asks_stock : (q : NewOrderRequest) (r : Rows) (y : Seen) (before : List RequestLine) (done : List LineReply)
    (l : RequestLine) (ls : List RequestLine) (o : Option Item)
    → item_at l.item r.items ≡ o → new_order_ask q (NewOrderStock y before done (l ∷ ls)) r ≡ asks_of l o
unfolding asks_of
asks_stock q r y before done l ls o e = ap (asks_of l) e

-- the item of a number that is used, and of one that is not
item_used : (n : ℕ) (r : Rows) (o : Option Item) → n ≤ 100000 → get r.items (record { item = n }) ≡ o
    → item_at n r.items ≡ o
item_used n r o low e = ap (λ (b : Bool). cond b (get r.items (record { item = n })) None) (le-leb n 100000 low) ∙ e

item_unused : (n : ℕ) (r : Rows) → (n ≤ 100000 → ⊥) → item_at n r.items ≡ None
item_unused n r high = go (leb_tells n 100000)
  where
    go : ((nat_le n 100000 ≡ true) × (n ≤ 100000)) ⊎ ((nat_le n 100000 ≡ false) × (100000 < n))
        → item_at n r.items ≡ None
    go (inl h) = absurd (high h.1)
    go (inr h) = ap (λ (b : Bool). cond b (get r.items (record { item = n })) None) h.0

-- the stage of the stock of a line
module _ (q : NewOrderRequest) (r : Rows) (y : Seen) (before : List RequestLine) (done : List LineReply)
    (l : RequestLine) (ls : List RequestLine)
    (item : Item) (sold : item_at l.item r.items ≡ Some item) where
  abbrev after : Stock → Doing
  after z = Go (Some (UpdateStock (stock_of l) z))
      (InNewOrder q (NewOrderLine y before done l (fill q (length before + 1) l item z) ls))

  at_item : (d : Doing) → with_value (NoSuchRow (key.Stock (stock_of l))) (get r.stocks (stock_of l)) (λ z.
      within (stock_out (stock_after q.district.warehouse (stock_of l) z l.quantity))
      (after (stock_after q.district.warehouse (stock_of l) z l.quantity))) ≡ d
      → new_order_act q (NewOrderStock y before done (l ∷ ls)) r ≡ d
  at_item d e =
      subst (λ o. with_value InvalidItem o
      (λ i. with_value (NoSuchRow (key.Stock (stock_of l))) (get r.stocks (stock_of l)) (λ z.
      let z' : Stock = stock_after q.district.warehouse (stock_of l) z l.quantity in
      within (stock_out z')
      (Go (Some (UpdateStock (stock_of l) z'))
      (InNewOrder q (NewOrderLine y before done l (fill q (length before + 1) l i z') ls))))) ≡ d) (sym sold) e

  at_stock : (x : Stock) → get r.stocks (stock_of l) ≡ Some x → (d : Doing)
      → within (stock_out (stock_after q.district.warehouse (stock_of l) x l.quantity))
      (after (stock_after q.district.warehouse (stock_of l) x l.quantity)) ≡ d
      → new_order_act q (NewOrderStock y before done (l ∷ ls)) r ≡ d
  at_stock x here d e =
      at_item d (subst (λ o. with_value (NoSuchRow (key.Stock (stock_of l))) o (λ z.
      within (stock_out (stock_after q.district.warehouse (stock_of l) z l.quantity))
      (after (stock_after q.district.warehouse (stock_of l) z l.quantity))) ≡ d) (sym here) e)

  pub no_stock : get r.stocks (stock_of l) ≡ None
      → new_order_act q (NewOrderStock y before done (l ∷ ls)) r ≡ Fail (NoSuchRow (key.Stock (stock_of l)))
  no_stock none =
      at_item (Fail (NoSuchRow (key.Stock (stock_of l))))
      (ap (λ o. with_value (NoSuchRow (key.Stock (stock_of l))) o (λ z.
      within (stock_out (stock_after q.district.warehouse (stock_of l) z l.quantity))
      (after (stock_after q.district.warehouse (stock_of l) z l.quantity)))) none)

  pub stock_leaves : (x : Stock) → get r.stocks (stock_of l) ≡ Some x → (c : Column)
      → row_with {A = StockCounters} (λ n. with_counters n x) (Err c) ≡ row_in_ranges stock_out
      (stock_after q.district.warehouse (stock_of l) x l.quantity)
      → new_order_act q (NewOrderStock y before done (l ∷ ls)) r ≡ Fail (Overflow c)
  stock_leaves x here c e = at_stock x here (Fail (Overflow c))
      (leaves stock_out (stock_after q.district.warehouse (stock_of l) x l.quantity)
      (after (stock_after q.district.warehouse (stock_of l) x l.quantity)) c e)

  pub stock_sold : (x : Stock) → get r.stocks (stock_of l) ≡ Some x → (n : StockCounters) (f : Filled)
      → row_with (λ n. with_counters n x) (Ok n) ≡ row_in_ranges stock_out
      (stock_after q.district.warehouse (stock_of l) x l.quantity)
      → filled_by f ≡ fill q (length before + 1) l item (with_counters n x)
      → Writes q r (NewOrderStock y before done (l ∷ ls)) (write.StockCounters (stock_of l) n)
      (NewOrderLine y before done l (filled_by f) ls)
  stock_sold x here n f e same = (
    UpdateStock (stock_of l) (with_counters n x),
    ap (option_map (λ z. UpdateStock (stock_of l) (with_counters n z))) here,
    at_stock x here (Go (Some (UpdateStock (stock_of l) (with_counters n x)))
        (InNewOrder q (NewOrderLine y before done l (filled_by f) ls)))
        (fits stock_out (stock_after q.district.warehouse (stock_of l) x l.quantity) after (with_counters n x) e
        ∙ ap (λ g. Go (Some (UpdateStock (stock_of l) (with_counters n x)))
        (InNewOrder q (NewOrderLine y before done l g ls))) (sym same)),
  )

-- what it comes to
module _ (q : NewOrderRequest) (r : Rows) (l : RequestLine) (n : ℕ) where
  pub none_used : (l.item ≤ 100000 → ⊥) → IsSupply q r l n supply.Unused
  unfolding asks_of
  none_used high = λ y before done ls. asks_stock q r y before done l ls None (item_unused l.item r high)

  pub none_there : l.item ≤ 100000 → get r.items (record { item = l.item }) ≡ None → IsSupply q r l n supply.Unused
  unfolding asks_of
  none_there low none = λ y before done ls. asks_stock q r y before done l ls None (item_used l.item r None low none)

  module _ (item : Item) (low : l.item ≤ 100000) (there : get r.items (record { item = l.item }) ≡ Some item)
      (k : StockKey) (same : k ≡ stock_of l) where
    sold : item_at l.item r.items ≡ Some item
    sold = item_used l.item r (Some item) low there

    pub none_stocked : get r.stocks k ≡ None → IsSupply q r l n (supply.Fails k (NoSuchRow (key.Stock k)))
    unfolding asks_of
    none_stocked none =
        subst (λ j. get r.stocks j ≡ None → IsSupply q r l n (supply.Fails j (NoSuchRow (key.Stock j)))) (sym same)
        (λ gone. (
          refl,
          λ y before done
              ls. (asks_stock q r y before done l ls (Some item) sold, no_stock q r y before done l ls item sold gone),
        ))
        none

    pub too_much : (x : Stock) (c : Column) → get r.stocks k ≡ Some x
        → row_with {A = StockCounters} (λ m. with_counters m x) (Err c) ≡ row_in_ranges stock_out
        (stock_after q.district.warehouse k x l.quantity)
        → IsSupply q r l n (supply.Fails k (Overflow c))
    unfolding asks_of
    too_much x c here e =
        subst (λ j. get r.stocks j ≡ Some x → row_with {A = StockCounters} (λ m. with_counters m x) (Err c)
        ≡ row_in_ranges
        stock_out (stock_after q.district.warehouse j x l.quantity)
        → IsSupply q r l n (supply.Fails j (Overflow c))) (sym same)
        (λ g h. (
          refl,
          λ y before done
              ls. (
                asks_stock q r y before done l ls (Some item) sold,
                stock_leaves q r y before done l ls item sold x g c
                    h,
              ),
        )) here e

    pub filled_so : (x : Stock) (m : StockCounters) (f : Filled) → get r.stocks k ≡ Some x
        → row_with (λ m. with_counters m x) (Ok m)
        ≡ row_in_ranges stock_out (stock_after q.district.warehouse k x l.quantity)
        → f.number ≡ n → f.row ≡ (fill q n l item x).row
        → f.reply ≡ (fill q n l item (record x { quantity = m.quantity })).reply
        → IsSupply q r l n (supply.Fills k m f)
    unfolding asks_of
    filled_so x m f here e number row reply =
        subst (λ j. get r.stocks j ≡ Some x → row_with (λ m. with_counters m x) (Ok m) ≡ row_in_ranges stock_out
        (stock_after q.district.warehouse j x l.quantity)
        → IsSupply q r l n (supply.Fills j m f)) (sym same)
        (λ g h. λ y before done ls count. (
          asks_stock q r y before done l ls (Some item) sold,
          stock_sold q r y before done l ls item sold x g m f h
              (subst (λ z. filled_by f ≡ fill q z l item (with_counters m x)) (sym count)
              (λ i. record { number = number i; row = row i; reply = reply i })),
        )) here e
