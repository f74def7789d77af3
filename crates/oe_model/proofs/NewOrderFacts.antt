-- New-Order's program, run alone, has the whole effect.
use Rattle.std.proofs.Common.{◌≡◌, ℕ, ◌+◌, ◌<◌, refl, sym, ◌∙◌, ap, subst, List, [], ◌∷◌, ◌++◌, length, Option, Some}
use Rattle.std.proofs.Common.{None, arith, append_assoc, append-nil}
use Rattle.std.specs.Prelude.{IsSome}
use Rattle.std.proofs.lemmas.List.{map-append}
use Rattle.std.specs.FinMap.{FinMap, get, insert}
use Rattle.oe_theory.specs.Machine.{Shared, Exclusive, Tx}
use Rattle.oe_theory.specs.Laws.{ends_here, goes_here}
use Rattle.oe_rows.specs.Key.{district_cmp, new_order_cmp, order_cmp, stock_cmp}
use Rattle.oe_rows.specs.declared.keys.DistrictKey.{DistrictKey}
use Rattle.oe_rows.specs.declared.keys.OrderKey.{OrderKey}
use Rattle.oe_rows.specs.declared.keys.NewOrderKey.{NewOrderKey}
use Rattle.oe_rows.specs.declared.keys.Key.TheVariants as key
use Rattle.oe_rows.specs.declared.districts.District.{District}
use Rattle.oe_rows.specs.declared.orders.NewOrder.{NewOrder}
use Rattle.oe_rows.specs.declared.orders.Order.{Order}
use Rattle.oe_rows.specs.declared.items.Item.{Item}
use Rattle.oe_rows.specs.declared.items.Stock.{Stock}
use Rattle.oe_rows.specs.declared.locks.Name.TheVariants as name
use Rattle.oe_requests.specs.declared.requests.Request.{Request}
use Rattle.oe_requests.specs.declared.requests.RequestLine.{RequestLine}
use Rattle.oe_requests.specs.declared.requests.NewOrderRequest.{NewOrderRequest}
use Rattle.oe_requests.specs.declared.replies.LineReply.{LineReply}
use Rattle.oe_requests.specs.declared.replies.Reply.{Reply}
use Rattle.oe_requests.specs.declared.replies.Reply.TheVariants as reply
use Rattle.oe_requests.specs.declared.refusals.Column.{Column}
use Rattle.oe_requests.specs.declared.refusals.Column.TheVariants as column
use Rattle.oe_requests.specs.declared.refusals.Refusal.TheVariants.{NoSuchRow, NoCustomer, InvalidItem}
use Rattle.oe_rows.proofs.KeyFacts.{order_total, exact_order, stock_total, exact_stock}
use Rattle.oe_model.specs.Keys.{warehouse_of_district, customer_in, order_in, new_order_in, line_in}
use Rattle.oe_model.specs.Rows.{Rows}
use Rattle.oe_model.specs.Maps.{each, with_all}
use Rattle.oe_model.specs.Changes.{UpdateDistrict, UpdateStock, InsertOrder, InsertNewOrder, InsertOrderLine}
use Rattle.oe_model.specs.Positions.{Seen, Filled, Position, InNewOrder, NewOrderWarehouse, NewOrderDistrict}
use Rattle.oe_model.specs.Positions.{NewOrderCustomer, NewOrderOrder, NewOrderQueue, NewOrderStock, NewOrderLine}
use Rattle.oe_model.specs.Effects.{◌>>=◌}
use Rattle.oe_model.specs.Payment.{is_count}
use Rattle.oe_model.specs.NewOrder.{stock_of, stock_out, next_out, stock_after, after_lines, all_filled, fill, item_at}
use Rattle.oe_model.specs.NewOrder.{order_row, new_order_row, with_next, first_reads, ordered_reply, replies_of}
use Rattle.oe_model.specs.NewOrder.{line_entries}
use Rattle.oe_model.specs.NewOrder.{new_order_effect}
use Rattle.oe_model.specs.Requests.{OfNewOrder, NewOrderMayRefuse}
use Rattle.oe_model.proofs.MapFacts.{get-each, with_all-append}
use Rattle.oe_model.proofs.EntryFacts.{EachOf}
use Rattle.oe_model.proofs.PresenceFacts.{some_present, present_own, present_each, missing}
use Rattle.oe_model.proofs.EffectFacts.{out_among}
use Rattle.oe_model.proofs.LineFacts.{AreNumbered, length-more, one_more_numbered, still_absent}
use Rattle.oe_model.proofs.StepFacts.{EndsSo, ends_given, ends_mapped, ends_within, ends_found}
use Rattle.oe_model.proofs.StockFacts.{each-none, each-one_more, fill-step}

-- the columns that an order tests
of_district : (y : District) (c : Column) → next_out y ≡ Some c → OfNewOrder c
of_district y c e = out_among OfNewOrder
    ((column.NextOrder, Rattle.std.specs.Prelude.nat_le y.next_order 10000000) ∷ []) (tt, tt) c e

of_stock : (y : Stock) (c : Column) → stock_out y ≡ Some c → OfNewOrder c
of_stock y c e =
    out_among OfNewOrder ((column.StockYtd, Rattle.std.specs.Prelude.nat_le y.ytd 99999999)
    ∷ (column.OrderCount, is_count y.order_count) ∷ (column.RemoteCount, is_count y.remote_count) ∷ []) (
      tt,
      (tt, (tt, tt)),
    ) c e

-- there is no such order, and nothing of it
pub record IsFresh (r : Rows) (h : DistrictKey) (o : ℕ) : Type 0 where
  pub order : get r.orders (order_in h o) ≡ None
  pub new_order : get r.new_orders (new_order_in h o) ≡ None
  pub lines : (n : ℕ) → get r.order_lines (line_in (order_in h o) n) ≡ None

-- where there is an item there is its stock row
abbrev pub HasStock : Rows → RequestLine → Type 0
HasStock r l = (item : Item) → item_at l.item r.items ≡ Some item → IsSome (get r.stocks (stock_of l))

module _ (q : NewOrderRequest) (s : Seen) (r : Rows) (districts : FinMap district_cmp District)
    (new_orders : FinMap new_order_cmp NewOrder) (orders : FinMap order_cmp Order)
    (placed : IsSome (get orders (order_in q.district s.order)))
    (no_line : (n : ℕ) → get r.order_lines (line_in (order_in q.district s.order) n) ≡ None) where
  abbrev k : OrderKey
  k = order_in q.district s.order

  abbrev pub so_far : List RequestLine → List Filled → Rows
  so_far before fs = record r {
    districts = districts;
    new_orders = new_orders;
    orders = orders;
    order_lines = with_all (line_entries k fs) r.order_lines;
    stocks = each (after_lines q.district.warehouse before) r.stocks;
  }

  abbrev pub told : List Filled → Reply
  told fs = reply.NewOrder (ordered_reply s (replies_of fs))

  entries-more : (fs : List Filled) (f : Filled)
      → insert (with_all (line_entries k fs) r.order_lines) (line_in k f.number) f.row ≡ with_all
      (line_entries k (fs ++ f ∷ [])) r.order_lines
  entries-more fs f =
      sym (with_all-append (line_entries k fs) ((line_in k f.number, f.row) ∷ []) r.order_lines)
      ∙ ap (λ es. with_all es r.order_lines) (sym (map-append (λ f. (line_in k f.number, f.row)) fs (f ∷ [])))

  -- from the next line on, and all lines are those before and those to come
  pub lines_end : (x : Tx Request) (all todo before : List RequestLine) (fs : List Filled) → AreNumbered 0 fs
      → length fs ≡ length before → before ++ todo ≡ all → EachOf (HasStock r) todo
      → EndsSo NewOrderMayRefuse x (InNewOrder q (NewOrderStock s before (replies_of fs) todo)) (so_far before fs)
      (all_filled q r before todo >>= λ more. Some (so_far all (fs ++ more), told (fs ++ more)))
  lines_end x all [] before fs numbered count e stocks =
      let p : Position = InNewOrder q (NewOrderStock s before (replies_of fs) []) in
      let one : so_far before fs ≡ so_far all (fs ++ []) =
      ap (λ (ls : List RequestLine). so_far ls fs) (sym (append-nil before) ∙ e)
      ∙ ap (λ (gs : List Filled). so_far all gs) (sym (append-nil fs)) in
      let two : told fs ≡ told (fs ++ []) = ap (λ (gs : List Filled). told gs) (sym (append-nil fs)) in
      subst (λ (v : Rows × Reply). EndsSo NewOrderMayRefuse x p (so_far before fs) (Some v)) (λ i. (one i, two i))
      (ends_here p (so_far before fs) (told fs) tt refl)
  lines_end x all (l ∷ ls) before fs numbered count e stocks =
      let result : List Filled → Option (Rows × Reply) = λ more. Some (so_far all (fs ++ more), told (fs ++ more)) in
      let p : Position = InNewOrder q (NewOrderStock s before (replies_of fs) (l ∷ ls)) in
      let m : Rows = so_far before fs in
      subst (λ (v : Option (Rows × Reply)). EndsSo NewOrderMayRefuse x p m v) (sym (fill-step q r before l ls result)) (
      ends_found NewOrderMayRefuse x p m InvalidItem InvalidItem (item_at l.item r.items) (λ _. name.Stock (stock_of l))
      Exclusive _ _ tt refl refl (λ item found asked a.
      ends_mapped NewOrderMayRefuse x p m asked (NoSuchRow (key.Stock (stock_of l)))
      (after_lines q.district.warehouse before (stock_of l)) (get r.stocks (stock_of l)) (get m.stocks (stock_of l))
      _ _
      (missing (get r.stocks (stock_of l)) (stocks.0 item found)) a
      (get-each stock_cmp (after_lines q.district.warehouse before) exact_stock r.stocks (stock_of l)) (λ y here a.
      let y' : Stock = stock_after q.district.warehouse (stock_of l)
      (after_lines q.district.warehouse before (stock_of l) y) l.quantity in
      ends_within NewOrderMayRefuse x p m asked stock_out y' _ _ (of_stock y') a (λ _ b.
      let f : Filled = fill q (length before + 1) l item y' in
      let p' : Position = InNewOrder q (NewOrderLine s before (replies_of fs) l f ls) in
      let m' : Rows = record m { stocks = insert m.stocks (stock_of l) y' } in
      let m'' : Rows = record m' { order_lines = insert m.order_lines (line_in k f.number) f.row } in
      let next : List LineReply → Position = λ done. InNewOrder q (NewOrderStock s (before ++ l ∷ []) done ls) in
      goes_here p m (Some (UpdateStock (stock_of l) y')) p' _ asked b
      (present_each stock_total exact_stock (after_lines q.district.warehouse before) r.stocks (stock_of l)
      (some_present (get r.stocks (stock_of l)) y here)) (
      goes_here p' m' (Some (InsertOrderLine (line_in k f.number) f.row)) (next (replies_of fs ++ f.reply ∷ [])) _ tt
      refl (
        still_absent k fs 0 r.order_lines numbered f.number (let z : 0 + length fs < f.number = omega arith in z)
            (no_line f.number),
        placed,
        present_own stock_total exact_stock m.stocks (stock_of l) y',
      ) (
      let there : so_far (before ++ l ∷ []) (fs ++ f ∷ []) ≡ m'' =
      λ i. record r {
        districts = districts;
        new_orders = new_orders;
        orders = orders;
        order_lines = sym (entries-more fs f) i;
        stocks = sym (each-one_more q.district.warehouse r.stocks before l y here) i;
      } in
      let others : EndsSo NewOrderMayRefuse x (next (replies_of (fs ++ f ∷ [])))
      (so_far (before ++ l ∷ []) (fs ++ f ∷ []))
      (all_filled q r (before ++ l ∷ []) ls >>= λ more. Some
      (so_far all ((fs ++ f ∷ []) ++ more), told ((fs ++ f ∷ []) ++ more))) =
      lines_end x all ls (before ++ l ∷ []) (fs ++ f ∷ [])
      (one_more_numbered fs f 0 numbered (let z : f.number ≡ 0 + length fs + 1 = omega arith in z))
      (let a = length-more fs f in let b = length-more before l in
      let z : length (fs ++ f ∷ []) ≡ length (before ++ l ∷ []) = omega arith in
      z) (append_assoc before (l ∷ []) ls ∙ e) stocks.1 in
      subst (λ (v : List LineReply). EndsSo NewOrderMayRefuse x (next v) m''
      (all_filled q r (before ++ l ∷ []) ls >>= λ more. result (f ∷ more))) (map-append (λ f. f.reply) fs (f ∷ []))
      (subst (λ (v : Option (Rows × Reply)). EndsSo NewOrderMayRefuse x (next (replies_of (fs ++ f ∷ []))) m'' v)
      (λ i. all_filled q r (before ++ l ∷ []) ls >>= λ more. Some
      (so_far all (append_assoc fs (f ∷ []) more i), told (append_assoc fs (f ∷ []) more i)))
      (subst (λ (v : Rows). EndsSo NewOrderMayRefuse x (next (replies_of (fs ++ f ∷ []))) v
      (all_filled q r (before ++ l ∷ []) ls >>= λ more. Some
      (so_far all ((fs ++ f ∷ []) ++ more), told ((fs ++ f ∷ []) ++ more)))) there others))))))))

pub new_order_ends : (x : Tx Request) (q : NewOrderRequest) (r : Rows)
    → ((d : District) → get r.districts q.district ≡ Some d → IsFresh r q.district d.next_order)
    → IsSome (get r.warehouses (warehouse_of_district q.district)) → IsSome (get r.districts q.district)
    → EachOf (HasStock r) q.lines
    → EndsSo NewOrderMayRefuse x (InNewOrder q NewOrderWarehouse) r (new_order_effect q r)
new_order_ends x q r fresh warehouse_there district_there stocks =
    let p0 : Position = InNewOrder q NewOrderWarehouse in
    ends_given NewOrderMayRefuse x p0 r tt (NoSuchRow (key.Warehouse (warehouse_of_district q.district)))
    (get r.warehouses (warehouse_of_district q.district)) _ _ (missing _ warehouse_there) refl (λ w _ a.
    let p1 : Position = InNewOrder q (NewOrderDistrict w.tax) in
    goes_here p0 r None p1 _ tt a tt (
    ends_given NewOrderMayRefuse x p1 r tt (NoSuchRow (key.District q.district)) (get r.districts q.district) _ _
    (missing _ district_there) refl (λ d d_at a.
    ends_within NewOrderMayRefuse x p1 r tt next_out (with_next d) _ _ (of_district (with_next d)) a (λ _ b.
    let p2 : Position = InNewOrder q (NewOrderCustomer d.next_order w.tax d.tax) in
    let districts : FinMap district_cmp District = insert r.districts q.district (with_next d) in
    let r2 : Rows = record r { districts = districts } in
    goes_here p1 r (Some (UpdateDistrict q.district (with_next d))) p2 _ tt b district_there (
    ends_found NewOrderMayRefuse x p2 r2 NoCustomer NoCustomer (get r.customers (customer_in q.district q.customer))
    (λ _. name.Customer (customer_in q.district q.customer)) Shared _ _ tt refl refl (λ c c_at asked a.
    let s : Seen = first_reads w d c in
    let p3 : Position = InNewOrder q (NewOrderOrder s) in
    goes_here p2 r2 None p3 _ asked a tt (
    let p4 : Position = InNewOrder q (NewOrderQueue s) in
    let k : OrderKey = order_in q.district d.next_order in
    let j : NewOrderKey = new_order_in q.district d.next_order in
    let new : IsFresh r q.district d.next_order = fresh d d_at in
    let orders : FinMap order_cmp Order = insert r.orders k (order_row q) in
    let r3 : Rows = record r2 { orders = orders } in
    goes_here p3 r2 (Some (InsertOrder k (order_row q))) p4 _ tt refl
    (new.order, some_present (get r.customers (customer_in q.district q.customer)) c c_at) (
    let p5 : Position = InNewOrder q (NewOrderStock s [] [] q.lines) in
    let new_orders : FinMap new_order_cmp NewOrder = insert r.new_orders j new_order_row in
    let r4 : Rows = record r3 { new_orders = new_orders } in
    let placed : IsSome (get orders k) = present_own order_total exact_order r.orders k (order_row q) in
    goes_here p4 r3 (Some (InsertNewOrder j new_order_row)) p5 _ tt refl (new.new_order, placed) (
    subst (λ (v : FinMap stock_cmp Stock). EndsSo NewOrderMayRefuse x p5 (record r4 { stocks = v })
    (all_filled q r [] q.lines >>= λ more. Some (
      so_far q s r districts new_orders orders placed new.lines q.lines more,
      told q s r districts new_orders orders
          placed new.lines more,
    )))
    (each-none q.district.warehouse r.stocks)
    (lines_end q s r districts new_orders orders placed new.lines x q.lines q.lines [] [] tt refl refl stocks))))))))))
