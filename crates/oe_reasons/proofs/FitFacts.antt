-- The words of each command fit the columns of its form.
use Rattle.std.proofs.Common.{◌≡◌, ℕ, zero, suc, ◌+◌, ◌*◌, ◌/◌, ◌%◌, ◌^◌, ◌<◌, ◌≤◌, Bool, true, false, List}
use Rattle.std.proofs.Common.{[], ◌∷◌, ◌++◌}
use Rattle.std.proofs.Common.{length, map, Option, None, Some, decimal, codes, nat_lt, refl, append-nil}
use Rattle.std.proofs.Common.{arith}
use Rattle.std.proofs.lemmas.List.{length-map}
use Rattle.std.proofs.lemmas.Bool.Decides.{nat_tests}
use Rattle.std.specs.Prelude.{is_some, if◌then◌else◌}
use Rattle.std.specs.List.{All}
use Rattle.std.specs.Int.{IsInRange}
use Rattle.std.proofs.lemmas.List.Elements.{All-head, All-tail}
use Rattle.oe_rows.specs.declared.layouts.Layout.{Layout}
use Rattle.oe_rows.specs.declared.layouts.Layout.TheVariants.{WholeRows, ChangedColumns}
use Rattle.oe_rows.specs.declared.keys.Table.{Table}
use Rattle.oe_rows.specs.declared.keys.Table.TheVariants as table
use Rattle.oe_rows.specs.Key.{table_name}
use Rattle.oe_rows.specs.Credit.{money_text}
use Rattle.oe_values.specs.Stamp.{two_digits}
use Rattle.oe_values.specs.Text.{IsLastName, IsFirstName}
use Rattle.oe_values.specs.Front as front
use Rattle.oe_values.proofs.FrontFacts.{decimal_only, pair_only}
use Rattle.oe_requests.specs.declared.requests.CustomerChoice.{CustomerChoice}
use Rattle.oe_requests.specs.declared.requests.CustomerChoice.TheVariants as choice
use Rattle.oe_requests.specs.declared.requests.RequestLine.{RequestLine}
use Rattle.oe_requests.specs.declared.requests.Request.TheVariants as request
use Rattle.oe_requests.specs.declared.requests.Query.TheVariants as query
use Rattle.oe_requests.specs.declared.audits.Condition.{Condition}
use Rattle.oe_requests.specs.declared.audits.Condition.TheVariants as condition
use Rattle.oe_requests.specs.Condition.{condition_number}
use Rattle.oe_texts.specs.Stamp.{stamp_text}
use Rattle.oe_model.specs.Requests as model
use Rattle.oe_lines.specs.declared.commands.Command.TheVariants as command
use Rattle.oe_lines.specs.declared.commands.Display.TheVariants as display
use Rattle.oe_lines.specs.declared.commands.MomentChoice.{MomentChoice}
use Rattle.oe_lines.specs.declared.commands.MomentChoice.TheVariants as moment
use Rattle.oe_lines.specs.Rings.{layout_word, layout_words}
use Rattle.oe_lines.specs.Grammar.{IsMoment, customer_word, line_word}
use Rattle.oe_lines.specs.Grammar.{moment_word}
use Rattle.oe_lines.proofs.NameFacts.{last_name_only, first_name_only}
use Rattle.oe_lines.proofs.StampFacts.{stamp_only}
use Rattle.oe_lines.specs.Words.{last_name_of}
use Rattle.oe_reasons.specs.declared.forms.Column.{Column}
use Rattle.oe_reasons.specs.declared.forms.Column.TheVariants as column
use Rattle.oe_reasons.specs.Columns.{Wrong, amount_in, fault_of, greatest, is_table, least, line_in}
use Rattle.oe_reasons.specs.Columns.{number_fault, number_in, out_of_range}
use Rattle.oe_reasons.specs.Verbs.{is_word}
use Rattle.oe_reasons.specs.Laws.{Fits, Words_are_right}

number_read : (n : ℕ) → n < 10 ^ 15 → number_in (decimal n) ≡ Some n
unfolding number_in
number_read n h = rw (← append-nil (decimal n), decimal_only n [] h refl) refl

in_range : (c : Column) (n : ℕ) → least c ≤ n → n ≤ greatest c → out_of_range c n ≡ None
in_range c n l u =
    let low : nat_lt n (least c) ≡ false = grind (arith, nat_tests) in
    let high : nat_lt (greatest c) n ≡ false = grind (arith, nat_tests) in
    rw (low, high) refl

right : (c : Column) (n : ℕ) → n < 10 ^ 15 → least c ≤ n → n ≤ greatest c
    → number_fault c (number_in (decimal n)) ≡ None
right c n h l u = rw (number_read n h) (in_range c n l u)

amount_read : (a : ℕ) → a < 10 ^ 15 → amount_in (money_text a) ≡ Some a
unfolding amount_in
amount_read a h =
    let value : a / 100 * 100 + a % 100 ≡ a = omega arith in
    rw (
      decimal_only (a / 100) (46 ∷ two_digits (a % 100)) (omega (arith, h)) refl,
      ← append-nil (two_digits (a % 100)),
      pair_only (a % 100) [] (omega arith),
      value,
    )
    refl

amount_right : (a : ℕ) → IsInRange 100 500_000 a → fault_of column.Amount (money_text a) ≡ None
amount_right a h = rw (amount_read a (omega (arith, h.1))) (in_range column.Amount a h.0 h.1)

stamp_right : (n : ℕ) → model.IsStamp n → fault_of column.Stamp (stamp_text n) ≡ None
stamp_right n h = rw (stamp_only n h) refl

last_name_right : (s : List ℕ) → IsLastName s → fault_of column.LastName s ≡ None
last_name_right s h = rw (last_name_only s h) refl

first_name_right : (s : List ℕ) → IsFirstName s → fault_of column.FirstName s ≡ None
first_name_right s h = rw (first_name_only s h) refl

either : (b : Bool) (x : Wrong) → x ≡ None → (if b then None else x) ≡ None
either true x e = refl
either false x e = e

buyer_right : (c : CustomerChoice) → model.IsChoice c → fault_of column.Buyer (customer_word c) ≡ None
buyer_right (choice.Number n) h =
    either (is_some (last_name_of (decimal n))) _
    (rw (number_read n (omega (arith, h.1))) (in_range column.Customer n h.0 h.1))
buyer_right (choice.LastName name) h = rw (last_name_only name h) refl

now_is : is_word (codes "now") (codes "now") ≡ true
unfolding is_word
now_is = refl

moment_right : (m : MomentChoice) → IsMoment m → fault_of column.Moment (moment_word m) ≡ None
moment_right moment.Now h = rw now_is refl
moment_right (moment.At m) h =
    either (is_word (decimal m) (codes "now")) _
    (right column.Moment m (omega (arith, h)) (omega arith) h)

line_read : (l : RequestLine) → model.IsRequestLine l → line_in (line_word l) ≡ Some (l.supply, l.item, l.quantity)
unfolding line_in
line_read l h =
    rw (
      decimal_only l.supply (58 ∷ (decimal l.item ++ 58 ∷ decimal l.quantity)) (omega (arith, h.supply.1)) refl,
      decimal_only l.item (58 ∷ decimal l.quantity) (omega (arith, h.item.1)) refl,
      ← append-nil (decimal l.quantity),
      decimal_only l.quantity [] (omega (arith, h.quantity.1)) refl,
    )
    refl

line_right : (l : RequestLine) → model.IsRequestLine l → fault_of column.OrderLine (line_word l) ≡ None
line_right l h =
    rw (
      line_read l h,
      in_range column.Supply l.supply h.supply.0 h.supply.1,
      in_range column.Item l.item h.item.0 h.item.1,
      in_range column.Quantity l.quantity h.quantity.0 h.quantity.1,
    )
    refl

order_lines : ℕ → List Column
order_lines zero = []
order_lines (suc n) = column.OrderLine ∷ order_lines n

lines_fit : (n : ℕ) (ls : List RequestLine) → length ls ≤ n → All model.IsRequestLine ls
    → Fits (order_lines n) (map line_word ls)
unfolding order_lines
lines_fit n [] h all = tt
lines_fit zero (l ∷ ls) h all = absurd (omega (arith, h))
lines_fit (suc n) (l ∷ ls) h all = (
  line_right l (All-head model.IsRequestLine l ls all),
  lines_fit n ls (omega (arith, h)) (All-tail model.IsRequestLine l ls all),
)

condition_right : (c : Condition) → fault_of column.Condition (decimal (condition_number c)) ≡ None
condition_right condition.First = right column.Condition 1 (omega arith) (omega arith) (omega arith)
condition_right condition.Second = right column.Condition 2 (omega arith) (omega arith) (omega arith)
condition_right condition.Third = right column.Condition 3 (omega arith) (omega arith) (omega arith)
condition_right condition.Fourth = right column.Condition 4 (omega arith) (omega arith) (omega arith)
condition_right condition.Fifth = right column.Condition 5 (omega arith) (omega arith) (omega arith)
condition_right condition.Sixth = right column.Condition 6 (omega arith) (omega arith) (omega arith)
condition_right condition.Seventh = right column.Condition 7 (omega arith) (omega arith) (omega arith)
condition_right condition.Eighth = right column.Condition 8 (omega arith) (omega arith) (omega arith)
condition_right condition.Ninth = right column.Condition 9 (omega arith) (omega arith) (omega arith)
condition_right condition.Tenth = right column.Condition 10 (omega arith) (omega arith) (omega arith)
condition_right condition.Twelfth = right column.Condition 12 (omega arith) (omega arith) (omega arith)

terminal_right : (t : ℕ) → IsInRange 1 64 t → fault_of column.Terminal (decimal t) ≡ None
terminal_right t h = right column.Terminal t (omega (arith, h.1)) h.0 h.1

warehouse_right : (w : ℕ) → IsInRange 1 16 w → fault_of column.Warehouse (decimal w) ≡ None
warehouse_right w h = right column.Warehouse w (omega (arith, h.1)) h.0 h.1

district_right : (d : ℕ) → IsInRange 1 10 d → fault_of column.District (decimal d) ≡ None
district_right d h = right column.District d (omega (arith, h.1)) h.0 h.1

customer_right : (c : ℕ) → IsInRange 1 3_000 c → fault_of column.Customer (decimal c) ≡ None
customer_right c h = right column.Customer c (omega (arith, h.1)) h.0 h.1

customer_warehouse_right : (w : ℕ) → IsInRange 1 16 w → fault_of column.CustomerWarehouse (decimal w) ≡ None
customer_warehouse_right w h = right column.CustomerWarehouse w (omega (arith, h.1)) h.0 h.1

customer_district_right : (d : ℕ) → IsInRange 1 10 d → fault_of column.CustomerDistrict (decimal d) ≡ None
customer_district_right d h = right column.CustomerDistrict d (omega (arith, h.1)) h.0 h.1

carrier_right : (n : ℕ) → IsInRange 1 10 n → fault_of column.Carrier (decimal n) ≡ None
carrier_right n h = right column.Carrier n (omega (arith, h.1)) h.0 h.1

table_right : (t : Table) → fault_of column.Table (table_name t) ≡ None
unfolding is_table is_word
table_right table.Warehouse = refl
table_right table.District = refl
table_right table.Customer = refl
table_right table.History = refl
table_right table.NewOrder = refl
table_right table.Order = refl
table_right table.OrderLine = refl
table_right table.Item = refl
table_right table.Stock = refl

layout_right : (l : Layout) → fault_of column.Layout (layout_word l) ≡ None
unfolding number_in front.decimal_of
layout_right WholeRows = refl
layout_right ChangedColumns = refl

-- the words of an opening behind its items
ring_right : (n : ℕ) (l : Option Layout) → IsInRange 2 4_096 n
    → Fits (column.Extents ∷ column.Layout ∷ []) (decimal n ∷ layout_words l)
ring_right n None h = (right column.Extents n (omega (arith, h.1)) h.0 h.1, tt)
ring_right n (Some l) h = (right column.Extents n (omega (arith, h.1)) h.0 h.1, (layout_right l, tt))

ring_enough : (a b c d e : List ℕ) (l : Option Layout) → 5 ≤ length (a ∷ b ∷ c ∷ d ∷ e ∷ layout_words l)
ring_enough a b c d e None = omega arith
ring_enough a b c d e (Some l) = omega arith

ring_few : (a b c d e : List ℕ) (l : Option Layout) → length (a ∷ b ∷ c ∷ d ∷ e ∷ layout_words l) ≤ 6
ring_few a b c d e None = omega arith
ring_few a b c d e (Some l) = omega arith

pub words_are_right : Words_are_right
unfolding order_lines
words_are_right (command.Open s ring) h = record {
  fit = (
    refl,
    (
      right column.Warehouses s.warehouses (omega (arith, h.0.warehouses.1)) h.0.warehouses.0 h.0.warehouses.1,
      (
        right column.Customers s.customers (omega (arith, h.0.customers.1)) h.0.customers.0 h.0.customers.1,
        (
          right column.Items s.items (omega (arith, h.0.items.1)) h.0.items.0 h.0.items.1,
          ring_right ring.extents ring.layout h.1,
        ),
      ),
    ),
  );
  enough = ring_enough (codes "open") (decimal s.warehouses) (decimal s.customers) (decimal s.items)
      (decimal ring.extents) ring.layout;
  few = ring_few (codes "open") (decimal s.warehouses) (decimal s.customers) (decimal s.items)
      (decimal ring.extents) ring.layout;
}
words_are_right (command.Begin t (request.Payment q)) h = record {
  fit = (
    refl,
    (
      terminal_right t h.0,
      (
        refl,
        (
          warehouse_right q.district.warehouse h.1.district.0,
          (
            district_right q.district.district h.1.district.1,
            (
              customer_warehouse_right q.customer_district.warehouse h.1.customer_district.0,
              (
                customer_district_right q.customer_district.district h.1.customer_district.1,
                (
                  buyer_right q.customer h.1.customer,
                  (amount_right q.amount h.1.amount, (stamp_right q.stamp h.1.stamp, tt)),
                ),
              ),
            ),
          ),
        ),
      ),
    ),
  );
  enough = omega arith;
  few = omega arith;
}
words_are_right (command.Begin t (request.NewOrder q)) h = record {
  fit = (
    refl,
    (
      terminal_right t h.0,
      (
        refl,
        (
          warehouse_right q.district.warehouse h.1.district.0,
          (
            district_right q.district.district h.1.district.1,
            (
              customer_right q.customer h.1.customer,
              (stamp_right q.stamp h.1.stamp, lines_fit 15 q.lines h.1.count.1 h.1.lines),
            ),
          ),
        ),
      ),
    ),
  );
  enough = omega (arith, h.1.count.0, length-map q.lines line_word);
  few = omega (arith, h.1.count.1, length-map q.lines line_word);
}
words_are_right (command.Begin t (request.Delivery q)) h = record {
  fit = (
    refl,
    (
      terminal_right t h.0,
      (
        refl,
        (
          warehouse_right q.district.warehouse h.1.district.0,
          (
            district_right q.district.district h.1.district.1,
            (carrier_right q.carrier h.1.carrier, (stamp_right q.stamp h.1.stamp, tt)),
          ),
        ),
      ),
    ),
  );
  enough = omega arith;
  few = omega arith;
}
words_are_right (command.Begin t (request.Deliveries q)) h = record {
  fit = (
    refl,
    (
      terminal_right t h.0,
      (
        refl,
        (
          warehouse_right q.warehouse.warehouse h.1.warehouse,
          (carrier_right q.carrier h.1.carrier, (stamp_right q.stamp h.1.stamp, tt)),
        ),
      ),
    ),
  );
  enough = omega arith;
  few = omega arith;
}
words_are_right (command.Begin t (request.Rename q)) h = record {
  fit = (
    refl,
    (
      terminal_right t h.0,
      (
        refl,
        (
          warehouse_right q.customer.warehouse h.1.district.0,
          (
            district_right q.customer.district h.1.district.1,
            (
              customer_right q.customer.customer h.1.customer,
              (last_name_right q.last h.1.last, (first_name_right q.first h.1.first, tt)),
            ),
          ),
        ),
      ),
    ),
  );
  enough = omega arith;
  few = omega arith;
}
words_are_right (command.Next t) h = record {
  fit = (refl, (terminal_right t h, tt));
  enough = omega arith;
  few = omega arith;
}
words_are_right (command.Run t) h = record {
  fit = (refl, (terminal_right t h, tt));
  enough = omega arith;
  few = omega arith;
}
words_are_right (command.Save t) h = record {
  fit = (refl, (terminal_right t h, tt));
  enough = omega arith;
  few = omega arith;
}
words_are_right (command.Back t) h = record {
  fit = (refl, (terminal_right t h, tt));
  enough = omega arith;
  few = omega arith;
}
words_are_right (command.Rollback t) h = record {
  fit = (refl, (terminal_right t h, tt));
  enough = omega arith;
  few = omega arith;
}
words_are_right (command.Show (display.Rows t)) h = record {
  fit = (refl, (table_right t, tt));
  enough = omega arith;
  few = omega arith;
}
words_are_right (command.Show display.Waits) h = record { fit = (refl, tt); enough = omega arith; few = omega arith }
words_are_right (command.Show display.Locks) h = record { fit = (refl, tt); enough = omega arith; few = omega arith }
words_are_right (command.Audit c m) h = record {
  fit = (refl, (condition_right c, (moment_right m h, tt)));
  enough = omega arith;
  few = omega arith;
}
words_are_right (command.Read m (query.Status q)) h = record {
  fit = (
    refl,
    (
      moment_right m h.0,
      (
        refl,
        (
          warehouse_right q.district.warehouse h.1.0.0,
          (district_right q.district.district h.1.0.1, (buyer_right q.customer h.1.1, tt)),
        ),
      ),
    ),
  );
  enough = omega arith;
  few = omega arith;
}
words_are_right (command.Read m (query.Level q)) h = record {
  fit = (
    refl,
    (
      moment_right m h.0,
      (
        refl,
        (
          warehouse_right q.district.warehouse h.1.0.0,
          (
            district_right q.district.district h.1.0.1,
            (right column.Threshold q.threshold (omega (arith, h.1.1.1)) h.1.1.0 h.1.1.1, tt),
          ),
        ),
      ),
    ),
  );
  enough = omega arith;
  few = omega arith;
}
words_are_right (command.Purge m) h = record {
  fit = (refl, (moment_right m h, tt));
  enough = omega arith;
  few = omega arith;
}
words_are_right (command.Rewind m) h = record {
  fit = (refl, (moment_right m h, tt));
  enough = omega arith;
  few = omega arith;
}
