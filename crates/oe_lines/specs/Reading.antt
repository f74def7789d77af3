-- Reading a line from its front, as functions on lists.
use Rattle.std.specs.Prelude.{ℕ, zero, suc, ◌==◌, nat_le, List, [], ◌∷◌, length, Option, Some, None, codes}
use Rattle.std.specs.Prelude.{if◌then◌else◌}
use Rattle.std.specs.Option.{option_map}
use Rattle.oe_rows.specs.declared.layouts.Layout.{Layout}
use Rattle.oe_rows.specs.declared.layouts.Layout.TheVariants.{WholeRows, ChangedColumns}
use Rattle.oe_rows.specs.declared.keys.DistrictKey.{DistrictKey}
use Rattle.oe_rows.specs.declared.keys.Table.{Table}
use Rattle.oe_rows.specs.declared.keys.Table.TheVariants as table
use Rattle.oe_requests.specs.declared.requests.CustomerChoice.{CustomerChoice}
use Rattle.oe_requests.specs.declared.requests.CustomerChoice.TheVariants as choice
use Rattle.oe_requests.specs.declared.requests.PaymentRequest.{PaymentRequest}
use Rattle.oe_requests.specs.declared.requests.RequestLine.{RequestLine}
use Rattle.oe_requests.specs.declared.requests.NewOrderRequest.{NewOrderRequest}
use Rattle.oe_requests.specs.declared.requests.DeliveryRequest.{DeliveryRequest}
use Rattle.oe_requests.specs.declared.requests.DeliveriesRequest.{DeliveriesRequest}
use Rattle.oe_requests.specs.declared.requests.RenameRequest.{RenameRequest}
use Rattle.oe_requests.specs.declared.requests.Request.{Request}
use Rattle.oe_requests.specs.declared.requests.Request.TheVariants as request
use Rattle.oe_requests.specs.declared.requests.StatusQuery.{StatusQuery}
use Rattle.oe_requests.specs.declared.requests.LevelQuery.{LevelQuery}
use Rattle.oe_requests.specs.declared.requests.Query.{Query}
use Rattle.oe_requests.specs.declared.requests.Query.TheVariants as query
use Rattle.oe_requests.specs.declared.audits.Condition.{Condition}
use Rattle.oe_requests.specs.declared.audits.Condition.TheVariants as condition
use Rattle.oe_lines.specs.declared.commands.Command.{Command}
use Rattle.oe_lines.specs.declared.commands.Command.TheVariants as command
use Rattle.oe_lines.specs.declared.commands.Display.TheVariants as display
use Rattle.oe_lines.specs.declared.commands.MomentChoice.{MomentChoice}
use Rattle.oe_lines.specs.declared.commands.RingChoice.{RingChoice}
use Rattle.oe_lines.specs.declared.commands.MomentChoice.TheVariants as moment
use Rattle.oe_values.specs.Front.{◌>>=◌, after_of, decimal_of, alone}
use Rattle.oe_values.specs.declared.numbers.TheConstants.{TERMINALS}
use Rattle.oe_lines.specs.Words.{is_word, within, number_of, number_then, number_before, last_number, amount_before}
use Rattle.oe_lines.specs.Words.{stamp_of, stamp_before, last_name_of, first_name_of, name_before}
use Rattle.oe_model.specs.Keys.{customer_in}

unfoldable pub table_of : List ℕ → Option Table
table_of s =
    if is_word s (codes "warehouse") then Some table.Warehouse
    else if is_word s (codes "district") then Some table.District
    else if is_word s (codes "customer") then Some table.Customer
    else if is_word s (codes "history") then Some table.History
    else if is_word s (codes "neworder") then Some table.NewOrder
    else if is_word s (codes "order") then Some table.Order
    else if is_word s (codes "orderline") then Some table.OrderLine
    else if is_word s (codes "item") then Some table.Item
    else if is_word s (codes "stock") then Some table.Stock
    else None

-- what is read after the word, where the line begins with it
abbrev pub behind_word : {A : Type 0} → Option (List ℕ) → (List ℕ → Option A) → Option A → Option A
behind_word None read other = other
behind_word (Some rest) read other = read rest

unfoldable pub moment_of : List ℕ → Option MomentChoice
moment_of s =
    if is_word s (codes "now") then Some moment.Now
    else do
      p ← decimal_of s
      n ← alone p.0 p.1
      m ← within 0 999_999_999_999 n
      Some (moment.At m)

-- before a space
unfoldable pub moment_before : List ℕ → Option (MomentChoice × List ℕ)
moment_before s =
    behind_word (after_of (codes "now ") s) (λ r. Some (moment.Now, r)) (do
      p ← decimal_of s
      m ← within 0 999_999_999_999 p.0
      r ← after_of (codes " ") p.1
      Some (moment.At m, r))

-- the condition of a number, which 11 is not
unfoldable pub condition_of : ℕ → Option Condition
condition_of n =
    if n == 1 then Some condition.First
    else if n == 2 then Some condition.Second
    else if n == 3 then Some condition.Third
    else if n == 4 then Some condition.Fourth
    else if n == 5 then Some condition.Fifth
    else if n == 6 then Some condition.Sixth
    else if n == 7 then Some condition.Seventh
    else if n == 8 then Some condition.Eighth
    else if n == 9 then Some condition.Ninth
    else if n == 10 then Some condition.Tenth
    else if n == 12 then Some condition.Twelfth
    else None

unfoldable pub audit_of : List ℕ → Option Command
audit_of s = do
  n ← number_before 1 12 s
  c ← condition_of n.0
  m ← moment_of n.1
  Some (command.Audit c m)

-- what stands behind the number of extents: nothing, or a layout
unfoldable pub layout_at : List ℕ → Option (Option Layout)
layout_at s =
    if length s == 0 then Some None
    else if is_word s (codes " 1") then Some (Some WholeRows)
    else if is_word s (codes " 2") then Some (Some ChangedColumns)
    else None

unfoldable pub ring_of : List ℕ → Option RingChoice
ring_of s = do
  n ← number_of 2 4_096 s
  layout ← layout_at n.1
  Some (record { extents = n.0; layout = layout })

unfoldable pub opening_of : List ℕ → Option Command
opening_of s = do
  w ← number_before 1 16 s
  c ← number_before 1 3_000 w.1
  i ← number_before 1 100_000 c.1
  ring ← ring_of i.1
  Some (command.Open (record { warehouses = w.0; customers = c.0; items = i.0 }) ring)

unfoldable pub district_of : List ℕ → Option (DistrictKey × List ℕ)
district_of s = do
  w ← number_before 1 16 s
  d ← number_before 1 10 w.1
  Some (record { warehouse = w.0; district = d.0 }, d.1)

-- a number, or else a last name
abbrev pub number_or_name : Option (ℕ × List ℕ) → Option (List ℕ × List ℕ) → Option (CustomerChoice × List ℕ)
number_or_name (Some c) name = Some (choice.Number c.0, c.1)
number_or_name None name = option_map (λ n. (choice.LastName n.0, n.1)) name

unfoldable pub customer_of : List ℕ → Option (CustomerChoice × List ℕ)
customer_of s = number_or_name (number_before 1 3_000 s) (name_before s)

-- a number, or else a last name, at the end
abbrev pub last_number_or_name : Option ℕ → Option (List ℕ) → Option CustomerChoice
last_number_or_name (Some c) name = Some (choice.Number c)
last_number_or_name None name = option_map (λ n. choice.LastName n) name

unfoldable pub last_customer_of : List ℕ → Option CustomerChoice
last_customer_of s = last_number_or_name (last_number 1 3_000 s) (last_name_of s)

unfoldable pub payment_of : List ℕ → Option PaymentRequest
payment_of s = do
  at ← district_of s
  home ← district_of at.1
  c ← customer_of home.1
  a ← amount_before 100 500_000 c.1
  stamp ← stamp_of a.1
  Some (record {
    district = at.0;
    customer_district = home.0;
    customer = c.0;
    amount = a.0;
    stamp = stamp;
  })

-- `sw:i:q` at the front
unfoldable pub line_of : List ℕ → Option (RequestLine × List ℕ)
line_of s = do
  w ← number_then 58 1 16 s
  i ← number_then 58 1 999_999 w.1
  q ← number_of 1 10 i.1
  Some (record { supply = w.0; item = i.0; quantity = q.0 }, q.1)

-- a line alone, or before a space and the lines that `more` reads
abbrev pub line_and : RequestLine → (List ℕ → Option (List RequestLine)) → List ℕ → Option (List RequestLine)
line_and l more [] = Some (l ∷ [])
line_and l more (b ∷ s) = do
  r ← after_of (codes " ") (b ∷ s)
  ls ← more r
  Some (l ∷ ls)

-- one to n lines, up to the end
abbrev pub lines_within : ℕ → List ℕ → Option (List RequestLine)
lines_within zero s = None
lines_within (suc n) s = do
  l ← line_of s
  line_and l.0 (lines_within n) l.1

-- five to fifteen
unfoldable pub lines_of : List ℕ → Option (List RequestLine)
lines_of s = do
  ls ← lines_within 15 s
  if nat_le 5 (length ls) then Some ls else None

unfoldable pub new_order_of : List ℕ → Option NewOrderRequest
new_order_of s = do
  at ← district_of s
  c ← number_before 1 3_000 at.1
  stamp ← stamp_before c.1
  ls ← lines_of stamp.1
  Some (record { district = at.0; customer = c.0; stamp = stamp.0; lines = ls })

unfoldable pub delivery_of : List ℕ → Option DeliveryRequest
delivery_of s = do
  at ← district_of s
  carrier ← number_before 1 10 at.1
  stamp ← stamp_of carrier.1
  Some (record { district = at.0; carrier = carrier.0; stamp = stamp })

-- a delivery of all ten districts
unfoldable pub deliveries_of : List ℕ → Option DeliveriesRequest
deliveries_of s = do
  w ← number_before 1 16 s
  carrier ← number_before 1 10 w.1
  stamp ← stamp_of carrier.1
  Some (record { warehouse = record { warehouse = w.0 }; carrier = carrier.0; stamp = stamp })

-- a delivery of all ten districts, or else of one
abbrev pub all_or_one : Option DeliveriesRequest → Option DeliveryRequest → Option Request
all_or_one (Some q) one = Some (request.Deliveries q)
all_or_one None one = option_map (λ q. request.Delivery q) one

unfoldable pub rename_of : List ℕ → Option RenameRequest
rename_of s = do
  at ← district_of s
  c ← number_before 1 3_000 at.1
  last ← name_before c.1
  first ← first_name_of last.1
  Some (record { customer = customer_in at.0 c.0; last = last.0; first = first })

unfoldable pub request_of : List ℕ → Option Request
request_of s =
    behind_word (after_of (codes "payment ") s) (λ r. option_map (λ p. request.Payment p) (payment_of r))
    (behind_word (after_of (codes "neworder ") s) (λ r. option_map (λ q. request.NewOrder q) (new_order_of r))
    (behind_word (after_of (codes "delivery ") s) (λ r. all_or_one (deliveries_of r) (delivery_of r))
    (behind_word (after_of (codes "rename ") s) (λ r. option_map (λ q. request.Rename q) (rename_of r))
    None)))

unfoldable pub status_of : List ℕ → Option StatusQuery
status_of s = do
  at ← district_of s
  c ← last_customer_of at.1
  Some (record { district = at.0; customer = c })

unfoldable pub level_of : List ℕ → Option LevelQuery
level_of s = do
  at ← district_of s
  threshold ← last_number 10 20 at.1
  Some (record { district = at.0; threshold = threshold })

unfoldable pub query_of : List ℕ → Option Query
query_of s =
    behind_word (after_of (codes "status ") s) (λ r. option_map (λ q. query.Status q) (status_of r))
    (behind_word (after_of (codes "level ") s) (λ r. option_map (λ q. query.Level q) (level_of r))
    None)

unfoldable pub reading_of : List ℕ → Option Command
reading_of s = do
  m ← moment_before s
  q ← query_of m.1
  Some (command.Read m.0 q)

unfoldable pub beginning_of : List ℕ → Option Command
beginning_of s = do
  t ← number_before 1 TERMINALS s
  r ← request_of t.1
  Some (command.Begin t.0 r)

-- a command whose words end the line
unfoldable pub at_end : Command → List ℕ → Option Command
at_end c [] = Some c
at_end c (b ∷ bs) = None

-- a command whose one word is a terminal
abbrev pub terminal_of : (ℕ → Command) → List ℕ → Option Command
terminal_of made s = option_map made (last_number 1 TERMINALS s)

unfoldable pub rare_command_of : List ℕ → Option Command
rare_command_of line =
    behind_word (after_of (codes "save ") line) (terminal_of (λ t. command.Save t))
    (behind_word (after_of (codes "back ") line) (terminal_of (λ t. command.Back t))
    (behind_word (after_of (codes "rollback ") line) (terminal_of (λ t. command.Rollback t))
    (behind_word (after_of (codes "open ") line) opening_of
    (behind_word (after_of (codes "dump ") line) (λ r. option_map (λ t. command.Show (display.Rows t)) (table_of r))
    (behind_word (after_of (codes "audit ") line) audit_of
    (behind_word (after_of (codes "read ") line) reading_of
    (behind_word (after_of (codes "waits") line) (at_end (command.Show display.Waits))
    (behind_word (after_of (codes "locks") line) (at_end (command.Show display.Locks))
    (behind_word (after_of (codes "purge ") line) (λ r. option_map (λ m. command.Purge m) (moment_of r))
    (behind_word (after_of (codes "rewind ") line) (λ r. option_map (λ m. command.Rewind m) (moment_of r))
    None))))))))))

unfoldable pub command_of : List ℕ → Option Command
command_of line =
    behind_word (after_of (codes "begin ") line) beginning_of
    (behind_word (after_of (codes "run ") line) (terminal_of (λ t. command.Run t))
    (behind_word (after_of (codes "next ") line) (terminal_of (λ t. command.Next t))
    (rare_command_of line)))

-- `run T` alone
unfoldable pub run_of : List ℕ → Option ℕ
run_of line = do
  r ← after_of (codes "run ") line
  last_number 1 TERMINALS r

-- `begin T payment ..` alone
unfoldable pub begun_payment_of : List ℕ → Option (ℕ × PaymentRequest)
begun_payment_of line = do
  b ← after_of (codes "begin ") line
  t ← number_before 1 TERMINALS b
  r ← after_of (codes "payment ") t.1
  p ← payment_of r
  Some (t.0, p)
