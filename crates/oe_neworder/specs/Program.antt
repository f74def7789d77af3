-- What a New-Order's program stands for.
use Rattle.std.specs.Prelude.{List, [], ◌∷◌, Option, None, Some, length, take, drop}
use Rattle.oe_requests.specs.declared.requests.RequestLine.{RequestLine}
use Rattle.oe_requests.specs.declared.requests.NewOrderRequest.{NewOrderRequest}
use Rattle.oe_requests.specs.declared.replies.LineReply.{LineReply}
use Rattle.oe_formulas.specs.Orders.{seen_by}
use Rattle.oe_model.specs.Positions as model
use Rattle.oe_model.specs.Positions.{NewOrderPosition, NewOrderWarehouse, NewOrderDistrict, NewOrderCustomer}
use Rattle.oe_model.specs.Positions.{NewOrderOrder, NewOrderQueue, NewOrderStock, NewOrderLine}
use Rattle.oe_neworder.specs.declared.fillings.Filled.{Filled}
use Rattle.oe_neworder.specs.declared.fillings.Filling.{Filling}
use Rattle.oe_neworder.specs.declared.programs.Program.{Program}
use Rattle.oe_neworder.specs.declared.programs.Program.TheVariants as program

-- a line that was filled
abbrev pub filled_by : Filled → model.Filled
filled_by f = record { number = f.number; row = f.row; reply = f.reply }

-- before the stock of the first line to come, or, where that was taken, before its ORDER-LINE row; at the end no line
-- is to come
abbrev pub position_at : model.Seen → List RequestLine → List LineReply → Option Filled
    → List RequestLine → NewOrderPosition
position_at s before done f [] = NewOrderStock s before done []
position_at s before done None (l ∷ ls) = NewOrderStock s before done (l ∷ ls)
position_at s before done (Some f) (l ∷ ls) = NewOrderLine s before done l (filled_by f) ls

-- the lines before are as many as replies
abbrev pub line_position : NewOrderRequest → Filling → NewOrderPosition
line_position q f =
    position_at (seen_by f.seen) (take (length f.done) q.lines) f.done f.filled
    (drop (length f.done) q.lines)

-- the position of the model in this request
abbrev pub position_of : NewOrderRequest → Program → NewOrderPosition
position_of q program.Warehouse = NewOrderWarehouse
position_of q (program.District w) = NewOrderDistrict w
position_of q (program.Customer o w d) = NewOrderCustomer o w d
position_of q (program.Order s) = NewOrderOrder (seen_by s)
position_of q (program.Queue s) = NewOrderQueue (seen_by s)
position_of q (program.Lines f) = line_position q f

-- the program's next stage is none of the lines'
abbrev pub IsBeforeLines : Program → Type 0
IsBeforeLines (program.Lines f) = ⊥
IsBeforeLines _ = Unit {0}
