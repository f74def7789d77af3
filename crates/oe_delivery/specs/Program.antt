-- What a delivery's program stands for.
use Rattle.std.specs.Prelude.{◌≡◌, ℕ, [], ◌∷◌, drop}
use Rattle.oe_requests.specs.declared.replies.DeliveredOrder.{DeliveredOrder}
use Rattle.oe_model.specs.Positions.{DeliveryPosition, DeliveryQueue, DeliveryNothing, DeliveryOrder, DeliveryLine}
use Rattle.oe_model.specs.Positions.{DeliveryEnd}
use Rattle.oe_delivery.specs.Remainder.{Left}
use Rattle.oe_delivery.specs.declared.programs.Program.{Program}
use Rattle.oe_delivery.specs.declared.programs.Program.TheVariants as program

-- before the first line to come, or before the customer
abbrev pub line_position : Left → DeliveryPosition
line_position l = DeliveryLine l.order l.customer l.numbers l.sum

-- before the customer, once all lines are dated, with what the delivery answers
abbrev pub customer_position : DeliveredOrder → DeliveryPosition
customer_position y = DeliveryLine y.order y.customer [] y.sum

-- the position of the model
abbrev pub position_of : Program → DeliveryPosition
position_of program.Queue = DeliveryQueue
position_of program.Nothing = DeliveryNothing
position_of (program.Order o) = DeliveryOrder o
position_of (program.Lines l) = line_position l
position_of (program.End y) = DeliveryEnd y.order y.customer y.sum

-- the program's next stage is at this line
abbrev pub HasLine : Program → ℕ → Type 0
HasLine (program.Lines l) n = l.numbers ≡ n ∷ drop 1 l.numbers
HasLine _ n = ⊥

-- or of no line
abbrev pub HasNoLine : Program → Type 0
HasNoLine (program.Lines l) = l.numbers ≡ []
HasNoLine _ = Unit {0}
