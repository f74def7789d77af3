-- What a payment's program stands for.
use Rattle.std.specs.Prelude.{ℕ}
use Rattle.oe_requests.specs.declared.requests.CustomerChoice.{CustomerChoice}
use Rattle.oe_requests.specs.declared.requests.CustomerChoice.TheVariants.{Number, LastName}
use Rattle.oe_model.specs.Payment.{history_data}
use Rattle.oe_model.specs.Positions.{PaymentPosition, PaymentWarehouse, PaymentDistrict, PaymentNames}
use Rattle.oe_model.specs.Positions.{PaymentCustomer, PaymentHistory, PaymentEnd}
use Rattle.oe_payment.specs.declared.positions.Position.{Position}
use Rattle.oe_payment.specs.declared.positions.Stage.{Stage}
use Rattle.oe_payment.specs.declared.positions.Stage.TheVariants as stage

-- the position of the model that is at this stage, with what was read before it
abbrev pub position_at : Stage → Position → PaymentPosition
position_at stage.Warehouse p = PaymentWarehouse
position_at stage.District p = PaymentDistrict p.warehouse
position_at stage.Names p = PaymentNames p.warehouse p.district
position_at stage.Customer p = PaymentCustomer p.warehouse p.district p.reply.customer
position_at stage.History p = PaymentHistory (history_data p.warehouse p.district) p.reply
position_at stage.End p = PaymentEnd p.reply

-- the position of the model
abbrev pub position_in : Position → PaymentPosition
position_in p = position_at p.stage p

-- the stage behind the district's
abbrev pub stage_behind : CustomerChoice → Stage
stage_behind (Number c) = stage.Customer
stage_behind (LastName last) = stage.Names

-- the C_ID that is given; where a last name is, the one before
abbrev pub number_given : CustomerChoice → ℕ → ℕ
number_given (Number c) before = c
number_given (LastName last) before = before
