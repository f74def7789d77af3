use Rattle.std.proofs.Common.{sym, subst}
use Rattle.oe_delivery.specs.Program.{customer_position, position_of, HasNoLine}
use Rattle.oe_delivery.specs.Stages.{Advances}
use Rattle.oe_delivery.specs.declared.programs.Program.TheVariants as program
use Rattle.oe_delivery.proofs.StageFacts.{before_customer, steps_on}
use Rattle.oe_delivery.proofs.programs.Program.next_of_order.Goals as goal

pub returns-in-Lines : goal.returns-in-Lines
returns-in-Lines c =
    subst (λ b. Advances c.args.request.now c.args.tx.now c.args.engine.now (position_of b) c.credit_customer.result
    c.credit_customer.new.engine (position_of c.credit_customer.new.program)) (sym c.in-Lines.is)
    (steps_on c.args.request.now c.args.tx.now c.args.engine.now (customer_position c.delivered-reply.result)
    (program.Lines c.in-Lines.remainder) c.credit_customer.result c.credit_customer.new.engine
    c.credit_customer.new.program
    (before_customer c.in-Lines.remainder c.delivered-reply.result
    (subst HasNoLine c.in-Lines.is c.requires.line) c.delivered-reply.ensures)
    c.credit_customer.ensures)
