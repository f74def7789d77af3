use Rattle.std.proofs.Common.{refl, sym, subst, None}
use Rattle.oe_engine.specs.View.{view_of}
use Rattle.oe_engine.specs.Programs.{GoesOn}
use Rattle.oe_requests.specs.declared.requests.Request.TheVariants as request
use Rattle.oe_model.specs.Positions.{InNewOrder}
use Rattle.oe_neworder.specs.Program.{line_position}
use Rattle.oe_neworder.proofs.LineFacts.{inserts_on, insert_refused, order_at_line}
use Rattle.oe_neworder.proofs.fillings.Filling.end_next.Goals as goal

pub insert-requires : goal.insert-requires
insert-requires c = λ o.
    order_at_line (view_of c.args.engine.now) c.args.tx.now.terminal c.args.request.now c.args.self.now c.args.line.now
    c.in-Some.filled c.requires.next
    c.in-Some.is c.requires.held

pub returns-in-Ok : goal.returns-in-Ok
returns-in-Ok c =
    subst (λ ys. GoesOn c.args.engine.now c.args.tx.now (request.NewOrder c.args.request.now)
    (InNewOrder c.args.request.now (line_position c.args.request.now c.args.self.now))
    c.insert.new.engine (InNewOrder c.args.request.now
    (line_position c.args.request.now (record { seen = c.args.self.now.seen; done = ys; filled = None }))))
    (sym c.push.ensures)
    (inserts_on c.args.request.now c.args.self.now c.args.line.now c.requires.next c.args.engine.now c.args.tx.now
    c.insert.new.engine c.in-Some.filled
    c.in-Ok.field-0 c.in-Some.is c.in-Ok.ensures.does)

pub returns-in-Err : goal.returns-in-Err
returns-in-Err c = (
  insert_refused c.args.request.now c.args.self.now c.args.line.now c.requires.next c.args.engine.now c.args.tx.now
      c.insert.new.engine c.in-Some.filled
      c.in-Err.refusal c.in-Some.is c.in-Err.ensures.does,
  c.in-Err.ensures.err,
  c.in-Err.ensures.name,
  refl,
)
