use Rattle.std.proofs.Common.{Some, [], refl, sym, ap, subst}
use Rattle.oe_theory.specs.Machine.{Take, Go, Exclusive}
use Rattle.oe_rows.specs.declared.locks.Name.TheVariants as name
use Rattle.oe_model.specs.Keys.{district_of_new_order}
use Rattle.oe_requests.specs.declared.requests.Request.TheVariants as request
use Rattle.oe_formulas.specs.Orders.{seen_by}
use Rattle.oe_model.specs.Changes.{InsertNewOrder}
use Rattle.oe_model.specs.Positions.{NewOrderQueue, NewOrderStock, InNewOrder}
use Rattle.oe_engine.specs.Programs.{GoesOn}
use Rattle.oe_neworder.proofs.LineFacts.{lines_begin}
use Rattle.oe_neworder.proofs.stages.insert_new_order.Goals as goal

pub returns-in-Ok : goal.returns-in-Ok
returns-in-Ok c =
    subst (λ p. GoesOn c.args.engine.now c.args.tx.now (request.NewOrder c.args.request.now)
    (InNewOrder c.args.request.now (NewOrderQueue (seen_by c.args.seen)))
    c.put.new.engine (InNewOrder c.args.request.now p))
    (sym (lines_begin c.args.request.now c.args.seen c.new.result c.new.ensures))
    (c.in-Ok.ensures.does (InsertNewOrder c.new_order.result (record {})) refl (request.NewOrder c.args.request.now)
    (InNewOrder c.args.request.now (NewOrderQueue (seen_by c.args.seen)))
    (InNewOrder c.args.request.now (NewOrderStock (seen_by c.args.seen) [] [] c.args.request.now.lines))
    (ap (λ k. Take (name.Queue (district_of_new_order k)) Exclusive) (sym c.new_order.ensures))
    (λ i. Go (Some (InsertNewOrder (sym c.new_order.ensures i) (record {})))
    (InNewOrder c.args.request.now
    (NewOrderStock (seen_by c.args.seen) [] [] c.args.request.now.lines))))

pub returns-in-Err : goal.returns-in-Err
returns-in-Err c = (
  c.in-Err.ensures.does (InsertNewOrder c.new_order.result (record {})) refl (request.NewOrder c.args.request.now)
      (InNewOrder c.args.request.now (NewOrderQueue (seen_by c.args.seen)))
      (InNewOrder c.args.request.now (NewOrderStock (seen_by c.args.seen) [] [] c.args.request.now.lines))
      (ap (λ k. Take (name.Queue (district_of_new_order k)) Exclusive) (sym c.new_order.ensures))
      (λ i. Go (Some (InsertNewOrder (sym c.new_order.ensures i) (record {})))
      (InNewOrder c.args.request.now (NewOrderStock (seen_by c.args.seen) [] [] c.args.request.now.lines))),
  c.in-Err.ensures.err,
  c.in-Err.ensures.name,
  refl,
)
