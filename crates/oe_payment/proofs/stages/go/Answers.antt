use Rattle.std.proofs.Common.{Ok, Err}
use Rattle.oe_requests.specs.declared.requests.Request.TheVariants as request
use Rattle.oe_model.specs.Positions.{InPayment}
use Rattle.oe_writes.specs.Asks.{ask_of_write}
use Rattle.oe_engine.proofs.StageFacts.{does_write}
use Rattle.oe_payment.proofs.stages.go.Goals as goal

pub returns-in-Ok-clause-does : goal.returns-in-Ok-clause-does
returns-in-Ok-clause-does g c = λ q p p' d stage.
    let w = g.W.OneWrite.write c.args.write.now in
    does_write c.args.engine.now c.change.new.self c.args.tx.now (ask_of_write w) w (Ok tt) c.in-Ok.ensures.writes
    c.in-Ok.ensures.name d stage.written (request.Payment q) (InPayment q p) (InPayment q p') stage.asks stage.does

pub returns-in-Err-clause-does : goal.returns-in-Err-clause-does
returns-in-Err-clause-does g c = λ q p p' d stage.
    let w = g.W.OneWrite.write c.args.write.now in (
      does_write c.args.engine.now c.change.new.self c.args.tx.now (ask_of_write w) w (Err c.in-Err.refusal)
          c.in-Err.ensures.writes c.in-Err.ensures.name d stage.written (request.Payment q) (InPayment q p)
          (InPayment q p') stage.asks stage.does,
      c.in-Err.ensures.writes.unchanged,
      c.in-Err.ensures.name,
    )
