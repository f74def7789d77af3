use Rattle.std.proofs.Common.{suc}
use Rattle.oe_model.specs.Changes.{InsertHistory}
use Rattle.oe_model.specs.Positions.{PaymentHistory, PaymentEnd}
use Rattle.oe_model.specs.Payment.{history_data, history_row, history_key}
use Rattle.oe_engine.specs.View.{view_of}
use Rattle.oe_payment.proofs.StageFacts.{history_stage}
use Rattle.oe_payment.proofs.stages.note.Goals as goal

pub returns-clause-does : goal.returns-clause-does
returns-clause-does c =
    let p = c.args.position.now in
    let joined = history_data p.warehouse p.district in
    c.go.ensures.does c.args.request.now (PaymentHistory joined p.reply) (PaymentEnd p.reply)
    (InsertHistory (history_key c.args.tx.now.terminal
    (suc ((view_of c.args.engine.now).counts c.args.tx.now.terminal))) (history_row c.args.request.now
    p.reply.customer joined))
    (rw (c.history_key-key.ensures, c.terminal.ensures, c.number.ensures)
    (history_stage c.args.request.now c.args.tx.now c.args.engine.now joined p.reply c.history_row-row.result
    (rw (← c.history_data-joined.ensures) c.history_row-row.ensures)))
