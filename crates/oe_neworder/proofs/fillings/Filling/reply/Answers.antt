use Rattle.std.proofs.Common.{Some, sym, ap, ◌∙◌}
use Rattle.oe_requests.specs.declared.replies.Reply.{Reply}
use Rattle.oe_engine.specs.Programs.{new_order_reply}
use Rattle.oe_neworder.proofs.LineFacts.{reply_before, end_at}
use Rattle.oe_neworder.proofs.fillings.Filling.reply.Goals as goal

pub returns-in-Some : goal.returns-in-Some
returns-in-Some c = sym
    (reply_before c.args.request.now c.args.self.now c.in-Some.field-0 (sym c.in-Some.ensures.value))

pub returns-in-None : goal.returns-in-None
returns-in-None c =
    ap (λ (y : Reply). Some y) c.reply.ensures
    ∙ sym (ap new_order_reply (end_at c.args.request.now c.args.self.now (sym c.in-None.ensures.value)))
