use Rattle.std.proofs.Common.{◌≡◌, sym, ap, ◌∙◌}
use Rattle.oe_model.specs.Requests.{query_rejection}
use Rattle.oe_core.proofs.MoveFacts.{carries}
use Rattle.oe_core.proofs.LentFacts.{stands_here}
use Rattle.oe_core.proofs.ReadFacts.{replied_here, rejected_here, missing_here, outside_here}
use Rattle.oe_core.proofs.cores.Core.read.Goals as goal

pub returns-in-Some : goal.returns-in-Some
returns-in-Some c =
    rw (← c.self.view_is)
    (carries (rejected_here _ c.self.invariant c.args.moment c.args.query.now c.in-Some.cause
    (ap (query_rejection c.args.query.now) (sym c.tables.ensures) ∙ sym c.in-Some.ensures)))

pub answer-requires : goal.answer-requires
answer-requires c = stands_here _ c.self.invariant c.args.moment c.in-Ok.version c.in-Ok.ensures.version

pub returns-in-Ok-answer : goal.returns-in-Ok-answer
returns-in-Ok-answer c =
    rw (← c.self.view_is)
    (carries (replied_here _ c.self.invariant c.args.moment c.args.query.now
    (ap (query_rejection c.args.query.now) (sym c.tables.ensures) ∙ sym c.in_default.ensures)
    c.in-Ok.version c.in-Ok.ensures.version c.in-Ok.ensures.kept c.in-Ok-answer.reply c.in-Ok-answer.ensures.reply))

pub returns-in-Err-answer : goal.returns-in-Err-answer
returns-in-Err-answer c =
    rw (← c.self.view_is)
    (carries (missing_here _ c.self.invariant c.args.moment c.args.query.now
    (ap (query_rejection c.args.query.now) (sym c.tables.ensures) ∙ sym c.in_default.ensures)
    c.in-Ok.version c.in-Ok.ensures.version c.in-Ok.ensures.kept c.in-Err-answer.cause c.in-Err-answer.ensures.refusal))

pub returns-in-Err : goal.returns-in-Err
returns-in-Err c =
    rw (← c.self.view_is)
    (carries (outside_here _ c.self.invariant c.args.moment c.args.query.now
    (ap (query_rejection c.args.query.now) (sym c.tables.ensures) ∙ sym c.in_default.ensures)
    c.in-Err.cause c.in-Err.ensures.refusal))
