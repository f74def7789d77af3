use Rattle.std.proofs.Common.{sym, ap, subst, ◌∙◌}
use Rattle.oe_model.specs.Rows.{Rows}
use Rattle.oe_store.specs.Places.{rows}
use Rattle.oe_audit.specs.Verdict.{IsAudited}
use Rattle.oe_audit.proofs.conditions.condition_at.Goals as goal

pub returns-then-is_settled : goal.returns-then-is_settled
returns-then-is_settled g c =
    subst (λ (r : Rows). IsAudited c.args.number r c.condition.result)
    (ap rows c.tables.ensures ∙ sym (c.is_settled.ensures c.if-is_settled.true)) c.condition.ensures
