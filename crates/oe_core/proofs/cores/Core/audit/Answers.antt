use Rattle.oe_machine.specs.Verdict.{verdict_of}
use Rattle.oe_versions.proofs.PassedFacts.{passed_at}
use Rattle.oe_core.proofs.AuditFacts.{audited_here, refused_here}
use Rattle.oe_core.proofs.LentFacts.{stands_here}
use Rattle.oe_core.proofs.MoveFacts.{reached_here}
use Rattle.oe_core.proofs.cores.Core.audit.Goals as goal

pub condition_at-requires : goal.condition_at-requires
condition_at-requires c =
    passed_at c.in-Ok.version.tables c.in-Ok.version.log c.in-Ok.version.moment
    (stands_here _ c.self.invariant c.args.moment c.in-Ok.version c.in-Ok.ensures.version)

pub returns-in-Ok : goal.returns-in-Ok
returns-in-Ok c =
    let audited =
    audited_here _ c.self.invariant c.args.condition c.args.moment c.in-Ok.version c.in-Ok.ensures.version
    c.in-Ok.ensures.kept (verdict_of c.condition_at.result) c.condition_at.ensures
    in
    rw (← c.self.view_is) (audited, reached_here _ c.self.invariant)

pub returns-in-Err : goal.returns-in-Err
returns-in-Err c =
    let refused =
    refused_here _ c.self.invariant c.args.condition c.args.moment c.in-Err.cause c.in-Err.ensures.refusal
    in
    rw (← c.self.view_is) (refused, reached_here _ c.self.invariant)
