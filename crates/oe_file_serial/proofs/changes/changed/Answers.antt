use Rattle.oe_file_serial.proofs.ChangeFacts.{changed_so}
use Rattle.oe_file_serial.proofs.changes.changed.Goals as goal

pub returns-in-Some : goal.returns-in-Some
returns-in-Some c =
    changed_so c.args.line.now c.args.row.now c.in-Some.told.request c.in-Some.told.reply.now c.changes.result
    c.in-Some.ensures c.changes.ensures

pub returns-in-None : goal.returns-in-None
returns-in-None c = (λ yes. let never : ⊥ = cc in absurd never, λ r. absurd (c.in-None.ensures r.0 r.1 r.2))
