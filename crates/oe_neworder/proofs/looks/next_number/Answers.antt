use Rattle.std.proofs.Common.{sym}
use Rattle.oe_store.specs.Places.{rows}
use Rattle.oe_neworder.proofs.LookFacts.{number_taken}
use Rattle.oe_neworder.proofs.looks.next_number.Goals as goal

pub returns-in-Ok : goal.returns-in-Ok
returns-in-Ok c = λ w. number_taken c.args.request.now (rows c.args.tables.now) c.in-Some.row.now
    (sym c.in-Some.ensures) w c.in-Ok.next c.in-Ok.ensures
