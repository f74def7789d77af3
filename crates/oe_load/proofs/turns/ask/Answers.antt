use Rattle.std.proofs.Common.{◌≡◌, ◌+◌, arith, rules}
use Rattle.oe_load.specs.Turns.{counts_of}
use Rattle.oe_load.proofs.LoadFacts.{next_is}
use Rattle.oe_load.proofs.turns.ask.Goals as goal

pub begin-requires-clause-next : goal.begin-requires-clause-next
begin-requires-clause-next g c =
    let r : c.unwrap-r.result ≡ c.args.plan.now.first + counts_of c.args.served.now c.args.terminal = search rules in
    next_is c.args.plan.now (counts_of c.args.served.now) c.args.terminal c.unwrap-r.result c.asked-asked.result _
    (omega (arith, c.get-number.ensures.low, c.get-number.ensures.value)) c.requires.high c.requires.left r
    c.asked-asked.ensures.value c.in-Transaction.is

pub read-requires-clause-next : goal.read-requires-clause-next
read-requires-clause-next g c =
    let r : c.unwrap-r.result ≡ c.args.plan.now.first + counts_of c.args.served.now c.args.terminal = search rules in
    next_is c.args.plan.now (counts_of c.args.served.now) c.args.terminal c.unwrap-r.result c.asked-asked.result _
    (omega (arith, c.get-number.ensures.low, c.get-number.ensures.value)) c.requires.high c.requires.left r
    c.asked-asked.ensures.value c.in-Query.is
