use Rattle.std.proofs.Common.{◌≡◌, ◌≤◌, ◌<◌, ◌+◌, refl, rules}
use Rattle.oe_load.specs.Turns.{counts_of}
use Rattle.oe_load.proofs.LoadFacts.{next_is}
use Rattle.oe_load.proofs.flats.send.Goals as goal

pub returns : goal.returns
returns c =
    let r : c.unwrap-r.result ≡ c.args.plan.now.first + counts_of c.args.served.now c.args.terminal = search rules in
    let low : 1 ≤ c.args.terminal = search rules in
    let high : c.args.terminal ≤ c.args.plan.now.numbers.terminals = search rules in
    let left : counts_of c.args.served.now c.args.terminal < c.args.plan.now.numbers.requests = search rules in (
      c.asked-asked.result,
      next_is c.args.plan.now (counts_of c.args.served.now) c.args.terminal c.unwrap-r.result c.asked-asked.result _
          low high left r c.asked-asked.ensures.value refl,
      c.asked_holds.ensures,
      c.serve.ensures,
      c.flat_line.ensures,
    )
