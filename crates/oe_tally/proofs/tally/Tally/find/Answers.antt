use Rattle.std.proofs.Common.{arith, ap, ◌-◌, ◌<◌, ◌≤◌, length, take}
use Rattle.oe_tally.proofs.TotalFacts.{tested, found-in-front}
use Rattle.oe_tally.proofs.tally.Tally.find.Goals as goal

pub returns-then-eq : goal.returns-then-eq
returns-then-eq g c =
    let es = c.self.inside.entries.items in
    let i : c.len-count.result - 1 < length es = omega (arith, c.self.inside.entries.ok.0) in
    rw (← c.self.view_is)
    (tested g.K.PartialEq.eq es c.args.key.now (c.len-count.result - 1) c.index.result.now i c.index.ensures
    c.if-eq.ensures)

pub returns : goal.returns
returns g c =
    let es = c.self.inside.entries.items in
    let few : c.min.result ≤ length es = omega (arith, c.min.ensures, c.self.inside.entries.ok.0) in
    rw (← c.self.view_is)
    (found-in-front g.K.PartialEq.eq c.min.result es _ c.args.key.now c.find_entry.result
    (ap (take c.min.result) c.deref.ensures.value) few c.find_entry.ensures)
