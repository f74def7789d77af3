use Rattle.std.proofs.Common.{add-one, arith, ap, ◌∙◌, ◌≡◌, ◌<◌, length}
use Rattle.std.proofs.lemmas.List.{get_or_read}
use Rattle.oe_table.proofs.SweepFacts.{swept-more, swept-long, swept-all}
use Rattle.oe_table.proofs.shelves.sweep_each.Goals as goal

pub loop-number-preserved : goal.loop-number-preserved
loop-number-preserved g c =
    let old = c.args.shelves.now.items in
    let now = c.loop-number.shelves.items in
    let n = c.loop-number.number in
    let long : length now ≡ length old = ap length c.loop-number.invariant ∙ swept-long n old in
    let within : n < length old =
    omega (arith, c.loop-number-test.true, c.len-number-end.ensures, c.args.shelves.now.ok.0) in
    let here : n < length now = omega (arith, long, within) in
    rw (add-one, c.sweep.ensures)
    (swept-more n old now c.index_mut.result.now c.loop-number.invariant within
    (get_or_read now n c.index_mut.result.now here c.index_mut.ensures.value))

pub returns : goal.returns
returns g c =
    c.loop-number.invariant ∙ swept-all c.loop-number.number c.args.shelves.now.items
    (omega (arith, c.loop-number-test.false, c.len-number-end.ensures, c.args.shelves.now.ok.0))
