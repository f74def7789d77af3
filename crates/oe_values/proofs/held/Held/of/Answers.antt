use Rattle.oe_values.proofs.HeldFacts.{held_end, held_text}
use Rattle.oe_values.proofs.held.Held.of.Goals as goal

pub invariant_of-result : goal.invariant_of-result
invariant_of-result g c =
    rw (c.put.ensures, held_end g.row.MOST c.args.bytes.now c.requires.printable) c.in_two_bytes.ensures

pub returns : goal.returns
returns g c = rw c.put.ensures (held_text g.row.MOST c.args.bytes.now c.requires.printable)
