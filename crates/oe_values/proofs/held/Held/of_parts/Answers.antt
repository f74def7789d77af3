use Rattle.std.proofs.Common.{◌++◌, ap, ◌∙◌}
use Rattle.oe_values.specs.Held.{in_two_bytes}
use Rattle.oe_values.proofs.HeldFacts.{held_end, held_text}
use Rattle.oe_values.proofs.held.Held.of_parts.Goals as goal

pub invariant_of-result : goal.invariant_of-result
invariant_of-result g c =
    let bs = c.args.first.now ++ c.args.between.now ++ c.args.last.now in
    rw (c.put_parts-end.ensures.after, c.put_parts-end.ensures.end, held_end g.row.MOST bs c.requires.printable)
    (c.in_two_bytes.ensures ∙ ap in_two_bytes c.put_parts-end.ensures.end)

pub returns : goal.returns
returns g c =
    let bs = c.args.first.now ++ c.args.between.now ++ c.args.last.now in
    rw (c.put_parts-end.ensures.after, c.put_parts-end.ensures.end) (held_text g.row.MOST bs c.requires.printable)
