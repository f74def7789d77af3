use Rattle.std.proofs.Common.{◌≡◌, length}
use Rattle.oe_terms.specs.Errands.{used_lines}
use Rattle.oe_terms.proofs.orders.used_lines.Given as goal

abbrev pub invariant-loop : goal.invariant-loop
invariant-loop l = ((l.drawn, l.words) ≡ used_lines l.scale l.warehouse l.counter l.fn.words)
    × (length l.drawn ≡ l.counter)
