use Rattle.std.proofs.Common.{◌≡◌, ◌++◌, map, length}
use Rattle.oe_model.specs.Delivery.{lines_of}
use Rattle.oe_store.specs.Places.{rows}
use Rattle.oe_delivery.proofs.NumberFacts.{Climbs}
use Rattle.oe_delivery.proofs.looks.line_numbers.Given as goal

abbrev pub invariant-loop-key : goal.invariant-loop-key
invariant-loop-key l = record {
  so_far : l.numbers ++ map (λ e. e.0.number) l.key-iterator ≡ map (λ e. e.0.number)
      (lines_of l.order (rows l.tables).order_lines);
  room : Climbs (length l.numbers) l.key-iterator;
}
