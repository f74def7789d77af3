use Rattle.std.proofs.Common.{◌++◌, map, length, sym, ◌∙◌, subst, List, ℕ}
use Rattle.oe_store.specs.Places.{rows}
use Rattle.oe_delivery.proofs.NumberFacts.{Climbs, lines_climb}
use Rattle.oe_delivery.proofs.looks.line_numbers.Goals as goal

pub loop-key-init : goal.loop-key-init
loop-key-init c =
    let by = c.into_iter-key-iterator.ensures.into_iter_gives ∙ c.order_lines_of-key-items.ensures in
    record {
      so_far = λ i. c.new-numbers.ensures i ++ map (λ e. e.0.number) (by i);
      room = subst (λ (ns : List ℕ). Climbs (length ns) c.into_iter-key-iterator.result) (sym c.new-numbers.ensures)
          (subst (Climbs 0) (sym by) (lines_climb c.args.order.now (rows c.args.tables.now).order_lines));
    }
