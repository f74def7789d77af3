-- H_DATA is a text of its column.
use Rattle.std.proofs.Common.{List, ℕ, ◌++◌, codes, arith, lit≤, length-append}
use Rattle.std.specs.List.{All}
use Rattle.std.proofs.lemmas.List.Elements.{All-append, All-from_recursion}
use Rattle.oe_values.specs.Text.{IsPrintable, IsText}
use Rattle.oe_model.specs.Payment.{history_data}

pub joined_text : (warehouse district : List ℕ) → IsText 0 10 warehouse → IsText 0 10 district
    → IsText 0 24 (history_data warehouse district)
joined_text w d p q = record {
  at_least = omega arith;
  at_most = omega (arith, length-append {A = ℕ});
  printable = All-append IsPrintable (w ++ codes "    ") d (All-append IsPrintable w (codes "    ") p.printable spaces)
      q.printable;
}
  where
    spaces : All IsPrintable (codes "    ")
    spaces = All-from_recursion IsPrintable (codes "    ")
        ((lit≤ tt, lit≤ tt), ((lit≤ tt, lit≤ tt), ((lit≤ tt, lit≤ tt), ((lit≤ tt, lit≤ tt), tt))))
