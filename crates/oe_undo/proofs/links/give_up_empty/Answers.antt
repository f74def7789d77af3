use Rattle.std.proofs.Common.{rules, ◌≡◌, ◌∙◌, ap, Some, None}
use Rattle.std.specs.FinMap.{get}
use Rattle.oe_rows.specs.Key.{history_cmp}
use Rattle.oe_table.specs.Table.{rows_of}
use Rattle.oe_undo.proofs.LinkFacts.{history_given_up}
use Rattle.oe_undo.proofs.links.give_up_empty.Goals as goal

pub returns-then-matches : goal.returns-then-matches
returns-then-matches c =
    let empty : get (rows_of history_cmp c.args.links.now) c.args.key.now ≡ Some None = search rules in
    λ k. ap (λ m. get m k) (c.give_up.ensures.rows ∙ c.blank-empty.ensures.rows)
    ∙ history_given_up (rows_of history_cmp c.args.links.now) c.args.key.now empty k
