use Rattle.std.proofs.Common.{rules, ◌≡◌, ◌∙◌, ap, None, is_some}
use Rattle.std.specs.FinMap.{get}
use Rattle.std.proofs.lemmas.Result.{on_ok_weaker}
use Rattle.oe_rows.specs.Key.{history_cmp}
use Rattle.oe_table.specs.Table.{rows_of}
use Rattle.oe_undo.proofs.LinkFacts.{history_given, history_own}
use Rattle.oe_undo.proofs.links.reach_history.Goals as goal

pub returns-clause-given : goal.returns-clause-given
returns-clause-given c =
    let none : get (rows_of history_cmp c.args.links.now) c.args.key.now ≡ None = search rules in
    on_ok_weaker c.put_new.result
    (λ e k. ap (λ m. get m k) e ∙ history_given (rows_of history_cmp c.args.links.now) c.args.key.now none k)
    c.put_new.ensures.rows

pub returns-clause-own : goal.returns-clause-own
returns-clause-own c =
    on_ok_weaker c.put_new.result
    (λ e. ap is_some (ap (λ m. get m c.args.key.now) e) ∙ history_own (rows_of history_cmp c.args.links.now)
    c.args.key.now)
    c.put_new.ensures.rows
