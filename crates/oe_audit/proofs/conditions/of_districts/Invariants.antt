use Rattle.std.proofs.Common.{◌≡◌, option_map, not}
use Rattle.std.specs.Prelude.{find}
use Rattle.oe_rows.specs.declared.keys.Key.TheVariants as key
use Rattle.oe_model.specs.Audits.{verdict_of, verdict}
use Rattle.oe_audit.specs.Walks.{entries_then, passes, model_condition}
use Rattle.oe_audit.proofs.conditions.of_districts.Given as goal

-- the first row that failed is among those that are left
abbrev pub invariant-loop-key : goal.invariant-loop-key
invariant-loop-key g l =
    verdict_of key.District (option_map (λ e. e.0)
    (find (λ e. not (passes l.condition (g.R.RowsOf.rows_of l.then) e.0 e.1.next_order))
    (entries_then (g.R.RowsOf.are_now l.then) (g.R.RowsOf.rows_of l.then).districts l.key-iterator)))
    ≡ verdict (model_condition l.condition) (g.R.RowsOf.rows_of l.then)
