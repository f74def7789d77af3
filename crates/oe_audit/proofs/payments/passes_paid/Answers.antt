use Rattle.std.proofs.Common.{sym, ◌∙◌, ap}
use Rattle.std.specs.Prelude.{◌==◌, sum_by}
use Rattle.std.specs.FinMap.{entries}
use Rattle.oe_model.specs.Rows.{Rows}
use Rattle.oe_store.specs.Places.{rows}
use Rattle.oe_audit.specs.Payments.{amount_in}
use Rattle.oe_audit.proofs.PaidFacts.{paid_was}
use Rattle.oe_audit.proofs.payments.passes_paid.Goals as goal

pub loop-key-init : goal.loop-key-init
loop-key-init g c =
    let t = c.args.then.now in
    let past : Rows = g.R.RowsOf.rows_of t in
    (λ i. c.cents-rest.ensures.value i == sum_by (amount_in c.args.place.now (g.R.RowsOf.are_now t) past.histories)
    ((c.into_iter-key-iterator.ensures.into_iter_gives ∙ c.histories-key-items.ensures
    ∙ ap (λ ts. entries (rows ts).histories) c.tables.ensures) i))
    ∙ ap (λ n. c.args.ytd == n) (sym (paid_was (rows (g.R.RowsOf.tables_of t)) past
    (g.R.RowsOf.are_now t) (g.met.R.RowsOf.same t) c.requires c.args.place.now))
