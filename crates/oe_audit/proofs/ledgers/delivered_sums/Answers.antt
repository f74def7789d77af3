use Rattle.std.proofs.Common.{ℕ, sym, ◌∙◌, ap, List}
use Rattle.std.specs.Prelude.{sum_by, Bool}
use Rattle.oe_rows.specs.declared.keys.OrderLineKey.{OrderLineKey}
use Rattle.oe_rows.specs.declared.orders.OrderLine.{OrderLine}
use Rattle.oe_rows.specs.Key.{district_cmp}
use Rattle.oe_model.specs.Rows.{Rows}
use Rattle.oe_model.specs.Keys.{district_of_order, order_of_line}
use Rattle.oe_store.specs.Places.{entries_of, rows}
use Rattle.oe_rows_of.specs.Then.{row_then}
use Rattle.oe_audit.specs.Ledgers.{line_then_adds}
use Rattle.oe_audit.proofs.DeliveredFacts.{delivered_was}
use Rattle.oe_audit.proofs.LeadFacts.{leads_first, leads_on, leads_last}
use Rattle.oe_audit.proofs.ledgers.delivered_sums.Goals as goal

abbrev all_add : Rows → Bool → ℕ → List (OrderLineKey × OrderLine) → ℕ
all_add r w n es = sum_by (λ e. line_then_adds r e.0 (row_then w r.order_lines e.0 e.1) n) es

pub loop-key-init : goal.loop-key-init
loop-key-init g c =
    let t = c.args.then.now in
    leads_first _ _ _ _ c.zeros-sums.result _ (λ n i. c.zeros-sums.ensures n i.0 i.1) (λ n.
    delivered_was (rows (g.R.RowsOf.tables_of t)) (g.R.RowsOf.rows_of t) (g.R.RowsOf.are_now t)
    (g.met.R.RowsOf.same t) c.requires c.args.district.now n
    ∙ ap (all_add (g.R.RowsOf.rows_of t) (g.R.RowsOf.are_now t) n)
    (sym (c.into_iter-key-iterator.ensures.into_iter_gives ∙ c.order_lines_of_district-key-items.ensures
    ∙ ap (λ ts. entries_of district_cmp (λ k. district_of_order (order_of_line k)) c.args.district.now
    (rows ts).order_lines) c.tables.ensures)))

pub loop-key-preserved : goal.loop-key-preserved
loop-key-preserved g c = leads_on _ _ _ _ c.loop-key.sums _ _ _ _ c.in-Some.ensures.steps c.loop-key.invariant
    (λ n i f. c.add_line_then.ensures n i.0 i.1 f)

pub returns : goal.returns
returns g c n low high =
    leads_last _ _ _ _ c.loop-key.sums _ c.in-None.ensures.steps.0 c.loop-key.invariant n (low, high)
