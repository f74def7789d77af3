use Rattle.std.proofs.Common.{ℕ, sym, ◌∙◌, ap, subst, List, arith}
use Rattle.std.specs.Prelude.{T, sum_by, Bool}
use Rattle.std.specs.FinMap.{entries_sorted, entries}
use Rattle.std.specs.FinMap.Entries.{is_sorted}
use Rattle.oe_rows.specs.Key.{history_cmp}
use Rattle.oe_rows.specs.declared.keys.DistrictKey.{DistrictKey}
use Rattle.oe_rows.specs.declared.keys.HistoryKey.{HistoryKey}
use Rattle.oe_rows.specs.declared.histories.History.{History}
use Rattle.oe_model.specs.Rows.{Rows}
use Rattle.oe_store.specs.Places.{rows}
use Rattle.oe_audit.specs.Ledgers.{payment_adds}
use Rattle.oe_audit.proofs.PaidFacts.{paid_by_was}
use Rattle.oe_audit.proofs.LeadFacts.{leads_first, leads_on, leads_last}
use Rattle.oe_audit.proofs.LedgerFacts.{few_first, few_on, no_more}
use Rattle.oe_audit.proofs.ledgers.paid_sums.Goals as goal

abbrev all_add : Rows → Bool → DistrictKey → ℕ → List (HistoryKey × History) → ℕ
all_add r w h n es = sum_by (λ e. payment_adds w r.histories h e n) es

pub loop-key-init : goal.loop-key-init
loop-key-init g c =
    let t = c.args.then.now in
    let walk = c.into_iter-key-iterator.ensures.into_iter_gives ∙ c.histories-key-items.ensures
    ∙ ap (λ ts. entries (rows ts).histories) c.tables.ensures in (
      leads_first _ _ _ _ c.zeros-sums.result _ (λ n i. c.zeros-sums.ensures n i.0 i.1) (λ n.
          paid_by_was (rows (g.R.RowsOf.tables_of t)) (g.R.RowsOf.rows_of t) (g.R.RowsOf.are_now t)
          (g.met.R.RowsOf.same t) c.requires c.args.district.now n
          ∙ ap (all_add (g.R.RowsOf.rows_of t) (g.R.RowsOf.are_now t) c.args.district.now n)
          (sym walk)),
      few_first c.zeros-sums.result _ c.zeros-sums.ensures
          (subst (λ (es : List (HistoryKey × History)). T (is_sorted history_cmp es)) (sym walk)
          (entries_sorted (rows (g.R.RowsOf.tables_of t)).histories)),
    )

pub loop-key-preserved : goal.loop-key-preserved
loop-key-preserved g c = (
  leads_on _ _ _ _ c.loop-key.sums _ _ _ _ c.in-Some.ensures.steps c.loop-key.invariant.0
      (λ n i f. c.add_payment.ensures.sums n i.0 i.1 f),
  few_on c.loop-key.sums _ _ _ _ _ c.in-Some.ensures.steps c.loop-key.invariant.1 c.add_payment.ensures.ranges
      (λ n. no_more _ _) (λ n low high. c.loop-key.invariant.0.fits n (low, high)) c.add_payment.ensures.sums,
)

pub returns : goal.returns
returns g c n low high =
    let sum = leads_last _ _ _ _ c.loop-key.sums _ c.in-None.ensures.steps.0 c.loop-key.invariant.0 n (low, high) in
    let few = c.loop-key.invariant.1.few n low high in
    let below = c.loop-key.invariant.1.below in
    (omega arith, omega arith)
