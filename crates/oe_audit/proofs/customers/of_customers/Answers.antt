use Rattle.std.proofs.Common.{◌≡◌, refl, sym, ◌∙◌, ap, not, option_map, List}
use Rattle.std.specs.Prelude.{find, Bool}
use Rattle.std.specs.FinMap.{entries}
use Rattle.oe_rows.specs.declared.keys.Key.TheVariants as key
use Rattle.oe_rows.specs.declared.keys.CustomerKey.{CustomerKey}
use Rattle.oe_rows.specs.declared.customers.Customer.{Customer}
use Rattle.oe_model.specs.Audits.{Verdict, verdict_of, verdict}
use Rattle.oe_model.specs.Rows.{Rows}
use Rattle.oe_store.specs.Places.{rows}
use Rattle.oe_rows_of.specs.Then.{row_then}
use Rattle.oe_audit.specs.declared.customers.CustomerCondition.{CustomerCondition}
use Rattle.oe_audit.specs.declared.customers.CustomerCondition.TheVariants as of_customers
use Rattle.oe_audit.specs.Ledgers.{customer_condition, passes_customer, passes_then}
use Rattle.oe_audit.proofs.StoodFacts.{customers_are}
use Rattle.oe_audit.proofs.AgreeFacts.{first_stood}
use Rattle.oe_audit.proofs.customers.of_customers.Goals as goal

abbrev verdict_in : CustomerCondition → Rows → List (CustomerKey × Customer) → Verdict
verdict_in n r es = verdict_of key.Customer (option_map (λ e. e.0) (find (λ e. not (passes_customer n r e.0 e.1)) es))

told_is : (n : CustomerCondition) (r : Rows) → verdict_in n r (entries r.customers) ≡ verdict (customer_condition n) r
told_is of_customers.Tenth r = refl
told_is of_customers.Twelfth r = refl

abbrev verdict_then : CustomerCondition → Rows → Bool → List (CustomerKey × Customer) → Verdict
verdict_then n r w es = verdict_of key.Customer
    (option_map (λ e. e.0) (find (λ e. not (passes_then n r e.0 (row_then w r.customers e.0 e.1))) es))

pub loop-key-init : goal.loop-key-init
loop-key-init g c =
    let t = c.args.then.now in
    let past : Rows = g.R.RowsOf.rows_of t in
    let all : verdict_then c.args.condition.now past (g.R.RowsOf.are_now t)
    (entries (rows (g.R.RowsOf.tables_of t)).customers) ≡ verdict
    (customer_condition c.args.condition.now) past =
    sym (ap (verdict_of key.Customer)
    (first_stood c.args.condition.now past (g.R.RowsOf.are_now t) past.customers
    (entries (rows (g.R.RowsOf.tables_of t)).customers)))
    ∙ ap (verdict_in c.args.condition.now past) (sym (customers_are (rows (g.R.RowsOf.tables_of t))
    past (g.R.RowsOf.are_now t) (g.met.R.RowsOf.same t) c.requires))
    ∙ told_is c.args.condition.now past
    in (
      ap (verdict_then c.args.condition.now past (g.R.RowsOf.are_now t))
          (c.into_iter-key-iterator.ensures.into_iter_gives ∙ c.customers-key-items.ensures
          ∙ ap (λ ts. entries (rows ts).customers) c.tables.ensures) ∙ all,
      c.new-ledger.ensures,
    )
