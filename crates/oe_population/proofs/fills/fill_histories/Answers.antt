use Rattle.std.proofs.Common.{ℕ, ◌+◌, ◌<◌, ◌≤◌, ◌∙◌, ap, sym, arith, rules}
use Rattle.std.specs.Prelude.{◌&&◌}
use Rattle.std.specs.Ordering.{eq_by_cmp}
use Rattle.oe_rows.specs.Key.{history_cmp}
use Rattle.std.specs.FinMap.{insert}
use Rattle.oe_rows.specs.declared.keys.DistrictKey.{DistrictKey}
use Rattle.oe_rows.specs.declared.keys.HistoryKey.{HistoryKey}
use Rattle.oe_rows.proofs.KeyFacts.{history_total, exact_history}
use Rattle.oe_table.specs.Table.{rows_of}
use Rattle.oe_model.specs.Keys.{district_of_customer, customer_in}
use Rattle.oe_model.specs.Population.{history_of, history_key, counted_customer}
use Rattle.oe_model.proofs.MapFacts.{is_self}
use Rattle.oe_population.specs.Group.{is_district}
use Rattle.oe_population.proofs.FillFacts.{and_false, fill_step, fill_free, fills_put}
use Rattle.oe_population.proofs.HistoryTests.{same_history, counted_own}
use Rattle.oe_population.proofs.fills.fill_histories.Goals as goal

pub put_new-requires : goal.put_new-requires
put_new-requires c =
    let s = c.args.scale.now in
    let g : DistrictKey = c.args.district in
    let i : ℕ = c.loop-before.before in
    let key : HistoryKey = history_key s (customer_in g (i + 1)) in
    let small : i < s.customers = omega arith in
    let warehouse : 1 ≤ g.warehouse = search rules in
    let low : 1 ≤ g.district = search rules in
    let high : g.district ≤ 10 = search rules in
    rw (c.history_key_of-key.ensures, c.number.ensures)
    (fill_free (λ k. history_of (counted_customer s k.number))
    (λ k b. (is_district g (district_of_customer (counted_customer s k.number)) && b) && eq_by_cmp history_cmp k
    (history_key s (counted_customer s k.number))) (λ k. ap
    (λ b. b && eq_by_cmp history_cmp k (history_key s (counted_customer s k.number)))
    (and_false (is_district g (district_of_customer (counted_customer s k.number))))) (λ
    k. (counted_customer s k.number).customer) i _ _ (λ k. eq_by_cmp history_cmp k key) (same_history s g i
    warehouse low high small) c.loop-before.invariant s.customers small c.requires key (is_self history_total
    exact_history key))

pub loop-before-preserved : goal.loop-before-preserved
loop-before-preserved c =
    let s = c.args.scale.now in
    let g : DistrictKey = c.args.district in
    let i : ℕ = c.loop-before.before in
    let key : HistoryKey = history_key s (customer_in g (i + 1)) in
    let small : i < s.customers = omega arith in
    let warehouse : 1 ≤ g.warehouse = search rules in
    let low : 1 ≤ g.district = search rules in
    let high : g.district ≤ 10 = search rules in
    let put = rw (c.history_key_of-key.ensures, c.number.ensures) at
    (c.in_ok-put_new.ensures.rows ∙ ap (insert _ _) c.history_row.ensures) in
    let own = put ∙ ap (λ x. insert (rows_of history_cmp c.loop-before.table) key (history_of x))
    (sym (counted_own s g i warehouse low high small)) in
    fill_step (λ k. history_of (counted_customer s k.number))
    (λ k b. (is_district g (district_of_customer (counted_customer s k.number)) && b) && eq_by_cmp history_cmp k
    (history_key s (counted_customer s k.number))) (λ k. ap
    (λ b. b && eq_by_cmp history_cmp k (history_key s (counted_customer s k.number)))
    (and_false (is_district g (district_of_customer (counted_customer s k.number))))) (λ
    k. (counted_customer s k.number).customer) i _ _ (λ k. eq_by_cmp history_cmp k key) (same_history s g i
    warehouse low high small) c.loop-before.invariant _ (fills_put (λ k. history_of (counted_customer s k.number))
    history_total exact_history _ _ key own)
