use Rattle.std.proofs.Common.{◌≡◌, ◌+◌, ◌*◌, ◌/◌, ◌%◌, ◌<◌, ◌∙◌, ap, refl, arith}
use Rattle.std.specs.Prelude.{◌&&◌}
use Rattle.std.specs.Ordering.{eq_by_cmp}
use Rattle.std.specs.FinMap.{insert, empty}
use Rattle.oe_rows.specs.Key.{district_cmp}
use Rattle.oe_rows.proofs.KeyFacts.{district_total, exact_district}
use Rattle.oe_model.specs.Population.{counts_to, district_of}
use Rattle.oe_model.proofs.MapFacts.{is_self}
use Rattle.oe_population.specs.Group.{is_any_district, district_count}
use Rattle.oe_population.proofs.FillFacts.{fill_start, fill_step, fill_free, fills_put, fills_by, free_empty}
use Rattle.oe_population.proofs.KeyTests.{same_district, same_ordinal, all_districts}
use Rattle.oe_rows.specs.declared.keys.DistrictKey.{DistrictKey}
use Rattle.oe_population.proofs.fills.districts.Goals as goal

pub loop-ordinal-init : goal.loop-ordinal-init
loop-ordinal-init c = rw c.new-table.ensures.rows
    (fill_start (λ k. district_of c.args.scale.now k.district) (λ k b. b && is_any_district k) (λ k. refl)
    (λ k. district_count k) empty)

pub put_new-requires : goal.put_new-requires
put_new-requires c =
    let key : DistrictKey =
    record { warehouse = c.loop-ordinal.ordinal / 10 + 1; district = c.loop-ordinal.ordinal % 10 + 1 } in
    let small : c.loop-ordinal.ordinal < 10 * c.args.scale.now.warehouses = omega arith in
    rw c.district_at-key.ensures
    (fill_free (λ k. district_of c.args.scale.now k.district) (λ k b. b && is_any_district k) (λ k. refl)
    (λ k. district_count k) c.loop-ordinal.ordinal _ _ (λ k. eq_by_cmp district_cmp k key)
    (λ k. same_ordinal c.loop-ordinal.ordinal k ∙ same_district key k) c.loop-ordinal.invariant _ small
    (free_empty district_cmp _) key (is_self district_total exact_district key))

pub loop-ordinal-preserved : goal.loop-ordinal-preserved
loop-ordinal-preserved c =
    let key : DistrictKey =
    record { warehouse = c.loop-ordinal.ordinal / 10 + 1; district = c.loop-ordinal.ordinal % 10 + 1 } in
    let put = rw c.district_at-key.ensures at (c.in_ok-put_new.ensures.rows ∙ ap (insert _ _) c.district_row.ensures) in
    fill_step (λ k. district_of c.args.scale.now k.district) (λ k b. b && is_any_district k) (λ k. refl)
    (λ k. district_count k) c.loop-ordinal.ordinal _ _ (λ k. eq_by_cmp district_cmp k key)
    (λ k. same_ordinal c.loop-ordinal.ordinal k ∙ same_district key k) c.loop-ordinal.invariant _
    (fills_put (λ k. district_of c.args.scale.now k.district) district_total exact_district _ _ key put)

pub returns : goal.returns
returns c =
    let all : c.loop-ordinal.ordinal ≡ 10 * c.args.scale.now.warehouses = omega arith in
    fills_by (λ k. district_of c.args.scale.now k.district)
    (λ k. counts_to (10 * c.args.scale.now.warehouses) (district_count k) && is_any_district k) _ _ _
    (λ k. all_districts c.args.scale.now.warehouses k) (rw all at c.loop-ordinal.invariant)
