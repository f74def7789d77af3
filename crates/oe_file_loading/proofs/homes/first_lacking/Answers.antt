use Rattle.std.proofs.Common.{◌≡◌, ℕ, ◌-◌, [], refl, sym, ap, subst, ◌∙◌, arith}
use Rattle.oe_rows.specs.declared.keys.Key.TheVariants as key
use Rattle.oe_rows.specs.declared.keys.DistrictKey.{DistrictKey}
use Rattle.oe_rows.specs.declared.rows.Row.TheVariants as row
use Rattle.oe_file_loading.specs.Homes.{districts_from, home_rows}
use Rattle.oe_file_loading.specs.Placing.{missing_of, HasRow}
use Rattle.oe_file_loading.proofs.HomeFacts.{passes, stops, none_left}
use Rattle.oe_file_loading.proofs.PlaceFacts.{same_there}
use Rattle.oe_file_loading.proofs.homes.first_lacking.Goals as goal

pub loop-number-preserved : goal.loop-number-preserved
loop-number-preserved c =
    let r = home_rows c.args.homes.now in
    let own : DistrictKey = record { warehouse = c.args.key.warehouse; district = c.in-Some.district } in
    let there : HasRow r (key.District own) =
    same_there row.District c.get.result _ c.get.ensures (key.District own) [] r refl ∙ c.if-is_none.ensures in
    sym
    (passes c.args.key c.loop-number.number r (omega (arith, c.in-Some.ensures.value))
    (subst (λ (n : ℕ). HasRow r (key.District (record { warehouse = c.args.key.warehouse; district = n })))
    c.in-Some.ensures.value there))
    ∙ c.loop-number.invariant

pub returns-then-is_none : goal.returns-then-is_none
returns-then-is_none c =
    let r = home_rows c.args.homes.now in
    let own : DistrictKey = record { warehouse = c.args.key.warehouse; district = c.in-Some.district } in
    let none = same_there row.District c.get.result _ c.get.ensures (key.District own) [] r refl ∙
    c.if-is_none.ensures in
    let stop =
    stops c.args.key c.in-Some.district r (omega (arith, c.in-Some.ensures.value)) none in
    sym stop
    ∙ ap (λ (n : ℕ). missing_of (districts_from c.args.key n (11 - n)) r) c.in-Some.ensures.value
    ∙ c.loop-number.invariant

pub returns : goal.returns
returns c =
    let r = home_rows c.args.homes.now in
    let last : c.loop-number.number ≡ 11 = omega (arith, c.loop-number-test.false) in
    sym (none_left c.args.key r)
    ∙ ap (λ (n : ℕ). missing_of (districts_from c.args.key n (11 - n)) r) (sym last)
    ∙ c.loop-number.invariant
